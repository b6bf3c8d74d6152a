-- The first entry from a cursor on, and those after it.
use Rattle.std.proofs.Common.{◌≡◌, ℕ, true, false, List, [], ◌∷◌, Option, Some, None, Result, Ok, Err, refl, sym, ap, ◌∙◌}
use Rattle.std.specs.Prelude.{◌&&◌, ◌==◌, is_ok, MatchOption}
use Rattle.sf_bytes.specs.Cursor.{Cursor}
use Rattle.sf_model.specs.declared.machine.Arch.{Arch}
use Rattle.eh_records.specs.declared.fault.RecordFault.{RecordFault}
use Rattle.eh_records.specs.Cie.{FullCieView, cie_of}
use Rattle.eh_records.specs.declared.fde.Fde.{Fde}
use Rattle.eh_records.specs.Fde.{FdeView, fde_of, fde_view}
use Rattle.eh_records.specs.Iter.{GivesRead}
use Rattle.eh_records.specs.RawRecord.{RawRecordView, raw_record_at}
use Rattle.eh_records.specs.Section.{EntryView, Common, Frame, SplitRecord, are_read, records_from, entry_here, entry_before, entries_before, frames}
use Rattle.eh_records.specs.Step.{◌>>=◌}
use Rattle.eh_records.proofs.FirstRecord.{starts_with_record, stops, faults}

nil : (arch : Arch) (section : List ℕ) → entries_before arch section [] ≡ []
unfolding entries_before
nil arch section = refl

cons : (arch : Arch) (section : List ℕ) (p : RawRecordView) (others : List SplitRecord) → entries_before arch section (Ok p ∷ others) ≡ entry_before (entry_here arch section p) (entries_before arch section others)
unfolding entries_before
cons arch section p others = refl

pub none_at_end : (arch : Arch) (section : List ℕ) (at : Cursor) → raw_record_at at ≡ Ok None → entries_before arch section (records_from at) ≡ []
none_at_end arch section at h = ap (entries_before arch section) (stops at h) ∙ nil arch section

pub begins : (arch : Arch) (section : List ℕ) (at : Cursor) (p : RawRecordView) (after : Cursor) (r : Result EntryView RecordFault) → raw_record_at at ≡ Ok (Some (p, after)) → entry_here arch section p ≡ r
    → entries_before arch section (records_from at) ≡ entry_before r (entries_before arch section (records_from after))
begins arch section at p after r h e =
    ap (entries_before arch section) (starts_with_record at p after h) ∙ cons arch section p (records_from after)
    ∙ ap (λ (x : Result EntryView RecordFault). entry_before x (entries_before arch section (records_from after))) e

reads_cons : (arch : Arch) (section : List ℕ) (p : RawRecordView) (others : List SplitRecord) → are_read arch section (Ok p ∷ others) ≡ (is_ok (entry_here arch section p) && are_read arch section others)
unfolding are_read
reads_cons arch section p others = refl

reads_fault : (arch : Arch) (section : List ℕ) (e : RecordFault) (others : List SplitRecord) → are_read arch section (Err e ∷ others) ≡ false
unfolding are_read
reads_fault arch section e others = refl

reads_here : (arch : Arch) (section : List ℕ) (at : Cursor) (p : RawRecordView) (after : Cursor) (r : Result EntryView RecordFault) → raw_record_at at ≡ Ok (Some (p, after)) → entry_here arch section p ≡ r
    → are_read arch section (records_from at) ≡ (is_ok r && are_read arch section (records_from after))
reads_here arch section at p after r h e =
    ap (are_read arch section) (starts_with_record at p after h) ∙ reads_cons arch section p (records_from after)
    ∙ ap (λ (x : Result EntryView RecordFault). is_ok x && are_read arch section (records_from after)) e

-- if each record is read, the next one is split off and read, and so are those after it
pub is_split : (arch : Arch) (section : List ℕ) (at : Cursor) (e : RecordFault) → are_read arch section (records_from at) ≡ true → raw_record_at at ≡ Err e → ⊥
is_split arch section at e read h =
    let none : are_read arch section (records_from at) ≡ false = ap (are_read arch section) (faults at e h) ∙ reads_fault arch section e [] in
    cc

pub is_read : (arch : Arch) (section : List ℕ) (at : Cursor) (p : RawRecordView) (after : Cursor) (e : RecordFault) → are_read arch section (records_from at) ≡ true → raw_record_at at ≡ Ok (Some (p, after)) → entry_here arch section p ≡ Err e → ⊥
is_read arch section at p after e read h f =
    let none : are_read arch section (records_from at) ≡ false = reads_here arch section at p after (Err e) h f in
    cc

pub read_behind : (arch : Arch) (section : List ℕ) (at : Cursor) (p : RawRecordView) (after : Cursor) (e : EntryView) → are_read arch section (records_from at) ≡ true → raw_record_at at ≡ Ok (Some (p, after)) → entry_here arch section p ≡ Ok e
    → are_read arch section (records_from after) ≡ true
read_behind arch section at p after e read h f = sym (reads_here arch section at p after (Ok e) h f) ∙ read

-- ---- the next frame description entry
here_common : (arch : Arch) (section : List ℕ) (p : RawRecordView) → (p.id == 0) ≡ true → entry_here arch section p ≡ (cie_of arch p >>= λ c. Ok (Common c))
unfolding entry_here
here_common arch section p h = rw h refl

here_frame : (arch : Arch) (section : List ℕ) (p : RawRecordView) → (p.id == 0) ≡ false → entry_here arch section p ≡ (fde_of arch section p >>= λ f. Ok (Frame f))
unfolding entry_here
here_frame arch section p h = rw h refl

common_passed : (arch : Arch) (section : List ℕ) (at : Cursor) (p : RawRecordView) (after : Cursor) (r : Result FullCieView RecordFault) → are_read arch section (records_from at) ≡ true → raw_record_at at ≡ Ok (Some (p, after))
    → entry_here arch section p ≡ (r >>= λ c. Ok (Common c)) → (frames (entries_before arch section (records_from at)) ≡ frames (entries_before arch section (records_from after))) × (are_read arch section (records_from after) ≡ true)
common_passed arch section at p after (Ok c) read h e = (ap frames (begins arch section at p after (Ok (Common c)) h e), read_behind arch section at p after (Common c) read h e)
common_passed arch section at p after (Err x) read h e = absurd (is_read arch section at p after x read h e)

-- if each record is read, a common information entry is passed
pub passes_common : (arch : Arch) (section : List ℕ) (at : Cursor) (p : RawRecordView) (after : Cursor) → are_read arch section (records_from at) ≡ true → raw_record_at at ≡ Ok (Some (p, after)) → (p.id == 0) ≡ true
    → (frames (entries_before arch section (records_from at)) ≡ frames (entries_before arch section (records_from after))) × (are_read arch section (records_from after) ≡ true)
passes_common arch section at p after read h common = common_passed arch section at p after (cie_of arch p) read h (here_common arch section p common)

frame_given : (arch : Arch) (section : List ℕ) (at : Cursor) (p : RawRecordView) (after : Cursor) (r : Result FdeView RecordFault) → are_read arch section (records_from at) ≡ true → raw_record_at at ≡ Ok (Some (p, after))
    → entry_here arch section p ≡ (r >>= λ f. Ok (Frame f)) → is_ok r ≡ true
frame_given arch section at p after (Ok f) read h e = refl
frame_given arch section at p after (Err x) read h e = absurd (is_read arch section at p after x read h e)

-- and a frame description entry is read
pub frame_read : (arch : Arch) (section : List ℕ) (at : Cursor) (p : RawRecordView) (after : Cursor) → are_read arch section (records_from at) ≡ true → raw_record_at at ≡ Ok (Some (p, after)) → (p.id == 0) ≡ false
    → is_ok (fde_of arch section p) ≡ true
frame_read arch section at p after read h frame = frame_given arch section at p after (fde_of arch section p) read h (here_frame arch section p frame)

pub passes_frame : (arch : Arch) (section : List ℕ) (at : Cursor) (p : RawRecordView) (after : Cursor) (f : FdeView) → are_read arch section (records_from at) ≡ true → raw_record_at at ≡ Ok (Some (p, after)) → (p.id == 0) ≡ false
    → fde_of arch section p ≡ Ok f → (frames (entries_before arch section (records_from at)) ≡ f ∷ frames (entries_before arch section (records_from after))) × (are_read arch section (records_from after) ≡ true)
passes_frame arch section at p after f read h frame is =
    let e : entry_here arch section p ≡ Ok (Frame f) = here_frame arch section p frame ∙ ap (λ (r : Result FdeView RecordFault). r >>= λ g. Ok (Frame g)) is in
    (ap frames (begins arch section at p after (Ok (Frame f)) h e), read_behind arch section at p after (Frame f) read h e)

left_after : (arch : Arch) (section : List ℕ) (at : Cursor) (p : RawRecordView) (after : Cursor) (r : Result FdeView RecordFault) → are_read arch section (records_from at) ≡ true → raw_record_at at ≡ Ok (Some (p, after))
    → (p.id == 0) ≡ false → fde_of arch section p ≡ r → is_ok r ≡ true → are_read arch section (records_from after) ≡ true
left_after arch section at p after (Ok f) read h frame is ok = (passes_frame arch section at p after f read h frame is).1
left_after arch section at p after (Err x) read h frame is ok = absurd (cc)

-- and the records after it are read
pub behind_frame : (arch : Arch) (section : List ℕ) (at : Cursor) (p : RawRecordView) (after : Cursor) → are_read arch section (records_from at) ≡ true → raw_record_at at ≡ Ok (Some (p, after)) → (p.id == 0) ≡ false
    → are_read arch section (records_from after) ≡ true
behind_frame arch section at p after read h frame = left_after arch section at p after (fde_of arch section p) read h frame refl (frame_read arch section at p after read h frame)

split_given : (arch : Arch) (section : List ℕ) (at : Cursor) (r : Result (Option (RawRecordView × Cursor)) RecordFault) → are_read arch section (records_from at) ≡ true → raw_record_at at ≡ r → is_ok r ≡ true
split_given arch section at (Ok x) read h = refl
split_given arch section at (Err e) read h = absurd (is_split arch section at e read h)

-- and each record is split off
pub next_is_split : (arch : Arch) (section : List ℕ) (at : Cursor) → are_read arch section (records_from at) ≡ true → is_ok (raw_record_at at) ≡ true
next_is_split arch section at read = split_given arch section at (raw_record_at at) read refl

-- the entry of the record that was split off is the first one
pub yields_frame : (read : Result FdeView RecordFault) (before after : List FdeView) (result : Option Fde) → GivesRead result read
    → ((f : FdeView) → read ≡ Ok f → before ≡ f ∷ after) → MatchOption result ((before ≡ []) × (after ≡ [])) (λ (f : Fde). before ≡ fde_view f ∷ after)
yields_frame read before after None is gives = absurd is
yields_frame read before after (Some f) is gives = gives (fde_view f) is
