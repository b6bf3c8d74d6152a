-- The first fault of a section is that of what is left of it.
use Rattle.std.specs.Prelude.{◌&&◌, is_ok}
use Rattle.std.proofs.Common.{true, ◌≡◌, ℕ, List, [], ◌∷◌, Option, Some, None, Result, Ok, Err, refl, sym, ap, ◌∙◌}
use Rattle.sf_bytes.specs.Cursor.{Cursor}
use Rattle.sf_model.specs.declared.machine.Arch.{Arch}
use Rattle.eh_records.specs.declared.fault.RecordFault.{RecordFault}
use Rattle.eh_records.specs.RawRecord.{RawRecordView, raw_record_at}
use Rattle.eh_records.specs.Section.{EntryView, SplitRecord, are_read, records_from, records_of, entry_here, entry_at, entry_cie_place, with_place, entries_in, entries_of, entry_before, entries_before, fault_if_any}
use Rattle.eh_records.specs.Step.{◌>>=◌}
use Rattle.eh_records.proofs.RawRecords.{through, ok_same}
use Rattle.eh_records.proofs.FirstRecord.{starts_with_record, stops, faults}

nil : (arch : Arch) (section cies : List ℕ) → entries_in arch section cies [] ≡ Ok []
unfolding entries_in
nil arch section cies = refl

err : (arch : Arch) (section cies : List ℕ) (e : RecordFault) (others : List SplitRecord) → entries_in arch section cies (Err e ∷ others) ≡ Err e
unfolding entries_in
err arch section cies e others = refl

cons : (arch : Arch) (section cies : List ℕ) (p : RawRecordView) (others : List SplitRecord)
    → entries_in arch section cies (Ok p ∷ others) ≡ (entry_at arch section cies p >>= λ e. entries_in arch section (with_place cies p) others >>= λ es. Ok (e ∷ es))
unfolding entries_in
cons arch section cies p others = refl

same_fault : (e : EntryView) (r : Result (List EntryView) RecordFault) → fault_if_any (r >>= λ es. Ok (e ∷ es)) ≡ fault_if_any r
same_fault e (Ok es) = refl
same_fault e (Err x) = refl

-- the fault of what is left, from a cursor on
abbrev pub fault_from : Arch → List ℕ → List ℕ → Cursor → Option RecordFault
fault_from arch section cies at = fault_if_any (entries_in arch section cies (records_from at))

pub goes_on : (arch : Arch) (section cies : List ℕ) (at : Cursor) (p : RawRecordView) (after : Cursor) (e : EntryView) → raw_record_at at ≡ Ok (Some (p, after)) → entry_at arch section cies p ≡ Ok e
    → fault_from arch section cies at ≡ fault_from arch section (with_place cies p) after
goes_on arch section cies at p after e h he =
    let rest = entries_in arch section (with_place cies p) (records_from after) in
    ap (λ (xs : List SplitRecord). fault_if_any (entries_in arch section cies xs)) (starts_with_record at p after h)
    ∙ ap fault_if_any (cons arch section cies p (records_from after))
    ∙ ap (λ (r : Result EntryView RecordFault). fault_if_any (r >>= λ x. rest >>= λ es. Ok (x ∷ es))) he
    ∙ same_fault e rest

pub refused : (arch : Arch) (section cies : List ℕ) (at : Cursor) (p : RawRecordView) (after : Cursor) (x : RecordFault) → raw_record_at at ≡ Ok (Some (p, after)) → entry_at arch section cies p ≡ Err x
    → fault_from arch section cies at ≡ Some x
refused arch section cies at p after x h he =
    let rest = entries_in arch section (with_place cies p) (records_from after) in
    ap (λ (xs : List SplitRecord). fault_if_any (entries_in arch section cies xs)) (starts_with_record at p after h)
    ∙ ap fault_if_any (cons arch section cies p (records_from after))
    ∙ ap (λ (r : Result EntryView RecordFault). fault_if_any (r >>= λ y. rest >>= λ es. Ok (y ∷ es))) he

pub unsplit : (arch : Arch) (section cies : List ℕ) (at : Cursor) (x : RecordFault) → raw_record_at at ≡ Err x → fault_from arch section cies at ≡ Some x
unsplit arch section cies at x h = ap (λ (xs : List SplitRecord). fault_if_any (entries_in arch section cies xs)) (faults at x h) ∙ ap fault_if_any (err arch section cies x [])

pub ended : (arch : Arch) (section cies : List ℕ) (at : Cursor) → raw_record_at at ≡ Ok None → fault_from arch section cies at ≡ None
ended arch section cies at h = ap (λ (xs : List SplitRecord). fault_if_any (entries_in arch section cies xs)) (stops at h) ∙ ap fault_if_any (nil arch section cies)

pub begins : (arch : Arch) (section : List ℕ) → fault_from arch section [] (record { place = 0; left = section }) ≡ fault_if_any (entries_of arch section)
unfolding entries_of
begins arch section = refl

-- the entries of a section without a fault are all that can be read
pub here : (arch : Arch) (section cies : List ℕ) (p : RawRecordView) (e : EntryView) → entry_at arch section cies p ≡ Ok e → entry_here arch section p ≡ Ok e
unfolding entry_at
here arch section cies p e h = (through (entry_cie_place cies p) _ e h).rest

all : (arch : Arch) (section cies : List ℕ) (xs : List SplitRecord) (es : List EntryView) → entries_in arch section cies xs ≡ Ok es → entries_before arch section xs ≡ es
unfolding entries_in entries_before
all arch section cies [] es h = ok_same [] es h
all arch section cies (Err x ∷ others) es h = absurd cc
all arch section cies (Ok p ∷ others) es h =
    let first = through (entry_at arch section cies p) _ es h in
    let rest = through (entries_in arch section (with_place cies p) others) _ es first.rest in
    let others_are : entries_before arch section others ≡ rest.first = all arch section (with_place cies p) others rest.first rest.read in
    ap (λ (r : Result EntryView RecordFault). entry_before r (entries_before arch section others)) (here arch section cies p first.first first.read)
    ∙ ap (λ (ys : List EntryView). first.first ∷ ys) others_are
    ∙ ok_same (first.first ∷ rest.first) es rest.rest

ok_all : (arch : Arch) (section cies : List ℕ) (xs : List SplitRecord) (r : Result (List EntryView) RecordFault) → entries_in arch section cies xs ≡ r → fault_if_any r ≡ None → r ≡ Ok (entries_before arch section xs)
ok_all arch section cies xs (Ok es) h none = ap (λ (ys : List EntryView). Ok ys) (sym (all arch section cies xs es h))
ok_all arch section cies xs (Err x) h none = absurd cc

pub whole : (arch : Arch) (section : List ℕ) → fault_if_any (entries_of arch section) ≡ None → entries_of arch section ≡ Ok (entries_before arch section (records_of section))
unfolding entries_of
whole arch section none = ok_all arch section [] (records_of section) (entries_in arch section [] (records_of section)) refl none

pub fault_is : (r : Result (List EntryView) RecordFault) (x : RecordFault) → fault_if_any r ≡ Some x → r ≡ Err x
fault_is (Ok es) x h = absurd cc
fault_is (Err y) x h = cc

pub is_whole : (arch : Arch) (section : List ℕ) → fault_if_any (entries_of arch section) ≡ None → is_ok (entries_of arch section) ≡ true
is_whole arch section none = ap is_ok (whole arch section none)

none_if_ok : (r : Result (List EntryView) RecordFault) → is_ok r ≡ true → fault_if_any r ≡ None
none_if_ok (Ok es) h = refl
none_if_ok (Err x) h = absurd cc

-- a section that was read once can be read again
pub read_again : (arch : Arch) (section : List ℕ) → is_ok (entries_of arch section) ≡ true → entries_of arch section ≡ Ok (entries_before arch section (records_of section))
read_again arch section h = whole arch section (none_if_ok (entries_of arch section) h)

reads_all : (arch : Arch) (section cies : List ℕ) (xs : List SplitRecord) (es : List EntryView) → entries_in arch section cies xs ≡ Ok es → are_read arch section xs ≡ true
unfolding entries_in are_read
reads_all arch section cies [] es h = refl
reads_all arch section cies (Err x ∷ others) es h = absurd cc
reads_all arch section cies (Ok p ∷ others) es h =
    let first = through (entry_at arch section cies p) _ es h in
    let rest = through (entries_in arch section (with_place cies p) others) _ es first.rest in
    ap (λ (r : Result EntryView RecordFault). is_ok r && are_read arch section others) (here arch section cies p first.first first.read)
    ∙ reads_all arch section (with_place cies p) others rest.first rest.read

-- each record of a section that has entries is read
pub each_read : (arch : Arch) (section : List ℕ) → is_ok (entries_of arch section) ≡ true → are_read arch section (records_of section) ≡ true
unfolding entries_of
each_read arch section h = reads_all arch section [] (records_of section) _ (read_again arch section h)
