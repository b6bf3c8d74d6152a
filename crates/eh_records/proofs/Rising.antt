-- The pointer fields of a section's entries are in rising order, with the numbers that are there.
use Rattle.std.specs.Prelude.{is_ok}
use Rattle.std.proofs.Common.{◌≡◌, ℕ, ◌+◌, ◌-◌, ◌≤◌, true, List, [], ◌∷◌, ◌++◌, append-nil, length, take, drop, Ok, refl, sym, ap, subst, ◌∙◌, arith, length-drop}
use Rattle.std.proofs.lemmas.List.{length-take-le}
use Rattle.std.proofs.lemmas.List.Elements.{All-nil, All-cons}
use Rattle.byteorder.specs.Endian.{little_number}
use Rattle.sf_bytes.specs.Cursor.{Cursor, past}
use Rattle.sf_bytes.proofs.Fields.{past-passes}
use Rattle.sf_bytes.proofs.Inside.{end_of}
use Rattle.sf_model.specs.declared.machine.Arch.{Arch}
use Rattle.eh_records.specs.RawRecord.{RawRecordView}
use Rattle.eh_records.specs.Records.{Stands, AreRecords, start}
use Rattle.eh_records.specs.Raw.{HoldsRaw, HoldRaw, StandApart}
use Rattle.eh_records.specs.Section.{EntryView, records_of, with_place, entry_fields, pointer_fields, entries_of, entries_before}
use Rattle.eh_records.specs.Step.{PointerField}
use Rattle.eh_records.proofs.FieldsInOrder.{Between, LieIn, AreRawIn, lower, not_above, both_between, both_raw, lie_wider, none_lies, stand_apart}
use Rattle.eh_records.proofs.Entries.{given_entries}
use Rattle.eh_records.proofs.Faults.{here, read_again}
use Rattle.eh_records.proofs.EntriesAsRead.{AreGiven}
use Rattle.eh_records.proofs.FieldsInRecord.{entry_lies}
use Rattle.eh_records.proofs.Parts.{IsPart, part-part, rest-part, run-part}

-- a record's fields end where the next record begins
body_lies : (at : Cursor) (p : RawRecordView) (after : Cursor) (fs : List PointerField) → Stands at p after → LieIn p.body fs → Between at.place after.place fs
body_lies at p after fs s h =
    let rest : length (drop 4 at.left) ≡ length at.left - 4 = length-drop 4 at.left in
    let some : s.len ≤ length (drop 4 at.left) = omega (arith, s.within, rest) in
    let taken : length (take s.len (drop 4 at.left)) ≡ s.len = length-take-le s.len (drop 4 at.left) some in
    let left : length (drop 4 (take s.len (drop 4 at.left))) ≡ s.len - 4 = length-drop 4 (take s.len (drop 4 at.left)) ∙ ap (λ (n : ℕ). n - 4) taken in
    let from : p.body.place ≡ at.place + 8 = ap (λ (q : RawRecordView). q.body.place) s.raw_record_view in
    let body : length p.body.left ≡ s.len - 4 = ap (λ (q : RawRecordView). length q.body.left) s.raw_record_view ∙ left in
    let behind : after.place ≡ at.place + (4 + s.len) = ap (λ (c : Cursor). c.place) s.behind in
    let same : end_of p.body ≡ after.place = omega (arith, from, body, behind, s.enough) in
    lower at.place p.body.place after.place fs (omega (arith, from)) (subst (λ (n : ℕ). Between p.body.place n fs) same h.between)

after_part : (at : Cursor) (p : RawRecordView) (after : Cursor) → Stands at p after → IsPart after at
after_part at p after s =
    subst (λ (c : Cursor). IsPart c at) (sym s.behind) (rest-part (take (4 + s.len) at.left) at (past (4 + s.len) at) (past-passes (4 + s.len) at s.within))

-- the bytes after the length, and those after the word after the length
abbrev behind_length : ℕ → Cursor → Cursor
behind_length len at = record { place = at.place + 4; left = take len (drop 4 at.left) }

body_is : (at : Cursor) (p : RawRecordView) (after : Cursor) (s : Stands at p after) → past 4 (behind_length s.len at) ≡ p.body
body_is at p after s =
    let place : at.place + 4 + 4 ≡ at.place + 8 = omega arith in
    let body : p.body ≡ record { place = at.place + 8; left = drop 4 (take s.len (drop 4 at.left)) } = ap (λ (q : RawRecordView). q.body) s.raw_record_view in
    rw (body, place) refl

body_part : (at : Cursor) (p : RawRecordView) (after : Cursor) → Stands at p after → IsPart p.body at
body_part at p after s =
    let inner = behind_length s.len at in
    let rest : length (drop 4 at.left) ≡ length at.left - 4 = length-drop 4 at.left in
    let some : s.len ≤ length (drop 4 at.left) = omega (arith, s.within, rest) in
    let taken : length (take s.len (drop 4 at.left)) ≡ s.len = length-take-le s.len (drop 4 at.left) some in
    let one = rest-part (take 4 at.left) at (past 4 at) (past-passes 4 at (omega (arith, s.within))) in
    let two = run-part (take s.len (drop 4 at.left)) inner (past 4 at) (past s.len (past 4 at)) (past-passes s.len (past 4 at) some) refl refl in
    let three = rest-part (take 4 inner.left) inner (past 4 inner) (past-passes 4 inner (omega (arith, s.enough, taken))) in
    subst (λ (c : Cursor). IsPart c at) (body_is at p after s) (part-part (past 4 inner) inner at three (part-part inner (past 4 at) at two one))

after_inside : (at : Cursor) (p : RawRecordView) (after : Cursor) → Stands at p after → end_of after ≡ end_of at
after_inside at p after s =
    let behind : after.place ≡ at.place + (4 + s.len) = ap (λ (c : Cursor). c.place) s.behind in
    let left : length after.left ≡ length at.left - (4 + s.len) = ap (λ (c : Cursor). length c.left) s.behind ∙ length-drop (4 + s.len) at.left in
    omega (arith, behind, left, s.within)

-- the fields of a record and of those after it
then_lie : (at : Cursor) (p : RawRecordView) (after : Cursor) (fs gs : List PointerField) → Stands at p after → LieIn p.body fs → LieIn after gs → LieIn at (fs ++ gs)
then_lie at p after fs gs s h k = record {
  between = both_between at.place after.place (end_of at) fs gs (body_lies at p after fs s h) (subst (λ (n : ℕ). Between after.place n gs) (after_inside at p after s) k.between);
  raw = both_raw at fs gs (lie_wider p.body at fs (body_part at p after s) h).raw (lie_wider after at gs (after_part at p after s) k).raw;
}

all_lie : (arch : Arch) (section cies : List ℕ) (ps : List RawRecordView) (es : List EntryView) (at : Cursor) → AreRecords ps at → AreGiven arch section cies ps es → LieIn at (pointer_fields es)
all_lie arch section cies [] [] at raw read = none_lies at
all_lie arch section cies [] (e ∷ es) at raw read = absurd read
all_lie arch section cies (p ∷ ps) [] at raw read = absurd read
all_lie arch section cies (p ∷ ps) (e ∷ es) at (after, stands, rest) read =
    then_lie at p after (entry_fields e) (pointer_fields es) stands
    (entry_lies arch section p e (here arch section cies p e read.0))
    (all_lie arch section (with_place cies p) ps es after rest read.1)

fields_lie : (arch : Arch) (section : List ℕ) (es : List EntryView) → entries_of arch section ≡ Ok es → LieIn (start section) (pointer_fields es)
fields_lie arch section es whole =
    let e = given_entries arch section es whole in
    all_lie arch section [] e.records es (start section) e.raw e.given

-- once no entry is left, what was listed are all fields, so they lie in the section
pub listed_lie : (arch : Arch) (section : List ℕ) (fs : List PointerField) (left : List EntryView) → is_ok (entries_of arch section) ≡ true
    → fs ++ pointer_fields left ≡ pointer_fields (entries_before arch section (records_of section)) → left ≡ [] → LieIn (start section) fs
listed_lie arch section fs left whole h none =
    let all : fs ≡ pointer_fields (entries_before arch section (records_of section)) = sym (append-nil fs) ∙ ap (λ (es : List EntryView). fs ++ pointer_fields es) (sym none) ∙ h in
    rw all (fields_lie arch section (entries_before arch section (records_of section)) (read_again arch section whole))

-- ---- the fields of a whole section
raw_from : (section : List ℕ) (low : ℕ) (fs : List PointerField) → Between low (end_of (start section)) fs → AreRawIn (start section) fs → HoldRaw section fs
raw_from section low [] h raw = All-nil (HoldsRaw section)
raw_from section low (f ∷ fs) h raw =
    let to : f.place + f.width ≤ end_of (start section) = not_above (f.place + f.width) (end_of (start section)) fs h.1 in
    let place : f.place - 0 ≡ f.place = omega arith in
    let number : f.raw ≡ little_number f.width (drop f.place section) = raw.0 ∙ ap (λ (n : ℕ). little_number f.width (drop n section)) place in
    All-cons (HoldsRaw section) f fs (record { within = omega (arith, to); raw = number }) (raw_from section (f.place + f.width) fs h.1 raw.1)

pub lie_raw : (section : List ℕ) (fs : List PointerField) → LieIn (start section) fs → HoldRaw section fs
lie_raw section fs h = raw_from section 0 fs h.between h.raw

pub fields_raw : (arch : Arch) (section : List ℕ) (es : List EntryView) → entries_of arch section ≡ Ok es → HoldRaw section (pointer_fields es)
fields_raw arch section es whole = lie_raw section (pointer_fields es) (fields_lie arch section es whole)

pub fields_apart : (arch : Arch) (section : List ℕ) (es : List EntryView) → entries_of arch section ≡ Ok es → StandApart (pointer_fields es)
fields_apart arch section es whole =
    let h = fields_lie arch section es whole in
    stand_apart 0 (end_of (start section)) (pointer_fields es) h.between
