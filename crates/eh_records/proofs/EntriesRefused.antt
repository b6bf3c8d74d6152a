-- A section whose first fault is that of a field that isn't there: reading it returns that fault.
use Rattle.std.specs.Prelude.{◌≢◌, ◌==◌, ◌||◌, nat_lt, is_some}
use Rattle.std.specs.List.{All}
use Rattle.std.proofs.Common.{◌≡◌, ◌⊎◌, ℕ, ℤ, ◌+◌, ◌-◌, ◌<◌, ◌≤◌, Bool, true, false, cond, List, [], ◌∷◌, length, map, take, drop, Option, Some, None, Result, Ok, Err, refl, sym, ap, ◌∙◌, arith, inl, inr, eq-eqb, ne_eqb, if◌then◌else◌, length-drop}
use Rattle.std.proofs.lemmas.Bool.{eqb-true, ltb-false}
use Rattle.std.proofs.lemmas.List.Elements.{All-nil, All-contains}
use Rattle.byteorder.specs.Endian.{little_number}
use Rattle.sf_bytes.specs.Cursor.{Cursor, past}
use Rattle.sf_bytes.specs.Standing.{Stands as FieldStands, Number}
use Rattle.sf_model.specs.declared.machine.Arch.{Arch}
use Rattle.eh_records.specs.declared.fault.RecordFault.{RecordFault}
use Rattle.eh_records.specs.declared.fault.RecordFault.TheVariants as faults
use Rattle.eh_records.specs.Augmentation.{Form, AugmentationView, plain_augmentation, letters_at, data_at, letter_at, augmentation_by}
use Rattle.eh_records.specs.Cie.{FullCieView, version_at, return_address_register_at, passed_data, augmentation_at, cie_of}
use Rattle.eh_records.specs.RawRecord.{RawRecordView, raw_record_at, record_of_length, whole, of_length, named_place}
use Rattle.eh_records.specs.Records.{with_cie, start}
use Rattle.eh_records.specs.Fde.{FdeView, cie_at_place, lsda_in, lsda_at, entry_of, fde_of}
use Rattle.eh_records.specs.Fields.{with_letter_value, StringStands}
use Rattle.eh_records.specs.Refused.{Lacks, RecordFails, LetterFails, LettersFail, AugmentationFails, CieFails, no_version, other_version, no_string, no_code_alignment_factor, no_data_alignment_factor, no_return_address_register, no_data, DataFails, FdeFails, FailsFrom, AreReadAs}
use Rattle.eh_records.proofs.FailParts.{ReturnAddressRegisterFails, NamesNone, EntryFails}
use Rattle.eh_records.specs.Section.{SplitRecord, EntryView, Common, Frame, records_from, entry_here, entry_at, place_among, entry_cie_place, with_place, entries_in, entries_of}
use Rattle.eh_records.specs.Step.{Step, ◌>>=◌, PointerField, number_field, uleb_field, sleb_field, pointer_field}
use Rattle.eh_records.proofs.FirstRecord.{starts_with_record, faults as split_faults}
use Rattle.eh_records.proofs.EntriesStand.{place_of, IsAgain, IsAt, at_start, at_after, is_among, among, found, named_is, named_back, entry_given, places_by, known_by}
use Rattle.eh_records.proofs.Entries.{entries_read, read_entries}
use Rattle.eh_records.proofs.EntriesFail.{is_refused}
use Rattle.eh_records.proofs.FieldsFail.{failed, went}
use Rattle.eh_records.proofs.FieldsRefused.{stopped, number_refused, part_refused, pointer_refused, uleb_refused, sleb_refused, data_refused, string_refused, form_refused, personality_refused}
use Rattle.eh_records.proofs.FieldsStand.{number_read, uleb_read, sleb_read, pointer_read, data_read, letter_value_read, string_read, version_read, register_read}
use Rattle.eh_records.proofs.RawRecords.{then_is, then_fails}
use Rattle.eh_records.proofs.RecordsStand.{stands_is, number_there}

-- ---- letters
letter_value_refused : (letter : ℕ) (augmentation : AugmentationView) (at : Cursor) (e : RecordFault) → LetterFails letter at e → letter_at letter augmentation at ≡ failed e
unfolding letter_at
letter_value_refused letter augmentation at e (inl h) =
    ap (λ (l : ℕ). letter_at l augmentation at) h.0 ∙ ap (λ (r : Step Form). r >>= λ f. Ok (record augmentation { pointers = f.0 }, f.1)) (form_refused at e h.1)
letter_value_refused letter augmentation at e (inr (inl h)) =
    ap (λ (l : ℕ). letter_at l augmentation at) h.0 ∙ ap (λ (r : Step (Option PointerField)). r >>= λ p. Ok (record augmentation { personality = p.0 }, p.1)) (personality_refused at e h.1)
letter_value_refused letter augmentation at e (inr (inr h)) =
    ap (λ (l : ℕ). letter_at l augmentation at) h.0 ∙ ap (λ (r : Step ℕ). r >>= λ n. Ok (record augmentation { lsda = Some n.0 }, n.1)) (number_refused 1 at e h.1)

letter_values_refused : (letters : List ℕ) (augmentation : AugmentationView) (at : Cursor) (e : RecordFault) → LettersFail letters at e → augmentation_by letters augmentation at ≡ failed e
unfolding augmentation_by
letter_values_refused [] augmentation at e h = absurd h
letter_values_refused (b ∷ letters) augmentation at e (inl h) = ap (λ (r : Step AugmentationView). r >>= λ next. augmentation_by letters next.0 next.1) (letter_value_refused b augmentation at e h)
letter_values_refused (b ∷ letters) augmentation at e (inr (s, to, stands, rest)) =
    ap (λ (r : Step AugmentationView). r >>= λ next. augmentation_by letters next.0 next.1) (letter_value_read b s augmentation at to stands)
    ∙ letter_values_refused letters (with_letter_value augmentation s) to e rest

augmentation_refused : (letters : Option (List ℕ)) (at : Cursor) (e : RecordFault) → AugmentationFails letters at e → augmentation_at letters at ≡ failed e
unfolding augmentation_at
augmentation_refused None at e h = absurd h
augmentation_refused (Some letters) at e (inl h) =
    ap (λ (r : Step Cursor). r >>= λ inner. passed_data inner.1 (augmentation_by letters plain_augmentation inner.0)) (data_refused at e h)
augmentation_refused (Some letters) at e (inr (data_, to, stands, rest)) =
    ap (λ (r : Step Cursor). r >>= λ inner. passed_data inner.1 (augmentation_by letters plain_augmentation inner.0)) (data_read data_ at to stands)
    ∙ ap (passed_data to) (letter_values_refused letters plain_augmentation data_ e rest)

register_refused : (version : ℕ) (at : Cursor) (e : RecordFault) → ReturnAddressRegisterFails version at e → return_address_register_at version at ≡ failed e
unfolding return_address_register_at
register_refused version at e (inl h) = ap (λ (v : ℕ). if v == 1 then number_field 1 at else uleb_field at) h.0 ∙ number_refused 1 at e h.1
register_refused version at e (inr h) = ap (λ (v : ℕ). if v == 1 then number_field 1 at else uleb_field at) h.0 ∙ uleb_refused at e h.1

-- ---- common information entries
other_refused : (version : ℕ) (at after : Cursor) → FieldStands (Number 1) version at after → version ≢ 1 → version ≢ 3 → version_at at ≡ failed (faults.CieVersion at.place)
unfolding version_at
other_refused version at after byte one three =
    then_is (number_field 1 at) _ _ _ (number_read 1 at version after byte)
    (ap (λ (b : Bool). cond {A = Step ℕ} (b || (version == 3)) (Ok (version, after)) (Err (faults.CieVersion at.place))) (ne_eqb _ _ one)
    ∙ ap (λ (b : Bool). cond {A = Step ℕ} b (Ok (version, after)) (Err (faults.CieVersion at.place))) (ne_eqb _ _ three))

version_refused : (at : Cursor) (e : RecordFault) → Lacks 1 at e → version_at at ≡ failed e
unfolding version_at
version_refused at e h = then_fails (number_field 1 at) _ e (number_refused 1 at e h)

cie_refused : (arch : Arch) (p : RawRecordView) (e : RecordFault) → CieFails arch p e → cie_of arch p ≡ failed e
unfolding cie_of
cie_refused arch p e (no_version h) = then_fails (version_at p.body) _ e (version_refused p.body e h)
cie_refused arch p e (other_version version after byte one three is) = then_fails (version_at p.body) _ e (other_refused version p.body after byte one three ∙ stopped {X = ℕ × Cursor} (sym is))
cie_refused arch p e (no_string version a1 byte known h) =
    then_is (version_at p.body) _ _ _ (version_read version p.body a1 byte known)
    (then_fails (letters_at arch a1) _ e (string_refused arch a1 e h))
cie_refused arch p e (no_code_alignment_factor version letters a1 a2 byte known string h) =
    then_is (version_at p.body) _ _ _ (version_read version p.body a1 byte known)
    (then_is (letters_at arch a1) _ _ _ (string_read arch letters a1 a2 string)
    (then_fails (uleb_field a2) _ e (uleb_refused a2 e h)))
cie_refused arch p e (no_data_alignment_factor version code letters a1 a2 a3 byte known string has_code h) =
    then_is (version_at p.body) _ _ _ (version_read version p.body a1 byte known)
    (then_is (letters_at arch a1) _ _ _ (string_read arch letters a1 a2 string)
    (then_is (uleb_field a2) _ _ _ (uleb_read a2 code a3 has_code)
    (then_fails (sleb_field a3) _ e (sleb_refused a3 e h))))
cie_refused arch p e (no_return_address_register version code factor letters a1 a2 a3 a4 byte known string has_code has_factor h) =
    then_is (version_at p.body) _ _ _ (version_read version p.body a1 byte known)
    (then_is (letters_at arch a1) _ _ _ (string_read arch letters a1 a2 string)
    (then_is (uleb_field a2) _ _ _ (uleb_read a2 code a3 has_code)
    (then_is (sleb_field a3) _ _ _ (sleb_read a3 factor a4 has_factor)
    (then_fails (return_address_register_at version a4) _ e (register_refused version a4 e h)))))
cie_refused arch p e (no_data version code register factor letters a1 a2 a3 a4 a5 byte known string has_code has_factor has_register h) =
    then_is (version_at p.body) _ _ _ (version_read version p.body a1 byte known)
    (then_is (letters_at arch a1) _ _ _ (string_read arch letters a1 a2 string)
    (then_is (uleb_field a2) _ _ _ (uleb_read a2 code a3 has_code)
    (then_is (sleb_field a3) _ _ _ (sleb_read a3 factor a4 has_factor)
    (then_is (return_address_register_at version a4) _ _ _ (register_read version register a4 a5 has_register)
    (then_fails (augmentation_at letters a5) _ e (augmentation_refused letters a5 e h))))))

-- ---- frame description entries
abbrev with_lsda : Option ℕ → Cursor × Cursor → Step (Option PointerField)
with_lsda encoding inner = Ok (lsda_in encoding inner.0, inner.1)

abbrev without_lsda : Cursor → Step (Option PointerField)
without_lsda at = Ok (None, at)

frame_data_by : (b : Bool) (encoding : Option ℕ) (at : Cursor) (e : RecordFault) → (b ≡ true) × DataFails at e → (if b then (data_at at >>= with_lsda encoding) else without_lsda at) ≡ failed e
frame_data_by true encoding at e h = ap (λ (r : Step Cursor). r >>= with_lsda encoding) (data_refused at e h.1)
frame_data_by false encoding at e h = absurd (cc h.0)

frame_data_refused : (full : FullCieView) (at : Cursor) (e : RecordFault) → (full.augmented ≡ true) × DataFails at e → lsda_at full at ≡ failed e
unfolding lsda_at
frame_data_refused full at e h = frame_data_by full.augmented full.lsda at e h

abbrev all_fields : FullCieView → RawRecordView → PointerField → PointerField → Option PointerField × Cursor → Result FdeView RecordFault
all_fields full p begin range lsda = Ok (record { place = p.place; cie = full.cie; begin = begin; range = range; lsda = lsda.0; insns = lsda.1 })

abbrev behind_range : FullCieView → RawRecordView → PointerField → PointerField × Cursor → Result FdeView RecordFault
behind_range full p begin range = lsda_at full range.1 >>= all_fields full p begin range.0

abbrev behind_begin : FullCieView → RawRecordView → PointerField × Cursor → Result FdeView RecordFault
behind_begin full p begin = pointer_field full.width begin.1 >>= behind_range full p begin.0

fde_refused : (full : FullCieView) (p : RawRecordView) (e : RecordFault) → FdeFails full p e → entry_of full p ≡ failed e
unfolding entry_of
fde_refused full p e (inl h) = ap (λ (r : Step PointerField). r >>= behind_begin full p) (pointer_refused full.width p.body e h)
fde_refused full p e (inr (begin, a1, stands, inl h)) =
    ap (λ (r : Step PointerField). r >>= behind_begin full p) (pointer_read full.width begin p.body a1 stands)
    ∙ ap (λ (r : Step PointerField). r >>= behind_range full p begin) (pointer_refused full.width a1 e h)
fde_refused full p e (inr (begin, a1, stands, inr (range, a2, range_stands, augmented, h))) =
    ap (λ (r : Step PointerField). r >>= behind_begin full p) (pointer_read full.width begin p.body a1 stands)
    ∙ ap (λ (r : Step PointerField). r >>= behind_range full p begin) (pointer_read full.width range a1 a2 range_stands)
    ∙ ap (λ (r : Step (Option PointerField)). r >>= all_fields full p begin range) (frame_data_refused full a2 e (augmented, h))

-- ---- the entry that is named
abbrev Named : Type 0
Named = Result ℕ RecordFault

none_among : (b : Bool) (before : List FullCieView) (p : RawRecordView) (place : ℕ) (e : RecordFault) → is_among place before ≡ b → place + p.id ≡ p.id_place → NamesNone before p → e ≡ faults.CiePointer p.id_place
    → (if b then went place else failed {X = ℕ} (faults.CiePointer p.id_place)) ≡ failed e
none_among true before p place e t sum none is = let has = found place before t in absurd (none has.0 has.1 (ap (λ (n : ℕ). n + p.id) has.2 ∙ sum))
none_among false before p place e t sum none is = stopped {X = ℕ} (sym is)

named_failure : (b : Bool) (p : RawRecordView) (d : RecordFault) → nat_lt p.id_place p.id ≡ b → (if b then failed {X = ℕ} (faults.CiePointer p.id_place) else went (p.id_place - p.id)) ≡ failed d → d ≡ faults.CiePointer p.id_place
named_failure true p d t h = sym (same (faults.CiePointer p.id_place) d h)
  where
    same : (a b : RecordFault) → failed {X = ℕ} a ≡ failed {X = ℕ} b → a ≡ b
    same a b h = cc
named_failure false p d t h = absurd (clash (p.id_place - p.id) d h)
  where
    clash : (n : ℕ) (b : RecordFault) → went n ≡ failed {X = ℕ} b → ⊥
    clash n b h = cc

named_failed : (p : RawRecordView) (d : RecordFault) → named_place p ≡ failed d → d ≡ faults.CiePointer p.id_place
unfolding named_place
named_failed p d h = named_failure (nat_lt p.id_place p.id) p d refl h

unnamed_by : (r : Named) (before : List FullCieView) (p : RawRecordView) (e : RecordFault) → named_place p ≡ r → NamesNone before p → e ≡ faults.CiePointer p.id_place → (r >>= place_among (map place_of before) p) ≡ failed e
unnamed_by (Ok place) before p e read none is = none_among (is_among place before) before p place e refl (named_back p place read) none is
unnamed_by (Err d) before p e read none is = stopped {X = ℕ} (named_failed p d read ∙ sym is)

abbrev of_record : Bool → Arch → List ℕ → RawRecordView → Named → Result EntryView RecordFault
of_record b arch section p named = (if b then Ok p.place else named) >>= λ _. if b then (cie_of arch p >>= λ x. Ok (Common x)) else (fde_of arch section p >>= λ f. Ok (Frame f))

fde_named : (arch : Arch) (section : List ℕ) (full : FullCieView) (p : RawRecordView) (e : RecordFault) → named_place p ≡ Ok full.cie.place → cie_at_place arch section full.cie.place ≡ Ok full → entry_of full p ≡ failed e → fde_of arch section p ≡ failed e
unfolding fde_of
fde_named arch section full p e named read h =
    ap (λ (r : Named). r >>= λ n. cie_at_place arch section n >>= λ c. entry_of c p) named ∙ ap (λ (r : Result FullCieView RecordFault). r >>= λ c. entry_of c p) read ∙ h

entry_refused : (arch : Arch) (section : List ℕ) (before : List FullCieView) (p : RawRecordView) (e : RecordFault) → All (IsAgain arch section) before → EntryFails arch before p e → entry_at arch section (map place_of before) p ≡ failed e
unfolding entry_at entry_here entry_cie_place
entry_refused arch section before p e known (inl h) =
    ap (λ (b : Bool). of_record b arch section p (named_place p >>= place_among (map place_of before) p)) (eq-eqb p.id 0 h.0)
    ∙ ap (λ (r : Result FullCieView RecordFault). r >>= λ x. Ok (Common x)) (cie_refused arch p e h.1)
entry_refused arch section before p e known (inr (other, inl h)) =
    ap (λ (b : Bool). of_record b arch section p (named_place p >>= place_among (map place_of before) p)) (ne_eqb p.id 0 other)
    ∙ ap (of_record false arch section p) (unnamed_by (named_place p) before p e refl h.0 h.1)
entry_refused arch section before p e known (inr (other, inr (full, has, named, fails))) =
    let place = named_is p full.cie.place named in
    let is : is_among full.cie.place before ≡ true = among full.cie.place before full has.0 has.1 has.2 refl in
    ap (λ (b : Bool). of_record b arch section p (named_place p >>= place_among (map place_of before) p)) (ne_eqb p.id 0 other)
    ∙ ap (λ (r : Named). of_record false arch section p (r >>= place_among (map place_of before) p)) place
    ∙ ap (λ (b : Bool). of_record false arch section p (if b then Ok full.cie.place else failed (faults.CiePointer p.id_place))) is
    ∙ ap (λ (r : Result FdeView RecordFault). r >>= λ f. Ok (Frame f)) (fde_named arch section full p e place (All-contains (IsAgain arch section) before full known has) (fde_refused full p e fails))

-- ---- records
abbrev Front : Type 0
Front = Result (Option (RawRecordView × Cursor)) RecordFault

abbrev front_by : Bool → Cursor → Front
front_by empty at = if empty then Ok None else (number_field 4 at >>= λ len. of_length at.place len.0 len.1)

abbrev sized_by : (a b c : Bool) → (place len : ℕ) → Cursor → Front
sized_by a b c place len at =
    if a then Ok None
    else if b then failed (faults.Extended place)
    else if c then failed (faults.Short place)
    else (record_of_length place len at >>= λ p. Ok (Some p))

not_empty : (xs : List ℕ) → xs ≢ [] → (length xs == 0) ≡ false
not_empty [] some = absurd (some refl)
not_empty (b ∷ bs) some = ne_eqb (length (b ∷ bs)) 0 (λ h. omega (arith, h))

front_refused : (at : Cursor) (e : RecordFault) → at.left ≢ [] → (number_field 4 at >>= λ len. of_length at.place len.0 len.1) ≡ failed e → raw_record_at at ≡ failed e
unfolding raw_record_at
front_refused at e some h = ap (λ (b : Bool). front_by b at) (not_empty at.left some) ∙ h

short_record : (place len : ℕ) (at : Cursor) → length at.left < len → record_of_length place len at ≡ failed (faults.Short place)
unfolding record_of_length
short_record place len at short =
    ap (λ (r : Step Cursor). whole place r >>= λ body. number_field 4 body.0 >>= λ id. Ok (record { place = place; id_place = body.0.place; id = id.0; body = id.1 }, body.1)) (part_refused len at (faults.Short at.place) (short, refl))

-- a length that is too short, or too long
length_refused : (c : Bool) (len : ℕ) (at : Cursor) (e : RecordFault) → nat_lt len 4 ≡ c → 4 ≤ length at.left → (len < 4) ⊎ (length at.left < 4 + len) → e ≡ faults.Short at.place
    → (if c then failed {X = Option (RawRecordView × Cursor)} (faults.Short at.place) else (record_of_length at.place len (past 4 at) >>= λ p. Ok (Some p))) ≡ failed e
length_refused true len at e t four h is = stopped {X = Option (RawRecordView × Cursor)} (sym is)
length_refused false len at e t four (inl low) is = let not : 4 ≤ len = ltb-false _ _ t in absurd (omega (arith, low, not))
length_refused false len at e t four (inr long) is =
    let left : length (drop 4 at.left) ≡ length at.left - 4 = length-drop 4 at.left in
    let short : length (drop 4 at.left) < len = omega (arith, left, four, long) in
    ap (λ (r : Step RawRecordView). r >>= λ p. Ok (Some p)) (short_record at.place len (past 4 at) short) ∙ stopped {X = Option (RawRecordView × Cursor)} (sym is)

word_refused : (at : Cursor) (e : RecordFault) → at.left ≢ [] → 4 ≤ length at.left → of_length at.place (little_number 4 (take 4 at.left)) (past 4 at) ≡ failed e → raw_record_at at ≡ failed e
word_refused at e some four h = front_refused at e some (ap (λ (r : Step ℕ). r >>= λ len. of_length at.place len.0 len.1) (number_there 4 at four) ∙ h)

extended_by : (a : Bool) (len : ℕ) (at rest : Cursor) (e : RecordFault) → (len == 0) ≡ a → len ≡ 4294967295 → e ≡ faults.Extended at.place → sized_by a (len == 4294967295) (nat_lt len 4) at.place len rest ≡ failed e
extended_by true len at rest e t big is = let none : len ≡ 0 = eqb-true _ _ t in absurd (omega (arith, none, big))
extended_by false len at rest e t big is = ap (λ (b : Bool). sized_by false b (nat_lt len 4) at.place len rest) (eq-eqb _ _ big) ∙ stopped {X = Option (RawRecordView × Cursor)} (sym is)

split_refused : (at : Cursor) (e : RecordFault) → RecordFails at e → raw_record_at at ≡ failed e
split_refused at e (some, inl h) = front_refused at e some (ap (λ (r : Step ℕ). r >>= λ len. of_length at.place len.0 len.1) (number_refused 4 at e h))
split_refused at e (some, inr (four, inl h)) =
    let len = little_number 4 (take 4 at.left) in
    word_refused at e some four (extended_by (len == 0) len at (past 4 at) e refl h.0 h.1)
split_refused at e (some, inr (four, inr (other, standard, h, is))) =
    let len = little_number 4 (take 4 at.left) in
    word_refused at e some four (
    ap (λ (b : Bool). sized_by b (len == 4294967295) (nat_lt len 4) at.place len (past 4 at)) (ne_eqb _ _ other)
    ∙ ap (λ (b : Bool). sized_by false b (nat_lt len 4) at.place len (past 4 at)) (ne_eqb _ _ standard)
    ∙ length_refused (nat_lt len 4) len at e refl four h is
    )

-- ---- sections
abbrev all_entries : Arch → List ℕ → List ℕ → List SplitRecord → Result (List EntryView) RecordFault
all_entries arch section cies xs = entries_in arch section cies xs

first_split : (arch : Arch) (section cies : List ℕ) (e : RecordFault) → entries_in arch section cies (Err e ∷ []) ≡ failed e
unfolding entries_in
first_split arch section cies e = refl

first_fails : (arch : Arch) (section cies : List ℕ) (p : RawRecordView) (others : List SplitRecord) (e : RecordFault) → entry_at arch section cies p ≡ failed e → entries_in arch section cies (Ok p ∷ others) ≡ failed e
unfolding entries_in
first_fails arch section cies p others e h = ap (λ (r : Result EntryView RecordFault). r >>= λ v. entries_in arch section (with_place cies p) others >>= λ vs. Ok (v ∷ vs)) h

first_there : (arch : Arch) (section cies : List ℕ) (p : RawRecordView) (v : EntryView) (others : List SplitRecord) (e : RecordFault) → entry_at arch section cies p ≡ Ok v → entries_in arch section (with_place cies p) others ≡ failed e
    → entries_in arch section cies (Ok p ∷ others) ≡ failed e
unfolding entries_in
first_there arch section cies p v others e h k =
    ap (λ (r : Result EntryView RecordFault). r >>= λ x. entries_in arch section (with_place cies p) others >>= λ vs. Ok (x ∷ vs)) h
    ∙ ap (λ (r : Result (List EntryView) RecordFault). r >>= λ vs. Ok (v ∷ vs)) k

refused_from : (arch : Arch) (section cies : List ℕ) (before : List FullCieView) (ps : List RawRecordView) (vs : List EntryView) (at : Cursor) (e : RecordFault) → cies ≡ map place_of before → All (IsAgain arch section) before
    → IsAt section at → FailsFrom arch before ps vs at e → entries_in arch section cies (records_from at) ≡ failed e
refused_from arch section cies before [] [] at e is known here (inl h) = ap (entries_in arch section cies) (split_faults at e (split_refused at e h)) ∙ first_split arch section cies e
refused_from arch section cies before [] [] at e is known here (inr (p, after, stands, h)) =
    ap (entries_in arch section cies) (starts_with_record at p after (stands_is at p after stands))
    ∙ first_fails arch section cies p (records_from after) e (ap (λ (xs : List ℕ). entry_at arch section xs p) is ∙ entry_refused arch section before p e known h)
refused_from arch section cies before [] (v ∷ vs) at e is known here h = absurd h
refused_from arch section cies before (p ∷ ps) [] at e is known here h = absurd h
refused_from arch section cies before (p ∷ ps) (v ∷ vs) at e is known here (after, stands, fields, rest) =
    ap (entries_in arch section cies) (starts_with_record at p after (stands_is at p after stands))
    ∙ first_there arch section cies p v (records_from after) e (ap (λ (xs : List ℕ). entry_at arch section xs p) is ∙ entry_given arch section before p v known fields)
    (refused_from arch section (with_place cies p) (with_cie before v) ps vs after e (places_by cies before arch p v is fields) (known_by arch section before at p after v here stands known fields)
    (at_after section at p after here stands) rest)

pub refused_is : (arch : Arch) (section : List ℕ) (e : RecordFault) → AreReadAs arch section (Err e) → entries_of arch section ≡ failed e
unfolding entries_of
refused_is arch section e (ps, vs, h) = refused_from arch section [] [] ps vs (start section) e refl (All-nil (IsAgain arch section)) (at_start section) h

-- ---- entries or a fault
pub read_as : (arch : Arch) (section : List ℕ) (r : Result (List EntryView) RecordFault) → AreReadAs arch section r → entries_of arch section ≡ r
read_as arch section (Ok es) h = entries_read arch section es h
read_as arch section (Err e) h = refused_is arch section e h

pub as_read : (arch : Arch) (section : List ℕ) (r : Result (List EntryView) RecordFault) → entries_of arch section ≡ r → AreReadAs arch section r
as_read arch section (Ok es) h = read_entries arch section es h
as_read arch section (Err e) h = is_refused arch section e h
