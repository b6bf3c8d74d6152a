-- The fault of a section is that of the first field that isn't there.
use Rattle.std.specs.Prelude.{◌≢◌, ◌==◌, ◌||◌, nat_lt}
use Rattle.std.specs.List.{All}
use Rattle.std.proofs.Common.{◌≡◌, ◌⊎◌, ℕ, ◌+◌, ◌-◌, ◌<◌, ◌≤◌, Bool, true, false, cond, List, [], ◌∷◌, length, map, Option, Some, None, Result, Ok, Err, refl, sym, ap, subst, ◌∙◌, arith, inl, inr, if◌then◌else◌, length-drop}
use Rattle.std.proofs.lemmas.Bool.{eqb-true, eqb-false, ltb-true, ltb-false}
use Rattle.std.proofs.lemmas.List.{length-take-le}
use Rattle.std.proofs.lemmas.List.Elements.{All-nil, All-contains}
use Rattle.sf_bytes.specs.Cursor.{Cursor}
use Rattle.sf_bytes.specs.Standing.{Stands as FieldStands, Number}
use Rattle.sf_model.specs.declared.machine.Arch.{Arch}
use Rattle.sf_model.specs.declared.machine.Key.TheVariants as keys
use Rattle.eh_records.specs.declared.fault.RecordFault.{RecordFault}
use Rattle.eh_records.specs.declared.fault.RecordFault.TheVariants as faults
use Rattle.eh_records.specs.Augmentation.{AugmentationView, plain_augmentation, letters_at, data_at, form_at, personality_at, letter_at, augmentation_by}
use Rattle.eh_records.specs.Cie.{FullCieView, version_at, return_address_register_at, passed_data, augmentation_at, cie_of}
use Rattle.eh_records.specs.RawRecord.{RawRecordView, raw_record_at, record_of_length, whole, of_length, named_place}
use Rattle.eh_records.specs.Records.{with_cie, start}
use Rattle.eh_records.specs.Fde.{cie_at_place, lsda_in, lsda_at, entry_of, fde_of}
use Rattle.eh_records.specs.Fields.{StringStands}
use Rattle.eh_records.specs.Refused.{RecordFails, LetterFails, LettersFail, AugmentationFails, CieFails, no_version, other_version, no_string, no_code_alignment_factor, no_data_alignment_factor, no_return_address_register, no_data, DataFails, FdeFails, FrameFails, FailsFrom, AreReadAs}
use Rattle.eh_records.proofs.FailParts.{ReturnAddressRegisterFails, NamesNone, EntryFails}
use Rattle.eh_records.specs.Section.{SplitRecord, EntryView, Common, Frame, records_from, records_of, entry_here, entry_at, place_among, entry_cie_place, with_place, entries_in, entries_of}
use Rattle.eh_records.specs.Step.{Step, ◌>>=◌, PointerField, number_field, uleb_field, sleb_field, part_field, pointer_field}
use Rattle.eh_records.proofs.FirstRecord.{starts_with_record, stops, faults as split_faults}
use Rattle.eh_records.proofs.EntriesStand.{place_of, IsAgain, IsAt, at_start, at_after, is_among, among, named_back, entry_stands, places_by, known_by, found}
use Rattle.eh_records.proofs.FieldsFail.{failed, fault_same, went, not_both, split, number_lacks, part_lacks, pointer_lacks, uleb_lacks, sleb_lacks, data_fails, string_fails, form_fails, personality_fails}
use Rattle.eh_records.proofs.FieldsStand.{AreKnown, number_stands, uleb_stands, sleb_stands, pointer_stands, data_stands, letter_value_stands, string_stands, string_known, version_stands, register_stands}
use Rattle.eh_records.proofs.RawRecords.{through, ok_same, number_read, part_read}
use Rattle.eh_records.proofs.RecordsStand.{next_of}

-- ---- letters
abbrev augmentation_to : AugmentationView → Cursor → Step AugmentationView
augmentation_to augmentation at = Ok (augmentation, at)

letter_by : (r p l s : Bool) (letter : ℕ) (augmentation : AugmentationView) (at : Cursor) (e : RecordFault) → (letter == 82) ≡ r → (letter == 80) ≡ p → (letter == 76) ≡ l
    → (
    if r then (form_at at >>= λ f. augmentation_to (record augmentation { pointers = f.0 }) f.1)
    else if p then (personality_at at >>= λ q. augmentation_to (record augmentation { personality = q.0 }) q.1)
    else if l then (number_field 1 at >>= λ n. augmentation_to (record augmentation { lsda = Some n.0 }) n.1)
    else if s then augmentation_to (record augmentation { signal = true }) at
    else augmentation_to (record augmentation { key = keys.B }) at
    ) ≡ failed e
    → LetterFails letter at e
letter_by true p l s letter augmentation at e tr tp tl h = elim (split (form_at at) _ e h) [
  | inl one ↦ inl (eqb-true _ _ tr, form_fails at e one)
  | inr w ↦ absurd (not_both _ e w.2)
]
letter_by false true l s letter augmentation at e tr tp tl h = elim (split (personality_at at) _ e h) [
  | inl one ↦ inr (inl (eqb-true _ _ tp, personality_fails at e one))
  | inr w ↦ absurd (not_both _ e w.2)
]
letter_by false false true s letter augmentation at e tr tp tl h = elim (split (number_field 1 at) _ e h) [
  | inl one ↦ inr (inr (eqb-true _ _ tl, number_lacks 1 at e one))
  | inr w ↦ absurd (not_both _ e w.2)
]
letter_by false false false true letter augmentation at e tr tp tl h = absurd (not_both _ e h)
letter_by false false false false letter augmentation at e tr tp tl h = absurd (not_both _ e h)

letter_value_fails : (letter : ℕ) (augmentation : AugmentationView) (at : Cursor) (e : RecordFault) → letter_at letter augmentation at ≡ failed e → LetterFails letter at e
unfolding letter_at
letter_value_fails letter augmentation at e h = letter_by (letter == 82) (letter == 80) (letter == 76) (letter == 83) letter augmentation at e refl refl refl h

letter_values_fail : (arch : Arch) (letters : List ℕ) (augmentation : AugmentationView) (at : Cursor) (e : RecordFault) → AreKnown arch letters → augmentation_by letters augmentation at ≡ failed e → LettersFail letters at e
unfolding augmentation_by
letter_values_fail arch [] augmentation at e known h = not_both augmentation e h
letter_values_fail arch (b ∷ letters) augmentation at e known h = elim (split (letter_at b augmentation at) _ e h) [
  | inl one ↦ inl (letter_value_fails b augmentation at e one)
  | inr w ↦
      let s = letter_value_stands arch b augmentation at w.0 known.0 w.1 in
      inr (s.value, w.0.1, s.stands, letter_values_fail arch letters w.0.0 w.0.1 e known.1 w.2)
]

data_failed : (after : Cursor) (r : Result AugmentationView RecordFault) (e : RecordFault) → passed_data after r ≡ failed e → r ≡ failed e
data_failed after (Ok augmentation) e h = absurd (not_both (augmentation, after) e h)
data_failed after (Err d) e h = ap (λ (x : RecordFault). failed {X = AugmentationView} x) (fault_same {X = AugmentationView × Cursor} d e h)

augmentation_fails : (arch : Arch) (letters : Option (List ℕ)) (at : Cursor) (e : RecordFault) → ((ls : List ℕ) → letters ≡ Some ls → AreKnown arch ls) → augmentation_at letters at ≡ failed e → AugmentationFails letters at e
unfolding augmentation_at
augmentation_fails arch None at e known h = not_both (plain_augmentation, at) e h
augmentation_fails arch (Some letters) at e known h = elim (split (data_at at) _ e h) [
  | inl one ↦ inl (data_fails at e one)
  | inr w ↦ inr (w.0.0, w.0.1, data_stands at w.0 w.1, letter_values_fail arch letters plain_augmentation w.0.0 e (known letters refl) (data_failed w.0.1 (augmentation_by letters plain_augmentation w.0.0) e w.2))
]

register_by : (one : Bool) (version : ℕ) (at : Cursor) (e : RecordFault) → (version ≡ 1) ⊎ (version ≡ 3) → (version == 1) ≡ one → (if one then number_field 1 at else uleb_field at) ≡ failed e → ReturnAddressRegisterFails version at e
register_by true version at e known t h = inl (eqb-true _ _ t, number_lacks 1 at e h)
register_by false version at e (inl is) t h = absurd (eqb-false _ _ t is)
register_by false version at e (inr is) t h = inr (is, uleb_lacks at e h)

register_fails : (version : ℕ) (at : Cursor) (e : RecordFault) → (version ≡ 1) ⊎ (version ≡ 3) → return_address_register_at version at ≡ failed e → ReturnAddressRegisterFails version at e
unfolding return_address_register_at
register_fails version at e known h = register_by (version == 1) version at e known refl h

-- ---- common information entries
none_of : (a b : Bool) → (a || b) ≡ false → (a ≡ false) × (b ≡ false)
none_of true b h = absurd cc
none_of false b h = (refl, h)

known_of : (arch : Arch) (x : Option (List ℕ) × Cursor) (at : Cursor) → letters_at arch at ≡ Ok x → (ls : List ℕ) → x.0 ≡ Some ls → AreKnown arch ls
known_of arch x at read ls is = string_known arch ls at x.1 (subst (λ (o : Option (List ℕ)). StringStands arch o at x.1) is (string_stands arch at x read))

version_by : (known : Bool) (at : Cursor) (byte : ℕ × Cursor) (e : RecordFault) → ((byte.0 == 1) || (byte.0 == 3)) ≡ known → cond {A = Step ℕ} known (Ok byte) (Err (faults.CieVersion at.place)) ≡ failed e
    → (((byte.0 == 1) || (byte.0 == 3)) ≡ false) × (e ≡ faults.CieVersion at.place)
version_by true at byte e t h = absurd (not_both byte e h)
version_by false at byte e t h = (t, sym (fault_same {X = ℕ × Cursor} (faults.CieVersion at.place) e h))

version_fails : (arch : Arch) (p : RawRecordView) (e : RecordFault) → version_at p.body ≡ failed e → CieFails arch p e
unfolding version_at
version_fails arch p e h = elim (split (number_field 1 p.body) _ e h) [
  | inl one ↦ no_version (number_lacks 1 p.body e one)
  | inr w ↦
      let other = version_by ((w.0.0 == 1) || (w.0.0 == 3)) p.body w.0 e refl w.2 in
      let none = none_of (w.0.0 == 1) (w.0.0 == 3) other.0 in
      other_version w.0.0 w.0.1 (number_stands 1 p.body w.0 w.1) (eqb-false _ _ none.0) (eqb-false _ _ none.1) other.1
]

cie_fails : (arch : Arch) (p : RawRecordView) (e : RecordFault) → cie_of arch p ≡ failed e → CieFails arch p e
unfolding cie_of
cie_fails arch p e h = elim (split (version_at p.body) _ e h) [
  | inl one ↦ version_fails arch p e one
  | inr (version, read_version, h1) ↦
      let byte = version_stands p.body version read_version in
      elim (split (letters_at arch version.1) _ e h1) [
        | inl one ↦ no_string version.0 version.1 byte.0 byte.1 (string_fails arch version.1 e one)
        | inr (letters, read_letters, h2) ↦
            let string = string_stands arch version.1 letters read_letters in
            elim (split (uleb_field letters.1) _ e h2) [
              | inl one ↦ no_code_alignment_factor version.0 letters.0 version.1 letters.1 byte.0 byte.1 string (uleb_lacks letters.1 e one)
              | inr (code, read_code, h3) ↦
                  let has_code = uleb_stands letters.1 code read_code in
                  elim (split (sleb_field code.1) _ e h3) [
                    | inl one ↦ no_data_alignment_factor version.0 code.0 letters.0 version.1 letters.1 code.1 byte.0 byte.1 string has_code (sleb_lacks code.1 e one)
                    | inr (factor, read_factor, h4) ↦
                        let has_factor = sleb_stands code.1 factor read_factor in
                        elim (split (return_address_register_at version.0 factor.1) _ e h4) [
                          | inl one ↦
                              no_return_address_register version.0 code.0 factor.0 letters.0 version.1 letters.1 code.1 factor.1 byte.0 byte.1 string has_code has_factor
                              (register_fails version.0 factor.1 e byte.1 one)
                          | inr (register, read_register, h5) ↦ elim (split (augmentation_at letters.0 register.1) _ e h5) [
                            | inl one ↦
                                no_data version.0 code.0 register.0 factor.0 letters.0 version.1 letters.1 code.1 factor.1 register.1 byte.0 byte.1 string has_code has_factor
                                (register_stands version.0 factor.1 register byte.1 read_register)
                                (augmentation_fails arch letters.0 register.1 e (known_of arch letters version.1 read_letters) one)
                            | inr augmentation ↦ absurd (not_both _ e augmentation.2)
                          ]
                        ]
                  ]
            ]
      ]
]

-- ---- frame description entries
abbrev with_lsda : Option ℕ → Cursor × Cursor → Step (Option PointerField)
with_lsda encoding inner = Ok (lsda_in encoding inner.0, inner.1)

abbrev without_lsda : Cursor → Step (Option PointerField)
without_lsda at = Ok (None, at)

frame_data_by : (b : Bool) (encoding : Option ℕ) (at : Cursor) (e : RecordFault) → (if b then (data_at at >>= with_lsda encoding) else without_lsda at) ≡ failed e → (b ≡ true) × DataFails at e
frame_data_by true encoding at e h = elim (split (data_at at) (with_lsda encoding) e h) [
  | inl one ↦ (refl, data_fails at e one)
  | inr w ↦ absurd (not_both _ e w.2)
]
frame_data_by false encoding at e h = absurd (not_both _ e h)

frame_data_fails : (full : FullCieView) (at : Cursor) (e : RecordFault) → lsda_at full at ≡ failed e → (full.augmented ≡ true) × DataFails at e
unfolding lsda_at
frame_data_fails full at e h = frame_data_by full.augmented full.lsda at e h

fde_fails : (full : FullCieView) (p : RawRecordView) (e : RecordFault) → entry_of full p ≡ failed e → FdeFails full p e
unfolding entry_of
fde_fails full p e h = elim (split (pointer_field full.width p.body) _ e h) [
  | inl one ↦ inl (pointer_lacks full.width p.body e one)
  | inr begin ↦ elim (split (pointer_field full.width begin.0.1) _ e begin.2) [
    | inl one ↦ inr (begin.0.0, begin.0.1, pointer_stands full.width p.body begin.0 begin.1, inl (pointer_lacks full.width begin.0.1 e one))
    | inr range ↦ elim (split (lsda_at full range.0.1) _ e range.2) [
      | inl one ↦
          let missing = frame_data_fails full range.0.1 e one in
          inr (begin.0.0, begin.0.1, pointer_stands full.width p.body begin.0 begin.1, inr (range.0.0, range.0.1, pointer_stands full.width begin.0.1 range.0 range.1, missing.0, missing.1))
      | inr w ↦ absurd (not_both _ e w.2)
    ]
  ]
]

-- ---- the entry that is named
named_by : (b : Bool) (p : RawRecordView) (e : RecordFault) → nat_lt p.id_place p.id ≡ b → (if b then failed {X = ℕ} (faults.CiePointer p.id_place) else went (p.id_place - p.id)) ≡ failed e → (p.id_place < p.id) × (e ≡ faults.CiePointer p.id_place)
named_by true p e t h = (ltb-true _ _ t, sym (fault_same {X = ℕ} (faults.CiePointer p.id_place) e h))
named_by false p e t h = absurd (not_both _ e h)

named_fails : (p : RawRecordView) (e : RecordFault) → named_place p ≡ failed e → (p.id_place < p.id) × (e ≡ faults.CiePointer p.id_place)
unfolding named_place
named_fails p e h = named_by (nat_lt p.id_place p.id) p e refl h

among_by : (b : Bool) (p : RawRecordView) (place : ℕ) (e : RecordFault) → (if b then went place else failed {X = ℕ} (faults.CiePointer p.id_place)) ≡ failed e → (b ≡ false) × (e ≡ faults.CiePointer p.id_place)
among_by true p place e h = absurd (not_both _ e h)
among_by false p place e h = (refl, sym (fault_same {X = ℕ} (faults.CiePointer p.id_place) e h))

true_not_false : (b : Bool) → b ≡ true → b ≡ false → ⊥
true_not_false b t f = let clash : true ≡ false = sym t ∙ f in absurd cc

names_none : (before : List FullCieView) (p : RawRecordView) (place : ℕ) → place + p.id ≡ p.id_place → is_among place before ≡ false → NamesNone before p
names_none before p place sum none = λ full has named.
    let same : full.cie.place ≡ place = omega (arith, sum, named) in
    true_not_false (is_among place before) (among place before full has.0 has.1 has.2 same) none

unnamed : (before : List FullCieView) (p : RawRecordView) (e : RecordFault) → (named_place p >>= place_among (map place_of before) p) ≡ failed e → FrameFails before p e
unnamed before p e h = elim (split (named_place p) (place_among (map place_of before) p) e h) [
  | inl one ↦
      let low = named_fails p e one in
      let less : p.id_place < p.id = low.0 in
      inl (λ full has named. omega (arith, less, named), low.1)
  | inr w ↦
      let a = among_by (is_among w.0 before) p w.0 e w.2 in
      inl (names_none before p w.0 (named_back p w.0 w.1) a.0, a.1)
]

frame_of_fails : (arch : Arch) (section : List ℕ) (before : List FullCieView) (p : RawRecordView) (e : RecordFault) (got : ℕ) → All (IsAgain arch section) before → (named_place p >>= place_among (map place_of before) p) ≡ Ok got → fde_of arch section p ≡ failed e
    → FrameFails before p e
unfolding fde_of
frame_of_fails arch section before p e got known named h =
    let one = through (named_place p) (place_among (map place_of before) p) got named in
    let has = found one.first before (found_among (is_among one.first before) one.first p.id_place got one.rest) in
    let sum : has.0.cie.place + p.id ≡ p.id_place = ap (λ (n : ℕ). n + p.id) has.2 ∙ named_back p one.first one.read in
    let read : cie_at_place arch section one.first ≡ Ok has.0 = ap (cie_at_place arch section) (sym has.2) ∙ All-contains (IsAgain arch section) before has.0 known has.1 in
    elim (split (named_place p) _ e h) [
      | inl refused ↦ absurd (not_both one.first e (sym one.read ∙ refused))
      | inr w ↦ elim (split (cie_at_place arch section w.0) _ e w.2) [
        | inl refused ↦ absurd (not_both has.0 e (sym read ∙ ap (cie_at_place arch section) (ok_same _ _ (sym one.read ∙ w.1)) ∙ refused))
        | inr s ↦
            let place : w.0 ≡ one.first = ok_same _ _ (sym w.1 ∙ one.read) in
            let same : s.0 ≡ has.0 = ok_same _ _ (sym s.1 ∙ ap (cie_at_place arch section) place ∙ read) in
            inr (has.0, has.1, sum, fde_fails has.0 p e (ap (λ (c : FullCieView). entry_of c p) (sym same) ∙ s.2))
      ]
    ]
  where
    found_among : (b : Bool) (place id_place got : ℕ) → (if b then went place else failed {X = ℕ} (faults.CiePointer id_place)) ≡ Ok got → b ≡ true
    found_among true place id_place got e = refl
    found_among false place id_place got e = absurd (not_both got (faults.CiePointer id_place) (sym e))

entry_by : (b : Bool) (arch : Arch) (section : List ℕ) (before : List FullCieView) (p : RawRecordView) (e : RecordFault) → All (IsAgain arch section) before → (p.id == 0) ≡ b
    → ((if b then went p.place else (named_place p >>= place_among (map place_of before) p)) >>= λ _. if b then (cie_of arch p >>= λ x. went (Common x)) else (fde_of arch section p >>= λ f. went (Frame f))) ≡ failed e
    → EntryFails arch before p e
entry_by true arch section before p e known t h = elim (split (cie_of arch p) (λ x. went (Common x)) e h) [
  | inl one ↦ inl (eqb-true _ _ t, cie_fails arch p e one)
  | inr w ↦ absurd (not_both _ e w.2)
]
entry_by false arch section before p e known t h = elim (split (named_place p >>= place_among (map place_of before) p) _ e h) [
  | inl one ↦ inr (eqb-false _ _ t, unnamed before p e one)
  | inr named ↦ elim (split (fde_of arch section p) (λ f. went (Frame f)) e named.2) [
    | inl one ↦ inr (eqb-false _ _ t, frame_of_fails arch section before p e named.0 known named.1 one)
    | inr w ↦ absurd (not_both _ e w.2)
  ]
]

entry_fails : (arch : Arch) (section : List ℕ) (before : List FullCieView) (p : RawRecordView) (e : RecordFault) → All (IsAgain arch section) before → entry_at arch section (map place_of before) p ≡ failed e → EntryFails arch before p e
unfolding entry_at entry_here entry_cie_place
entry_fails arch section before p e known h = entry_by (p.id == 0) arch section before p e known refl h

-- ---- records
abbrev Front : Type 0
Front = Result (Option (RawRecordView × Cursor)) RecordFault

whole_failed : {X : Type 0} (place : ℕ) (s : Step X) (e : RecordFault) → whole place s ≡ failed e → e ≡ faults.Short place
whole_failed {X = X} place (Ok x) e h = absurd (not_both x e h)
whole_failed {X = X} place (Err f) e h = sym (fault_same {X = X × Cursor} (faults.Short place) e h)

whole_err : {X : Type 0} (place : ℕ) (s : Step X) (e : RecordFault) → whole place s ≡ failed e → (f : RecordFault) × (s ≡ failed f)
whole_err place (Ok x) e h = absurd (not_both x e h)
whole_err place (Err f) e h = (f, refl)

whole_ok : {X : Type 0} (place : ℕ) (s : Step X) (x : X × Cursor) → whole place s ≡ Ok x → s ≡ Ok x
whole_ok place (Ok y) x h = h
whole_ok {X = X} place (Err f) x h = absurd (not_both x (faults.Short place) (sym h))

record_short : (place len : ℕ) (at : Cursor) (e : RecordFault) → 4 ≤ len → record_of_length place len at ≡ failed e → (length at.left < len) × (e ≡ faults.Short place)
unfolding record_of_length
record_short place len at e enough h = elim (split (whole place (part_field len at)) _ e h) [
  | inl one ↦
      let f = whole_err place (part_field len at) e one in
      ((part_lacks len at f.0 f.1).0, whole_failed place (part_field len at) e one)
  | inr w ↦
      let body = part_read len at w.0 (whole_ok place (part_field len at) w.0 w.1) in
      let size : length w.0.0.left ≡ len = ap (λ (c : Cursor). length c.left) body.value ∙ length-take-le len at.left body.within in
      elim (split (number_field 4 w.0.0) _ e w.2) [
        | inl one ↦ let short : length w.0.0.left < 4 = (number_lacks 4 w.0.0 e one).0 in absurd (omega (arith, short, size, enough))
        | inr x ↦ absurd (not_both _ e x.2)
      ]
]

abbrev SizedFails : (len : ℕ) → Cursor → RecordFault → Type 0
SizedFails len at e =
    ((len ≡ 4294967295) × (e ≡ faults.Extended at.place))
    ⊎ ((len ≢ 0) × (len ≢ 4294967295) × ((len < 4) ⊎ (length at.left < 4 + len)) × (e ≡ faults.Short at.place))

sized_by : (a b c : Bool) (len : ℕ) (at rest : Cursor) (e : RecordFault) → length rest.left + 4 ≡ length at.left → (len == 0) ≡ a → (len == 4294967295) ≡ b → nat_lt len 4 ≡ c
    → cond {A = Front} a (Ok None) (cond b (Err (faults.Extended at.place)) (cond c (Err (faults.Short at.place)) (record_of_length at.place len rest >>= λ p. went (Some p)))) ≡ failed e → SizedFails len at e
sized_by true b c len at rest e left ta tb tc h = absurd (not_both _ e h)
sized_by false true c len at rest e left ta tb tc h = inl (eqb-true _ _ tb, sym (fault_same {X = Option (RawRecordView × Cursor)} (faults.Extended at.place) e h))
sized_by false false true len at rest e left ta tb tc h = inr (eqb-false _ _ ta, eqb-false _ _ tb, inl (ltb-true _ _ tc), sym (fault_same {X = Option (RawRecordView × Cursor)} (faults.Short at.place) e h))
sized_by false false false len at rest e left ta tb tc h = elim (split (record_of_length at.place len rest) (λ p. went (Some p)) e h) [
  | inl one ↦
      let s = record_short at.place len rest e (ltb-false _ _ tc) one in
      let short : length rest.left < len = s.0 in
      inr (eqb-false _ _ ta, eqb-false _ _ tb, inr (omega (arith, short, left)), s.1)
  | inr w ↦ absurd (not_both _ e w.2)
]

front_by : (a : Bool) (at : Cursor) (e : RecordFault) → (length at.left == 0) ≡ a → cond {A = Front} a (Ok None) (number_field 4 at >>= λ len. of_length at.place len.0 len.1) ≡ failed e → RecordFails at e
front_by true at e t h = absurd (not_both _ e h)
front_by false at e t h = (
  λ none. eqb-false _ _ t (ap length none),
  elim (split (number_field 4 at) (λ len. of_length at.place len.0 len.1) e h) [
    | inl one ↦ inl (number_lacks 4 at e one)
    | inr w ↦
        let word = number_read 4 at w.0 w.1 in
        let within : 4 ≤ length at.left = word.within in
        let rest : length w.0.1.left ≡ length at.left - 4 = ap (λ (c : Cursor). length c.left) word.after ∙ length-drop 4 at.left in
        inr (word.within, subst (λ (n : ℕ). SizedFails n at e) word.value (sized_by (w.0.0 == 0) (w.0.0 == 4294967295) (nat_lt w.0.0 4) w.0.0 at w.0.1 e (omega (arith, within, rest)) refl refl refl w.2))
  ],
)

split_fails : (at : Cursor) (e : RecordFault) → raw_record_at at ≡ failed e → RecordFails at e
unfolding raw_record_at
split_fails at e h = front_by (length at.left == 0) at e refl h

-- ---- sections
abbrev one_fault : RecordFault → List SplitRecord → List SplitRecord
one_fault f xs = Err f ∷ xs

abbrev one_record : RawRecordView → List SplitRecord → List SplitRecord
one_record p xs = Ok p ∷ xs

fault_first : (f e : RecordFault) (xs ys : List SplitRecord) → one_fault f xs ≡ one_fault e ys → f ≡ e
fault_first f e xs ys h = cc

none_first : (e : RecordFault) (ys : List SplitRecord) → [] ≡ one_fault e ys → ⊥
none_first e ys h = cc

record_first : (p : RawRecordView) (e : RecordFault) (xs ys : List SplitRecord) → one_record p xs ≡ one_fault e ys → ⊥
record_first p e xs ys h = cc

unsplit : (at : Cursor) (e : RecordFault) (others : List SplitRecord) (r : Front) → records_from at ≡ one_fault e others → raw_record_at at ≡ r → raw_record_at at ≡ failed e
unsplit at e others (Ok None) is read = absurd (none_first e others (sym (stops at read) ∙ is))
unsplit at e others (Ok (Some x)) is read = absurd (record_first x.0 e (records_from x.1) others (sym (starts_with_record at x.0 x.1 read) ∙ is))
unsplit at e others (Err f) is read = read ∙ ap (λ (x : RecordFault). failed {X = Option (RawRecordView × Cursor)} x) (fault_first f e [] others (sym (split_faults at f read) ∙ is))

abbrev Refusal : Arch → List FullCieView → Cursor → RecordFault → Type 0
Refusal arch before at e = (ps : List RawRecordView) × (vs : List EntryView) × FailsFrom arch before ps vs at e

fails_from : (arch : Arch) (section cies : List ℕ) (before : List FullCieView) (xs : List SplitRecord) (at : Cursor) (e : RecordFault) → cies ≡ map place_of before → All (IsAgain arch section) before → IsAt section at → records_from at ≡ xs
    → entries_in arch section cies xs ≡ failed e → Refusal arch before at e
unfolding entries_in
fails_from arch section cies before [] at e is known here raw h = absurd (not_both _ e h)
fails_from arch section cies before (Err x ∷ others) at e is known here raw h =
    let same : x ≡ e = fault_same {X = List EntryView} x e h in
    ([], [], inl (split_fails at e (unsplit at x others (raw_record_at at) raw refl ∙ ap (λ (y : RecordFault). failed {X = Option (RawRecordView × Cursor)} y) same)))
fails_from arch section cies before (Ok p ∷ others) at e is known here raw h =
    let n = next_of at p others raw (raw_record_at at) refl in
    elim (split (entry_at arch section cies p) _ e h) [
      | inl one ↦ ([], [], inr (p, n.after, n.stands, entry_fails arch section before p e known (ap (λ (cs : List ℕ). entry_at arch section cs p) (sym is) ∙ one)))
      | inr v ↦
          let fields = entry_stands arch section before p v.0 known (ap (λ (cs : List ℕ). entry_at arch section cs p) (sym is) ∙ v.1) in
          elim (split (entries_in arch section (with_place cies p) others) _ e v.2) [
            | inl rest ↦
                let r = fails_from arch section (with_place cies p) (with_cie before v.0) others n.after e (places_by cies before arch p v.0 is fields)
                (known_by arch section before at p n.after v.0 here n.stands known fields) (at_after section at p n.after here n.stands) n.rest rest in
                (p ∷ r.0, v.0 ∷ r.1, (n.after, n.stands, fields, r.2))
            | inr w ↦ absurd (not_both _ e w.2)
          ]
    ]

pub is_refused : (arch : Arch) (section : List ℕ) (e : RecordFault) → entries_of arch section ≡ failed e → AreReadAs arch section (Err e)
unfolding entries_of
is_refused arch section e h = fails_from arch section [] [] (records_of section) (start section) e refl (All-nil (IsAgain arch section)) (at_start section) refl h
