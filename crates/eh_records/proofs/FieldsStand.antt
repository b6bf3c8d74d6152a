-- Each field that is there is read, and each that is read is there.
use Rattle.std.specs.Prelude.{◌≢◌, ◌==◌, ◌||◌, ◌&&◌, nat_lt, is_some}
use Rattle.std.proofs.Common.{◌≡◌, ◌⊎◌, ℕ, ℤ, ◌%◌, ◌<◌, ◌≤◌, Bool, true, false, cond, List, [], ◌∷◌, ◌++◌, length, take, Option, Some, None, Result, Ok, Err, refl, sym, ap, subst, ◌∙◌, arith, inl, inr, eq-eqb, ne_eqb, if◌then◌else◌}
use Rattle.std.proofs.lemmas.Bool.{eqb-true, eqb-false, ltb-true, ltb-false}
use Rattle.byteorder.specs.Endian.{little_number}
use Rattle.sf_bytes.specs.Cursor.{Cursor, Read, past, number_at, part_at}
use Rattle.sf_bytes.specs.Leb.{Uleb, Sleb, uleb_at, sleb_at}
use Rattle.sf_bytes.specs.Standing.{Stands, Number, Bytes, Text}
use Rattle.sf_bytes.specs.Text.{text_at}
use Rattle.sf_bytes.specs.declared.fault.ByteFault.TheVariants as byte_faults
use Rattle.sf_bytes.proofs.Fields.{number_takes, number_again, part_takes, part_again}
use Rattle.sf_bytes.proofs.Lebs.{uleb_takes, uleb_again, sleb_takes, sleb_again}
use Rattle.sf_bytes.proofs.Texts.{text_takes, text_again}
use Rattle.sf_model.specs.declared.machine.Arch.{Arch}
use Rattle.sf_model.specs.declared.machine.Key.TheVariants as keys
use Rattle.eh_pointer.specs.declared.fault.PointerFault.{PointerFault}
use Rattle.eh_pointer.specs.declared.fault.PointerFault.TheVariants as pointer_faults
use Rattle.eh_pointer.specs.Pointer.{pointer_width, usable_width, format_of, above_format}
use Rattle.eh_pointer.specs.Skipping.{passed, passed_width, pointer_passed}
use Rattle.eh_records.specs.declared.fault.RecordFault.{RecordFault}
use Rattle.eh_records.specs.declared.fault.RecordFault.TheVariants as faults
use Rattle.eh_records.specs.Augmentation.{Form, AugmentationView, plain_augmentation, has_key_letter, is_letter, are_letters, letters_in, letters_at, data_at, form_of, form_at, personality_field, personality_in, personality_at, letter_at, augmentation_by}
use Rattle.eh_records.proofs.LetterLoop.{is_new}
use Rattle.eh_records.specs.Cie.{CieView, FullCieView, version_at, return_address_register_at, passed_data, augmentation_at, cie_of}
use Rattle.eh_records.specs.RawRecord.{RawRecordView}
use Rattle.eh_records.specs.Fde.{FdeView, read_there, lsda_of_width, lsda_in, lsda_at, entry_of}
use Rattle.eh_records.specs.Fields.{PointerStands, PassedStands, StringStands, LetterValue, pointers, personality, lsda, signal, key_b, PersonalityStands, LetterValueStands, LetterValuesStand, with_letter_value, with_letter_values, DataStands, AugmentationStands, ReturnAddressRegisterStands, CieStands, LsdaStands, FrameDataStands, FdeStands}
use Rattle.eh_records.specs.Step.{Step, ◌>>=◌, at_field, PointerField, number_field, uleb_field, sleb_field, text_field, part_field, pointer_field}
use Rattle.eh_records.proofs.RawRecords.{through, then_is, ok_same}

-- ---- one field
placed_is : {X : Type 0} (place : ℕ) (r : Read X) (x : X × Cursor) → at_field place r ≡ Ok x → r ≡ Ok x
placed_is place (Ok y) x e = let same : y ≡ x = ok_same y x e in ap (λ z. Ok z) same
placed_is place (Err f) x e = absurd cc

placed_ok : {X : Type 0} (place : ℕ) (r : Read X) (x : X × Cursor) → r ≡ Ok x → at_field place r ≡ Ok x
placed_ok {X = X} place r x e = ap (λ (s : Read X). at_field place s) e

pub number_stands : (n : ℕ) (at : Cursor) (x : ℕ × Cursor) → number_field n at ≡ Ok x → Stands (Number n) x.0 at x.1
unfolding number_field
number_stands n at x e = number_takes n at x.0 x.1 (placed_is at.place (number_at n at) x e)

pub number_read : (n : ℕ) (at : Cursor) (v : ℕ) (after : Cursor) → Stands (Number n) v at after → number_field n at ≡ Ok (v, after)
unfolding number_field
number_read n at v after s = placed_ok at.place (number_at n at) (v, after) (number_again n at v after s)

pub uleb_stands : (at : Cursor) (x : ℕ × Cursor) → uleb_field at ≡ Ok x → Stands Uleb x.0 at x.1
unfolding uleb_field
uleb_stands at x e = uleb_takes at x.0 x.1 (placed_is at.place (uleb_at at) x e)

pub uleb_read : (at : Cursor) (v : ℕ) (after : Cursor) → Stands Uleb v at after → uleb_field at ≡ Ok (v, after)
unfolding uleb_field
uleb_read at v after s = placed_ok at.place (uleb_at at) (v, after) (uleb_again at v after s)

pub sleb_stands : (at : Cursor) (x : ℤ × Cursor) → sleb_field at ≡ Ok x → Stands Sleb x.0 at x.1
unfolding sleb_field
sleb_stands at x e = sleb_takes at x.0 x.1 (placed_is at.place (sleb_at at) x e)

pub sleb_read : (at : Cursor) (z : ℤ) (after : Cursor) → Stands Sleb z at after → sleb_field at ≡ Ok (z, after)
unfolding sleb_field
sleb_read at z after s = placed_ok at.place (sleb_at at) (z, after) (sleb_again at z after s)

pub text_stands : (at : Cursor) (x : List ℕ × Cursor) → text_field at ≡ Ok x → Stands Text x.0 at x.1
unfolding text_field
text_stands at x e = text_takes at x.0 x.1 (placed_is at.place (text_at at) x e)

pub text_read : (at : Cursor) (text : List ℕ) (after : Cursor) → Stands Text text at after → text_field at ≡ Ok (text, after)
unfolding text_field
text_read at text after s = placed_ok at.place (text_at at) (text, after) (text_again at text after s)

part_stands : (n : ℕ) (at : Cursor) (x : Cursor × Cursor) → part_field n at ≡ Ok x → Stands (Bytes n) x.0.left at x.1 × (x.0.place ≡ at.place)
unfolding part_field
part_stands n at x e = part_takes n at x.0 x.1 (placed_is at.place (part_at n at) x e)

part_read : (n : ℕ) (at part after : Cursor) → Stands (Bytes n) part.left at after → part.place ≡ at.place → part_field n at ≡ Ok (part, after)
unfolding part_field
part_read n at part after s place =
    placed_ok at.place (part_at n at) (record { place = at.place; left = part.left }, after) (part_again n at part.left after s)
    ∙ ap (λ (k : ℕ). Ok (record { place = k; left = part.left }, after)) (sym place)

-- ---- pointer fields
pub pointer_stands : (width : ℕ) (at : Cursor) (x : PointerField × Cursor) → pointer_field width at ≡ Ok x → PointerStands width x.0 at x.1
unfolding pointer_field
pointer_stands width at x e =
    let t = through (number_field width at) _ x e in
    let same : (record { place = at.place; width = width; raw = t.first.0 }, t.first.1) ≡ x = ok_same _ x t.rest in
    subst (λ (y : PointerField × Cursor). PointerStands width y.0 at y.1) same (record { place = refl; width_is = refl; number = number_stands width at t.first t.read })

pub pointer_read : (width : ℕ) (f : PointerField) (at after : Cursor) → PointerStands width f at after → pointer_field width at ≡ Ok (f, after)
unfolding pointer_field
pointer_read width f at after s =
    ap (λ (r : Step ℕ). r >>= λ raw. Ok (record { place = at.place; width = width; raw = raw.0 }, raw.1)) (number_read width at f.raw after s.number)
    ∙ ap (λ (p : ℕ). Ok (record { place = p; width = width; raw = f.raw }, after)) (sym s.place)
    ∙ ap (λ (w : ℕ). Ok (record { place = f.place; width = w; raw = f.raw }, after)) (sym s.width_is)

-- ---- augmentation data
pub data_stands : (at : Cursor) (x : Cursor × Cursor) → data_at at ≡ Ok x → DataStands x.0 at x.1
unfolding data_at
data_stands at x e =
    let t = through (uleb_field at) _ x e in
    let p = part_stands t.first.0 t.first.1 x t.rest in
    record { len = t.first.0; after = t.first.1; len_stands = uleb_stands at t.first t.read; bytes_stand = p.0; place = p.1 }

pub data_read : (part at after : Cursor) → DataStands part at after → data_at at ≡ Ok (part, after)
unfolding data_at
data_read part at after s =
    ap (λ (r : Step ℕ). r >>= λ len. part_field len.0 len.1) (uleb_read at s.len s.after s.len_stands)
    ∙ part_read s.len s.after part after s.bytes_stand s.place

-- ---- the form of function pointers
form_by : (place encoding : ℕ) (width : Option ℕ) (after : Cursor) (x : Form × Cursor) → form_of place encoding width after ≡ Ok x → (x.0.encoding ≡ encoding) × (width ≡ Some x.0.width) × (x.1 ≡ after)
form_by place encoding (Some width) after x e =
    let same : (record { encoding = encoding; width = width }, after) ≡ x = ok_same _ x e in
    (sym (ap (λ (y : Form × Cursor). y.0.encoding) same), ap (λ (y : Form × Cursor). Some y.0.width) same, sym (ap (λ (y : Form × Cursor). y.1) same))
form_by place encoding None after x e = absurd cc

form_stands : (at : Cursor) (x : Form × Cursor) → form_at at ≡ Ok x → Stands (Number 1) x.0.encoding at x.1 × (usable_width x.0.encoding ≡ Some x.0.width)
unfolding form_at
form_stands at x e =
    let t = through (number_field 1 at) _ x e in
    let f = form_by at.place t.first.0 (usable_width t.first.0) t.first.1 x t.rest in
    let byte : Stands (Number 1) t.first.0 at t.first.1 = number_stands 1 at t.first t.read in (
      subst (λ (c : Cursor). Stands (Number 1) x.0.encoding at c) (sym f.2) (subst (λ (n : ℕ). Stands (Number 1) n at t.first.1) (sym f.0) byte),
      ap usable_width f.0 ∙ f.1,
    )

form_read : (form : Form) (at after : Cursor) → Stands (Number 1) form.encoding at after → usable_width form.encoding ≡ Some form.width → form_at at ≡ Ok (form, after)
unfolding form_at
form_read form at after byte width =
    ap (λ (r : Step ℕ). r >>= λ e. form_of at.place e.0 (usable_width e.0) e.1) (number_read 1 at form.encoding after byte)
    ∙ ap (λ (w : Option ℕ). form_of at.place form.encoding w after) width

-- ---- the personality pointer
passed_ok : {X : Type 0} (r : Read X) (after : Cursor) → passed r ≡ Ok after → (x : X) × (r ≡ Ok (x, after))
passed_ok (Ok (x, c)) after e = let same : c ≡ after = cc in (x, ap (λ (d : Cursor). Ok (x, d)) same)
passed_ok (Err f) after e = absurd cc

passed_by : (encoding : ℕ) (at after : Cursor) (b c : Bool) → (format_of encoding == 1) ≡ b → (format_of encoding == 9) ≡ c
    → (if b then passed (uleb_at at) else if c then passed (sleb_at at) else Err pointer_faults.Encoding) ≡ Ok after → PassedStands None encoding None at after
passed_by encoding at after true c tb tc e =
    let r = passed_ok (uleb_at at) after e in
    inl (eqb-true _ _ tb, (r.0, uleb_takes at r.0 after r.1))
passed_by encoding at after false true tb tc e =
    let r = passed_ok (sleb_at at) after e in
    inr (eqb-true _ _ tc, (r.0, sleb_takes at r.0 after r.1))
passed_by encoding at after false false tb tc e = absurd cc

in_some : (encoding_place encoding : ℕ) (at : Cursor) (width : ℕ) (x : Option PointerField × Cursor) (r : Result Cursor PointerFault) → pointer_width encoding ≡ Some width
    → personality_in encoding_place encoding at r ≡ Ok x → PassedStands (Some width) encoding x.0 at x.1
in_some encoding_place encoding at width x (Ok after) is e =
    let here : personality_field (Some width) at after ≡ Ok x = ap (λ (o : Option ℕ). personality_field o at after) (sym is) ∙ e in
    let t = through (pointer_field width at) (λ f. Ok (Some f.0, f.1)) x here in
    let same : (Some t.first.0, t.first.1) ≡ x = ok_same _ x t.rest in
    subst (λ (y : Option PointerField × Cursor). PassedStands (Some width) encoding y.0 at y.1) same (pointer_stands width at t.first t.read)
in_some encoding_place encoding at width x (Err f) is e = absurd cc

in_none : (encoding_place encoding : ℕ) (at : Cursor) (x : Option PointerField × Cursor) (r : Result Cursor PointerFault) → pointer_width encoding ≡ None → passed_width None encoding at ≡ r
    → personality_in encoding_place encoding at r ≡ Ok x → PassedStands None encoding x.0 at x.1
in_none encoding_place encoding at x (Ok after) is passed e =
    let here : personality_field None at after ≡ Ok x = ap (λ (o : Option ℕ). personality_field o at after) (sym is) ∙ e in
    let same : (None, after) ≡ x = ok_same _ x here in
    subst (λ (y : Option PointerField × Cursor). PassedStands None encoding y.0 at y.1) same (passed_by encoding at after (format_of encoding == 1) (format_of encoding == 9) refl refl passed)
in_none encoding_place encoding at x (Err f) is passed e = absurd cc

in_width : (width : Option ℕ) (encoding_place encoding : ℕ) (at : Cursor) (x : Option PointerField × Cursor) → pointer_width encoding ≡ width
    → personality_in encoding_place encoding at (passed_width width encoding at) ≡ Ok x → PassedStands width encoding x.0 at x.1
in_width None encoding_place encoding at x is e = in_none encoding_place encoding at x (passed_width None encoding at) is refl e
in_width (Some width) encoding_place encoding at x is e = in_some encoding_place encoding at width x (passed_width (Some width) encoding at) is e

in_application : (b : Bool) (encoding_place encoding : ℕ) (at : Cursor) (x : Option PointerField × Cursor) → (above_format encoding % 8 == 5) ≡ b
    → personality_in encoding_place encoding at (if b then Err pointer_faults.Encoding else passed_width (pointer_width encoding) encoding at) ≡ Ok x
    → (above_format encoding % 8 ≢ 5) × PassedStands (pointer_width encoding) encoding x.0 at x.1
in_application true encoding_place encoding at x t e = absurd cc
in_application false encoding_place encoding at x t e = (eqb-false _ _ t, in_width (pointer_width encoding) encoding_place encoding at x refl e)

in_pointer : (encoding_place encoding : ℕ) (at : Cursor) (x : Option PointerField × Cursor) → personality_in encoding_place encoding at (pointer_passed encoding at) ≡ Ok x
    → (above_format encoding % 8 ≢ 5) × PassedStands (pointer_width encoding) encoding x.0 at x.1
unfolding pointer_passed
in_pointer encoding_place encoding at x e = in_application (above_format encoding % 8 == 5) encoding_place encoding at x refl e

abbrev PointerChoice : (encoding : ℕ) (field : Option PointerField) (from to : Cursor) → Type 0
PointerChoice encoding field from to =
    ((encoding ≡ 255) × (field ≡ None) × (to ≡ from)) ⊎ ((encoding ≢ 255) × (above_format encoding % 8 ≢ 5) × PassedStands (pointer_width encoding) encoding field from to)

by_omit : (b : Bool) (place encoding : ℕ) (after : Cursor) (x : Option PointerField × Cursor) → (encoding == 255) ≡ b
    → (if b then Ok (None, after) else personality_in place encoding after (pointer_passed encoding after)) ≡ Ok x → PointerChoice encoding x.0 after x.1
by_omit true place encoding after x t e =
    let same : (None, after) ≡ x = ok_same _ x e in
    inl (eqb-true _ _ t, sym (ap (λ (y : Option PointerField × Cursor). y.0) same), sym (ap (λ (y : Option PointerField × Cursor). y.1) same))
by_omit false place encoding after x t e =
    let p = in_pointer place encoding after x e in
    inr (eqb-false _ _ t, p.0, p.1)

personality_stands : (at : Cursor) (x : Option PointerField × Cursor) → personality_at at ≡ Ok x → PersonalityStands x.0 at x.1
unfolding personality_at
personality_stands at x e =
    let t = through (number_field 1 at) _ x e in
    record {
      encoding = t.first.0;
      after = t.first.1;
      encoding_stands = number_stands 1 at t.first t.read;
      pointer_stands = by_omit (t.first.0 == 255) at.place t.first.0 t.first.1 x refl t.rest;
    }

as_bytes : (n : ℕ) (v : ℕ) (from to : Cursor) → (s : Stands (Number n) v from to) → Stands (Bytes n) s.run from to
as_bytes n v from to s = record { run = s.run; kind = record { width = s.kind.width; value = refl }; passes = s.passes }

passes_width : (width : Option ℕ) (encoding_place encoding : ℕ) (field : Option PointerField) (at after : Cursor) → pointer_width encoding ≡ width → PassedStands width encoding field at after
    → personality_in encoding_place encoding at (passed_width width encoding at) ≡ Ok (field, after)
unfolding as_bytes
passes_width (Some width) encoding_place encoding None at after is s = absurd s
passes_width (Some width) encoding_place encoding (Some field) at after is s =
    let bytes = as_bytes width field.raw at after s.number in
    let read : passed (part_at width at) ≡ Ok after = ap (λ (r : Read Cursor). passed r) (part_again width at bytes.run after bytes) in
    ap (personality_in encoding_place encoding at) read
    ∙ ap (λ (o : Option ℕ). personality_field o at after) is
    ∙ ap (λ (r : Step PointerField). r >>= λ f. Ok (Some f.0, f.1)) (pointer_read width field at after s)
passes_width None encoding_place encoding (Some field) at after is s = absurd s
passes_width None encoding_place encoding None at after is (inl s) =
    let test : (format_of encoding == 1) ≡ true = eq-eqb _ _ s.0 in
    let read : passed_width None encoding at ≡ Ok after =
    ap (λ (b : Bool). if b then passed (uleb_at at) else if format_of encoding == 9 then passed (sleb_at at) else Err pointer_faults.Encoding) test
    ∙ ap (λ (r : Read ℕ). passed r) (uleb_again at s.1.0 after s.1.1) in
    ap (personality_in encoding_place encoding at) read ∙ ap (λ (o : Option ℕ). personality_field o at after) is
passes_width None encoding_place encoding None at after is (inr s) =
    let other : (format_of encoding == 1) ≡ false = ne_eqb _ _ (λ h. let clash : 9 ≡ 1 = sym s.0 ∙ h in omega (arith, clash)) in
    let test : (format_of encoding == 9) ≡ true = eq-eqb _ _ s.0 in
    let read : passed_width None encoding at ≡ Ok after =
    ap (λ (b : Bool). if b then passed (uleb_at at) else if format_of encoding == 9 then passed (sleb_at at) else Err pointer_faults.Encoding) other
    ∙ ap (λ (b : Bool). if b then passed (sleb_at at) else Err pointer_faults.Encoding) test
    ∙ ap (λ (r : Read ℤ). passed r) (sleb_again at s.1.0 after s.1.1) in
    ap (personality_in encoding_place encoding at) read ∙ ap (λ (o : Option ℕ). personality_field o at after) is

passes : (encoding_place encoding : ℕ) (field : Option PointerField) (at after : Cursor) → (above_format encoding % 8 ≢ 5) → PassedStands (pointer_width encoding) encoding field at after
    → personality_in encoding_place encoding at (pointer_passed encoding at) ≡ Ok (field, after)
unfolding pointer_passed
passes encoding_place encoding field at after unaligned s =
    ap (λ (b : Bool). personality_in encoding_place encoding at (if b then Err pointer_faults.Encoding else passed_width (pointer_width encoding) encoding at)) (ne_eqb _ _ unaligned)
    ∙ passes_width (pointer_width encoding) encoding_place encoding field at after refl s

chosen : (place encoding : ℕ) (field : Option PointerField) (from to : Cursor) → PointerChoice encoding field from to
    → (if encoding == 255 then Ok (None, from) else personality_in place encoding from (pointer_passed encoding from)) ≡ Ok (field, to)
chosen place encoding field from to (inl s) =
    ap (λ (b : Bool). if b then Ok (None, from) else personality_in place encoding from (pointer_passed encoding from)) (eq-eqb _ _ s.0)
    ∙ ap (λ (f : Option PointerField). Ok (f, from)) (sym s.1)
    ∙ ap (λ (c : Cursor). Ok (field, c)) (sym s.2)
chosen place encoding field from to (inr s) =
    ap (λ (b : Bool). if b then Ok (None, from) else personality_in place encoding from (pointer_passed encoding from)) (ne_eqb _ _ s.0)
    ∙ passes place encoding field from to s.1 s.2

personality_read : (field : Option PointerField) (at after : Cursor) → PersonalityStands field at after → personality_at at ≡ Ok (field, after)
unfolding personality_at
personality_read field at after s =
    ap (λ (r : Step ℕ). r >>= λ e. if e.0 == 255 then Ok (None, e.1) else personality_in at.place e.0 e.1 (pointer_passed e.0 e.1)) (number_read 1 at s.encoding s.after s.encoding_stands)
    ∙ chosen at.place s.encoding field s.after after s.pointer_stands

-- ---- letters
pub letter_value_read : (letter : ℕ) (s : LetterValue) (augmentation : AugmentationView) (from to : Cursor) → LetterValueStands letter s from to → letter_at letter augmentation from ≡ Ok (with_letter_value augmentation s, to)
unfolding letter_at
letter_value_read letter (pointers form) augmentation from to h =
    ap (λ (l : ℕ). letter_at l augmentation from) h.0 ∙ ap (λ (r : Step Form). r >>= λ f. Ok (record augmentation { pointers = f.0 }, f.1)) (form_read form from to h.1 h.2)
letter_value_read letter (personality field) augmentation from to h =
    ap (λ (l : ℕ). letter_at l augmentation from) h.0 ∙ ap (λ (r : Step (Option PointerField)). r >>= λ p. Ok (record augmentation { personality = p.0 }, p.1)) (personality_read field from to h.1)
letter_value_read letter (lsda encoding) augmentation from to h =
    ap (λ (l : ℕ). letter_at l augmentation from) h.0 ∙ ap (λ (r : Step ℕ). r >>= λ e. Ok (record augmentation { lsda = Some e.0 }, e.1)) (number_read 1 from encoding to h.1)
letter_value_read letter signal augmentation from to h = ap (λ (l : ℕ). letter_at l augmentation from) h.0 ∙ ap (λ (c : Cursor). Ok (record augmentation { signal = true }, c)) (sym h.1)
letter_value_read letter key_b augmentation from to h = ap (λ (l : ℕ). letter_at l augmentation from) h.0 ∙ ap (λ (c : Cursor). Ok (record augmentation { key = keys.B }, c)) (sym h.1)

pub record Says (letter : ℕ) (augmentation : AugmentationView) (at : Cursor) (x : AugmentationView × Cursor) : Type 0 where
  pub value : LetterValue
  pub stands : LetterValueStands letter value at x.1
  pub is : x.0 ≡ with_letter_value augmentation value

letter_by : (r p l s : Bool) (letter : ℕ) (augmentation : AugmentationView) (at : Cursor) (x : AugmentationView × Cursor) → (letter == 82) ≡ r → (letter == 80) ≡ p → (letter == 76) ≡ l → (letter == 83) ≡ s
    → (p ≡ false → l ≡ false → s ≡ false → r ≡ false → letter ≡ 66)
    → (
    if r then (form_at at >>= λ f. Ok (record augmentation { pointers = f.0 }, f.1))
    else if p then (personality_at at >>= λ q. Ok (record augmentation { personality = q.0 }, q.1))
    else if l then (number_field 1 at >>= λ e. Ok (record augmentation { lsda = Some e.0 }, e.1))
    else if s then Ok (record augmentation { signal = true }, at)
    else Ok (record augmentation { key = keys.B }, at)
    ) ≡ Ok x
    → Says letter augmentation at x
letter_by true p l s letter augmentation at x tr tp tl ts b e =
    let t = through (form_at at) _ x e in
    let f = form_stands at t.first t.read in
    let same : (record augmentation { pointers = t.first.0 }, t.first.1) ≡ x = ok_same _ x t.rest in
    subst (λ (y : AugmentationView × Cursor). Says letter augmentation at y) same (record { value = pointers t.first.0; stands = (eqb-true _ _ tr, f.0, f.1); is = refl })
letter_by false true l s letter augmentation at x tr tp tl ts b e =
    let t = through (personality_at at) _ x e in
    let same : (record augmentation { personality = t.first.0 }, t.first.1) ≡ x = ok_same _ x t.rest in
    subst (λ (y : AugmentationView × Cursor). Says letter augmentation at y) same (record { value = personality t.first.0; stands = (eqb-true _ _ tp, personality_stands at t.first t.read); is = refl })
letter_by false false true s letter augmentation at x tr tp tl ts b e =
    let t = through (number_field 1 at) _ x e in
    let same : (record augmentation { lsda = Some t.first.0 }, t.first.1) ≡ x = ok_same _ x t.rest in
    subst (λ (y : AugmentationView × Cursor). Says letter augmentation at y) same (record { value = lsda t.first.0; stands = (eqb-true _ _ tl, number_stands 1 at t.first t.read); is = refl })
letter_by false false false true letter augmentation at x tr tp tl ts b e =
    let same : (record augmentation { signal = true }, at) ≡ x = ok_same _ x e in
    subst (λ (y : AugmentationView × Cursor). Says letter augmentation at y) same (record { value = signal; stands = (eqb-true _ _ ts, refl); is = refl })
letter_by false false false false letter augmentation at x tr tp tl ts b e =
    let same : (record augmentation { key = keys.B }, at) ≡ x = ok_same _ x e in
    subst (λ (y : AugmentationView × Cursor). Says letter augmentation at y) same (record { value = key_b; stands = (b refl refl refl refl, refl); is = refl })

last_letter : (r p s l b k : Bool) → (r || p || s || l || (b && k)) ≡ true → p ≡ false → l ≡ false → s ≡ false → r ≡ false → b ≡ true
last_letter true p s l b k h ep el es er = absurd cc
last_letter false true s l b k h ep el es er = absurd cc
last_letter false false true l b k h ep el es er = absurd cc
last_letter false false false true b k h ep el es er = absurd cc
last_letter false false false false true k h ep el es er = refl
last_letter false false false false false k h ep el es er = absurd cc

pub letter_value_stands : (arch : Arch) (letter : ℕ) (augmentation : AugmentationView) (at : Cursor) (x : AugmentationView × Cursor) → is_letter arch letter ≡ true → letter_at letter augmentation at ≡ Ok x → Says letter augmentation at x
unfolding letter_at
letter_value_stands arch letter augmentation at x known e =
    letter_by (letter == 82) (letter == 80) (letter == 76) (letter == 83) letter augmentation at x refl refl refl refl
    (λ ep el es er. eqb-true _ _ (last_letter (letter == 82) (letter == 80) (letter == 83) (letter == 76) (letter == 66) (has_key_letter arch) known ep el es er))
    e

-- each letter is known
abbrev pub AreKnown : Arch → List ℕ → Type 0
AreKnown arch [] = Unit {0}
AreKnown arch (b ∷ bs) = (is_letter arch b ≡ true) × AreKnown arch bs

both : (a b : Bool) → (a && b) ≡ true → (a ≡ true) × (b ≡ true)
both true b h = (refl, h)
both false b h = absurd cc

are_known : (arch : Arch) (before letters : List ℕ) → are_letters arch before letters ≡ true → AreKnown arch letters
unfolding are_letters
are_known arch before [] h = tt
are_known arch before (b ∷ bs) h =
    let p = both (is_new arch before b) (are_letters arch (before ++ b ∷ []) bs) h in
    ((both (is_letter arch b) _ p.0).0, are_known arch (before ++ b ∷ []) bs p.1)

letter_values_read : (letters : List ℕ) (values : List LetterValue) (augmentation : AugmentationView) (at : Cursor) → LetterValuesStand letters values at → augmentation_by letters augmentation at ≡ Ok (with_letter_values augmentation values)
unfolding augmentation_by
letter_values_read [] [] augmentation at h = refl
letter_values_read [] (s ∷ values) augmentation at h = absurd h
letter_values_read (b ∷ letters) [] augmentation at h = absurd h
letter_values_read (b ∷ letters) (s ∷ values) augmentation at h =
    ap (λ (r : Step AugmentationView). r >>= λ next. augmentation_by letters next.0 next.1) (letter_value_read b s augmentation at h.0 h.1)
    ∙ letter_values_read letters values (with_letter_value augmentation s) h.0 h.2

record MatchInstructions (letters : List ℕ) (augmentation : AugmentationView) (at : Cursor) (result : AugmentationView) : Type 0 where
  values : List LetterValue
  stand : LetterValuesStand letters values at
  is : result ≡ with_letter_values augmentation values

letter_values_stand : (arch : Arch) (letters : List ℕ) (augmentation : AugmentationView) (at : Cursor) (result : AugmentationView) → AreKnown arch letters → augmentation_by letters augmentation at ≡ Ok result → MatchInstructions letters augmentation at result
unfolding augmentation_by
letter_values_stand arch [] augmentation at result known e = record { values = []; stand = tt; is = sym (ok_same augmentation result e) }
letter_values_stand arch (b ∷ letters) augmentation at result known e =
    let t = through (letter_at b augmentation at) _ result e in
    let s = letter_value_stands arch b augmentation at t.first known.0 t.read in
    let rest = letter_values_stand arch letters t.first.0 t.first.1 result known.1 t.rest in
    record {
      values = s.value ∷ rest.values;
      stand = (t.first.1, s.stands, rest.stand);
      is = rest.is ∙ ap (λ (d : AugmentationView). with_letter_values d rest.values) s.is;
    }

-- ---- the augmentation string
pub string_read : (arch : Arch) (letters : Option (List ℕ)) (at after : Cursor) → StringStands arch letters at after → letters_at arch at ≡ Ok (letters, after)
unfolding letters_at
string_read arch None at after s = ap (λ (r : Step (List ℕ)). r >>= λ text. letters_in arch at.place text.0 text.1) (text_read at [] after s)
string_read arch (Some letters) at after s =
    ap (λ (r : Step (List ℕ)). r >>= λ text. letters_in arch at.place text.0 text.1) (text_read at (122 ∷ letters) after s.0)
    ∙ ap (λ (b : Bool). if b then Ok (Some letters, after) else Err (faults.Augmentation at.place)) s.1

letters_by : (arch : Arch) (place b : ℕ) (bs : List ℕ) (at after : Cursor) (x : Option (List ℕ) × Cursor) (z l : Bool) → (b == 122) ≡ z → are_letters arch [] bs ≡ l → Stands Text (b ∷ bs) at after
    → (if z && l then Ok (Some bs, after) else Err (faults.Augmentation place)) ≡ Ok x → StringStands arch x.0 at x.1
letters_by arch place b bs at after x true true tz tl s e =
    let same : (Some bs, after) ≡ x = ok_same _ x e in
    let text : Stands Text (122 ∷ bs) at after = subst (λ (n : ℕ). Stands Text (n ∷ bs) at after) (eqb-true _ _ tz) s in
    subst (λ (y : Option (List ℕ) × Cursor). StringStands arch y.0 at y.1) same (text, tl)
letters_by arch place b bs at after x true false tz tl s e = absurd cc
letters_by arch place b bs at after x false l tz tl s e = absurd cc

string_by : (arch : Arch) (place : ℕ) (text : List ℕ) (at after : Cursor) (x : Option (List ℕ) × Cursor) → Stands Text text at after → letters_in arch place text after ≡ Ok x → StringStands arch x.0 at x.1
string_by arch place [] at after x s e =
    let same : (None, after) ≡ x = ok_same _ x e in
    subst (λ (y : Option (List ℕ) × Cursor). StringStands arch y.0 at y.1) same s
string_by arch place (b ∷ bs) at after x s e = letters_by arch place b bs at after x (b == 122) (are_letters arch [] bs) refl refl s e

pub string_stands : (arch : Arch) (at : Cursor) (x : Option (List ℕ) × Cursor) → letters_at arch at ≡ Ok x → StringStands arch x.0 at x.1
unfolding letters_at
string_stands arch at x e =
    let t = through (text_field at) _ x e in
    string_by arch at.place t.first.0 at t.first.1 x (text_stands at t.first t.read) t.rest

pub string_known : (arch : Arch) (letters : List ℕ) (from to : Cursor) → StringStands arch (Some letters) from to → AreKnown arch letters
string_known arch letters from to s = are_known arch [] letters s.1

-- ---- what the augmentation gives
data_augmentation : (after : Cursor) (r : Result AugmentationView RecordFault) (x : AugmentationView × Cursor) → passed_data after r ≡ Ok x → (r ≡ Ok x.0) × (x.1 ≡ after)
data_augmentation after (Ok augmentation) x e =
    let same : (augmentation, after) ≡ x = ok_same _ x e in
    (ap (λ (y : AugmentationView × Cursor). Ok y.0) same, sym (ap (λ (y : AugmentationView × Cursor). y.1) same))
data_augmentation after (Err f) x e = absurd cc

augmentation_stands : (arch : Arch) (letters : Option (List ℕ)) (before start : Cursor) (at : Cursor) (x : AugmentationView × Cursor) → StringStands arch letters before start → augmentation_at letters at ≡ Ok x → AugmentationStands letters x.0 at x.1
unfolding augmentation_at
augmentation_stands arch None before start at x s e =
    let same : (plain_augmentation, at) ≡ x = ok_same _ x e in
    (sym (ap (λ (y : AugmentationView × Cursor). y.0) same), sym (ap (λ (y : AugmentationView × Cursor). y.1) same))
augmentation_stands arch (Some letters) before start at x s e =
    let t = through (data_at at) _ x e in
    let d = data_augmentation t.first.1 (augmentation_by letters plain_augmentation t.first.0) x t.rest in
    let all = letter_values_stand arch letters plain_augmentation t.first.0 x.0 (string_known arch letters before start s) d.0 in
    (t.first.0, all.values, subst (DataStands t.first.0 at) (sym d.1) (data_stands at t.first t.read), all.stand, all.is)

augmentation_read : (letters : Option (List ℕ)) (augmentation : AugmentationView) (at after : Cursor) → AugmentationStands letters augmentation at after → augmentation_at letters at ≡ Ok (augmentation, after)
unfolding augmentation_at
augmentation_read None augmentation at after s = ap (λ (d : AugmentationView). Ok (d, at)) (sym s.0) ∙ ap (λ (c : Cursor). Ok (augmentation, c)) (sym s.1)
augmentation_read (Some letters) augmentation at after (inner, values, data_there, stand, together) =
    ap (λ (r : Step Cursor). r >>= λ data_. passed_data data_.1 (augmentation_by letters plain_augmentation data_.0)) (data_read inner at after data_there)
    ∙ ap (passed_data after) (letter_values_read letters values plain_augmentation inner stand)
    ∙ ap (λ (d : AugmentationView). Ok (d, after)) (sym together)

-- ---- common information entries
pub known_version : (version : ℕ) → (version ≡ 1) ⊎ (version ≡ 3) → ((version == 1) || (version == 3)) ≡ true
known_version version (inl is) = ap (λ (v : ℕ). (v == 1) || (v == 3)) is
known_version version (inr is) = ap (λ (v : ℕ). (v == 1) || (v == 3)) is

one_of : (one three : Bool) (version : ℕ) → (version == 1) ≡ one → (version == 3) ≡ three → (one || three) ≡ true → (version ≡ 1) ⊎ (version ≡ 3)
one_of true three version t1 t3 known = inl (eqb-true _ _ t1)
one_of false true version t1 t3 known = inr (eqb-true _ _ t3)
one_of false false version t1 t3 known = absurd cc

abbrev IsVersion : (version : ℕ) → (from to : Cursor) → Type 0
IsVersion version from to = Stands (Number 1) version from to × ((version ≡ 1) ⊎ (version ≡ 3))

version_by : (known : Bool) (at : Cursor) (byte x : ℕ × Cursor) → ((byte.0 == 1) || (byte.0 == 3)) ≡ known → number_field 1 at ≡ Ok byte
    → cond {A = Step ℕ} known (Ok byte) (Err (faults.CieVersion at.place)) ≡ Ok x → IsVersion x.0 at x.1
version_by true at byte x known read e =
    subst (λ (v : ℕ × Cursor). IsVersion v.0 at v.1) (ok_same byte x e) (number_stands 1 at byte read, one_of (byte.0 == 1) (byte.0 == 3) byte.0 refl refl known)
version_by false at byte x known read e = absurd cc

pub version_stands : (at : Cursor) (x : ℕ × Cursor) → version_at at ≡ Ok x → IsVersion x.0 at x.1
unfolding version_at
version_stands at x e =
    let byte = through (number_field 1 at) _ x e in
    version_by ((byte.first.0 == 1) || (byte.first.0 == 3)) at byte.first x refl byte.read byte.rest

pub version_read : (version : ℕ) (at after : Cursor) → Stands (Number 1) version at after → (version ≡ 1) ⊎ (version ≡ 3) → version_at at ≡ Ok (version, after)
unfolding version_at
version_read version at after byte known =
    then_is (number_field 1 at) _ _ _ (number_read 1 at version after byte)
    (ap (λ (b : Bool). cond {A = Step ℕ} b (Ok (version, after)) (Err (faults.CieVersion at.place))) (known_version version known))

pub register_read : (version register : ℕ) (at after : Cursor) → ReturnAddressRegisterStands version register at after → return_address_register_at version at ≡ Ok (register, after)
unfolding return_address_register_at
register_read version register at after (inl s) =
    ap (λ (v : ℕ). if v == 1 then number_field 1 at else uleb_field at) s.0 ∙ number_read 1 at register after s.1
register_read version register at after (inr s) =
    ap (λ (v : ℕ). if v == 1 then number_field 1 at else uleb_field at) s.0 ∙ uleb_read at register after s.1

register_by : (one : Bool) (version : ℕ) (at : Cursor) (x : ℕ × Cursor) → (version ≡ 1) ⊎ (version ≡ 3) → (version == 1) ≡ one → (if one then number_field 1 at else uleb_field at) ≡ Ok x → ReturnAddressRegisterStands version x.0 at x.1
register_by true version at x known t e = inl (eqb-true _ _ t, number_stands 1 at x e)
register_by false version at x (inl is) t e = absurd (eqb-false _ _ t is)
register_by false version at x (inr is) t e = inr (is, uleb_stands at x e)

pub register_stands : (version : ℕ) (at : Cursor) (x : ℕ × Cursor) → (version ≡ 1) ⊎ (version ≡ 3) → return_address_register_at version at ≡ Ok x → ReturnAddressRegisterStands version x.0 at x.1
unfolding return_address_register_at
register_stands version at x known e = register_by (version == 1) version at x known refl e

pub register_version : (version register : ℕ) (from to : Cursor) → ReturnAddressRegisterStands version register from to → (version ≡ 1) ⊎ (version ≡ 3)
register_version version register from to (inl s) = inl s.0
register_version version register from to (inr s) = inr s.0

pub cie_read : (arch : Arch) (p : RawRecordView) (c : FullCieView) → CieStands arch p c → cie_of arch p ≡ Ok c
unfolding cie_of
cie_read arch p c s =
    let known = register_version s.version s.numbers.return_address_register s.after_data_alignment_factor s.after_return_address_register s.return_address_register_stands in
    then_is (version_at p.body) _ _ _ (version_read s.version p.body s.after_version s.version_stands known)
    (then_is (letters_at arch s.after_version) _ _ _ (string_read arch s.letters s.after_version s.after_string s.string_stands)
    (then_is (uleb_field s.after_string) _ _ _ (uleb_read s.after_string s.numbers.code_alignment_factor s.after_code_alignment_factor s.code_alignment_factor_stands)
    (then_is (sleb_field s.after_code_alignment_factor) _ _ _ (sleb_read s.after_code_alignment_factor s.numbers.data_alignment_factor s.after_data_alignment_factor s.data_alignment_factor_stands)
    (then_is (return_address_register_at s.version s.after_data_alignment_factor) _ _ _
    (register_read s.version s.numbers.return_address_register s.after_data_alignment_factor s.after_return_address_register s.return_address_register_stands)
    (then_is (augmentation_at s.letters s.after_return_address_register) _ _ _ (augmentation_read s.letters s.augmentation s.after_return_address_register s.insns s.augmentation_stands)
    (ap (λ (v : FullCieView). Ok v) (sym s.entry)))))))

pub cie_stands : (arch : Arch) (p : RawRecordView) (c : FullCieView) → cie_of arch p ≡ Ok c → CieStands arch p c
unfolding cie_of
cie_stands arch p c e =
    let version = through (version_at p.body) _ c e in
    let letters = through (letters_at arch version.first.1) _ c version.rest in
    let code = through (uleb_field letters.first.1) _ c letters.rest in
    let factor = through (sleb_field code.first.1) _ c code.rest in
    let register = through (return_address_register_at version.first.0 factor.first.1) _ c factor.rest in
    let augmentation = through (augmentation_at letters.first.0 register.first.1) _ c register.rest in
    let byte = version_stands p.body version.first version.read in
    let string = string_stands arch version.first.1 letters.first letters.read in
    record {
      version = version.first.0;
      letters = letters.first.0;
      numbers = record { code_alignment_factor = code.first.0; data_alignment_factor = factor.first.0; return_address_register = register.first.0 };
      augmentation = augmentation.first.0;
      after_version = version.first.1;
      after_string = letters.first.1;
      after_code_alignment_factor = code.first.1;
      after_data_alignment_factor = factor.first.1;
      after_return_address_register = register.first.1;
      insns = augmentation.first.1;
      version_stands = byte.0;
      string_stands = string;
      code_alignment_factor_stands = uleb_stands letters.first.1 code.first code.read;
      data_alignment_factor_stands = sleb_stands code.first.1 factor.first factor.read;
      return_address_register_stands = register_stands version.first.0 factor.first.1 register.first byte.1 register.read;
      augmentation_stands = augmentation_stands arch letters.first.0 version.first.1 letters.first.1 register.first.1 augmentation.first string augmentation.read;
      entry = sym (ok_same _ c augmentation.rest);
    }

-- ---- frame description entries
abbrev with_raw : (width : ℕ) → Cursor → ℕ × Cursor → Step PointerField
with_raw width at raw = Ok (record { place = at.place; width = width; raw = raw.0 }, raw.1)

abbrev with_lsda : Option ℕ → Cursor × Cursor → Step (Option PointerField)
with_lsda encoding inner = Ok (lsda_in encoding inner.0, inner.1)

abbrev without_lsda : Cursor → Step (Option PointerField)
without_lsda at = Ok (None, at)

short_by : (b : Bool) (width : ℕ) (at : Cursor) (v : ℕ) → nat_lt (length at.left) width ≡ b → length at.left < width
    → read_there (at_field at.place (cond {A = Read ℕ} b (Err (byte_faults.Short at.place)) (Ok (v, past width at))) >>= with_raw width at) ≡ None
short_by true width at v t h = refl
short_by false width at v t h = let not : width ≤ length at.left = ltb-false _ _ t in absurd (omega (arith, not, h))

-- data that is too short has no pointer
short_none : (width : ℕ) (at : Cursor) → length at.left < width → read_there (pointer_field width at) ≡ None
unfolding pointer_field number_field number_at
short_none width at h = short_by (nat_lt (length at.left) width) width at (little_number width (take width at.left)) refl h

failed_by : (b : Bool) (width : ℕ) (at : Cursor) (v : ℕ) (x : RecordFault) → nat_lt (length at.left) width ≡ b
    → (at_field at.place (cond {A = Read ℕ} b (Err (byte_faults.Short at.place)) (Ok (v, past width at))) >>= with_raw width at) ≡ Err x → length at.left < width
failed_by true width at v x t e = ltb-true _ _ t
failed_by false width at v x t e = absurd cc

failed_short : (width : ℕ) (at : Cursor) (x : RecordFault) → pointer_field width at ≡ Err x → length at.left < width
unfolding pointer_field number_field number_at
failed_short width at x e = failed_by (nat_lt (length at.left) width) width at (little_number width (take width at.left)) x refl e

there_stands : (e width : ℕ) (at : Cursor) (r : Step PointerField) → pointer_width e ≡ Some width → pointer_field width at ≡ r → LsdaStands (Some e) (read_there r) at
there_stands e width at (Ok x) is read = (e, width, x.1, refl, is, pointer_stands width at x read)
there_stands e width at (Err f) is read = λ o w same has.
    let encoding : e ≡ o = cc in
    let widths : Some width ≡ Some w = sym is ∙ ap pointer_width encoding ∙ has in
    let one : width ≡ w = cc in
    subst (λ (n : ℕ). length at.left < n) one (failed_short width at f read)

width_stands : (e : ℕ) (at : Cursor) (width : Option ℕ) → pointer_width e ≡ width → LsdaStands (Some e) (lsda_of_width width at) at
width_stands e at None is = λ o w same has.
    let encoding : e ≡ o = cc in
    let clash : None ≡ Some w = sym is ∙ ap pointer_width encoding ∙ has in
    absurd cc
width_stands e at (Some width) is = there_stands e width at (pointer_field width at) is refl

lsda_stands : (encoding : Option ℕ) (at : Cursor) → LsdaStands encoding (lsda_in encoding at) at
lsda_stands None at = λ e w same has. absurd cc
lsda_stands (Some e) at = width_stands e at (pointer_width e) refl

none_by : (e : ℕ) (at : Cursor) (width : Option ℕ) → pointer_width e ≡ width → ((o w : ℕ) → Some e ≡ Some o → pointer_width o ≡ Some w → length at.left < w) → lsda_of_width width at ≡ None
none_by e at None is h = refl
none_by e at (Some width) is h = short_none width at (h e width refl is)

lsda_read : (encoding : Option ℕ) (field : Option PointerField) (at : Cursor) → LsdaStands encoding field at → lsda_in encoding at ≡ field
lsda_read encoding (Some field) at (e, width, rest, is, has, stands) =
    ap (λ (o : Option ℕ). lsda_in o at) is ∙ ap (λ (o : Option ℕ). lsda_of_width o at) has ∙ ap (λ (r : Step PointerField). read_there r) (pointer_read width field at rest stands)
lsda_read None None at h = refl
lsda_read (Some e) None at h = none_by e at (pointer_width e) refl h

frame_data_by : (b : Bool) (encoding : Option ℕ) (at : Cursor) (x : Option PointerField × Cursor)
    → (if b then (data_at at >>= with_lsda encoding) else without_lsda at) ≡ Ok x → FrameDataStands b encoding x.0 at x.1
frame_data_by true encoding at x e =
    let t = through (data_at at) _ x e in
    let same : (lsda_in encoding t.first.0, t.first.1) ≡ x = ok_same _ x t.rest in
    subst (λ (y : Option PointerField × Cursor). FrameDataStands true encoding y.0 at y.1) same (t.first.0, data_stands at t.first t.read, lsda_stands encoding t.first.0)
frame_data_by false encoding at x e =
    let same : (None, at) ≡ x = ok_same _ x e in
    (sym (ap (λ (y : Option PointerField × Cursor). y.0) same), sym (ap (λ (y : Option PointerField × Cursor). y.1) same))

frame_data_again : (b : Bool) (encoding : Option ℕ) (field : Option PointerField) (at after : Cursor) → FrameDataStands b encoding field at after
    → (if b then (data_at at >>= with_lsda encoding) else without_lsda at) ≡ Ok (field, after)
frame_data_again true encoding field at after (inner, data_there, lsda_there) =
    ap (λ (r : Step Cursor). r >>= with_lsda encoding) (data_read inner at after data_there)
    ∙ ap (λ (f : Option PointerField). Ok (f, after)) (lsda_read encoding field inner lsda_there)
frame_data_again false encoding field at after s = ap (λ (f : Option PointerField). Ok (f, at)) (sym s.0) ∙ ap (λ (c : Cursor). Ok (field, c)) (sym s.1)

frame_data_stands : (full : FullCieView) (at : Cursor) (x : Option PointerField × Cursor) → lsda_at full at ≡ Ok x → FrameDataStands full.augmented full.lsda x.0 at x.1
unfolding lsda_at
frame_data_stands full at x e = frame_data_by full.augmented full.lsda at x e

frame_data_read : (full : FullCieView) (field : Option PointerField) (at after : Cursor) → FrameDataStands full.augmented full.lsda field at after → lsda_at full at ≡ Ok (field, after)
unfolding lsda_at
frame_data_read full field at after s = frame_data_again full.augmented full.lsda field at after s

pub fde_stands : (full : FullCieView) (p : RawRecordView) (f : FdeView) → entry_of full p ≡ Ok f → FdeStands full p f
unfolding entry_of
fde_stands full p f e =
    let begin = through (pointer_field full.width p.body) _ f e in
    let range = through (pointer_field full.width begin.first.1) _ f begin.rest in
    let field = through (lsda_at full range.first.1) _ f range.rest in
    let is : record { place = p.place; cie = full.cie; begin = begin.first.0; range = range.first.0; lsda = field.first.0; insns = field.first.1 } ≡ f = ok_same _ f field.rest in
    subst (FdeStands full p) is (record {
      after_begin = begin.first.1;
      after_range = range.first.1;
      begin_stands = pointer_stands full.width p.body begin.first begin.read;
      range_stands = pointer_stands full.width begin.first.1 range.first range.read;
      data_stands = frame_data_stands full range.first.1 field.first field.read;
      place = refl;
      cie = refl;
    })

pub fde_read : (full : FullCieView) (p : RawRecordView) (f : FdeView) → FdeStands full p f → entry_of full p ≡ Ok f
unfolding entry_of
fde_read full p f s =
    ap (λ (r : Step PointerField). r >>= λ begin. pointer_field full.width begin.1 >>= λ range. lsda_at full range.1 >>= λ field. Ok (record { place = p.place; cie = full.cie; begin = begin.0; range = range.0; lsda = field.0; insns = field.1 }))
    (pointer_read full.width f.begin p.body s.after_begin s.begin_stands)
    ∙ ap (λ (r : Step PointerField). r >>= λ range. lsda_at full range.1 >>= λ field. Ok (record { place = p.place; cie = full.cie; begin = f.begin; range = range.0; lsda = field.0; insns = field.1 }))
    (pointer_read full.width f.range s.after_begin s.after_range s.range_stands)
    ∙ ap (λ (r : Step (Option PointerField)). r >>= λ field. Ok (record { place = p.place; cie = full.cie; begin = f.begin; range = f.range; lsda = field.0; insns = field.1 }))
    (frame_data_read full f.lsda s.after_range f.insns s.data_stands)
    ∙ ap (λ (n : ℕ). Ok (record { place = n; cie = full.cie; begin = f.begin; range = f.range; lsda = f.lsda; insns = f.insns })) (sym s.place)
    ∙ ap (λ (v : CieView). Ok (record { place = f.place; cie = v; begin = f.begin; range = f.range; lsda = f.lsda; insns = f.insns })) (sym s.cie)
