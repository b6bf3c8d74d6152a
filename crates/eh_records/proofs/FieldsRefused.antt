-- The reader stops at each field that isn't there, with the fault that is named.
use Rattle.std.specs.Prelude.{◌≢◌, ◌==◌, ◌&&◌, nat_lt}
use Rattle.std.proofs.Common.{◌≡◌, ◌⊎◌, ℕ, ℤ, ◌%◌, ◌<◌, ◌≤◌, Bool, true, false, cond, List, [], ◌∷◌, length, take, Option, Some, None, Result, Ok, Err, refl, sym, ap, ◌∙◌, arith, inl, inr, eq-eqb, ne_eqb, if◌then◌else◌}
use Rattle.std.proofs.lemmas.Bool.{eqb-true, ltb-false}
use Rattle.byteorder.specs.Endian.{little_number}
use Rattle.sf_bytes.specs.Cursor.{Cursor, Read, past, number_at, part_at}
use Rattle.sf_bytes.specs.Leb.{uleb_at, sleb_at}
use Rattle.sf_bytes.specs.declared.fault.ByteFault.{ByteFault}
use Rattle.sf_bytes.specs.declared.fault.ByteFault.TheVariants as bytes
use Rattle.sf_model.specs.declared.machine.Arch.{Arch}
use Rattle.eh_pointer.specs.declared.fault.PointerFault.{PointerFault}
use Rattle.eh_pointer.specs.declared.fault.PointerFault.TheVariants as pointer_faults
use Rattle.eh_pointer.specs.Pointer.{pointer_width, usable_width, format_of, above_format}
use Rattle.eh_pointer.specs.Skipping.{as_pointer_fault, passed, passed_width, pointer_passed}
use Rattle.eh_records.specs.declared.fault.RecordFault.{RecordFault}
use Rattle.eh_records.specs.declared.fault.RecordFault.TheVariants as faults
use Rattle.eh_records.specs.Augmentation.{Form, are_letters, letters_in, letters_at, data_at, form_of, form_at, personality_in, personality_at, pointer_fault}
use Rattle.eh_records.specs.Refused.{Lacks, IsLebFault, LacksUleb, LacksSleb, DataFails, StringFails, FormFails, PassedFails, PersonalityFails}
use Rattle.eh_records.specs.Step.{Step, ◌>>=◌, fault_of, at_field, PointerField, number_field, uleb_field, sleb_field, text_field, part_field, pointer_field}
use Rattle.eh_records.proofs.FieldsFail.{LacksText, failed, fault_same, went, text_lacks, uleb_lacks, sleb_lacks}
use Rattle.eh_records.proofs.FieldsStand.{number_read, uleb_stands, uleb_read, sleb_stands, text_stands, text_read}

abbrev pub stopped : {X : Type 0} {d e : RecordFault} → d ≡ e → failed {X = X} d ≡ failed {X = X} e
stopped {X = X} h = ap (λ (x : RecordFault). failed {X = X} x) h

-- ---- fields of fixed width
lacking_by : {X : Type 0} (b : Bool) (n : ℕ) (at : Cursor) (x : X × Cursor) (e : RecordFault) → nat_lt (length at.left) n ≡ b → Lacks n at e
    → at_field at.place (cond {A = Read X} b (Err (bytes.Short at.place)) (Ok x)) ≡ failed e
lacking_by {X = X} true n at x e t h = stopped {X = X × Cursor} (sym h.1)
lacking_by false n at x e t h = let not : n ≤ length at.left = ltb-false _ _ t in let short : length at.left < n = h.0 in absurd (omega (arith, not, short))

pub number_refused : (n : ℕ) (at : Cursor) (e : RecordFault) → Lacks n at e → number_field n at ≡ failed e
unfolding number_field number_at
number_refused n at e h = lacking_by (nat_lt (length at.left) n) n at (little_number n (take n at.left), past n at) e refl h

pub part_refused : (n : ℕ) (at : Cursor) (e : RecordFault) → Lacks n at e → part_field n at ≡ failed e
unfolding part_field part_at
part_refused n at e h = lacking_by (nat_lt (length at.left) n) n at (record { place = at.place; left = take n at.left }, past n at) e refl h

pub pointer_refused : (width : ℕ) (at : Cursor) (e : RecordFault) → Lacks width at e → pointer_field width at ≡ failed e
unfolding pointer_field
pointer_refused width at e h = ap (λ (r : Step ℕ). r >>= λ raw. Ok (record { place = at.place; width = width; raw = raw.0 }, raw.1)) (number_refused width at e h)

-- ---- texts and LEB128 numbers: the fault that the reader gives is the one that is named
text_by : (at : Cursor) (e : RecordFault) (r : Step (List ℕ)) → text_field at ≡ r → LacksText at e → r ≡ failed e
text_by at e (Ok x) is h = absurd (h.0 x.0 x.1 (text_stands at x is))
text_by at e (Err d) is h = stopped {X = List ℕ × Cursor} ((text_lacks at d is).1 ∙ sym h.1)

pub text_refused : (at : Cursor) (e : RecordFault) → LacksText at e → text_field at ≡ failed e
text_refused at e h = text_by at e (text_field at) refl h

pub one_leb_fault : (at : Cursor) (d e : RecordFault) → IsLebFault at d → IsLebFault at e → d ≡ e
one_leb_fault at d e (inl h) (inl k) = h.2 ∙ sym k.2
one_leb_fault at d e (inl h) (inr k) = let short : length at.left < 10 = h.0 in let long : 10 ≤ length at.left = k.0 h.1 in absurd (omega (arith, short, long))
one_leb_fault at d e (inr h) (inl k) = let short : length at.left < 10 = k.0 in let long : 10 ≤ length at.left = h.0 k.1 in absurd (omega (arith, short, long))
one_leb_fault at d e (inr h) (inr k) = h.1 ∙ sym k.1

uleb_by : (at : Cursor) (e : RecordFault) (r : Step ℕ) → uleb_field at ≡ r → LacksUleb at e → r ≡ failed e
uleb_by at e (Ok x) is h = absurd (h.0 x.0 x.1 (uleb_stands at x is))
uleb_by at e (Err d) is h = stopped {X = ℕ × Cursor} (one_leb_fault at d e (uleb_lacks at d is).1 h.1)

pub uleb_refused : (at : Cursor) (e : RecordFault) → LacksUleb at e → uleb_field at ≡ failed e
uleb_refused at e h = uleb_by at e (uleb_field at) refl h

sleb_by : (at : Cursor) (e : RecordFault) (r : Step ℤ) → sleb_field at ≡ r → LacksSleb at e → r ≡ failed e
sleb_by at e (Ok x) is h = absurd (h.0 x.0 x.1 (sleb_stands at x is))
sleb_by at e (Err d) is h = stopped {X = ℤ × Cursor} (one_leb_fault at d e (sleb_lacks at d is).1 h.1)

pub sleb_refused : (at : Cursor) (e : RecordFault) → LacksSleb at e → sleb_field at ≡ failed e
sleb_refused at e h = sleb_by at e (sleb_field at) refl h

-- ---- augmentation data, and its string
pub data_refused : (at : Cursor) (e : RecordFault) → DataFails at e → data_at at ≡ failed e
unfolding data_at
data_refused at e (inl h) = ap (λ (r : Step ℕ). r >>= λ len. part_field len.0 len.1) (uleb_refused at e h)
data_refused at e (inr (len, after, stands, lacks)) =
    ap (λ (r : Step ℕ). r >>= λ n. part_field n.0 n.1) (uleb_read at len after stands) ∙ part_refused len after e lacks

string_by : (z : Bool) (arch : Arch) (place b : ℕ) (bs : List ℕ) (after : Cursor) (e : RecordFault) → (b == 122) ≡ z
    → ((letters : List ℕ) → b ∷ bs ≡ 122 ∷ letters → are_letters arch [] letters ≡ false) → e ≡ faults.Augmentation place
    → (if z && are_letters arch [] bs then went {X = Option (List ℕ) × Cursor} (Some bs, after) else failed (faults.Augmentation place)) ≡ failed e
string_by false arch place b bs after e t unknown is = stopped {X = Option (List ℕ) × Cursor} (sym is)
string_by true arch place b bs after e t unknown is =
    ap (λ (l : Bool). if l then went {X = Option (List ℕ) × Cursor} (Some bs, after) else failed (faults.Augmentation place)) (unknown bs (ap (λ (c : ℕ). c ∷ bs) (eqb-true _ _ t)))
    ∙ stopped {X = Option (List ℕ) × Cursor} (sym is)

string_in : (arch : Arch) (place : ℕ) (text : List ℕ) (after : Cursor) (e : RecordFault) → text ≢ [] → ((letters : List ℕ) → text ≡ 122 ∷ letters → are_letters arch [] letters ≡ false) → e ≡ faults.Augmentation place
    → letters_in arch place text after ≡ failed e
string_in arch place [] after e some unknown is = absurd (some refl)
string_in arch place (b ∷ bs) after e some unknown is = string_by (b == 122) arch place b bs after e refl unknown is

pub string_refused : (arch : Arch) (at : Cursor) (e : RecordFault) → StringFails arch at e → letters_at arch at ≡ failed e
unfolding letters_at
string_refused arch at e (inl h) = ap (λ (r : Step (List ℕ)). r >>= λ text. letters_in arch at.place text.0 text.1) (text_refused at e h)
string_refused arch at e (inr (text, after, stands, some, unknown, is)) =
    ap (λ (r : Step (List ℕ)). r >>= λ t. letters_in arch at.place t.0 t.1) (text_read at text after stands) ∙ string_in arch at.place text after e some unknown is

-- ---- letters
pub form_refused : (at : Cursor) (e : RecordFault) → FormFails at e → form_at at ≡ failed e
unfolding form_at
form_refused at e (inl h) = ap (λ (r : Step ℕ). r >>= λ n. form_of at.place n.0 (usable_width n.0) n.1) (number_refused 1 at e h)
form_refused at e (inr (encoding, after, stands, none, is)) =
    ap (λ (r : Step ℕ). r >>= λ n. form_of at.place n.0 (usable_width n.0) n.1) (number_read 1 at encoding after stands)
    ∙ ap (λ (w : Option ℕ). form_of at.place encoding w after) none
    ∙ stopped {X = Form × Cursor} (sym is)

-- a fault of a read is named alike at the front of a pointer
named_alike : (encoding_place place : ℕ) (f : ByteFault) → pointer_fault encoding_place place (as_pointer_fault f) ≡ fault_of place f
named_alike encoding_place place (bytes.Short p) = refl
named_alike encoding_place place (bytes.Leb p) = refl

-- a read that stops, as the front of a pointer
passed_by : {X : Type 0} (r : Read X) (encoding_place encoding : ℕ) (at : Cursor) (e : RecordFault) → at_field at.place r ≡ failed e → personality_in encoding_place encoding at (passed r) ≡ failed e
passed_by {X = X} (Ok x) encoding_place encoding at e h = absurd (clash x e h)
  where
    clash : (x : X × Cursor) (e : RecordFault) → went x ≡ failed e → ⊥
    clash x e h = cc
passed_by {X = X} (Err f) encoding_place encoding at e h = stopped {X = Option PointerField × Cursor} (named_alike encoding_place at.place f ∙ fault_same {X = X × Cursor} (fault_of at.place f) e h)

part_passed : (width encoding_place encoding : ℕ) (at : Cursor) (e : RecordFault) → Lacks width at e → personality_in encoding_place encoding at (passed (part_at width at)) ≡ failed e
unfolding part_field
part_passed width encoding_place encoding at e h = passed_by (part_at width at) encoding_place encoding at e (part_refused width at e h)

uleb_passed : (encoding_place encoding : ℕ) (at : Cursor) (e : RecordFault) → LacksUleb at e → personality_in encoding_place encoding at (passed (uleb_at at)) ≡ failed e
unfolding uleb_field
uleb_passed encoding_place encoding at e h = passed_by (uleb_at at) encoding_place encoding at e (uleb_refused at e h)

sleb_passed : (encoding_place encoding : ℕ) (at : Cursor) (e : RecordFault) → LacksSleb at e → personality_in encoding_place encoding at (passed (sleb_at at)) ≡ failed e
unfolding sleb_field
sleb_passed encoding_place encoding at e h = passed_by (sleb_at at) encoding_place encoding at e (sleb_refused at e h)

abbrev refused_pointer : PointerFault → Result Cursor PointerFault
refused_pointer f = Err f

abbrev by_format : Bool → Bool → Cursor → Result Cursor PointerFault
by_format one nine at = if one then passed (uleb_at at) else if nine then passed (sleb_at at) else refused_pointer pointer_faults.Encoding

width_by : (width : Option ℕ) (encoding_place encoding : ℕ) (at : Cursor) (e : RecordFault) → PassedFails width encoding encoding_place at e → personality_in encoding_place encoding at (passed_width width encoding at) ≡ failed e
width_by (Some width) encoding_place encoding at e h = part_passed width encoding_place encoding at e h
width_by None encoding_place encoding at e (inl h) =
    ap (λ (b : Bool). personality_in encoding_place encoding at (by_format b (format_of encoding == 9) at)) (eq-eqb _ _ h.0) ∙ uleb_passed encoding_place encoding at e h.1
width_by None encoding_place encoding at e (inr (inl h)) =
    let other : (format_of encoding == 1) ≡ false = ne_eqb _ _ (λ k. let clash : 9 ≡ 1 = sym h.0 ∙ k in omega (arith, clash)) in
    ap (λ (b : Bool). personality_in encoding_place encoding at (by_format b (format_of encoding == 9) at)) other
    ∙ ap (λ (b : Bool). personality_in encoding_place encoding at (by_format false b at)) (eq-eqb _ _ h.0)
    ∙ sleb_passed encoding_place encoding at e h.1
width_by None encoding_place encoding at e (inr (inr h)) =
    ap (λ (b : Bool). personality_in encoding_place encoding at (by_format b (format_of encoding == 9) at)) (ne_eqb _ _ h.0)
    ∙ ap (λ (b : Bool). personality_in encoding_place encoding at (by_format false b at)) (ne_eqb _ _ h.1)
    ∙ stopped {X = Option PointerField × Cursor} (sym h.2)

pointer_by : (encoding_place encoding : ℕ) (at : Cursor) (e : RecordFault)
    → ((above_format encoding % 8 ≡ 5) × (e ≡ faults.Encoding encoding_place)) ⊎ ((above_format encoding % 8 ≢ 5) × PassedFails (pointer_width encoding) encoding encoding_place at e)
    → personality_in encoding_place encoding at (pointer_passed encoding at) ≡ failed e
unfolding pointer_passed
pointer_by encoding_place encoding at e (inl h) =
    ap (λ (b : Bool). personality_in encoding_place encoding at (if b then refused_pointer pointer_faults.Encoding else passed_width (pointer_width encoding) encoding at)) (eq-eqb _ _ h.0)
    ∙ stopped {X = Option PointerField × Cursor} (sym h.1)
pointer_by encoding_place encoding at e (inr h) =
    ap (λ (b : Bool). personality_in encoding_place encoding at (if b then refused_pointer pointer_faults.Encoding else passed_width (pointer_width encoding) encoding at)) (ne_eqb _ _ h.0)
    ∙ width_by (pointer_width encoding) encoding_place encoding at e h.1

abbrev no_field : Cursor → Step (Option PointerField)
no_field after = Ok (None, after)

pub personality_refused : (at : Cursor) (e : RecordFault) → PersonalityFails at e → personality_at at ≡ failed e
unfolding personality_at
personality_refused at e (inl h) = ap (λ (r : Step ℕ). r >>= λ n. if n.0 == 255 then no_field n.1 else personality_in at.place n.0 n.1 (pointer_passed n.0 n.1)) (number_refused 1 at e h)
personality_refused at e (inr (encoding, after, stands, other, rest)) =
    ap (λ (r : Step ℕ). r >>= λ n. if n.0 == 255 then no_field n.1 else personality_in at.place n.0 n.1 (pointer_passed n.0 n.1)) (number_read 1 at encoding after stands)
    ∙ ap (λ (b : Bool). if b then no_field after else personality_in at.place encoding after (pointer_passed encoding after)) (ne_eqb _ _ other)
    ∙ pointer_by at.place encoding after e rest
