-- Each field at which the reader stops isn't there, and names the fault.
use Rattle.std.specs.Prelude.{◌≢◌, ◌==◌, ◌&&◌, nat_lt, position}
use Rattle.std.specs.List.{All}
use Rattle.std.proofs.Common.{◌≡◌, ◌⊎◌, ℕ, ℤ, zero, suc, ◌%◌, ◌<◌, ◌≤◌, ◌^◌, Bool, true, false, cond, List, [], ◌∷◌, length, take, Option, Some, None, Result, Ok, Err, refl, sym, ap, ◌∙◌, arith, inl, inr, eq-eqb, if◌then◌else◌}
use Rattle.std.proofs.lemmas.Bool.{cases_lt, eqb-true, eqb-false, ltb-true}
use Rattle.std.proofs.lemmas.List.Elements.{All-cons, All-head, All-nil, All-tail}
use Rattle.byteorder.specs.Endian.{little_number}
use Rattle.sf_bytes.specs.Cursor.{Cursor, Read, past, number_at, part_at}
use Rattle.sf_bytes.specs.Leb.{IsRun, leb_sum, leb_signed, fits_i64, longer, run_length, uleb_at, sleb_at}
use Rattle.sf_bytes.specs.Standing.{Stands as FieldStands, Text}
use Rattle.sf_bytes.specs.Text.{text_at, text_upto}
use Rattle.sf_bytes.specs.declared.fault.ByteFault.{ByteFault}
use Rattle.sf_bytes.specs.declared.fault.ByteFault.TheVariants as bytes
use Rattle.sf_bytes.proofs.Lebs.{Begins, run_takes}
use Rattle.sf_bytes.proofs.Run.{run_length-goes_on, run_length-ends}
use Rattle.sf_model.specs.declared.machine.Arch.{Arch}
use Rattle.eh_pointer.specs.declared.fault.PointerFault.{PointerFault}
use Rattle.eh_pointer.specs.declared.fault.PointerFault.TheVariants as pointer_faults
use Rattle.eh_pointer.specs.Pointer.{pointer_width, usable_width, format_of, above_format}
use Rattle.eh_pointer.specs.Skipping.{as_pointer_fault, passed, passed_width, pointer_passed}
use Rattle.eh_records.specs.declared.fault.RecordFault.{RecordFault}
use Rattle.eh_records.specs.declared.fault.RecordFault.TheVariants as faults
use Rattle.eh_records.specs.Augmentation.{Form, are_letters, letters_in, letters_at, data_at, form_of, form_at, personality_field, personality_in, personality_at, pointer_fault}
use Rattle.eh_records.specs.Refused.{Lacks, IsLebFault, LacksUleb, LacksSleb, DataFails, StringFails, FormFails, PassedFails, PersonalityFails}
use Rattle.eh_records.specs.Step.{Step, ◌>>=◌, fault_of, at_field, PointerField, number_field, uleb_field, sleb_field, text_field, part_field, pointer_field}
use Rattle.eh_records.proofs.FieldsStand.{number_stands, uleb_stands, uleb_read, sleb_read, text_stands, text_read}

-- ---- a step that failed
abbrev pub failed : {X : Type 0} → RecordFault → Result X RecordFault
failed e = Err e

pub fault_same : {X : Type 0} (d e : RecordFault) → failed {X = X} d ≡ failed {X = X} e → d ≡ e
fault_same d e h = cc

abbrev pub went : {X : Type 0} → X → Result X RecordFault
went x = Ok x

pub not_both : {X : Type 0} (x : X) (e : RecordFault) → went x ≡ failed e → ⊥
not_both x e h = cc

pub split : {A B : Type 0} (r : Result A RecordFault) (f : A → Result B RecordFault) (e : RecordFault) → (r >>= f) ≡ failed e → (r ≡ failed e) ⊎ ((x : A) × (r ≡ Ok x) × (f x ≡ failed e))
split (Ok x) f e h = inr (x, refl, h)
split {A = A} {B = B} (Err d) f e h = inl (ap (λ (x : RecordFault). failed {X = A} x) (fault_same {X = B} d e h))

-- ---- fields of fixed width
lacks_by : {X : Type 0} (b : Bool) (n : ℕ) (at : Cursor) (x : X × Cursor) (e : RecordFault) → nat_lt (length at.left) n ≡ b
    → at_field at.place (cond {A = Read X} b (Err (bytes.Short at.place)) (Ok x)) ≡ failed e → Lacks n at e
lacks_by {X = X} true n at x e t h = (ltb-true _ _ t, sym (fault_same {X = X × Cursor} (faults.Short at.place) e h))
lacks_by false n at x e t h = absurd (not_both x e h)

pub number_lacks : (n : ℕ) (at : Cursor) (e : RecordFault) → number_field n at ≡ failed e → Lacks n at e
unfolding number_field number_at
number_lacks n at e h = lacks_by (nat_lt (length at.left) n) n at (little_number n (take n at.left), past n at) e refl h

pub part_lacks : (n : ℕ) (at : Cursor) (e : RecordFault) → part_field n at ≡ failed e → Lacks n at e
unfolding part_field part_at
part_lacks n at e h = lacks_by (nat_lt (length at.left) n) n at (record { place = at.place; left = take n at.left }, past n at) e refl h

pub pointer_lacks : (width : ℕ) (at : Cursor) (e : RecordFault) → pointer_field width at ≡ failed e → Lacks width at e
unfolding pointer_field
pointer_lacks width at e h = elim (split (number_field width at) _ e h) [
  | inl one ↦ number_lacks width at e one
  | inr w ↦ absurd (not_both _ e w.2)
]

-- ---- texts
text_short : (o : Option ℕ) (at : Cursor) (e : RecordFault) → at_field at.place (text_upto o at) ≡ failed e → e ≡ faults.Short at.place
text_short None at e h = sym (fault_same {X = List ℕ × Cursor} (faults.Short at.place) e h)
text_short (Some n) at e h = absurd (not_both _ e h)

text_named : (at : Cursor) (e : RecordFault) → text_field at ≡ failed e → e ≡ faults.Short at.place
unfolding text_field text_at
text_named at e h = text_short (position (λ b. b == 0) at.left) at e h

-- no text is there: no byte is zero
abbrev pub LacksText : Cursor → RecordFault → Type 0
LacksText at e = ((text : List ℕ) (to : Cursor) → FieldStands Text text at to → ⊥) × (e ≡ faults.Short at.place)

pub text_lacks : (at : Cursor) (e : RecordFault) → text_field at ≡ failed e → LacksText at e
text_lacks at e h = (λ text to s. not_both (text, to) e (sym (text_read at text to s) ∙ h), text_named at e h)

-- ---- LEB128 numbers
abbrev run_failed : ByteFault → Result ℕ ByteFault
run_failed f = Err f

run_same : (d f : ByteFault) → run_failed d ≡ run_failed f → d ≡ f
run_same d f h = cc

longer_failed : (r : Result ℕ ByteFault) (f : ByteFault) → longer r ≡ run_failed f → r ≡ run_failed f
longer_failed (Ok n) f h = absurd cc
longer_failed (Err d) f h = h

-- each byte continues the number: it is 128 or more
abbrev GoOn : List ℕ → Type 0
GoOn [] = Unit {0}
GoOn (b ∷ bs) = (128 ≤ b) × GoOn bs

go_all : (xs : List ℕ) → GoOn xs → All (λ (b : ℕ). 128 ≤ b) xs
go_all [] g = All-nil (λ (b : ℕ). 128 ≤ b)
go_all (b ∷ bs) g = All-cons (λ (x : ℕ). 128 ≤ x) b bs g.0 (go_all bs g.1)

all_go : (xs : List ℕ) → All (λ (b : ℕ). 128 ≤ b) xs → GoOn xs
all_go [] g = tt
all_go (b ∷ bs) g = (All-head (λ (x : ℕ). 128 ≤ x) b bs g, all_go bs (All-tail (λ (x : ℕ). 128 ≤ x) b bs g))

abbrev RunFault : (place most : ℕ) → List ℕ → ByteFault → Type 0
RunFault place most left f = ((length left < most) × GoOn left × (f ≡ bytes.Short place)) ⊎ ((most ≤ length left) × (f ≡ bytes.Leb place))

further : (place most b : ℕ) (bs : List ℕ) (f : ByteFault) → 128 ≤ b → RunFault place most bs f → RunFault place (suc most) (b ∷ bs) f
further place most b bs f high (inl h) = let short : length bs < most = h.0 in inl (omega (arith, short), (high, h.1), h.2)
further place most b bs f high (inr h) = let long : most ≤ length bs = h.0 in inr (omega (arith, long), h.1)

run_fails : (place most : ℕ) (left : List ℕ) (f : ByteFault) → run_length place most left ≡ run_failed f → RunFault place most left f
unfolding run_length
run_fails place zero left f h = inr (omega arith, sym (run_same (bytes.Leb place) f h))
run_fails place (suc most) [] f h = inl (omega arith, tt, sym (run_same (bytes.Short place) f h))
run_fails place (suc most) (b ∷ bs) f h = elim (cases_lt b 128) [
  | inl low ↦ absurd (ok_failed 1 f (sym (run_length-ends place most b bs low) ∙ h))
  | inr high ↦ further place most b bs f high (run_fails place most bs f (longer_failed (run_length place most bs) f (sym (run_length-goes_on place most b bs high) ∙ h)))
]
  where
    ok_failed : (n : ℕ) (f : ByteFault) → Ok n ≡ run_failed f → ⊥
    ok_failed n f h = cc

no_run : (xs : List ℕ) → IsRun xs → GoOn xs → ⊥
no_run [] r g = r
no_run (b ∷ []) r g = let high : 128 ≤ b = g.0 in omega (arith, r, high)
no_run (b ∷ c ∷ bs) r g = no_run (c ∷ bs) r.1 g.1

go_take : (n : ℕ) (xs : List ℕ) → GoOn xs → GoOn (take n xs)
go_take zero [] g = tt
go_take zero (b ∷ bs) g = tt
go_take (suc n) [] g = tt
go_take (suc n) (b ∷ bs) g = (g.0, go_take n bs g.1)

leb_named : (at : Cursor) (f : ByteFault) (e : RecordFault) → RunFault at.place 10 at.left f → fault_of at.place f ≡ e → IsLebFault at e
leb_named at f e (inl h) named = inl (h.0, go_all at.left h.1, sym named ∙ ap (fault_of at.place) h.2)
leb_named at f e (inr h) named = let long : 10 ≤ length at.left = h.0 in inr (λ g. long, sym named ∙ ap (fault_of at.place) h.1)

-- a run that is there, whose number doesn't fit
too_large : {X : Type 0} (b : Bool) (at : Cursor) (n : ℕ) (x : X × Cursor) (e : RecordFault) → Begins 10 n at.left → at_field at.place (cond {A = Read X} b (Ok x) (Err (bytes.Leb at.place))) ≡ failed e → IsLebFault at e
too_large true at n x e begins h = absurd (not_both x e h)
too_large {X = X} false at n x e begins h = inr (λ g. absurd (no_run (take n at.left) begins.ends (go_take n at.left (all_go at.left g))), sym (fault_same {X = X × Cursor} (faults.Leb at.place) e h))

abbrev and_then : {X : Type 0} → Result ℕ ByteFault → (ℕ → Read X) → Read X
and_then (Ok n) f = f n
and_then (Err d) f = Err d

leb_fails : {X : Type 0} (at : Cursor) (r : Result ℕ ByteFault) (fits : ℕ → Bool) (value : ℕ → X) (e : RecordFault) → run_length at.place 10 at.left ≡ r
    → at_field at.place (and_then r (λ n. cond {A = Read X} (fits n) (Ok (value n, past n at)) (Err (bytes.Leb at.place)))) ≡ failed e → IsLebFault at e
leb_fails at (Ok n) fits value e run h = too_large (fits n) at n (value n, past n at) e (run_takes at.place 10 at.left n run) h
leb_fails {X = X} at (Err f) fits value e run h = leb_named at f e (run_fails at.place 10 at.left f run) (fault_same {X = X × Cursor} (fault_of at.place f) e h)

bind_is : {X : Type 0} (at : Cursor) (r : Result ℕ ByteFault) (fits : ℕ → Bool) (value : ℕ → X) (e : RecordFault) (step : Read X) → run_length at.place 10 at.left ≡ r
    → step ≡ and_then r (λ n. cond {A = Read X} (fits n) (Ok (value n, past n at)) (Err (bytes.Leb at.place))) → at_field at.place step ≡ failed e → IsLebFault at e
bind_is {X = X} at r fits value e step run is h = leb_fails at r fits value e run (sym (ap (λ (s : Read X). at_field at.place s) is) ∙ h)

uleb_step : (at : Cursor) (r : Result ℕ ByteFault) → run_length at.place 10 at.left ≡ r → uleb_at at ≡ and_then r (λ n. cond {A = Read ℕ} (nat_lt (leb_sum (take n at.left)) (2 ^ 64)) (Ok (leb_sum (take n at.left), past n at)) (Err (bytes.Leb at.place)))
unfolding uleb_at
uleb_step at (Ok n) run = rw run refl
uleb_step at (Err f) run = rw run refl

sleb_step : (at : Cursor) (r : Result ℕ ByteFault) → run_length at.place 10 at.left ≡ r → sleb_at at ≡ and_then r (λ n. cond {A = Read ℤ} (fits_i64 (leb_signed (take n at.left))) (Ok (leb_signed (take n at.left), past n at)) (Err (bytes.Leb at.place)))
unfolding sleb_at
sleb_step at (Ok n) run = rw run refl
sleb_step at (Err f) run = rw run refl

uleb_named : (at : Cursor) (e : RecordFault) → uleb_field at ≡ failed e → IsLebFault at e
unfolding uleb_field
uleb_named at e h = bind_is at (run_length at.place 10 at.left) (λ n. nat_lt (leb_sum (take n at.left)) (2 ^ 64)) (λ n. leb_sum (take n at.left)) e (uleb_at at) refl (uleb_step at _ refl) h

sleb_named : (at : Cursor) (e : RecordFault) → sleb_field at ≡ failed e → IsLebFault at e
unfolding sleb_field
sleb_named at e h = bind_is at (run_length at.place 10 at.left) (λ n. fits_i64 (leb_signed (take n at.left))) (λ n. leb_signed (take n at.left)) e (sleb_at at) refl (sleb_step at _ refl) h

pub uleb_lacks : (at : Cursor) (e : RecordFault) → uleb_field at ≡ failed e → LacksUleb at e
uleb_lacks at e h = (λ v to s. not_both (v, to) e (sym (uleb_read at v to s) ∙ h), uleb_named at e h)

pub sleb_lacks : (at : Cursor) (e : RecordFault) → sleb_field at ≡ failed e → LacksSleb at e
sleb_lacks at e h = (λ z to s. not_both (z, to) e (sym (sleb_read at z to s) ∙ h), sleb_named at e h)

-- ---- augmentation data, and its string
pub data_fails : (at : Cursor) (e : RecordFault) → data_at at ≡ failed e → DataFails at e
unfolding data_at
data_fails at e h = elim (split (uleb_field at) _ e h) [
  | inl one ↦ inl (uleb_lacks at e one)
  | inr w ↦ inr (w.0.0, w.0.1, uleb_stands at w.0 w.1, part_lacks w.0.0 w.0.1 e w.2)
]

unknown : (z l : Bool) → (z && l) ≡ false → z ≡ true → l ≡ false
unknown true l h t = h
unknown false l h t = absurd cc

same_head : (b c : ℕ) (bs cs : List ℕ) → b ∷ bs ≡ c ∷ cs → b ≡ c
same_head b c bs cs e = cc

same_tail : (b c : ℕ) (bs cs : List ℕ) → b ∷ bs ≡ c ∷ cs → bs ≡ cs
same_tail b c bs cs e = cc

cons_not_nil : (b : ℕ) (bs : List ℕ) → b ∷ bs ≢ []
cons_not_nil b bs e = cc

string_by : (arch : Arch) (place b : ℕ) (bs : List ℕ) (at after : Cursor) (e : RecordFault) (test : Bool) → ((b == 122) && are_letters arch [] bs) ≡ test → FieldStands Text (b ∷ bs) at after
    → (if test then went {X = Option (List ℕ) × Cursor} (Some bs, after) else failed (faults.Augmentation place)) ≡ failed e
    → (b ∷ bs ≢ []) × ((letters : List ℕ) → b ∷ bs ≡ 122 ∷ letters → are_letters arch [] letters ≡ false) × (e ≡ faults.Augmentation place)
string_by arch place b bs at after e true t s h = absurd (not_both _ e h)
string_by arch place b bs at after e false t s h = (
  cons_not_nil b bs,
  λ letters is.
      let z : (b == 122) ≡ true = eq-eqb _ _ (same_head b 122 bs letters is) in
      ap (are_letters arch []) (sym (same_tail b 122 bs letters is)) ∙ unknown (b == 122) (are_letters arch [] bs) t z,
  sym (fault_same {X = Option (List ℕ) × Cursor} (faults.Augmentation place) e h),
)

string_in : (arch : Arch) (text : List ℕ) (at after : Cursor) (e : RecordFault) → FieldStands Text text at after → letters_in arch at.place text after ≡ failed e → StringFails arch at e
string_in arch [] at after e s h = absurd (not_both _ e h)
string_in arch (b ∷ bs) at after e s h =
    let p = string_by arch at.place b bs at after e ((b == 122) && are_letters arch [] bs) refl s h in
    inr (b ∷ bs, after, s, p.0, p.1, p.2)

pub string_fails : (arch : Arch) (at : Cursor) (e : RecordFault) → letters_at arch at ≡ failed e → StringFails arch at e
unfolding letters_at
string_fails arch at e h = elim (split (text_field at) _ e h) [
  | inl one ↦ inl (text_lacks at e one)
  | inr w ↦ string_in arch w.0.0 at w.0.1 e (text_stands at w.0 w.1) w.2
]

-- ---- letters
form_by : (width : Option ℕ) (place encoding : ℕ) (after : Cursor) (e : RecordFault) → form_of place encoding width after ≡ failed e → (width ≡ None) × (e ≡ faults.Encoding place)
form_by None place encoding after e h = (refl, sym (fault_same {X = Form × Cursor} (faults.Encoding place) e h))
form_by (Some width) place encoding after e h = absurd (not_both _ e h)

pub form_fails : (at : Cursor) (e : RecordFault) → form_at at ≡ failed e → FormFails at e
unfolding form_at
form_fails at e h = elim (split (number_field 1 at) _ e h) [
  | inl one ↦ inl (number_lacks 1 at e one)
  | inr w ↦
      let p = form_by (usable_width w.0.0) at.place w.0.0 w.0.1 e w.2 in
      inr (w.0.0, w.0.1, number_stands 1 at w.0 w.1, p.0, p.1)
]

abbrev personality_failed : RecordFault → Step (Option PointerField)
personality_failed e = Err e

-- a fault of a read is named alike at the front of a pointer
named_alike : (encoding_place place : ℕ) (f : ByteFault) → pointer_fault encoding_place place (as_pointer_fault f) ≡ fault_of place f
named_alike encoding_place place (bytes.Short p) = refl
named_alike encoding_place place (bytes.Leb p) = refl

pointer_same : (encoding_place place : ℕ) (f : ByteFault) (e : RecordFault) → personality_failed (pointer_fault encoding_place place (as_pointer_fault f)) ≡ personality_failed e → fault_of place f ≡ e
pointer_same encoding_place place f e h = sym (named_alike encoding_place place f) ∙ fault_same {X = Option PointerField × Cursor} _ e h

abbrev no_field : Cursor → Step (Option PointerField)
no_field after = Ok (None, after)

part_failed : (width : ℕ) (at : Cursor) (f : ByteFault) → part_at width at ≡ Err f → part_field width at ≡ failed (fault_of at.place f)
unfolding part_field
part_failed width at f read = ap (λ (r : Read Cursor). at_field at.place r) read

uleb_failed : (at : Cursor) (f : ByteFault) → uleb_at at ≡ Err f → uleb_field at ≡ failed (fault_of at.place f)
unfolding uleb_field
uleb_failed at f read = ap (λ (r : Read ℕ). at_field at.place r) read

sleb_failed : (at : Cursor) (f : ByteFault) → sleb_at at ≡ Err f → sleb_field at ≡ failed (fault_of at.place f)
unfolding sleb_field
sleb_failed at f read = ap (λ (r : Read ℤ). at_field at.place r) read

-- the pointer is a field
field_by : (width encoding_place encoding : ℕ) (at : Cursor) (r : Read Cursor) (e : RecordFault) → pointer_width encoding ≡ Some width → part_at width at ≡ r → personality_in encoding_place encoding at (passed r) ≡ personality_failed e → Lacks width at e
field_by width encoding_place encoding at (Ok x) e is read h =
    let here : personality_field (Some width) at x.1 ≡ personality_failed e = ap (λ (o : Option ℕ). personality_field o at x.1) (sym is) ∙ h in
    elim (split (pointer_field width at) (λ f. Ok (Some f.0, f.1)) e here) [
      | inl one ↦ pointer_lacks width at e one
      | inr w ↦ absurd (not_both _ e w.2)
    ]
field_by width encoding_place encoding at (Err f) e is read h =
    part_lacks width at e (part_failed width at f read ∙ ap (λ (x : RecordFault). failed {X = Cursor × Cursor} x) (pointer_same encoding_place at.place f e h))

-- the pointer is an unsigned number
uleb_by : (encoding_place encoding : ℕ) (at : Cursor) (r : Read ℕ) (e : RecordFault) → pointer_width encoding ≡ None → uleb_at at ≡ r → personality_in encoding_place encoding at (passed r) ≡ personality_failed e → LacksUleb at e
uleb_by encoding_place encoding at (Ok x) e is read h = absurd (not_both (None, x.1) e (ap (λ (o : Option ℕ). personality_field o at x.1) (sym is) ∙ h))
uleb_by encoding_place encoding at (Err f) e is read h = uleb_lacks at e (uleb_failed at f read ∙ ap (λ (x : RecordFault). failed {X = ℕ × Cursor} x) (pointer_same encoding_place at.place f e h))

-- or a signed one
sleb_by : (encoding_place encoding : ℕ) (at : Cursor) (r : Read ℤ) (e : RecordFault) → pointer_width encoding ≡ None → sleb_at at ≡ r → personality_in encoding_place encoding at (passed r) ≡ personality_failed e → LacksSleb at e
sleb_by encoding_place encoding at (Ok x) e is read h = absurd (not_both (None, x.1) e (ap (λ (o : Option ℕ). personality_field o at x.1) (sym is) ∙ h))
sleb_by encoding_place encoding at (Err f) e is read h = sleb_lacks at e (sleb_failed at f read ∙ ap (λ (x : RecordFault). failed {X = ℤ × Cursor} x) (pointer_same encoding_place at.place f e h))

abbrev refused_pointer : PointerFault → Result Cursor PointerFault
refused_pointer f = Err f

format_by : (one nine : Bool) (encoding_place encoding : ℕ) (at : Cursor) (e : RecordFault) → pointer_width encoding ≡ None → (format_of encoding == 1) ≡ one → (format_of encoding == 9) ≡ nine
    → personality_in encoding_place encoding at (if one then passed (uleb_at at) else if nine then passed (sleb_at at) else refused_pointer pointer_faults.Encoding) ≡ personality_failed e → PassedFails None encoding encoding_place at e
format_by true nine encoding_place encoding at e is t1 t9 h = inl (eqb-true _ _ t1, uleb_by encoding_place encoding at (uleb_at at) e is refl h)
format_by false true encoding_place encoding at e is t1 t9 h = inr (inl (eqb-true _ _ t9, sleb_by encoding_place encoding at (sleb_at at) e is refl h))
format_by false false encoding_place encoding at e is t1 t9 h = inr (inr (eqb-false _ _ t1, eqb-false _ _ t9, sym (fault_same {X = Option PointerField × Cursor} (faults.Encoding encoding_place) e h)))

width_by : (width : Option ℕ) (encoding_place encoding : ℕ) (at : Cursor) (e : RecordFault) → pointer_width encoding ≡ width → personality_in encoding_place encoding at (passed_width width encoding at) ≡ personality_failed e
    → PassedFails width encoding encoding_place at e
width_by (Some width) encoding_place encoding at e is h = field_by width encoding_place encoding at (part_at width at) e is refl h
width_by None encoding_place encoding at e is h = format_by (format_of encoding == 1) (format_of encoding == 9) encoding_place encoding at e is refl refl h

abbrev PointerFails : (encoding encoding_place : ℕ) → Cursor → RecordFault → Type 0
PointerFails encoding encoding_place at e =
    ((above_format encoding % 8 ≡ 5) × (e ≡ faults.Encoding encoding_place)) ⊎ ((above_format encoding % 8 ≢ 5) × PassedFails (pointer_width encoding) encoding encoding_place at e)

application_by : (b : Bool) (encoding_place encoding : ℕ) (at : Cursor) (e : RecordFault) → (above_format encoding % 8 == 5) ≡ b
    → personality_in encoding_place encoding at (if b then refused_pointer pointer_faults.Encoding else passed_width (pointer_width encoding) encoding at) ≡ personality_failed e → PointerFails encoding encoding_place at e
application_by true encoding_place encoding at e t h = inl (eqb-true _ _ t, sym (fault_same {X = Option PointerField × Cursor} (faults.Encoding encoding_place) e h))
application_by false encoding_place encoding at e t h = inr (eqb-false _ _ t, width_by (pointer_width encoding) encoding_place encoding at e refl h)

pointer_fails : (encoding_place encoding : ℕ) (at : Cursor) (e : RecordFault) → personality_in encoding_place encoding at (pointer_passed encoding at) ≡ personality_failed e → PointerFails encoding encoding_place at e
unfolding pointer_passed
pointer_fails encoding_place encoding at e h = application_by (above_format encoding % 8 == 5) encoding_place encoding at e refl h

omit_by : (b : Bool) (place encoding : ℕ) (after : Cursor) (e : RecordFault) → (encoding == 255) ≡ b → (if b then no_field after else personality_in place encoding after (pointer_passed encoding after)) ≡ personality_failed e
    → (encoding ≢ 255) × PointerFails encoding place after e
omit_by true place encoding after e t h = absurd (not_both (None, after) e h)
omit_by false place encoding after e t h = (eqb-false _ _ t, pointer_fails place encoding after e h)

pub personality_fails : (at : Cursor) (e : RecordFault) → personality_at at ≡ personality_failed e → PersonalityFails at e
unfolding personality_at
personality_fails at e h = elim (split (number_field 1 at) _ e h) [
  | inl one ↦ inl (number_lacks 1 at e one)
  | inr w ↦
      let p = omit_by (w.0.0 == 255) at.place w.0.0 w.0.1 e refl w.2 in
      inr (w.0.0, w.0.1, number_stands 1 at w.0 w.1, p.0, p.1)
]
