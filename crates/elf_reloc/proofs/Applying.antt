-- What is read, brought into order and checked is what the section's relocations come to.
use Rattle.std.specs.Prelude.{◌⊎◌, ◌==◌, ◌&&◌, ◌||◌}
use Rattle.std.specs.List.{All, list_any}
use Rattle.std.proofs.lemmas.Bool.{cases_eq}
use Rattle.std.proofs.lemmas.List.Elements.{All-head, All-tail}
use Rattle.std.proofs.Common.{◌≡◌, ℕ, suc, ◌+◌, ◌<◌, ◌≤◌, Bool, true, false, cond, List, [], ◌∷◌, get_or, map, Option, Result, Ok, Err, refl, sym, ap, ◌∙◌, inl, inr, arith, eq-eqb, ne_eqb}
use Rattle.sf_bytes.specs.declared.field.Field.{Field}
use Rattle.sf_bytes.specs.Rising.{AreApart, field_place}
use Rattle.elf_read.specs.Sections.{section_bytes}
use Rattle.elf_place.specs.Views.{Placing}
use Rattle.elf_reloc.specs.declared.fault.RelocFault.{RelocFault}
use Rattle.elf_reloc.specs.declared.fault.RelocFault.TheVariants as faults
use Rattle.elf_reloc.specs.declared.fix.RelocatedField.{RelocatedField}
use Rattle.elf_reloc.specs.Applied.{Slot, Applied, by_place, slot_of, slot_check, applied_by_first, applied_of, applied_to}
use Rattle.elf_reloc.specs.Order.{has_width, lies_on, overlap_check, places_check}
use Rattle.elf_reloc.specs.Table.{width_of}
use Rattle.elf_reloc.specs.Reading.{◌>>=◌, section_fixes}
use Rattle.elf_reloc.specs.Views.{Reads, Overlaps, IsFirstFault}
use Rattle.elf_reloc.proofs.Checked.{passed, positive_width}
use Rattle.elf_reloc.proofs.First.{nil, same, other}
use Rattle.elf_reloc.proofs.SortedFixes.{is_by_place}

-- ---- fields and their slots
-- what is written is a pointer field, at its place and of its width
abbrev pub is_slot : List Slot → RelocatedField → Bool
is_slot slots f = list_any (λ (g : Slot). (g.place == f.place) && (g.width == width_of f.range)) slots

abbrev is_at : RelocatedField → Field → Bool
is_at f g = (g.place == f.place) && (g.width == width_of f.range)

first_is : (f : RelocatedField) (g : Field) (gs : List Field) → g.place ≡ f.place → lies_on (g ∷ gs) f ≡ (g.width == width_of f.range)
first_is f g gs here = ap (λ (found : Option Field). has_width found f) (same field_place f.place g gs here)

other_is : (f : RelocatedField) (g : Field) (gs : List Field) → (g.place ≡ f.place → ⊥) → lies_on (g ∷ gs) f ≡ lies_on gs f
other_is f g gs differ = ap (λ (found : Option Field). has_width found f) (other field_place f.place g gs differ)

-- no field is one that is written elsewhere
none_at : (f : RelocatedField) (gs : List Field) → All (λ (g : Field). g.place ≡ f.place → ⊥) gs → is_slot (map slot_of gs) f ≡ false
none_at f [] all = refl
none_at f (g ∷ gs) all =
    ap (λ (b : Bool). (b && (g.width == width_of f.range)) || is_slot (map slot_of gs) f) (ne_eqb g.place f.place (All-head (λ (x : Field). x.place ≡ f.place → ⊥) g gs all))
    ∙ none_at f gs (All-tail (λ (x : Field). x.place ≡ f.place → ⊥) g gs all)

-- fields after one that ends before them are at other places
later_differ : (f : RelocatedField) (g : Field) (gs : List Field) → AreApart (g ∷ gs) → 0 < g.width → g.place ≡ f.place → All (λ (x : Field). x.place ≡ f.place → ⊥) gs
later_differ f g gs apart wide here = λ k d within e.
    let gap : g.place + g.width ≤ (get_or gs k d).place = apart 0 (suc k) d (omega arith) (omega (arith, within)) in
    absurd (omega (arith, gap, wide, here, e))

apart_after : (g : Field) (gs : List Field) → AreApart (g ∷ gs) → AreApart gs
apart_after g gs apart = λ i j d before within. apart (suc i) (suc j) d (omega (arith, before)) (omega (arith, within))

or_none : (b : Bool) → (b || false) ≡ b
or_none true = refl
or_none false = refl

slot_lies : (fields : List Field) (f : RelocatedField) → AreApart fields → is_slot (map slot_of fields) f ≡ lies_on fields f
slot_lies [] f apart = sym (ap (λ (found : Option Field). has_width found f) (nil field_place f.place))
slot_lies (g ∷ gs) f apart = elim (cases_eq g.place f.place) [
  | inl here ↦
      ap (λ (b : Bool). (b && (g.width == width_of f.range)) || is_slot (map slot_of gs) f) (eq-eqb g.place f.place here)
      ∙ ap (λ (b : Bool). (g.width == width_of f.range) || b) (none_at f gs (later_differ f g gs apart (positive_width g.width g.wide) here))
      ∙ or_none (g.width == width_of f.range)
      ∙ sym (first_is f g gs here)
  | inr differ ↦
      ap (λ (b : Bool). (b && (g.width == width_of f.range)) || is_slot (map slot_of gs) f) (ne_eqb g.place f.place differ)
      ∙ slot_lies gs f (apart_after g gs apart)
      ∙ sym (other_is f g gs differ)
]

pub slots_checked : (fields : List Field) (fixes : List RelocatedField) → AreApart fields → slot_check (map slot_of fields) fixes ≡ places_check fields fixes
unfolding slot_check places_check
slots_checked fields [] apart = refl
slots_checked fields (f ∷ fs) apart =
    ap (λ (b : Bool). cond b (slot_check (map slot_of fields) fs) (Err (faults.Place f.index))) (slot_lies fields f apart)
    ∙ ap (λ (r : Result (Unit {0}) RelocFault). cond (lies_on fields f) r (Err (faults.Place f.index))) (slots_checked fields fs apart)

-- what lies on the first field at its place lies on one of them
lies_slot : (fields : List Field) (f : RelocatedField) → lies_on fields f ≡ true → is_slot (map slot_of fields) f ≡ true
lies_slot [] f t = absurd (cc (sym (ap (λ (found : Option Field). has_width found f) (nil field_place f.place)) ∙ t))
lies_slot (g ∷ gs) f t = elim (cases_eq g.place f.place) [
  | inl here ↦
      ap (λ (b : Bool). (b && (g.width == width_of f.range)) || is_slot (map slot_of gs) f) (eq-eqb g.place f.place here)
      ∙ ap (λ (b : Bool). b || is_slot (map slot_of gs) f) (sym (first_is f g gs here) ∙ t)
  | inr differ ↦
      ap (λ (b : Bool). (b && (g.width == width_of f.range)) || is_slot (map slot_of gs) f) (ne_eqb g.place f.place differ)
      ∙ lies_slot gs f (sym (other_is f g gs differ) ∙ t)
]

slots_pass : (fields : List Field) (fixes : List RelocatedField) → places_check fields fixes ≡ Ok tt → slot_check (map slot_of fields) fixes ≡ Ok tt
unfolding slot_check places_check
slots_pass fields [] checked = refl
slots_pass fields (f ∷ fs) checked =
    let p = passed (lies_on fields f) (places_check fields fs) (faults.Place f.index) checked in
    ap (λ (b : Bool). cond b (slot_check (map slot_of fields) fs) (Err (faults.Place f.index))) (lies_slot fields f p.0) ∙ slots_pass fields fs p.1

-- ---- what it comes to
abbrev in_order : List Slot → List ℕ → List RelocatedField → Result Applied RelocFault
in_order slots section fixes = overlap_check 0 fixes >>= λ _. slot_check slots fixes >>= λ _. Ok (applied_of fixes section slots)

abbrev from_fixes : List Slot → List ℕ → Result (List RelocatedField) RelocFault → Result Applied RelocFault
from_fixes slots section given = given >>= λ fixes. in_order slots section (by_place fixes)

to_is : (p : Placing) (section : ℕ) (slots : List Slot) → applied_to p section slots ≡ from_fixes slots (section_bytes p.file section) (section_fixes p section)
unfolding applied_to
to_is p section slots = refl

read_is : (slots : List Slot) (section : List ℕ) (given : Result (List RelocatedField) RelocFault) (fixes : List RelocatedField) → Reads given fixes → from_fixes slots section given ≡ (slot_check slots fixes >>= λ _. Ok (applied_of fixes section slots))
read_is slots section given fixes r =
    ap (from_fixes slots section) r.read
    ∙ ap (in_order slots section) (is_by_place r.fixes fixes r.order)
    ∙ ap (λ (c : Result (Unit {0}) RelocFault). c >>= λ _. slot_check slots fixes >>= λ _. Ok (applied_of fixes section slots)) r.apart

checked_is : (slots : List Slot) (section : List ℕ) (fixes : List RelocatedField) (check : Result (Unit {0}) RelocFault) → slot_check slots fixes ≡ check → (slot_check slots fixes >>= λ _. Ok (applied_of fixes section slots)) ≡ (check >>= λ _. Ok (applied_of fixes section slots))
checked_is slots section fixes check e = ap (λ (c : Result (Unit {0}) RelocFault). c >>= λ _. Ok (applied_of fixes section slots)) e

pub applied : (p : Placing) (section : ℕ) (fixes : List RelocatedField) (fields : List Field) → Reads (section_fixes p section) fixes → places_check fields fixes ≡ Ok tt
    → applied_to p section (map slot_of fields) ≡ Ok (applied_of fixes (section_bytes p.file section) (map slot_of fields))
applied p section fixes fields reads checked =
    to_is p section (map slot_of fields)
    ∙ read_is (map slot_of fields) (section_bytes p.file section) (section_fixes p section) fixes reads
    ∙ checked_is (map slot_of fields) (section_bytes p.file section) fixes (Ok tt) (slots_pass fields fixes checked)

-- ---- where of fields at one place the first counts
abbrev first_in_order : List Field → List ℕ → List RelocatedField → Result Applied RelocFault
first_in_order fields section fixes = overlap_check 0 fixes >>= λ _. places_check fields fixes >>= λ _. Ok (applied_of fixes section (map slot_of fields))

abbrev first_from_fixes : List Field → List ℕ → Result (List RelocatedField) RelocFault → Result Applied RelocFault
first_from_fixes fields section given = given >>= λ fixes. first_in_order fields section (by_place fixes)

first_is_from : (p : Placing) (section : ℕ) (fields : List Field) → applied_by_first p section fields ≡ first_from_fixes fields (section_bytes p.file section) (section_fixes p section)
unfolding applied_by_first
first_is_from p section fields = refl

first_read : (fields : List Field) (section : List ℕ) (given : Result (List RelocatedField) RelocFault) (fixes : List RelocatedField) (check : Result (Unit {0}) RelocFault) → Reads given fixes → places_check fields fixes ≡ check
    → first_from_fixes fields section given ≡ (check >>= λ _. Ok (applied_of fixes section (map slot_of fields)))
first_read fields section given fixes check r checked =
    ap (first_from_fixes fields section) r.read
    ∙ ap (first_in_order fields section) (is_by_place r.fixes fixes r.order)
    ∙ ap (λ (c : Result (Unit {0}) RelocFault). c >>= λ _. places_check fields fixes >>= λ _. Ok (applied_of fixes section (map slot_of fields))) r.apart
    ∙ ap (λ (c : Result (Unit {0}) RelocFault). c >>= λ _. Ok (applied_of fixes section (map slot_of fields))) checked

pub first_applied : (p : Placing) (section : ℕ) (fixes : List RelocatedField) (fields : List Field) → Reads (section_fixes p section) fixes → places_check fields fixes ≡ Ok tt
    → applied_by_first p section fields ≡ Ok (applied_of fixes (section_bytes p.file section) (map slot_of fields))
first_applied p section fixes fields reads checked = first_is_from p section fields ∙ first_read fields (section_bytes p.file section) (section_fixes p section) fixes (Ok tt) reads checked

pub first_misplaced : (p : Placing) (section : ℕ) (fixes : List RelocatedField) (fields : List Field) (e : RelocFault) → Reads (section_fixes p section) fixes → places_check fields fixes ≡ Err e → applied_by_first p section fields ≡ Err e
first_misplaced p section fixes fields e reads checked = first_is_from p section fields ∙ first_read fields (section_bytes p.file section) (section_fixes p section) fixes (Err e) reads checked

order_alike : (fields : List Field) (section : List ℕ) (fixes : List RelocatedField) → AreApart fields → first_in_order fields section fixes ≡ in_order (map slot_of fields) section fixes
order_alike fields section fixes apart =
    ap (λ (c : Result (Unit {0}) RelocFault). overlap_check 0 fixes >>= λ _. c >>= λ _. Ok (applied_of fixes section (map slot_of fields))) (sym (slots_checked fields fixes apart))

from_alike : (fields : List Field) (section : List ℕ) (given : Result (List RelocatedField) RelocFault) → AreApart fields → first_from_fixes fields section given ≡ from_fixes (map slot_of fields) section given
from_alike fields section (Ok fixes) apart = order_alike fields section (by_place fixes) apart
from_alike fields section (Err e) apart = refl

pub alike : (p : Placing) (section : ℕ) (fields : List Field) → AreApart fields → applied_by_first p section fields ≡ applied_to p section (map slot_of fields)
alike p section fields apart =
    first_is_from p section fields
    ∙ from_alike fields (section_bytes p.file section) (section_fixes p section) apart
    ∙ sym (to_is p section (map slot_of fields))

-- ---- what is refused as it is read
refused_by : (slots : List Slot) (section : List ℕ) (given : Result (List RelocatedField) RelocFault) (e : RelocFault) → (given ≡ Err e) ⊎ Overlaps given e → (e ≡ faults.NoMemory) ⊎ (from_fixes slots section given ≡ Err e)
refused_by slots section given e (inl read) = inr (ap (from_fixes slots section) read)
refused_by slots section given e (inr o) = inr (
    ap (from_fixes slots section) o.read
    ∙ ap (in_order slots section) (is_by_place o.fixes o.sorted o.order)
    ∙ ap (λ (c : Result (Unit {0}) RelocFault). c >>= λ _. slot_check slots o.sorted >>= λ _. Ok (applied_of o.sorted section slots)) o.refused
    )

refused_from : (slots : List Slot) (section : List ℕ) (given : Result (List RelocatedField) RelocFault) (e : RelocFault) → IsFirstFault e given → (e ≡ faults.NoMemory) ⊎ (from_fixes slots section given ≡ Err e)
refused_from slots section given faults.NoMemory h = inl refl
refused_from slots section given (faults.UnknownType index) h = refused_by slots section given (faults.UnknownType index) h
refused_from slots section given (faults.Range index) h = refused_by slots section given (faults.Range index) h
refused_from slots section given (faults.Place index) h = refused_by slots section given (faults.Place index) h
refused_from slots section given (faults.Twice index) h = refused_by slots section given (faults.Twice index) h
refused_from slots section given (faults.RelSection number) h = refused_by slots section given (faults.RelSection number) h
refused_from slots section given (faults.OutOfSection index) h = refused_by slots section given (faults.OutOfSection index) h

pub refused : (p : Placing) (section : ℕ) (slots : List Slot) (e : RelocFault) → IsFirstFault e (section_fixes p section) → (e ≡ faults.NoMemory) ⊎ (applied_to p section slots ≡ Err e)
unfolding applied_to
refused p section slots e h = refused_from slots (section_bytes p.file section) (section_fixes p section) e h

-- ---- by the first part that fails
pub applied_unread : (p : Placing) (section : ℕ) (slots : List Slot) (e : RelocFault) → section_fixes p section ≡ Err e → applied_to p section slots ≡ Err e
applied_unread p section slots e read = to_is p section slots ∙ ap (from_fixes slots (section_bytes p.file section)) read

pub applied_overlapping : (p : Placing) (section : ℕ) (slots : List Slot) (fixes : List RelocatedField) (e : RelocFault) → section_fixes p section ≡ Ok fixes → overlap_check 0 (by_place fixes) ≡ Err e → applied_to p section slots ≡ Err e
applied_overlapping p section slots fixes e read overlap =
    to_is p section slots
    ∙ ap (from_fixes slots (section_bytes p.file section)) read
    ∙ ap (λ (c : Result (Unit {0}) RelocFault). c >>= λ _. slot_check slots (by_place fixes) >>= λ _. Ok (applied_of (by_place fixes) (section_bytes p.file section) slots)) overlap

pub applied_checked : (p : Placing) (section : ℕ) (slots : List Slot) (fixes : List RelocatedField) (check : Result (Unit {0}) RelocFault) → section_fixes p section ≡ Ok fixes → overlap_check 0 (by_place fixes) ≡ Ok tt
    → slot_check slots (by_place fixes) ≡ check → applied_to p section slots ≡ (check >>= λ _. Ok (applied_of (by_place fixes) (section_bytes p.file section) slots))
applied_checked p section slots fixes check read apart checked =
    to_is p section slots
    ∙ ap (from_fixes slots (section_bytes p.file section)) read
    ∙ ap (λ (c : Result (Unit {0}) RelocFault). c >>= λ _. slot_check slots (by_place fixes) >>= λ _. Ok (applied_of (by_place fixes) (section_bytes p.file section) slots)) apart
    ∙ checked_is slots (section_bytes p.file section) (by_place fixes) check checked
