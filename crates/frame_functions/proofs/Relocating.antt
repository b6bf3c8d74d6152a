-- What was read of a section's relocations is what is defined.
use Rattle.std.specs.Prelude.{◌⊎◌, ◌==◌, OnOk, IfOk, IfErr}
use Rattle.std.proofs.Common.{◌≡◌, ℕ, true, false, List, [], ◌∷◌, length, map, Some, Result, Ok, Err, refl, sym, ap, ◌∙◌, inl, inr, arith}
use Rattle.std.proofs.lemmas.Bool.Decides.{nat_tests}
use Rattle.sf_bytes.specs.declared.field.Field.{Field}
use Rattle.sf_bytes.specs.Rising.{AreApart}
use Rattle.eh_records.specs.Step.{PointerField, pointer_view}
use Rattle.elf_place.specs.Views.{Placing}
use Rattle.elf_reloc.specs.declared.fault.RelocFault.{RelocFault}
use Rattle.elf_reloc.specs.declared.fault.RelocFault.TheVariants as faults
use Rattle.elf_reloc.specs.declared.fix.RelocatedField.{RelocatedField}
use Rattle.elf_reloc.specs.declared.relocs.Relocs.{Relocs}
use Rattle.elf_reloc.specs.Applied.{Slot, slot_check, slot_of}
use Rattle.elf_reloc.specs.Fields.{bits_in, is_dropped_field}
use Rattle.elf_reloc.specs.Order.{first_at, places_check}
use Rattle.elf_reloc.specs.Reading.{section_fixes}
use Rattle.elf_reloc.specs.Views.{Reads, Overlaps, IsFirstFault, Relocated, fixes_in}
use Rattle.sf_bytes.specs.Steps.{◌>>=◌}
use Rattle.frame_functions.specs.Relocated.{by_place, without_overlap, relocations_of, pointer_check, pointer_slot}
use Rattle.frame_functions.specs.Views.{AreChecked}
use Rattle.elf_reloc.proofs.Applying.{slots_checked}
use Rattle.elf_reloc.proofs.SortedFixes.{is_by_place}

-- ---- reading
abbrev from_fixes : Result (List RelocatedField) RelocFault → Result (List RelocatedField) RelocFault
from_fixes given = given >>= λ fixes. without_overlap (by_place fixes)

abbrev from_check : List RelocatedField → Result (Unit {0}) RelocFault → Result (List RelocatedField) RelocFault
from_check fixes check = check >>= λ _. Ok fixes

read_from : (given : Result (List RelocatedField) RelocFault) (sorted : List RelocatedField) → Reads given sorted → from_fixes given ≡ Ok sorted
read_from given sorted r =
    ap from_fixes r.read
    ∙ ap without_overlap (is_by_place r.fixes sorted r.order)
    ∙ ap (from_check sorted) r.apart

overlap_from : (given : Result (List RelocatedField) RelocFault) (e : RelocFault) → Overlaps given e → from_fixes given ≡ Err e
overlap_from given e r =
    ap from_fixes r.read
    ∙ ap without_overlap (is_by_place r.fixes r.sorted r.order)
    ∙ ap (from_check r.sorted) r.refused

refused_from : (given : Result (List RelocatedField) RelocFault) (e : RelocFault) → (given ≡ Err e) ⊎ Overlaps given e → (e ≡ faults.NoMemory) ⊎ (from_fixes given ≡ Err e)
refused_from given e (inl read) = inr (ap from_fixes read)
refused_from given e (inr overlap) = inr (overlap_from given e overlap)

refuses_from : (given : Result (List RelocatedField) RelocFault) (e : RelocFault) → IsFirstFault e given → (e ≡ faults.NoMemory) ⊎ (from_fixes given ≡ Err e)
refuses_from given faults.NoMemory h = inl refl
refuses_from given (faults.UnknownType index) h = refused_from given (faults.UnknownType index) h
refuses_from given (faults.Range index) h = refused_from given (faults.Range index) h
refuses_from given (faults.Place index) h = refused_from given (faults.Place index) h
refuses_from given (faults.Twice index) h = refused_from given (faults.Twice index) h
refuses_from given (faults.RelSection section) h = refused_from given (faults.RelSection section) h
refuses_from given (faults.OutOfSection index) h = refused_from given (faults.OutOfSection index) h

pub relocations_read : (p : Placing) (section : ℕ) (sorted : List RelocatedField) → Reads (section_fixes p section) sorted → relocations_of p section ≡ Ok sorted
unfolding relocations_of
relocations_read p section sorted r = read_from (section_fixes p section) sorted r

pub relocations_refused : (p : Placing) (section : ℕ) (e : RelocFault) → IsFirstFault e (section_fixes p section) → (e ≡ faults.NoMemory) ⊎ (relocations_of p section ≡ Err e)
unfolding relocations_of
relocations_refused p section e r = refuses_from (section_fixes p section) e r

-- ---- pointer fields
slots_viewed : (fields : List Field) → map pointer_slot (map pointer_view fields) ≡ map slot_of fields
slots_viewed [] = refl
slots_viewed (g ∷ gs) = ap (λ (slots : List Slot). slot_of g ∷ slots) (slots_viewed gs)

check_viewed : (fields : List Field) (fixes : List RelocatedField) → AreApart fields → pointer_check (map pointer_view fields) fixes ≡ places_check fields fixes
check_viewed fields fixes apart = ap (λ (slots : List Slot). slot_check slots fixes) (slots_viewed fields) ∙ slots_checked fields fixes apart

pub checked : (pointers : List PointerField) (fields : List Field) (fixes : List RelocatedField) (r : Result (Unit {0}) RelocFault) → map pointer_view fields ≡ pointers → AreApart fields → r ≡ places_check fields fixes → pointer_check pointers fixes ≡ r
checked pointers fields fixes r p apart q = ap (λ (gs : List PointerField). pointer_check gs fixes) (sym p) ∙ check_viewed fields fixes apart ∙ sym q

-- what a call answered on the fields that it listed
pub lies_on_fields : (pointers : List PointerField) (fields : List Field) (fixes : List RelocatedField) (r : Result (Unit {0}) RelocFault) → map pointer_view fields ≡ pointers → AreApart fields → r ≡ places_check fields fixes
    → OnOk r (AreChecked pointers fixes)
lies_on_fields pointers fields fixes (Ok u) viewed apart e = inr (record { fields = fields; viewed = viewed; apart = apart; lie = sym e })
lies_on_fields pointers fields fixes (Err fault) viewed apart e = tt

pub nothing_listed : (fixes : List RelocatedField) → (length fixes == 0) ≡ true → fixes ≡ []
nothing_listed [] t = refl
nothing_listed (f ∷ fs) t = absurd (grind (arith, nat_tests))

pub none_checked : (pointers : List PointerField) → pointer_check pointers [] ≡ Ok tt
unfolding slot_check
none_checked pointers = refl

pub on_ok : (x r : Result (Unit {0}) RelocFault) → x ≡ r → OnOk r (x ≡ Ok tt)
on_ok x (Ok u) e = e
on_ok x (Err fault) e = tt

pub on_err : (x r : Result (Unit {0}) RelocFault) → x ≡ r → IfErr r (λ fault. (fault ≡ faults.NoMemory) ⊎ (x ≡ Err fault))
on_err x (Ok u) e = tt
on_err x (Err fault) e = inr e

-- ---- where nothing is written
pub unchanged_bits : (place width raw : ℕ) → bits_in [] place width raw ≡ Some raw
unfolding first_at
unchanged_bits place width raw = refl

pub nothing_dropped : (place width : ℕ) → is_dropped_field [] place width ≡ false
unfolding first_at
nothing_dropped place width = refl

-- ---- what a call answered
pub relocated_read : (p : Placing) (section : ℕ) (r : Result Relocs RelocFault) → Relocated r (section_fixes p section) → IfOk r (λ relocs. relocations_of p section ≡ Ok (fixes_in relocs))
relocated_read p section (Ok relocs) h = relocations_read p section (fixes_in relocs) h
relocated_read p section (Err fault) h = tt

pub relocated_from : (p : Placing) (section : ℕ) (r : Result Relocs RelocFault) → Relocated r (section_fixes p section) → IfOk r (λ relocs. Reads (section_fixes p section) (fixes_in relocs))
relocated_from p section (Ok relocs) h = h
relocated_from p section (Err fault) h = tt

pub relocated_refused : (p : Placing) (section : ℕ) (r : Result Relocs RelocFault) → Relocated r (section_fixes p section) → IfErr r (λ fault. (fault ≡ faults.NoMemory) ⊎ (relocations_of p section ≡ Err fault))
relocated_refused p section (Ok relocs) h = tt
relocated_refused p section (Err fault) h = relocations_refused p section fault h
