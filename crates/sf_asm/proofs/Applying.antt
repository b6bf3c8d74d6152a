-- What is written over the pointer fields of a section is what applying its relocations comes to.
use Rattle.std.proofs.Common.{◌≡◌, ℕ, List, map, Result, Ok, Err, refl}
use Rattle.eh_records.specs.Step.{PointerField}
use Rattle.elf_place.specs.Views.{Placing}
use Rattle.elf_read.specs.Sections.{section_bytes}
use Rattle.elf_reloc.specs.declared.fault.RelocFault.{RelocFault}
use Rattle.elf_reloc.specs.declared.fix.RelocatedField.{RelocatedField}
use Rattle.elf_reloc.specs.Applied.{Slot, Applied, by_place, applied_of, applied_to}
use Rattle.elf_reloc.specs.Order.{overlap_check}
use Rattle.elf_reloc.specs.Reading.{section_fixes}
use Rattle.elf_reloc.proofs.Applying.{applied_unread, applied_overlapping, applied_checked}
use Rattle.frame_functions.specs.Relocated.{without_overlap, relocations_of, pointer_check, pointer_slot, on_pointers}
use Rattle.sf_bytes.specs.Steps.{◌>>=◌}

abbrev okay : List RelocatedField → Result (List RelocatedField) RelocFault
okay fixes = Ok fixes

abbrev as_applied : (section : List ℕ) → List Slot → List RelocatedField → Result Applied RelocFault
as_applied section slots fixes = Ok (applied_of fixes section slots)

by_check : (p : Placing) (section : ℕ) (fields : List PointerField) (fixes : List RelocatedField) (check : Result (Unit {0}) RelocFault) → section_fixes p section ≡ Ok fixes → overlap_check 0 (by_place fixes) ≡ Ok tt
    → pointer_check fields (by_place fixes) ≡ check
    → applied_to p section (map pointer_slot fields) ≡ ((check >>= λ _. okay (by_place fixes)) >>= as_applied (section_bytes p.file section) (map pointer_slot fields))
by_check p section fields fixes (Ok u) read apart checked = applied_checked p section (map pointer_slot fields) fixes (Ok u) read apart checked
by_check p section fields fixes (Err e) read apart checked = applied_checked p section (map pointer_slot fields) fixes (Err e) read apart checked

by_overlap : (p : Placing) (section : ℕ) (fields : List PointerField) (fixes : List RelocatedField) (overlap : Result (Unit {0}) RelocFault) → section_fixes p section ≡ Ok fixes → overlap_check 0 (by_place fixes) ≡ overlap
    → applied_to p section (map pointer_slot fields) ≡ (((overlap >>= λ _. okay (by_place fixes)) >>= on_pointers fields) >>= as_applied (section_bytes p.file section) (map pointer_slot fields))
by_overlap p section fields fixes (Ok u) read apart = by_check p section fields fixes (pointer_check fields (by_place fixes)) read apart refl
by_overlap p section fields fixes (Err e) read overlap = applied_overlapping p section (map pointer_slot fields) fixes e read overlap

by_fixes : (p : Placing) (section : ℕ) (fields : List PointerField) (given : Result (List RelocatedField) RelocFault) → section_fixes p section ≡ given
    → applied_to p section (map pointer_slot fields) ≡ (((given >>= λ fixes. without_overlap (by_place fixes)) >>= on_pointers fields) >>= as_applied (section_bytes p.file section) (map pointer_slot fields))
by_fixes p section fields (Ok fixes) read = by_overlap p section fields fixes (overlap_check 0 (by_place fixes)) read refl
by_fixes p section fields (Err e) read = applied_unread p section (map pointer_slot fields) e read

pub applied_is : (p : Placing) (section : ℕ) (fields : List PointerField)
    → applied_to p section (map pointer_slot fields) ≡ ((relocations_of p section >>= on_pointers fields) >>= as_applied (section_bytes p.file section) (map pointer_slot fields))
unfolding relocations_of
applied_is p section fields = by_fixes p section fields (section_fixes p section) refl
