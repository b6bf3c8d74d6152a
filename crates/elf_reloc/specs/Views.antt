-- What fields hold once a section's relocations are applied.
use Rattle.std.specs.Prelude.{◌≡◌, List, ◌⊎◌, Result, Ok, Err}
use Rattle.std.specs.Option.{IfSome}
use Rattle.elf_reloc.specs.declared.fault.RelocFault.{RelocFault}
use Rattle.elf_reloc.specs.declared.fix.RelocatedField.{RelocatedField}
use Rattle.elf_reloc.specs.declared.relocs.Relocs.{Relocs}
use Rattle.elf_reloc.specs.Order.{InOrder, overlap_check}
use Rattle.elf_reloc.specs.Reading.{reloc_refusal}

-- the fields that are written, by rising place
abbrev pub fixes_in : Relocs → List RelocatedField
fixes_in r = r.fixes.items

-- a section's relocations were read, and no two of their fields overlap
pub record Reads (given : Result (List RelocatedField) RelocFault) (sorted : List RelocatedField) : Type 0 where
  pub fixes : List RelocatedField
  pub read : given ≡ Ok fixes
  pub order : InOrder fixes sorted
  pub apart : overlap_check 0 sorted ≡ Ok tt

-- they were read, and the later of the first two fields that overlap, by their places, is refused
pub record Overlaps (given : Result (List RelocatedField) RelocFault) (e : RelocFault) : Type 0 where
  pub fixes : List RelocatedField
  pub sorted : List RelocatedField
  pub read : given ≡ Ok fixes
  pub order : InOrder fixes sorted
  pub refused : overlap_check 0 sorted ≡ Err e

-- the first fault: of reading, and then of the fields; unless memory ran out
abbrev pub IsFirstFault : RelocFault → Result (List RelocatedField) RelocFault → Type 0
IsFirstFault fault given = IfSome (reloc_refusal fault) (λ refusal. (given ≡ Err refusal) ⊎ Overlaps given refusal)

-- what a call returned is what a section's relocations give
abbrev pub Relocated : Result Relocs RelocFault → Result (List RelocatedField) RelocFault → Type 0
Relocated (Ok r) given = Reads given (fixes_in r)
Relocated (Err e) given = IsFirstFault e given
