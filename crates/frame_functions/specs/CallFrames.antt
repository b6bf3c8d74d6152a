-- A call frame section as it is placed and relocated (LSB Core, "The .eh_frame section").
use Rattle.std.specs.Prelude.{ℕ, List, [], Result, Ok}
use Rattle.elf_reloc.specs.declared.fault.RelocFault.{RelocFault}
use Rattle.elf_reloc.specs.declared.fix.RelocatedField.{RelocatedField}

-- a call frame section as it is placed and relocated
pub record CallFrames : Type 0 where
  -- its number in its file, 0 for a bare one
  pub number : ℕ
  pub bytes : List ℕ
  -- its address minus the shift of its file, and the shift
  pub address : ℕ
  pub shift : ℕ
  -- what its relocations write, by rising place, or the first fault of theirs
  pub relocations : Result (List RelocatedField) RelocFault

-- a bare section is at its base, and its fields stay as they are
abbrev pub bare_section : (bytes : List ℕ) → (base : ℕ) → CallFrames
bare_section bytes base = record { number = 0; bytes = bytes; address = base; shift = 0; relocations = Ok [] }
