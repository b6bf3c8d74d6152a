-- What is seen of a section that is read (LSB Core, "The .eh_frame section").
use Rattle.std.specs.Prelude.{◌≡◌, ◌⊎◌, ℕ, List, [], map, Option, Some, None, Result, Ok}
use Rattle.sf_bytes.specs.declared.field.Field.{Field}
use Rattle.sf_bytes.specs.Rising.{AreApart}
use Rattle.eh_records.specs.Step.{PointerField, pointer_view}
use Rattle.elf_place.specs.Views.{Placing}
use Rattle.elf_reloc.specs.declared.fault.RelocFault.{RelocFault}
use Rattle.elf_reloc.specs.declared.fix.RelocatedField.{RelocatedField}
use Rattle.elf_reloc.specs.Fields.{bits_in, is_dropped_field}
use Rattle.elf_reloc.specs.Order.{places_check}
use Rattle.elf_reloc.specs.Reading.{section_fixes}
use Rattle.elf_reloc.specs.Views.{Reads, fixes_in}
use Rattle.frame_functions.specs.declared.call_frame_section.CallFrameSection.{CallFrameSection}
use Rattle.frame_functions.specs.declared.overlay.Overlay.{Overlay}
use Rattle.frame_functions.specs.declared.overlay.Overlay.TheVariants.{Unchanged, Relocated}
use Rattle.frame_functions.specs.Relocated.{Values, relocations_of}
use Rattle.frame_functions.specs.CallFrames.{CallFrames}

-- what is written over a section's fields
abbrev pub written_by : Overlay → List RelocatedField
written_by Unchanged = []
written_by (Relocated relocs) = fixes_in relocs

-- the values of fields as they are read, where this is written over them
abbrev pub overlaid : List RelocatedField → Values
overlaid fixes = record {
  bits = λ g. bits_in fixes g.place g.width g.raw;
  dropped = λ g. is_dropped_field fixes g.place g.width;
}

-- what is written over a section of a file, or of none
abbrev pub relocations_by : Option Placing → (section : ℕ) → Result (List RelocatedField) RelocFault
relocations_by None section = Ok []
relocations_by (Some p) section = relocations_of p section

-- the same, with the order in which it was read
abbrev pub IsReadFrom : Option Placing → (section : ℕ) → List RelocatedField → Type 0
IsReadFrom None section fixes = fixes ≡ []
IsReadFrom (Some p) section fixes = Reads (section_fixes p section) fixes

-- pointer fields, as they are listed, on which all of it lies
pub record LieOn (pointers : List PointerField) (fixes : List RelocatedField) : Type 0 where
  pub fields : List Field
  pub viewed : map pointer_view fields ≡ pointers
  pub apart : AreApart fields
  pub lie : places_check fields fixes ≡ Ok tt

-- nothing is written, or all of it lies on the pointer fields
abbrev pub AreChecked : List PointerField → List RelocatedField → Type 0
AreChecked pointers fixes = (fixes ≡ []) ⊎ LieOn pointers fixes

-- a section that is read, with what its relocations write
abbrev pub seen_section : CallFrameSection → Result (List RelocatedField) RelocFault → CallFrames
seen_section f relocations = record { number = f.number; bytes = f.bytes.now; address = f.address; shift = f.shift; relocations = relocations }
