-- The call frame sections of inputs as they are placed and relocated, or the first fault (ELF64 gABI; LSB Core, "The .eh_frame section").
use Rattle.std.specs.Prelude.{◌≡◌, ℕ, ◌+◌, ◌-◌, ◌%◌, ◌^◌, Bool, List, [], ◌∷◌, map, Result, Ok, Err}
use Rattle.sf_model.specs.declared.machine.Arch.{Arch}
use Rattle.elf_read.specs.declared.fault.ElfFault.TheVariants as faults
use Rattle.elf_read.specs.declared.kind.Kind.{Kind}
use Rattle.elf_read.specs.declared.kind.Kind.TheVariants as kinds
use Rattle.elf_read.specs.Checking.{numbers_below}
use Rattle.elf_read.specs.Header.{arch_of, kind_of}
use Rattle.elf_read.specs.Linked.{linked_file}
use Rattle.elf_read.specs.Parsing.{file_check}
use Rattle.elf_read.specs.Sections.{section_bytes, section_count}
use Rattle.elf_place.specs.Dropped.{dropped_sections}
use Rattle.elf_place.specs.Place.{address_of, eh_frames_below, place_check, shift_of}
use Rattle.elf_place.specs.Views.{Placing}
use Rattle.elf_reloc.specs.Reading.{placed_address}
use Rattle.frame_functions.specs.declared.fault.AsmFault.{AsmFault}
use Rattle.frame_functions.specs.declared.fault.AsmFault.TheVariants as asm
use Rattle.sf_model.specs.declared.form.Form.{Form}
use Rattle.sf_model.specs.declared.form.Form.TheVariants.{Elf, Bare}
use Rattle.sf_asm.specs.declared.input.Input.{Input}
use Rattle.sf_asm.specs.declared.input.InputBytes.{InputBytes}
use Rattle.sf_asm.specs.declared.input.InputBytes.TheVariants as given
use Rattle.elf_groups.specs.Dropped.{AreDroppedGroups}
use Rattle.elf_groups.specs.Groups.{dropped_groups, seen_after}
use Rattle.frame_functions.specs.Relocated.{relocations_of}
use Rattle.sf_bytes.specs.Steps.{◌>>=◌, named}
use Rattle.frame_functions.specs.CallFrames.{CallFrames, bare_section}

-- an input, seen without where its bytes lie in memory
pub record Object : Type 0 where
  pub form : Form
  pub bytes : List ℕ
  pub base : ℕ

-- what the bytes of an input are
abbrev pub form_of : InputBytes → Form
form_of (given.Section arch bytes) = Bare arch
form_of (given.File bytes) = Elf
form_of (given.Linked elf) = Elf

-- all the bytes of an input; of a file that was checked by its parts, those of the whole file
abbrev pub bytes_of : InputBytes → List ℕ
bytes_of (given.Section arch bytes) = bytes.now
bytes_of (given.File bytes) = bytes.now
bytes_of (given.Linked elf) = linked_file elf.now

-- an input as such an object
abbrev pub object_of : Input → Object
object_of input = record { form = form_of input.bytes; bytes = bytes_of input.bytes; base = input.base }

-- the machine that a file's header names, or that of a bare section
abbrev pub machine_by : Form → List ℕ → Arch
machine_by Elf file = arch_of file
machine_by (Bare arch) bytes = arch

-- the machine of an input
abbrev pub machine_of : Object → Arch
machine_of object = machine_by object.form object.bytes

-- ---- ELF files
-- all sections at their addresses, where the COMDAT groups with these numbers are dropped
abbrev pub placing_of : (groups file : List ℕ) → (base : ℕ) → Placing
placing_of groups file base = record {
  file = file;
  addresses = map (address_of file (dropped_sections file groups) base) (numbers_below (section_count file));
  dropped = dropped_sections file groups;
}

-- a section of a placed file
abbrev pub placed_section : Placing → (shift section : ℕ) → CallFrames
placed_section p shift section = record {
  number = section;
  bytes = section_bytes p.file section;
  address = (placed_address p section + (2 ^ 64 - shift)) % 2 ^ 64;
  shift = shift;
  relocations = relocations_of p section;
}

-- a core file isn't linked; its kind is at place 16
abbrev pub linked_kind : Kind → Result (Unit {0}) AsmFault
linked_kind kinds.Core = Err (asm.Elf (faults.Kind 16))
linked_kind kind = Ok tt

-- what is checked of a file before it is placed
unfoldable pub linked_check : (file : List ℕ) → Result (Unit {0}) AsmFault
linked_check file = named asm.Elf (file_check file) >>= λ _. linked_kind (kind_of file)

-- the sections with call frame information that are not dropped, in order
abbrev pub elf_sections : (groups file : List ℕ) → (base : ℕ) → Result (List CallFrames) AsmFault
elf_sections groups file base = do
  _ ← linked_check file
  _ ← named asm.Place (place_check file (dropped_sections file groups) base)
  Ok (map (placed_section (placing_of groups file base) (shift_of file base)) (eh_frames_below file (dropped_sections file groups) (section_count file)))

-- ---- inputs
-- the files among these bytes, by their form: a bare section is none
abbrev pub files_in : Form → (bytes : List ℕ) → List (List ℕ)
files_in Elf file = file ∷ []
files_in (Bare arch) bytes = []

-- the call frame sections of an input, by its form: a file's groups whose signature a group of an earlier place has are dropped
abbrev pub SectionsAre : Form → (earlier : List (List ℕ)) → (bytes : List ℕ) → (base : ℕ) → Result (List CallFrames) AsmFault → Type 0
SectionsAre Elf earlier file base result = (groups : List ℕ) × AreDroppedGroups earlier file groups × (result ≡ elf_sections groups file base)
SectionsAre (Bare arch) earlier bytes base result = result ≡ Ok (bare_section bytes base ∷ [])

-- ---- Inside the crate: the same, where these signatures of groups were seen before
-- for each section whether it is dropped with its group
abbrev pub dropped_after : (seen : List (List ℕ)) → (file : List ℕ) → List Bool
dropped_after seen file = dropped_sections file (dropped_groups seen file)

-- the call frame sections of these bytes, by their form
abbrev pub sections_by : Form → (seen : List (List ℕ)) → (bytes : List ℕ) → (base : ℕ) → Result (List CallFrames) AsmFault
sections_by Elf seen file base = elf_sections (dropped_groups seen file) file base
sections_by (Bare arch) seen bytes base = Ok (bare_section bytes base ∷ [])

-- the call frame sections of an input, in order
abbrev pub sections_of : (seen : List (List ℕ)) → Object → Result (List CallFrames) AsmFault
sections_of seen object = sections_by object.form seen object.bytes object.base

-- the signatures that were seen after these bytes, by their form
abbrev pub seen_by : Form → (seen : List (List ℕ)) → (bytes : List ℕ) → List (List ℕ)
seen_by Elf seen file = seen_after seen file
seen_by (Bare arch) seen bytes = seen

-- the signatures of groups that were seen once an input is read
abbrev pub seen_behind : (seen : List (List ℕ)) → Object → List (List ℕ)
seen_behind seen object = seen_by object.form seen object.bytes
