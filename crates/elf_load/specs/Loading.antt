-- Where a file is loaded, and which build it is (ELF64 gABI, "Program Header", "Base Address" and "Note Section").
use Rattle.std.specs.Prelude.{ℕ, ◌^◌, List, Option, Some, None, Result, Ok, Err, nat_lt, if◌then◌else◌}
use Rattle.std.specs.Option.{option_map}
use Rattle.sf_bytes.specs.Cursor.{Cursor, cursor}
use Rattle.elf_read.specs.declared.fault.ElfFault.{ElfFault}
use Rattle.elf_read.specs.Checking.{each_below, ◌>>◌}
use Rattle.elf_read.specs.Checks.{program_headers_check}
use Rattle.elf_read.specs.Header.{p_vaddr}
use Rattle.elf_read.specs.Parsing.{file_check}
use Rattle.elf_read.specs.Sections.{segment_total}
use Rattle.core_notes.specs.TotalSize.{note_room_check}
use Rattle.elf_load.specs.declared.fault.LoadFault.{LoadFault}
use Rattle.elf_load.specs.declared.fault.LoadFault.TheVariants.{Elf, NotLoaded}
use Rattle.elf_load.specs.declared.mapping.Mapping.{Mapping}
use Rattle.elf_load.specs.declared.loading.Loading.{Loading}
use Rattle.elf_load.specs.BuildId.{build_id}
use Rattle.elf_load.specs.Segments.{first_loaded, load_address, loaded_end, page_ceiling, page_floor}

-- the page of the first loaded segment, the first page after the last loaded byte, the load address, and the build identifier
pub record LoadingView : Type 0 where
  pub first : ℕ
  pub after : ℕ
  pub load : Option ℕ
  pub build_id : Option Cursor

-- the same, as the code has it
abbrev pub loading_view : Loading → LoadingView
loading_view loading = record { first = loading.first; after = loading.after; load = loading.load; build_id = option_map cursor loading.build_id }

-- the checks of a file: it is an ELF file, its program headers can be read, and it has room for its PT_NOTE segments together
unfoldable pub headers_check : List ℕ → Result (Unit {0}) ElfFault
headers_check file = file_check file >> program_headers_check file >> each_below (segment_total file) (note_room_check file)

-- the first page after the last loaded byte, which has to be an address
abbrev pub page_after : (page : ℕ) → (file : List ℕ) → Result ℕ LoadFault
page_after page file =
    if nat_lt (page_ceiling page (loaded_end file)) (2 ^ 64) then Ok (page_ceiling page (loaded_end file)) else Err NotLoaded

-- where a file is loaded whose first loaded segment is i, with this page after its last loaded byte
abbrev pub loading_to : (page : ℕ) → Mapping → (file : List ℕ) → (i : ℕ) → (after : Result ℕ LoadFault) → Result LoadingView LoadFault
loading_to page mapping file i (Ok after) = Ok (record {
  first = page_floor page (p_vaddr file i);
  after = after;
  load = load_address page mapping file;
  build_id = build_id file;
})
loading_to page mapping file i (Err fault) = Err fault

-- the same by the number of the first loaded segment, if there is one
abbrev pub loading_from : (page : ℕ) → Mapping → (file : List ℕ) → (first : Option ℕ) → Result LoadingView LoadFault
loading_from page mapping file None = Err NotLoaded
loading_from page mapping file (Some i) = loading_to page mapping file i (page_after page file)

-- the same of a file that was checked
abbrev pub loading_checked : Result (Unit {0}) ElfFault → Result LoadingView LoadFault → Result LoadingView LoadFault
loading_checked (Ok passed) loading = loading
loading_checked (Err fault) loading = Err (Elf fault)

-- where a file is loaded, or the first fault
unfoldable pub loading_of : (page : ℕ) → Mapping → (file : List ℕ) → Result LoadingView LoadFault
loading_of page mapping file = loading_checked (headers_check file) (loading_from page mapping file (first_loaded file))

-- what a call returned, as it is defined
abbrev pub loading_seen : Result Loading LoadFault → Result LoadingView LoadFault
loading_seen (Ok loading) = Ok (loading_view loading)
loading_seen (Err fault) = Err fault
