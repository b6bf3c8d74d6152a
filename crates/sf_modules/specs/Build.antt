-- Whether a file is the build that the process had: its build identifiers are those in the process's memory (ELF64 gABI, "Note Section"
-- and "Program Header"; GNU NT_GNU_BUILD_ID).
use Rattle.std.specs.Prelude.{ℕ, ◌+◌, ◌-◌, Bool, true, ◌&&◌, ◌||◌, not, nat_le, bytes_eq, List, length}
use Rattle.std.specs.List.{list_all, list_any, range_with_len}
use Rattle.std.specs.Option.{option_map_or}
use Rattle.elf_read.specs.Header.{p_filesz, p_offset, p_vaddr}
use Rattle.elf_read.specs.SegmentFields.{p_memsz}
use Rattle.elf_read.specs.Sections.{segment_total}
use Rattle.core_notes.specs.Memory.{file_regions}
use Rattle.core_notes.specs.MemoryBytes.{bytes_at}
use Rattle.core_notes.specs.Note.{NoteView}
use Rattle.core_notes.specs.SegmentNotes.{segment_notes}
use Rattle.elf_load.specs.BuildId.{is_build_id}
use Rattle.sf_modules.specs.File.{is_load_header}
use Rattle.sf_modules.specs.Fit.{process_address}

-- the addresses of segment i are some of the loaded segment k
abbrev pub is_within : List ℕ → (i k : ℕ) → Bool
is_within file i k = is_load_header file k && nat_le (p_vaddr file k) (p_vaddr file i) && nat_le (p_vaddr file i + p_filesz file i) (p_vaddr file k + p_memsz file k)

-- the segment is loaded with another
abbrev pub is_within_any : List ℕ → (i : ℕ) → Bool
is_within_any file i = list_any (is_within file i) (range_with_len 0 (segment_total file))

-- where the descriptor of a note of segment i was
abbrev pub descriptor_address : (file : List ℕ) → (base i : ℕ) → NoteView → ℕ
descriptor_address file base i n = process_address base (p_vaddr file i + (n.descriptor.place - p_offset file i))

-- the memory of the core file has the descriptor there, or doesn't have all bytes there
unfoldable pub descriptor_agrees : (core file : List ℕ) → (base i : ℕ) → NoteView → Bool
descriptor_agrees core file base i n =
    option_map_or (bytes_eq n.descriptor.left) (bytes_at (file_regions core) (descriptor_address file base i n) (length n.descriptor.left)) true

-- a note is no build identifier, or agrees
abbrev pub note_agrees : (core file : List ℕ) → (base i : ℕ) → NoteView → Bool
note_agrees core file base i n = not (is_build_id n) || descriptor_agrees core file base i n

-- each build identifier of segment i agrees, or the segment isn't loaded
unfoldable pub segment_agrees : (core file : List ℕ) → (base i : ℕ) → Bool
segment_agrees core file base i = list_all (note_agrees core file base i) (segment_notes file i) || not (is_within_any file i)

-- each segment of the file agrees
abbrev pub is_same_build : (core file : List ℕ) → (base : ℕ) → Bool
is_same_build core file base = list_all (segment_agrees core file base) (range_with_len 0 (segment_total file))
