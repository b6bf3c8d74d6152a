-- Whether a file was mapped as an entry says: each of its loaded segments was where it has to be (ELF64 gABI, "Program Header" and
-- "Base Address"; Linux core files, NT_FILE).
use Rattle.std.specs.Prelude.{ℕ, ◌+◌, ◌-◌, ◌%◌, ◌^◌, ◌==◌, Bool, true, ◌&&◌, ◌||◌, not, nat_lt, List, unwrap_or}
use Rattle.std.specs.List.{list_all, list_any, range_with_len}
use Rattle.elf_read.specs.Header.{p_filesz, p_offset, p_vaddr}
use Rattle.elf_read.specs.SegmentFields.{is_executable}
use Rattle.elf_read.specs.Sections.{segment_total}
use Rattle.core_notes.specs.MemoryBytes.{executable_at}
use Rattle.elf_load.specs.Segments.{page_floor}
use Rattle.sf_modules.specs.Entry.{EntryView, maps}
use Rattle.sf_modules.specs.File.{is_load_header}
use Rattle.sf_modules.specs.Process.{ProcessView}

-- how far up a file was mapped: from where the page of its first loaded segment's address begins to its entry's start
abbrev pub mapping_base : (page : ℕ) → EntryView → (vaddr : ℕ) → ℕ
mapping_base page entry vaddr = (entry.start + (2 ^ 64 - page_floor page vaddr)) % 2 ^ 64

-- where an address of the file was
abbrev pub process_address : (base vaddr : ℕ) → ℕ
process_address base vaddr = (base + vaddr) % 2 ^ 64

-- a loaded segment that has bytes in the file
abbrev pub has_file_bytes : List ℕ → (i : ℕ) → Bool
has_file_bytes file i = is_load_header file i && nat_lt 0 (p_filesz file i)

-- an entry of the name has the segment's bytes at its address
abbrev pub is_mapped : ProcessView → (file : List ℕ) → (name : List ℕ) → (base i : ℕ) → Bool
is_mapped p file name base i = list_any (maps name (process_address base (p_vaddr file i)) (p_offset file i)) p.entries

-- where the segment is executable, the core file doesn't say that its address is not
abbrev pub may_execute : ProcessView → (file : List ℕ) → (base i : ℕ) → Bool
may_execute p file base i = not (is_executable file i) || unwrap_or (executable_at p.core (process_address base (p_vaddr file i))) true

-- the segment was where it has to be, if it has bytes
unfoldable pub segment_fits : ProcessView → (file : List ℕ) → (name : List ℕ) → (base i : ℕ) → Bool
segment_fits p file name base i = not (has_file_bytes file i) || (is_mapped p file name base i && may_execute p file base i)

-- each segment was where it has to be, by the base that the entry gives
unfoldable pub all_segments_fit : ProcessView → (file : List ℕ) → (load : ℕ) → EntryView → Bool
all_segments_fit p file load e =
    (e.offset == page_floor p.page (p_offset file load))
    && list_all (segment_fits p file e.name (mapping_base p.page e (p_vaddr file load))) (range_with_len 0 (segment_total file))
