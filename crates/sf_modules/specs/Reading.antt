-- The checks of a module's file, in their order (ELF64 gABI; Linux core files, NT_FILE; GNU SFrame specification, Version 2).
use Rattle.std.specs.Prelude.{ℕ, not, List, Option, Some, None, Result, Ok, Err, is_some}
use Rattle.elf_read.specs.declared.fault.ElfFault.{ElfFault}
use Rattle.elf_read.specs.declared.fault.ElfFault.TheVariants as elf
use Rattle.elf_read.specs.Checking.{each_below, unless, ◌>>◌}
use Rattle.elf_read.specs.Checks.{program_headers_check}
use Rattle.elf_read.specs.Header.{kind_of}
use Rattle.elf_read.specs.Parsing.{file_check}
use Rattle.elf_read.specs.Sections.{is_compressed, section_bytes, section_header, segment_total}
use Rattle.core_notes.specs.TotalSize.{note_room_check}
use Rattle.sf_decode.specs.declared.fault.DecodeFault.{DecodeFault}
use Rattle.sf_decode.specs.Decoding.{section_check}
use Rattle.sf_modules.specs.declared.fault.ModuleFault.TheVariants.{Elf, NoSection, Segments, NotMapped, Mapping, Ambiguous, Build, Section}
use Rattle.sf_modules.specs.Build.{is_same_build}
use Rattle.sf_modules.specs.Entry.{EntryView}
use Rattle.sf_modules.specs.Fault.{Check}
use Rattle.sf_modules.specs.File.{first_load, is_program, sframe_section}
use Rattle.sf_modules.specs.Match.{matching_entry, is_ambiguous, is_candidate}
use Rattle.sf_modules.specs.Module.{loaded_address, file_base}
use Rattle.sf_modules.specs.Process.{ProcessView}

-- a check of the ELF file, whose fault is the module's
abbrev pub elf_fault_part : Result (Unit {0}) ElfFault → Check
elf_fault_part (Ok x) = Ok tt
elf_fault_part (Err fault) = Err (Elf fault)

-- the file is an executable or a shared object: ET_EXEC or ET_DYN
abbrev pub kind_part : List ℕ → Check
kind_part file = unless (is_program (kind_of file)) (Elf (elf.Kind 16))

-- the file has an SFrame section, which is not compressed
abbrev pub section_part : List ℕ → (section : Option ℕ) → Check
section_part file None = Err NoSection
section_part file (Some i) = unless (not (is_compressed file i)) (Elf (elf.Compressed (section_header file i)))

-- the program headers have the format's length and lie in the file: a fault is at the field of the file header
abbrev pub headers_part : Result (Unit {0}) ElfFault → Check
headers_part (Ok x) = Ok tt
headers_part (Err (elf.EntrySize place)) = Err (Segments place)
headers_part (Err fault) = Err (Segments 32)

-- the program headers can be read, and one of them is of a loaded segment
abbrev pub segments_part : List ℕ → Check
segments_part file = headers_part (program_headers_check file) >> unless (is_some (first_load file)) (Segments 56)

-- the file has room for its PT_NOTE segments together, which are read whole
abbrev pub room_part : List ℕ → Check
room_part file = elf_fault_part (each_below (segment_total file) (note_room_check file))

-- an entry has the word's last part, and the file fits at one of the nearest entries, and at those of one name alone
abbrev pub match_part : ProcessView → (word file : List ℕ) → (load : ℕ) → Option EntryView → Check
match_part p word file load None = Err Mapping
match_part p word file load (Some entry) = unless (not (is_ambiguous p word file load entry)) Ambiguous

-- the file is found among the entries
unfoldable pub nearest_part : ProcessView → (word file : List ℕ) → (load : ℕ) → Check
nearest_part p word file load = unless (is_candidate word p.entries) NotMapped >> match_part p word file load (matching_entry p word file load)

-- the file is the build that the process had
abbrev pub build_part : ProcessView → (file : List ℕ) → (load : ℕ) → EntryView → Check
build_part p file load entry = unless (is_same_build p.core file (file_base file p.page entry load)) Build

-- the file's build, at its entry
abbrev pub home_part : ProcessView → (file : List ℕ) → (load : ℕ) → Option EntryView → Check
home_part p file load None = Ok tt
home_part p file load (Some entry) = build_part p file load entry

-- the file is found, and is the process's build, once its first loaded segment is known
abbrev pub found_part : ProcessView → (word file : List ℕ) → (load : Option ℕ) → Check
found_part p word file None = Ok tt
found_part p word file (Some load) = nearest_part p word file load >> home_part p file load (matching_entry p word file load)

-- the checks of where the process had the file
unfoldable pub place_check : ProcessView → (word file : List ℕ) → Check
place_check p word file = segments_part file >> room_part file >> found_part p word file (first_load file)

-- all checks of a file that needs no section: the first that fails is the file's fault
unfoldable pub mapped_check : ProcessView → (word file : List ℕ) → Check
mapped_check p word file = elf_fault_part (file_check file) >> kind_part file >> place_check p word file

-- a check of the section, whose fault is the module's
abbrev pub decode_part : Result (Unit {0}) DecodeFault → Check
decode_part (Ok x) = Ok tt
decode_part (Err fault) = Err (Section fault)

-- the section has no fault at the address at which it was
abbrev pub table_part : List ℕ → (page : ℕ) → EntryView → (load section : ℕ) → Check
table_part file page entry load section = decode_part (section_check (section_bytes file section) (loaded_address file page entry load section))

-- the file's build and its section, at its entry
abbrev pub entry_part : ProcessView → (file : List ℕ) → (load section : ℕ) → Option EntryView → Check
entry_part p file load section None = Ok tt
entry_part p file load section (Some entry) = build_part p file load entry >> table_part file p.page entry load section

-- the checks of the file in the process, once its section and its first loaded segment are known
abbrev pub process_part : ProcessView → (word file : List ℕ) → (load section : Option ℕ) → Check
process_part p word file (Some load) (Some section) = nearest_part p word file load >> entry_part p file load section (matching_entry p word file load)
process_part p word file load section = Ok tt

-- all checks of a file with its section: the first that fails is the file's fault
unfoldable pub module_check : ProcessView → (word file : List ℕ) → Check
module_check p word file =
    elf_fault_part (file_check file)
    >> kind_part file
    >> section_part file (sframe_section file)
    >> segments_part file
    >> room_part file
    >> process_part p word file (first_load file) (sframe_section file)
