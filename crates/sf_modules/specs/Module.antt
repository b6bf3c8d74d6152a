-- A module of a process: a file that was mapped, with the table of its SFrame section at the address at which it was (ELF64 gABI,
-- "Program Header", "Base Address"; Linux core files, NT_FILE).
use Rattle.std.specs.Prelude.{◌≡◌, ℕ, false, true, List, Some}
use Rattle.sf_model.specs.declared.machine.Arch.{Arch}
use Rattle.sf_model.specs.Section.{Section}
use Rattle.sf_model.specs.Table.{Table}
use Rattle.sf_decode.specs.View.{table_of}
use Rattle.elf_read.specs.Header.{arch_of, p_vaddr}
use Rattle.elf_read.specs.Sections.{section_bytes, section_fields}
use Rattle.sf_modules.specs.declared.mapped.Module.{Module}
use Rattle.sf_modules.specs.Build.{is_same_build}
use Rattle.sf_modules.specs.Entry.{EntryView}
use Rattle.sf_modules.specs.File.{first_load, sframe_section}
use Rattle.sf_modules.specs.Fit.{mapping_base, process_address}
use Rattle.sf_modules.specs.Match.{matching_entry, is_ambiguous, is_candidate}
use Rattle.sf_modules.specs.Process.{ProcessView}

-- the name that the process had for a module's file, the file's machine, and its section's table
pub record ModuleView : Type 0 where
  pub name : List ℕ
  pub machine : Arch
  pub table : Table

-- a module as the code has it
abbrev pub module_view : Module → ModuleView
module_view m = record { name = m.name.now; machine = m.machine; table = table_of m.view }

-- how far up a file was mapped, by the entry that is its
abbrev pub file_base : List ℕ → (page : ℕ) → EntryView → (load : ℕ) → ℕ
file_base file page entry load = mapping_base page entry (p_vaddr file load)

-- the address at which a section was
abbrev pub loaded_address : List ℕ → (page : ℕ) → EntryView → (load section : ℕ) → ℕ
loaded_address file page entry load section = process_address (file_base file page entry load) (section_fields file section).sh_addr

-- this is the module of a file, for which the word is given
pub record IsModule (p : ProcessView) (word file : List ℕ) (m : ModuleView) : Type 0 where
  pub section : ℕ
  pub load : ℕ
  pub entry : EntryView
  pub section_is : sframe_section file ≡ Some section
  pub load_is : first_load file ≡ Some load
  pub named : is_candidate word p.entries ≡ true
  pub entry_is : matching_entry p word file load ≡ Some entry
  pub alone : is_ambiguous p word file load entry ≡ false
  pub build : is_same_build p.core file (file_base file p.page entry load) ≡ true
  pub name_is : m.name ≡ entry.name
  pub machine_is : m.machine ≡ arch_of file
  pub table_is : Section (section_bytes file section) (loaded_address file p.page entry load section) m.table
