-- Where a process had a file (ELF64 gABI, "Program Header", "Base Address"; Linux core files, NT_FILE).
use Rattle.std.specs.Prelude.{◌≡◌, ℕ, false, true, List, Some}
use Rattle.sf_model.specs.declared.machine.Arch.{Arch}
use Rattle.elf_read.specs.Header.{arch_of}
use Rattle.sf_modules.specs.declared.place.MappedFile.{MappedFile}
use Rattle.sf_modules.specs.Build.{is_same_build}
use Rattle.sf_modules.specs.Entry.{EntryView, mapping_view}
use Rattle.sf_modules.specs.File.{first_load}
use Rattle.sf_modules.specs.Match.{matching_entry, is_ambiguous, is_candidate}
use Rattle.sf_modules.specs.Module.{file_base}
use Rattle.sf_modules.specs.Process.{ProcessView}

-- the entry of the file's first loaded segment, how far up the file was mapped, and its machine
pub record MappedView : Type 0 where
  pub entry : EntryView
  pub base : ℕ
  pub machine : Arch

-- a mapped file as the code has it
abbrev pub mapped_view : MappedFile → MappedView
mapped_view m = record { entry = mapping_view m.entry; base = m.base; machine = m.machine }

-- this is where the process had a file, for which the word is given
pub record IsMapped (p : ProcessView) (word file : List ℕ) (m : MappedView) : Type 0 where
  pub load : ℕ
  pub load_is : first_load file ≡ Some load
  pub named : is_candidate word p.entries ≡ true
  pub entry_is : matching_entry p word file load ≡ Some m.entry
  pub alone : is_ambiguous p word file load m.entry ≡ false
  pub base_is : m.base ≡ file_base file p.page m.entry load
  pub build : is_same_build p.core file m.base ≡ true
  pub machine_is : m.machine ≡ arch_of file
