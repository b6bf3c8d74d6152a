-- A process as its core file shows it (Linux core files, NT_FILE).
use Rattle.std.specs.Prelude.{ℕ, Bool, List, map}
use Rattle.core_parts.specs.Input.{is_map_of_parts, map_file}
use Rattle.sf_modules.specs.declared.process.Process.{Process}
use Rattle.sf_modules.specs.Entry.{EntryView, mapping_view}

-- the core file's bytes, and the page size and the entries of its note on mapped files
pub record ProcessView : Type 0 where
  pub core : List ℕ
  pub page : ℕ
  pub entries : List EntryView

-- the process of this core file, with this page size and these entries
abbrev pub process_of : (core : List ℕ) → (page : ℕ) → List EntryView → ProcessView
process_of core page entries = record { core = core; page = page; entries = entries }

-- a process as the code has it
abbrev pub process_view : Process → ProcessView
process_view p = process_of (map_file p.memory) p.page (map mapping_view p.entries.now)

-- whether only parts of its core file were read
abbrev pub is_process_of_parts : Process → Bool
is_process_of_parts p = is_map_of_parts p.memory
