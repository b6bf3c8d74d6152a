-- Mapped files with their tables, as the code has them.
use Rattle.std.specs.Prelude.{◌≡◌, ℕ, List, [], ◌∷◌, None, Ok, IsTrue}
use Rattle.sf_model.specs.Section.{Section}
use Rattle.sf_asm.specs.Fault.{is_answered}
use Rattle.sf_asm.specs.declared.fault.LinkFault.{LinkFault}
use Rattle.sf_plt.specs.Answers.{IsFirstPltLinked, RecoversWithPlts}
use Rattle.sf_modules.specs.Fault.{IsFaultOf}
use Rattle.sf_modules.specs.Mapped.{IsMapped, MappedView}
use Rattle.sf_modules.specs.Module.{ModuleView}
use Rattle.sf_modules.specs.Process.{ProcessView}
use Rattle.sf_modules.specs.Reading.{mapped_check}
use Rattle.sf_model.specs.Memory.{Region}
use Rattle.sf_model.specs.Walk.{ThreadState, recover_by}
use Rattle.sf_modules.specs.Found.{found_in}
use Rattle.module_tables.specs.Table.{file_at}
use Rattle.process_walk.specs.declared.process.Process.{Process}
use Rattle.process_walk.specs.Masks.{recover_unmasked}
use Rattle.process_walk.specs.Process.{entries_in, is_unmasked, modules_in, signals_in}
use Rattle.process_walk.specs.Signals.{signal_at}
use Rattle.process_walk.specs.Walk.{ProcessListing, process_walk}
use Rattle.process_tables.specs.declared.table.MappedTable.{MappedTable}
use Rattle.process_tables.specs.declared.table.TableFault.{TableFault}
use Rattle.process_tables.specs.declared.table.TableFault.TheVariants.{Module, Link}
use Rattle.process_tables.specs.Modules.{MappedModule}

-- what the code has of a module: its section, which recovers what DWARF recovers with procedure linkage tables, and its signal frames
pub record IsTableOf (m : MappedModule) (t : MappedTable) : Type 0 where
  pub item : m.item ≡ t.item
  pub word : m.word ≡ t.word.now
  pub name : m.name ≡ t.mapped.entry.name.now
  pub base : m.base ≡ t.mapped.base
  pub machine : m.machine ≡ t.mapped.machine
  pub section : Section t.table.section.items t.mapped.entry.start m.table
  pub signals : m.signals ≡ t.table.signals.items
  pub recovers : RecoversWithPlts m.table.functions m.functions

-- a module with its section's table, as walks look rows up in it
abbrev pub section_view : MappedModule → ModuleView
section_view m = record { name = m.name; machine = m.machine; table = m.table }

-- where the process had the file, and the first fault of linking it there
pub record IsUnlinked (p : ProcessView) (word file : List ℕ) (fault : LinkFault) : Type 0 where
  pub mapped : MappedView
  pub checked : mapped_check p word file ≡ Ok tt
  pub is_mapped : IsMapped p word file mapped
  pub first : IsFirstPltLinked None (file_at file mapped.base ∷ []) mapped.entry.start fault

-- why a file has no module: the process's mapping of it is not found, or it can't be linked
abbrev pub IsTableFault : ProcessView → (word file : List ℕ) → TableFault → Type 0
IsTableFault p word file (Module fault) = IsFaultOf (mapped_check p word file) fault
IsTableFault p word file (Link fault) = IsUnlinked p word file fault × IsTrue (is_answered fault)

-- ---- Inside the crate
-- the walk of a thread by the rows of the sections that were put in order
abbrev pub rows_walk : Process → ThreadState → List Region → (depth : ℕ) → ProcessListing
rows_walk process thread memory depth =
    process_walk (recover_unmasked (is_unmasked process) thread.mask (recover_by (found_in (entries_in process) (modules_in process)) memory))
    (signal_at (entries_in process) (modules_in process) (signals_in process)) thread memory depth
