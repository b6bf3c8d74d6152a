-- The files that a process had mapped, by their call frame information (ELF64 gABI, "Program Header", "Base Address"; Linux core files,
-- NT_FILE; LSB Core, "The .eh_frame section"; DWARF 5, section 6.4).
use Rattle.std.specs.Prelude.{◌≡◌, ℕ, Bool, bytes_eq, List, Option}
use Rattle.std.specs.List.{find}
use Rattle.std.specs.Option.{option_and_then}
use Rattle.sf_model.specs.declared.machine.Arch.{Arch}
use Rattle.sf_model.specs.Memory.{Region}
use Rattle.sf_model.specs.Table.{Table}
use Rattle.sf_model.specs.Walk.{Recovering, ThreadState}
use Rattle.sf_write.specs.Section.{table_of}
use Rattle.sf_lookup.specs.declared.span.Span.{Span}
use Rattle.sf_lookup.specs.Span.{answer_of}
use Rattle.frame_functions.specs.Functions.{Function}
use Rattle.sf_plt.specs.Written.{recover_with_plts, written_functions}
use Rattle.sf_modules.specs.Entry.{EntryView, entry_contains}
use Rattle.sf_modules.specs.Mapped.{IsMapped, MappedView}
use Rattle.sf_modules.specs.Process.{ProcessView}
use Rattle.signal_frames.specs.declared.frame.SignalFrame.{SignalFrame}
use Rattle.module_tables.specs.Table.{IsModuleTable}
use Rattle.process_walk.specs.Masks.{recover_unmasked}
use Rattle.process_walk.specs.Walk.{ProcessListing, process_walk}

-- a file that the process had mapped: the number and the word that are given for it; the name by which the process had it; how far up it was mapped; its
-- machine; its functions, as their records describe them at these addresses; the signal frames of those that SFrame can't express; and
-- the table of its section
pub record MappedModule : Type 0 where
  pub item : ℕ
  pub word : List ℕ
  pub name : List ℕ
  pub base : ℕ
  pub machine : Arch
  pub functions : List Function
  pub signals : List (Span SignalFrame)
  pub table : Table

-- this is the module of a file, for which the number and the word are given: where the process had it, and what linking it there makes, with a section for
-- the address at which its first loaded segment was
pub record IsMappedModule (p : ProcessView) (item : ℕ) (word file : List ℕ) (m : MappedModule) : Type 0 where
  pub mapped : MappedView
  pub is_mapped : IsMapped p word file mapped
  pub section : List ℕ
  pub is_table : IsModuleTable file mapped.base mapped.entry.start section m.signals
  pub item_is : m.item ≡ item
  pub word_is : m.word ≡ word
  pub name_is : m.name ≡ mapped.entry.name
  pub base_is : m.base ≡ mapped.base
  pub machine_is : m.machine ≡ mapped.machine
  pub functions_are : m.functions ≡ is_table.linked.functions
  pub table_is : m.table ≡ table_of is_table.linked.arch (written_functions is_table.linked.sorted)

-- ---- what the process has at an address
-- the module of an address: the first entry that holds it names the file, and the first module of that name is there
abbrev pub module_at : List EntryView → List MappedModule → (pc : ℕ) → Option MappedModule
module_at entries modules pc = option_and_then (λ (e : EntryView). find (λ (m : MappedModule). bytes_eq e.name m.name) modules) (find (entry_contains pc) entries)

-- what DWARF recovers at an address: by the rules of the module that is there
unfoldable pub recover_at : List EntryView → List MappedModule → List Region → Recovering
recover_at entries modules memory asked regs = option_and_then (λ (m : MappedModule). recover_with_plts m.functions memory asked regs) (module_at entries modules asked)

-- the signal frame at an address, of the module that is there
unfoldable pub signal_at : List EntryView → List MappedModule → (pc : ℕ) → Option SignalFrame
signal_at entries modules pc = option_and_then (λ (m : MappedModule). answer_of m.signals pc) (module_at entries modules pc)

-- the walk of a thread by what DWARF recovers in all files, and over their signal frames; a return address in the address space is taken as it is
-- if no thread of the process has a mask
abbrev pub mapped_walk : List EntryView → List MappedModule → (is_unmasked : Bool) → ThreadState → List Region → (depth : ℕ) → ProcessListing
mapped_walk entries modules is_unmasked thread memory depth =
    process_walk (recover_unmasked is_unmasked thread.mask (recover_at entries modules memory)) (signal_at entries modules) thread memory depth
