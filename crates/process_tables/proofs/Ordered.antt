-- Walks by sections that were put in order are those through the modules.
use Rattle.std.specs.List.{AllZip}
use Rattle.std.specs.Prelude.{IfOk}
use Rattle.std.proofs.Common.{◌≡◌, ℕ, List, Bool, Option, Result, map, ap, subst, ◌∙◌}
use Rattle.sf_base.specs.declared.fault.NoMemory.{NoMemory}
use Rattle.sf_model.specs.Memory.{Region}
use Rattle.sf_model.specs.Recovery.{Recovery}
use Rattle.sf_model.specs.Walk.{ThreadState, recover_by}
use Rattle.core_notes.specs.declared.status.Thread.{Thread}
use Rattle.core_notes.specs.Checks.{file_threads}
use Rattle.core_notes.specs.Memory.{file_regions}
use Rattle.core_walk.specs.Walk.{thread_state}
use Rattle.core_parts.specs.declared.input_memory.InputMemory.{InputMemory}
use Rattle.core_parts.specs.Input.{is_part, memory_file}
use Rattle.sf_lookup.specs.declared.span.Span.{Span}
use Rattle.sf_modules.specs.Entry.{EntryView}
use Rattle.sf_modules.specs.Found.{found_in}
use Rattle.sf_modules.specs.Module.{ModuleView}
use Rattle.sf_text.specs.FileFrames.{file_frames_text}
use Rattle.signal_frames.specs.declared.frame.SignalFrame.{SignalFrame}
use Rattle.process_walk.specs.declared.process.Process.{Process}
use Rattle.process_walk.specs.Masks.{are_unmasked, recover_unmasked, recovered_unmasked}
use Rattle.process_walk.specs.Process.{entries_in, is_unmasked, modules_in, signals_in}
use Rattle.process_walk.specs.Signals as listed
use Rattle.process_walk.specs.Walk.{ProcessListing, process_walk}
use Rattle.process_walk.proofs.Same.{same_walk}
use Rattle.process_tables.specs.declared.table.MappedTable.{MappedTable}
use Rattle.process_tables.specs.declared.walks.MappedWalks.{MappedWalks}
use Rattle.process_tables.specs.Modules.{MappedModule, mapped_walk, recover_at, signal_at}
use Rattle.process_tables.specs.Texts.{frame_shown, mapped_walks, thread_text, thread_texts}
use Rattle.process_tables.specs.Views.{IsTableOf, rows_walk, section_view}
use Rattle.process_tables.specs.Walked.{AreWalks}
use Rattle.process_tables.proofs.Lines.{same_lines}
use Rattle.process_tables.proofs.Lookups.{recover_same, signal_same, signals_in as module_signals, tables_sound}

-- a process that was put in order has these entries, these modules and their signal frames, and these threads
pub record IsOrdered (process : Process) (entries : List EntryView) (modules : List MappedModule) (threads : List Thread) : Type 0 where
  pub entries_are : entries_in process ≡ entries
  pub modules_are : modules_in process ≡ map section_view modules
  pub signals_are : signals_in process ≡ module_signals modules
  pub masks_are : is_unmasked process ≡ are_unmasked threads

walked_in : (process : Process) (entries : List EntryView) (modules : List MappedModule) (tables : List MappedTable) (threads : List Thread) → IsOrdered process entries modules threads → AllZip IsTableOf modules tables
    → (thread : ThreadState) (memory : List Region) (depth : ℕ) → rows_walk process thread memory depth ≡ mapped_walk entries modules (are_unmasked threads) thread memory depth
walked_in process entries modules tables threads o are thread memory depth =
    let sound = tables_sound modules tables are in
    let views = map section_view modules in
    ap (λ (es : List EntryView). process_walk (recover_unmasked (is_unmasked process) thread.mask (recover_by (found_in es (modules_in process)) memory)) (listed.signal_at es (modules_in process) (signals_in process)) thread memory depth) o.entries_are
    ∙ ap (λ (ms : List ModuleView). process_walk (recover_unmasked (is_unmasked process) thread.mask (recover_by (found_in entries ms) memory)) (listed.signal_at entries ms (signals_in process)) thread memory depth) o.modules_are
    ∙ ap (λ (ss : List (List (Span SignalFrame))). process_walk (recover_unmasked (is_unmasked process) thread.mask (recover_by (found_in entries views) memory)) (listed.signal_at entries views ss) thread memory depth) o.signals_are
    ∙ ap (λ (b : Bool). process_walk (recover_unmasked b thread.mask (recover_by (found_in entries views) memory)) (listed.signal_at entries views (module_signals modules)) thread memory depth) o.masks_are
    ∙ same_walk (recover_unmasked (are_unmasked threads) thread.mask (recover_by (found_in entries views) memory)) (recover_unmasked (are_unmasked threads) thread.mask (recover_at entries modules memory))
    (listed.signal_at entries views (module_signals modules)) (signal_at entries modules)
    (λ asked regs. ap (λ (r : Option Recovery). recovered_unmasked (are_unmasked threads) thread.mask r) (recover_same entries modules sound memory asked regs)) (signal_same entries modules) thread memory depth

texts_in : (process : Process) (entries : List EntryView) (modules : List MappedModule) (tables : List MappedTable) (threads : List Thread) → IsOrdered process entries modules threads → AllZip IsTableOf modules tables
    → (memory : List Region) (depth : ℕ)
    → thread_texts (entries_in process) modules (λ thread. rows_walk process thread memory depth) threads ≡ thread_texts entries modules (λ thread. mapped_walk entries modules (are_unmasked threads) thread memory depth) threads
texts_in process entries modules tables threads o are memory depth =
    ap (λ (es : List EntryView). thread_texts es modules (λ thread. rows_walk process thread memory depth) threads) o.entries_are
    ∙ same_lines (thread_text entries modules (λ thread. rows_walk process thread memory depth)) (thread_text entries modules (λ thread. mapped_walk entries modules (are_unmasked threads) thread memory depth))
    (λ number thread. ap (λ (l : ProcessListing). file_frames_text number thread.pid (map (frame_shown entries modules) l.frames) l.stop) (walked_in process entries modules tables threads o are (thread_state thread) memory depth))
    0 threads

-- the walks by the memory of a core file
pub walks_in : (process : Process) (entries : List EntryView) (modules : List MappedModule) (tables : List MappedTable) (threads : List Thread) → IsOrdered process entries modules threads → AllZip IsTableOf modules tables
    → (memory : InputMemory) (core : List ℕ) (by_parts : Bool) (depth : ℕ) (result : Result MappedWalks NoMemory)
    → memory_file memory ≡ core → is_part memory ≡ by_parts → threads ≡ file_threads core
    → IfOk result (AreWalks (thread_texts (entries_in process) modules (λ thread. rows_walk process thread (file_regions (memory_file memory)) depth) threads) (is_part memory))
    → IfOk result (AreWalks (mapped_walks entries modules core depth) by_parts)
walks_in process entries modules tables threads o are memory core by_parts depth result file part listed walks =
    let same = texts_in process entries modules tables threads o are (file_regions (memory_file memory)) depth
    ∙ ap (λ (c : List ℕ). thread_texts entries modules (λ thread. mapped_walk entries modules (are_unmasked threads) thread (file_regions c) depth) threads) file
    ∙ ap (λ (ts : List Thread). thread_texts entries modules (λ thread. mapped_walk entries modules (are_unmasked ts) thread (file_regions core) depth) ts) listed in
    subst (λ (p : Bool). IfOk result (AreWalks (mapped_walks entries modules core depth) p)) part
    (subst (λ (t : List ℕ). IfOk result (AreWalks t (is_part memory))) same walks)
