-- The walk of a thread by what was read of a core file.
use Rattle.std.proofs.Common.{◌≡◌, ℕ, subst, ◌∙◌}
use Rattle.sf_model.specs.Walk.{ThreadState}
use Rattle.sf_modules.specs.Found.{found_in}
use Rattle.core_notes.specs.Memory.{file_regions}
use Rattle.core_walk.specs.PartWalk.{IsPartOf, MissedNothing}
use Rattle.core_parts.specs.declared.input_memory.InputMemory.{InputMemory}
use Rattle.core_parts.specs.declared.input_memory.InputMemory.TheVariants.{Whole, Parts}
use Rattle.core_parts.specs.Input.{IsEnough, memory_file, regions_in}
use Rattle.process_walk.specs.declared.process.Process.{Process}
use Rattle.process_walk.specs.declared.walking.ProcessWalk.{ProcessWalk}
use Rattle.process_walk.specs.Process.{entries_in, is_unmasked, modules_in, signals_in}
use Rattle.process_walk.specs.Signals.{signal_at}
use Rattle.process_walk.specs.Walk.{ProcessListing, listing}
use Rattle.process_walk.proofs.PartWalks.{by_a_part}
use Rattle.process_tables.specs.Views.{rows_walk}

-- a walk for which enough was read is the walk by the whole memory
pub is_whole_walk : (process : Process) (thread : ThreadState) (memory : InputMemory) (walk : ProcessWalk) (depth : ℕ) → IsPartOf (regions_in memory) (file_regions (memory_file memory))
    → listing walk ≡ rows_walk process thread (regions_in memory) depth → IsEnough memory walk.stop → listing walk ≡ rows_walk process thread (file_regions (memory_file memory)) depth
is_whole_walk process thread (Whole memory) walk depth part is enough = is
is_whole_walk process thread (Parts memory) walk depth part is enough =
    is ∙ by_a_part (found_in (entries_in process) (modules_in process)) (signal_at (entries_in process) (modules_in process) (signals_in process)) (is_unmasked process) thread
    (regions_in (Parts memory)) (file_regions (memory_file (Parts memory))) depth part
    (subst (λ (l : ProcessListing). MissedNothing (file_regions (memory_file (Parts memory))) l.stop) is enough)
