-- Walks by what was read of a core file.
use Rattle.std.proofs.Common.{◌≡◌, ℕ, subst, ◌∙◌}
use Rattle.sf_model.specs.declared.walk.Walk.{Walk}
use Rattle.sf_model.specs.Walk.{Listing, LookUp, look_up_walk}
use Rattle.core_notes.specs.declared.status.Thread.{Thread}
use Rattle.core_notes.specs.Memory.{file_regions}
use Rattle.core_walk.specs.PartWalk.{IsPartOf, MissedNothing}
use Rattle.core_walk.specs.Walk.{thread_state, walk_listing}
use Rattle.core_walk.proofs.PartWalks.{same_walk}
use Rattle.core_parts.specs.declared.input_memory.InputMemory.{InputMemory}
use Rattle.core_parts.specs.declared.input_memory.InputMemory.TheVariants.{Whole, Parts}
use Rattle.core_parts.specs.Input.{IsEnough, memory_file, regions_in}

pub is_walked : (rows : LookUp) (thread : Thread) (memory : InputMemory) (walk : Walk) (depth : ℕ) → IsPartOf (regions_in memory) (file_regions (memory_file memory))
    → walk_listing walk ≡ look_up_walk rows (thread_state thread) (regions_in memory) depth → IsEnough memory walk.stop
    → walk_listing walk ≡ look_up_walk rows (thread_state thread) (file_regions (memory_file memory)) depth
is_walked rows thread (Whole memory) walk depth part is enough = is
is_walked rows thread (Parts memory) walk depth part is enough =
    is ∙ same_walk rows (thread_state thread) (regions_in (Parts memory)) (file_regions (memory_file (Parts memory))) depth part
    (subst (λ (listing : Listing). MissedNothing (file_regions (memory_file (Parts memory))) listing.stop) is enough)
