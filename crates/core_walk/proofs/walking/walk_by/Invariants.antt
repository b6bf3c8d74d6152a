use Rattle.std.proofs.Common.{◌-◌}
use Rattle.sf_model.specs.Walk.{look_up_walk, recover_by}
use Rattle.core_walk.specs.Walk.{thread_state}
use Rattle.core_walk.proofs.Frames.{IsWalk}
use Rattle.core_walk.proofs.walking.walk_by.Given as goal

abbrev pub invariant-loop-listed : goal.invariant-loop-listed
invariant-loop-listed g l =
    IsWalk (recover_by (g.L.LookUp.found_at l.rows) (g.M.Memory.regions l.mem)) l.thread.mask (l.depth - l.listed) l.asked l.at l.frames.items
    (look_up_walk (g.L.LookUp.found_at l.rows) (thread_state l.thread) (g.M.Memory.regions l.mem) l.depth)
