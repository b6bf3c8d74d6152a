use Rattle.std.proofs.Common.{length}
use Rattle.sample_walk.specs.Cache.{AreRight}
use Rattle.sample_walk.specs.Onward.{stepping, walk_on}
use Rattle.sample_walk.proofs.Listed.{Listed}
use Rattle.sample_walk.proofs.walking.walk_on.Given as goal

abbrev pub invariant-loop-count : goal.invariant-loop-count
invariant-loop-count g l = record {
  right : AreRight (g.L.Modules.row_at l.modules) (g.L.Modules.index_at l.modules) l.cache;
  so_far : let step = stepping (g.L.Modules.row_at l.modules) l.fn.mask (g.M.Memory.regions l.mem) in
      Listed (g.L.Modules.index_at l.modules) step l.count l.at l.frames l.fn.frames (walk_on step (length l.fn.frames) l.fn.start);
}
