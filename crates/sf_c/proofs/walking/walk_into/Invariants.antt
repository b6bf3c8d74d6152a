use Rattle.std.proofs.Common.{length}
use Rattle.sf_c.specs.Sample.{mask_of, stack_memory}
use Rattle.sf_model.specs.Walk.{recover_by}
use Rattle.sf_c.specs.Walk.{sample_walk}
use Rattle.sf_c.proofs.Listed.{Listed}
use Rattle.sf_c.proofs.walking.walk_into.Given as goal

abbrev pub invariant-loop-count : goal.invariant-loop-count
invariant-loop-count g l =
    Listed (recover_by (g.L.LookUp.found_at l.rows) (stack_memory l.sample)) (mask_of l.sample) l.count l.asked l.at l.frames l.fn.frames
    (sample_walk (g.L.LookUp.found_at l.rows) l.sample (length l.fn.frames))
