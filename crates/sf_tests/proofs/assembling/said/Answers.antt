use Rattle.std.proofs.Common.{None}
use Rattle.sf_asm.proofs.Accepting.{gathered_can_be}
use Rattle.sf_tests.proofs.assembling.said.Goals as goal

pub row_at-requires-clause-accepted : goal.row_at-requires-clause-accepted
row_at-requires-clause-accepted c = gathered_can_be None _ _ c.in_ok-_gathered.ensures.gathered.is
