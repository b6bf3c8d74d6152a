use Rattle.std.proofs.Common.{ap, ◌∙◌}
use Rattle.sf_decode.specs.View.{head_of}
use Rattle.sf_write.proofs.RowsPacked.{head_is}
use Rattle.sf_write.proofs.packed.PackedFunction.head.Goals as goal

pub returns : goal.returns
returns c = head_is c.self.inside.arch c.self.inside.head c.self.inside.rows ∙ ap head_of c.self.view_is
