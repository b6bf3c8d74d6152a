use Rattle.std.proofs.Common.{ap, sym, ◌∙◌}
use Rattle.sf_asm.specs.Functions.{unless}
use Rattle.sf_asm.proofs.OverlapLaws.{first_seen}
use Rattle.sf_asm.proofs.overlaps.Overlaps.into_result.Goals as goal

pub returns-in-Some : goal.returns-in-Some
returns-in-Some c = ap unless (sym c.in-Some.is ∙ first_seen c.args.self)

pub returns-in-None : goal.returns-in-None
returns-in-None c = ap unless (sym c.in-None.is ∙ first_seen c.args.self)
