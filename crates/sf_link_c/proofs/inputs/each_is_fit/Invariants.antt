use Rattle.std.proofs.Common.{All, take}
use Rattle.sf_link_c.specs.Inputs.{IsFit}
use Rattle.sf_link_c.proofs.inputs.each_is_fit.Given as goal

abbrev pub invariant-loop-input : goal.invariant-loop-input
invariant-loop-input l = All IsFit (take l.input-index l.inputs)
