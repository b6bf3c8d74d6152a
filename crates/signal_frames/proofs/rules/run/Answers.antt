use Rattle.std.specs.Option.{option_map}
use Rattle.std.proofs.Common.{ap, ◌∙◌}
use Rattle.signal_frames.specs.Rules.{rules_view}
use Rattle.signal_frames.proofs.Running.{done, ends, goes_on}
use Rattle.signal_frames.proofs.rules.run.Goals as goal

pub returns-in_err-rules : goal.returns-in_err-rules
returns-in_err-rules c =
    ap (option_map rules_view) c.from_residual.ensures ∙ ends _ _ _ _ _ c.in-Some.ensures.steps c.in_err-rules.ensures c.loop-item.invariant.same

pub loop-item-preserved : goal.loop-item-preserved
loop-item-preserved c = record {
  can = tt;
  ends = tt;
  same = goes_on _ _ _ _ _ _ c.in-Some.ensures.steps c.in_ok-rules.ensures c.loop-item.invariant.same;
}

pub returns : goal.returns
returns c = done _ _ _ c.in-None.ensures.steps.0 c.loop-item.invariant.same
