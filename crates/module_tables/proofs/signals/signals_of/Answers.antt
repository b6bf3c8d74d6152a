use Rattle.std.proofs.Common.{◌<◌, ◌+◌, List, length, take, ap, subst, sym, arith}
use Rattle.sf_lookup.specs.declared.span.Span.{Span}
use Rattle.signal_frames.specs.declared.frame.SignalFrame.{SignalFrame}
use Rattle.module_tables.specs.Signals.{AreSignals}
use Rattle.module_tables.proofs.Listed.{next_has, next_has_none}
use Rattle.module_tables.proofs.signals.signals_of.Goals as goal
use Rattle.module_tables.proofs.signals.signals_of.Goals.{in-Some+in_ok-push, in_default}

pub loop-number-preserved : goal.loop-number-preserved
loop-number-preserved c =
    let fs = c.args.descriptions.now.functions in
    let k = c.loop-number.number in
    let before = c.loop-number.signals.items in
    let lt : k < length fs = omega (c.loop-number-test.true, c.len-number-end.ensures, arith) in
    let so_far = c.loop-number.invariant.listed in
    record {
      listed =
          elim c.match-branch-2.branch [
            | in-Some+in_ok-push w ↦
                subst (λ (signals : List (Span SignalFrame)). AreSignals (take (k + 1) fs) signals) (sym (ap (λ x. x.items) w.signals-is))
                (next_has fs k c.in_ok-signal.field-0 w.in-Some.signal before w.push.new.self.items lt w.in-Some.is c.in_ok-signal.ensures.found w.in_ok-push.ensures.items so_far)
            | in_default w ↦
                subst (λ (signals : List (Span SignalFrame)). AreSignals (take (k + 1) fs) signals) (sym (ap (λ x. x.items) w.signals-is))
                (next_has_none fs k c.in_ok-signal.field-0 before lt w.in_default.is c.in_ok-signal.ensures.only so_far)
          ];
      kept = c.in_ok-signal.ensures.kept;
    }
