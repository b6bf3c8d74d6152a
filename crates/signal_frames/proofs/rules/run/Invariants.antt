use Rattle.std.proofs.Common.{◌≡◌}
use Rattle.sf_bytes.specs.Cursor.{cursor}
use Rattle.cfa_insn.specs.Listing.{listing}
use Rattle.cfa_insn.specs.Remaining.{items_left}
use Rattle.signal_frames.specs.Rules.{rules_view}
use Rattle.signal_frames.specs.Run.{rules_by}
use Rattle.signal_frames.proofs.rules.run.Given as goal

abbrev pub invariant-loop-item : goal.invariant-loop-item
invariant-loop-item l = record {
  can : (goal.iterator-loop-item).can_next l.item-iterator;
  ends : (goal.iterator-loop-item).is_finite l.item-iterator;
  same : rules_by (items_left l.item-iterator) (rules_view l.rules) ≡ rules_by (listing (cursor l.fn.part)) (rules_view l.fn.before);
}
