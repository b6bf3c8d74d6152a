use Rattle.std.proofs.Common.{◌≡◌}
use Rattle.sf_bytes.specs.Cursor.{cursor}
use Rattle.cfa_insn.specs.Listing.{listing}
use Rattle.cfa_insn.specs.Remaining.{items_left}
use Rattle.cfa_machine.specs.Columns.{no_columns}
use Rattle.cfa_machine.specs.Pass.{initial_columns}
use Rattle.cfa_machine.proofs.initial.initial_row.Given as goal

abbrev pub invariant-loop-item : goal.invariant-loop-item
invariant-loop-item l = record {
  can : (goal.iterator-loop-item).can_next l.item-iterator;
  ends : (goal.iterator-loop-item).is_finite l.item-iterator;
  same : initial_columns l.arch l.data_alignment_factor l.columns (items_left l.item-iterator) ≡ initial_columns l.arch l.data_alignment_factor no_columns (listing (cursor l.fn.cie));
}
