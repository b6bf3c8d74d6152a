use Rattle.std.proofs.Common.{◌≡◌, ◌+◌, ℕ, None, drop, length}
use Rattle.sf_decode.specs.View.{rows_left}
use Rattle.sf_verify.specs.Asking.{IsReady, IsSame, contents_of}
use Rattle.sf_verify.specs.Comparing.{Compares, edge_of, func_read, function_content}
use Rattle.sf_verify.proofs.Rowwise.{lead}
use Rattle.sf_verify.proofs.sweep.compare_rows.Given as goal

-- the rows before the place were compared
abbrev pub invariant-loop-next : goal.invariant-loop-next
invariant-loop-next l = record {
  place : ℕ;
  left_are : drop place (rows_left l.rows) ≡ lead l.next (rows_left l.left);
  from : l.from ≡ edge_of l.next l.head.size;
  same : IsSame l.initial.dwarf l.dwarf;
  ready : IsReady l.dwarf (l.head.start + l.from);
  compared : Compares (function_content (func_read l.head l.rows)) (contents_of l.initial.dwarf) l.head.start (l.head.start + l.from) None;
}

abbrev pub decreases-loop-next : goal.decreases-loop-next
decreases-loop-next l = length (lead l.next (rows_left l.left))
