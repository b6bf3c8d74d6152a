use Rattle.std.proofs.Common.{◌≡◌, ◌++◌}
use Rattle.std.specs.List.{flat_map}
use Rattle.sf_decode.specs.View.{rows_left}
use Rattle.sf_text.specs.Dump.{row_line}
use Rattle.sf_text.specs.Gathered.{Gathers}
use Rattle.sf_text.proofs.section_dump.put_rows.Given as goal

-- the rows so far went through the buffer, and with those that are left they are all
abbrev pub invariant-loop-row : goal.invariant-loop-row
invariant-loop-row g l =
    let sink = g.S.Sink in
    record {
      can : (goal.iterator-loop-row g).can_next l.row-iterator;
      ends : (goal.iterator-loop-row g).is_finite l.row-iterator;
      gathered : Gathers ((sink.seen l.fn.sink).written) ((sink.seen l.sink).written) l.fn.buffer.items l.buffer.items (flat_map row_line l.yielded);
      left : flat_map row_line l.yielded ++ flat_map row_line (rows_left l.row-iterator) ≡ flat_map row_line (rows_left l.rows);
      faults : (sink.seen l.sink).faults ≡ (sink.seen l.fn.sink).faults;
    }
