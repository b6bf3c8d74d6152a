use Rattle.std.proofs.Common.{List, ℕ, refl, subst, ◌∙◌}
use Rattle.std.proofs.lemmas.Result.{err_from_is_err_and}
use Rattle.std.specs.List.{flat_map}
use Rattle.sf_decode.specs.View.{rows_left}
use Rattle.sf_text.specs.Dump.{row_line}
use Rattle.sf_text.specs.Gathered.{Gathers}
use Rattle.sf_text.proofs.Appended.{gathers_both, gathers_pushed, gathers_stop}
use Rattle.sf_text.proofs.Pieces.{one_more_text, texts_with}
use Rattle.sf_text.proofs.section_dump.put_rows.Goals as goal

pub returns-in_err-make_room-clause-prefix : goal.returns-in_err-make_room-clause-prefix
returns-in_err-make_room-clause-prefix g c =
    let p = err_from_is_err_and c.from_residual.result c.from_residual.ensures.1 in
    let before = (g.S.Sink.seen c.args.sink.now).written in
    let between = (g.S.Sink.seen c.loop-row.sink).written in
    let after = (g.S.Sink.seen c.make_room.new.sink).written in
    let so_far = c.loop-row.invariant in
    rw p.1 (gathers_stop before between after c.args.buffer.now.items c.loop-row.buffer.items (flat_map row_line c.loop-row.yielded)
    (flat_map row_line (rows_left c.loop-row.row-iterator)) (flat_map row_line (rows_left c.args.rows)) so_far.gathered c.in_err-make_room.ensures.prefix so_far.left)

pub loop-row-preserved : goal.loop-row-preserved
loop-row-preserved g c =
    let before = (g.S.Sink.seen c.args.sink.now).written in
    let between = (g.S.Sink.seen c.loop-row.sink).written in
    let after = (g.S.Sink.seen c.make_room.new.sink).written in
    let so_far = c.loop-row.invariant in
    let rows = c.loop-row.yielded in
    let row = c.in-Some.row in
    let held = c.args.buffer.now.items in
    let pushed = gathers_pushed between after c.loop-row.buffer.items c.make_room.new.buffer.items c.push_line.new.buffer.items (row_line row) c.in_ok-make_room.ensures.all c.push_line.ensures in
    record {
      can = tt;
      ends = tt;
      gathered = subst (λ (bs : List ℕ). Gathers before after held c.push_line.new.buffer.items bs) (texts_with row_line rows row)
          (gathers_both before between after held c.loop-row.buffer.items c.push_line.new.buffer.items (flat_map row_line rows) (row_line row) so_far.gathered pushed);
      left = one_more_text row_line rows (rows_left c.next.new.self) (rows_left c.loop-row.row-iterator) row (flat_map row_line (rows_left c.args.rows)) c.in-Some.ensures.steps so_far.left;
      faults = c.in_ok-make_room.ensures.cause.done refl ∙ so_far.faults;
    }
