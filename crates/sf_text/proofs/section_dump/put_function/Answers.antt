use Rattle.std.proofs.Common.{◌≡◌, ◌++◌, List, ℕ, [], ap, subst, ◌∙◌}
use Rattle.std.proofs.lemmas.Result.{err_from_is_err_and, on_err_weaker, on_ok_weaker}
use Rattle.std.specs.List.{flat_map}
use Rattle.sf_decode.specs.View.{function_of, rows_left}
use Rattle.sf_text.specs.Dump.{function_line, function_text, row_line}
use Rattle.sf_text.specs.Gathered.{Gathers}
use Rattle.sf_text.proofs.Appended.{append_nil, appends_front, gathers_both, gathers_part, gathers_pushed}
use Rattle.sf_text.proofs.Dumped.{function_text_is}
use Rattle.sf_text.proofs.section_dump.put_function.Goals as goal

pub returns-in_err-make_room-clause-prefix : goal.returns-in_err-make_room-clause-prefix
returns-in_err-make_room-clause-prefix g c =
    let p = err_from_is_err_and c.from_residual.result c.from_residual.ensures.1 in
    let text = function_text (function_of c.args.view.now c.args.i) in
    rw p.1 (appends_front (g.S.Sink.seen c.args.sink.now).written (g.S.Sink.seen c.make_room.new.sink).written c.args.buffer.now.items text c.in_err-make_room.ensures.prefix)

pub returns-clause-all : goal.returns-clause-all
returns-clause-all g c =
    let before = (g.S.Sink.seen c.args.sink.now).written in
    let between = (g.S.Sink.seen c.make_room.new.sink).written in
    let after = (g.S.Sink.seen c.put_rows.new.sink).written in
    let held = c.args.buffer.now.items in
    let headed = c.push_head.new.buffer.items in
    let line = function_line c.func.result in
    let lines = flat_map row_line (rows_left c.rows.result) in
    let is : line ++ lines ≡ function_text (function_of c.args.view.now c.args.i) =
    function_text_is (function_of c.args.view.now c.args.i) c.func.result (rows_left c.rows.result) c.func.ensures c.rows.ensures in
    let pushed = gathers_pushed before between held c.make_room.new.buffer.items headed line c.in_ok-make_room.ensures.all c.push_head.ensures in
    on_ok_weaker c.put_rows.result (λ h. subst (λ (bs : List ℕ). Gathers before after held c.put_rows.new.buffer.items bs) is
    (gathers_both before between after held headed c.put_rows.new.buffer.items line lines pushed h)) c.put_rows.ensures.all

pub returns-clause-prefix : goal.returns-clause-prefix
returns-clause-prefix g c =
    let before = (g.S.Sink.seen c.args.sink.now).written in
    let between = (g.S.Sink.seen c.make_room.new.sink).written in
    let after = (g.S.Sink.seen c.put_rows.new.sink).written in
    let held = c.args.buffer.now.items in
    let headed = c.push_head.new.buffer.items in
    let line = function_line c.func.result in
    let lines = flat_map row_line (rows_left c.rows.result) in
    let text = function_text (function_of c.args.view.now c.args.i) in
    let is : line ++ (lines ++ []) ≡ text =
    ap (λ (bs : List ℕ). line ++ bs) (append_nil lines) ∙ function_text_is (function_of c.args.view.now c.args.i) c.func.result (rows_left c.rows.result) c.func.ensures c.rows.ensures in
    let pushed = gathers_pushed before between held c.make_room.new.buffer.items headed line c.in_ok-make_room.ensures.all c.push_head.ensures in
    on_err_weaker c.put_rows.result (λ h. gathers_part before between after held headed line lines [] text pushed h is) c.put_rows.ensures.prefix
