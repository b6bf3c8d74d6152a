use Rattle.std.proofs.Common.{◌≡◌, ◌++◌, List, ℕ, [], ap, subst, ◌∙◌}
use Rattle.std.proofs.lemmas.Result.{err_from_is_err_and, on_err_weaker, on_ok_weaker}
use Rattle.std.specs.List.{flat_map}
use Rattle.sf_base.specs.Written.{Appends, AppendsPrefix}
use Rattle.sf_decode.specs.View.{table_of}
use Rattle.sf_text.specs.Dump.{dump_text, function_text, section_line}
use Rattle.sf_text.proofs.Appended.{append_nil, gathers_all, gathers_both, gathers_none, gathers_part, gathers_pushed, gathers_some}
use Rattle.sf_text.proofs.Dumped.{dump_text_is}
use Rattle.sf_text.proofs.section_dump.put_dump.Goals as goal

pub returns-in_err-put_functions-clause-prefix : goal.returns-in_err-put_functions-clause-prefix
returns-in_err-put_functions-clause-prefix g c =
    let p = err_from_is_err_and c.from_residual.result c.from_residual.ensures.1 in
    let before = (g.S.Sink.seen c.args.sink.now).written in
    let after = (g.S.Sink.seen c.put_functions.new.sink).written in
    let table = table_of c.args.view.now in
    let held = c.push_section.new.buffer.items in
    let line = section_line c.arch.result c.flags.result c.len.result c.row_count.result in
    let lines = flat_map function_text table.functions in
    let pushed = gathers_pushed before before [] [] held line (gathers_none before []) (c.push_section.ensures ∙ ap (λ (bs : List ℕ). bs ++ line) c.new-buffer.ensures) in
    let is : line ++ (lines ++ []) ≡ dump_text table =
    ap (λ (bs : List ℕ). line ++ bs) (append_nil lines) ∙ dump_text_is table c.arch.result c.flags.result c.len.result c.row_count.result c.arch.ensures c.flags.ensures c.len.ensures.value c.row_count.ensures.value in
    rw p.1 (gathers_part before before after [] held line lines [] (dump_text table) pushed c.in_err-put_functions.ensures.prefix is)

pub returns-clause-all : goal.returns-clause-all
returns-clause-all g c =
    let before = (g.S.Sink.seen c.args.sink.now).written in
    let between = (g.S.Sink.seen c.put_functions.new.sink).written in
    let after = (g.S.Sink.seen c.put_all.new.sink).written in
    let table = table_of c.args.view.now in
    let held = c.push_section.new.buffer.items in
    let last = c.put_functions.new.buffer.items in
    let line = section_line c.arch.result c.flags.result c.len.result c.row_count.result in
    let lines = flat_map function_text table.functions in
    let pushed = gathers_pushed before before [] [] held line (gathers_none before []) (c.push_section.ensures ∙ ap (λ (bs : List ℕ). bs ++ line) c.new-buffer.ensures) in
    let both = gathers_both before before between [] held last line lines pushed c.in_ok-put_functions.ensures.all in
    let is = dump_text_is table c.arch.result c.flags.result c.len.result c.row_count.result c.arch.ensures c.flags.ensures c.len.ensures.value c.row_count.ensures.value in
    on_ok_weaker c.put_all.result (λ h. subst (λ (bs : List ℕ). Appends before after bs) is
    (gathers_all before between after [] last (line ++ lines) both (subst (λ (bs : List ℕ). Appends between after bs) c.as_slice.ensures.value h))) c.put_all.ensures.all

pub returns-clause-prefix : goal.returns-clause-prefix
returns-clause-prefix g c =
    let before = (g.S.Sink.seen c.args.sink.now).written in
    let between = (g.S.Sink.seen c.put_functions.new.sink).written in
    let after = (g.S.Sink.seen c.put_all.new.sink).written in
    let table = table_of c.args.view.now in
    let held = c.push_section.new.buffer.items in
    let last = c.put_functions.new.buffer.items in
    let line = section_line c.arch.result c.flags.result c.len.result c.row_count.result in
    let lines = flat_map function_text table.functions in
    let pushed = gathers_pushed before before [] [] held line (gathers_none before []) (c.push_section.ensures ∙ ap (λ (bs : List ℕ). bs ++ line) c.new-buffer.ensures) in
    let both = gathers_both before before between [] held last line lines pushed c.in_ok-put_functions.ensures.all in
    let is = dump_text_is table c.arch.result c.flags.result c.len.result c.row_count.result c.arch.ensures c.flags.ensures c.len.ensures.value c.row_count.ensures.value in
    on_err_weaker c.put_all.result (λ h. subst (λ (bs : List ℕ). AppendsPrefix before after bs) is
    (gathers_some before between after [] last (line ++ lines) both (subst (λ (bs : List ℕ). AppendsPrefix between after bs) c.as_slice.ensures.value h))) c.put_all.ensures.prefix
