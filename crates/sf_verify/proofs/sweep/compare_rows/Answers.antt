use Rattle.std.specs.Prelude.{IsTrue}
use Rattle.std.proofs.Common.{◌≡◌, ◌+◌, ◌≤◌, Option, None, refl, ap, sym, subst, ◌∙◌, arith}
use Rattle.sf_model.specs.declared.machine.Arch.{Arch}
use Rattle.sf_model.specs.declared.rows.Row.{Row}
use Rattle.sf_model.specs.Content.{content_fits}
use Rattle.sf_decode.specs.View.{rows_left}
use Rattle.frame_functions.specs.ContentAt.{with_key}
use Rattle.sf_verify.specs.declared.sweep.Difference.{Difference}
use Rattle.sf_verify.specs.Asking.{contents_of}
use Rattle.sf_verify.specs.Comparing.{Compares, edge_of, func_read, function_content}
use Rattle.sf_verify.proofs.Compared.{both_compare, differ_in, edge_rises, edge_within, is_plain_is, later, no_difference, nothing_first, run_of_row, same_again, same_self}
use Rattle.sf_verify.proofs.Rowwise.{edge_is, fewer, is_at, lead, lead_is, turn}
use Rattle.sf_verify.proofs.sweep.compare_rows.Goals as goal

pub loop-next-init : goal.loop-next-init
loop-next-init c =
    let f = func_read c.args.head.now c.args.rows in
    let left = lead_is c.args.rows c.next-next.result c.next-next.new.self c.next-next.ensures.steps in
    record {
      place = 0;
      left_are = left;
      from = c.edge-from.ensures;
      same = same_self c.args.dwarf.now;
      ready = later _ _ _ c.requires.ready (omega arith);
      compared = nothing_first f (contents_of c.args.dwarf.now) c.edge-from.result (is_plain_is f c.requires.plain) c.requires.comparable.rise (c.edge-from.ensures ∙ sym (edge_is f.rows (rows_left c.next-next.new.self) 0 f.size c.next-next.result left));
    }

pub loop-next-smaller-else-is_some : goal.loop-next-smaller-else-is_some
loop-next-smaller-else-is_some c = fewer c.in-Some.row c.loop-next.next c.next-next-in-Some.result c.loop-next.left c.next-next-in-Some.new.self c.in-Some.is c.next-next-in-Some.ensures.steps

pub loop-next-smaller : goal.loop-next-smaller
loop-next-smaller c = fewer c.in-Some.row c.loop-next.next c.next-next-in-Some.result c.loop-next.left c.next-next-in-Some.new.self c.in-Some.is c.next-next-in-Some.ensures.steps

pub compare_run-requires-clause-fits : goal.compare_run-requires-clause-fits
compare_run-requires-clause-fits c =
    let inv = c.loop-next.invariant in
    let row = c.in-Some.row in
    let at = is_at (rows_left c.args.rows) inv.place row (rows_left c.loop-next.left) (inv.left_are ∙ ap (λ (r : Option Row). lead r (rows_left c.loop-next.left)) c.in-Some.is) in
    let fits = subst (λ (r : Row). IsTrue (content_fits c.args.dwarf.now.arch r.content)) (at.is row) (c.requires.comparable.fits inv.place row at.within) in
    subst (λ (a : Arch). IsTrue (content_fits a row.content)) (sym inv.same.arch) fits

pub returns-then-is_some-clause-compared : goal.returns-then-is_some-clause-compared
returns-then-is_some-clause-compared c =
    let inv = c.loop-next.invariant in
    let f = func_read c.args.head.now c.args.rows in
    let place = inv.place in
    let t = turn f.rows place f.size c.loop-next.from c.edge-end.result c.in-Some.row c.loop-next.next c.next-next-in-Some.result c.loop-next.left c.next-next-in-Some.new.self inv.left_are c.in-Some.is c.next-next-in-Some.ensures.steps inv.from c.edge-end.ensures in
    let within = edge_within f.rows (place + 1) f.size in
    let end : f.start + c.edge-end.result ≤ f.start + f.size = omega (arith, within, t.ends) in
    let run = run_of_row f f.rows (with_key f.key c.in-Some.row.content) (contents_of c.loop-next.dwarf) (contents_of c.args.dwarf.now) place c.loop-next.from c.edge-end.result _ _ c.in_ok-compared.compared
    inv.same.says (is_plain_is f c.requires.plain) c.requires.comparable.rise refl t.within t.begins t.ends c.if-from-end.true (omega (arith, c.from.ensures)) (omega (arith, c.from-then-from-end.ensures, c.if-from-end.true)) (λ d. ap (λ (r : Row). with_key f.key r.content) (sym (t.is d))) c.in_ok-compared.ensures.compared in
    differ_in (function_content f) (contents_of c.args.dwarf.now) f.start (f.start + c.loop-next.from) (f.start + c.edge-end.result) (f.start + f.size) c.in_ok-compared.compared (sym c.is_some.ensures ∙ c.if-is_some.true) (omega arith) end inv.compared run

pub loop-next-preserved-else-is_some : goal.loop-next-preserved-else-is_some
loop-next-preserved-else-is_some c =
    let inv = c.loop-next.invariant in
    let f = func_read c.args.head.now c.args.rows in
    let place = inv.place in
    let t = turn f.rows place f.size c.loop-next.from c.edge-end.result c.in-Some.row c.loop-next.next c.next-next-in-Some.result c.loop-next.left c.next-next-in-Some.new.self inv.left_are c.in-Some.is c.next-next-in-Some.ensures.steps inv.from c.edge-end.ensures in
    let run = run_of_row f f.rows (with_key f.key c.in-Some.row.content) (contents_of c.loop-next.dwarf) (contents_of c.args.dwarf.now) place c.loop-next.from c.edge-end.result _ _ c.in_ok-compared.compared
    inv.same.says (is_plain_is f c.requires.plain) c.requires.comparable.rise refl t.within t.begins t.ends c.if-from-end.true (omega (arith, c.from.ensures)) (omega (arith, c.from-then-from-end.ensures, c.if-from-end.true)) (λ d. ap (λ (r : Row). with_key f.key r.content) (sym (t.is d))) c.in_ok-compared.ensures.compared in
    let none : c.in_ok-compared.compared ≡ None = no_difference c.in_ok-compared.compared c.is_some.result c.is_some.ensures c.if-is_some.false in
    let agree = subst (λ (d : Option Difference). Compares (function_content f) (contents_of c.args.dwarf.now) (f.start + c.loop-next.from) (f.start + c.edge-end.result) d) none run in
    record {
      place = place + 1;
      left_are = t.left_are;
      from = c.edge-end.ensures;
      same = same_again _ _ _ inv.same c.in_ok-compared.ensures.same;
      ready = later _ _ _ c.in_ok-compared.ensures.ready (omega (arith, c.from-then-from-end.ensures, c.if-from-end.true));
      compared = both_compare (function_content f) (contents_of c.args.dwarf.now) f.start (f.start + c.loop-next.from) (f.start + c.edge-end.result) None (omega arith) (omega (arith, c.if-from-end.true)) inv.compared agree;
    }

pub loop-next-preserved : goal.loop-next-preserved
loop-next-preserved c =
    let inv = c.loop-next.invariant in
    let f = func_read c.args.head.now c.args.rows in
    let place = inv.place in
    let t = turn f.rows place f.size c.loop-next.from c.edge-end.result c.in-Some.row c.loop-next.next c.next-next-in-Some.result c.loop-next.left c.next-next-in-Some.new.self inv.left_are c.in-Some.is c.next-next-in-Some.ensures.steps inv.from c.edge-end.ensures in
    let rise = edge_rises f.rows place f.size c.requires.comparable.rise in
    let stays : c.edge-end.result ≡ c.loop-next.from = omega (arith, c.if-from-end.false, rise, t.begins, t.ends) in
    record {
      place = place + 1;
      left_are = t.left_are;
      from = c.edge-end.ensures;
      same = inv.same;
      ready = rw stays inv.ready;
      compared = λ pc low high. inv.compared pc low (omega (arith, high, stays));
    }

pub returns-clause-compared : goal.returns-clause-compared
returns-clause-compared c =
    let inv = c.loop-next.invariant in
    let all : c.loop-next.from ≡ c.args.head.now.size = inv.from ∙ ap (λ (r : Option Row). edge_of r c.args.head.now.size) c.in_default.is in
    λ pc low high. inv.compared pc low (omega (arith, high, all))
