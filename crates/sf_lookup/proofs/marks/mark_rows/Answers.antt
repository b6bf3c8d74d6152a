use Rattle.std.proofs.Common.{◌+◌, Global, List, Vec, sym, ap, subst, arith}
use Rattle.sf_model.specs.declared.function.FuncHead.{FuncHead}
use Rattle.sf_model.specs.declared.rows.Row.{Row}
use Rattle.sf_decode.specs.View.{function_of, rows_left}
use Rattle.sf_lookup.specs.declared.marks.Mark.{Mark}
use Rattle.sf_lookup.specs.Mark.{AreMarksUpto}
use Rattle.sf_lookup.proofs.Marking.{function_marked, none_left, one_marked, one_passed, passes}
use Rattle.sf_lookup.proofs.marks.mark_rows.Goals as goal
use Rattle.sf_lookup.proofs.marks.mark_rows.Goals.{then-number-gt0+then-number-eq0+in_ok-push, else-number-gt0, else-number-gt0-via-then-number-gt0+else-number-eq0, else-number-gt0-via-else-number-gt0}

pub returns-in_default : goal.returns-in_default
returns-in_default c =
    let view = c.args.view.now in
    let number = c.loop-number.number in
    let length_is = ap (λ (h : FuncHead). h.rows) c.func-number-end.ensures in
    let none = none_left (function_of view c.args.i).rows (rows_left c.loop-number.rows) number c.loop-number.invariant.0 c.in_default.ensures.steps.0 in
    function_marked view c.loop-number.marks.items c.args.i number c.functions_are_numbered.ensures c.requires.within none (omega (length_is, c.loop-number.auto.number-end, arith)) c.loop-number.invariant.1

pub loop-number-preserved : goal.loop-number-preserved
loop-number-preserved c =
    let view = c.args.view.now in
    let i = c.args.i in
    let number = c.loop-number.number in
    let p = passes (function_of view i).rows (rows_left c.loop-number.rows) (rows_left c.next.new.self) number c.in-Some.row c.loop-number.invariant.0 c.in-Some.ensures.steps in (
      p.after,
      elim c.if-number-gt0.branch [
        | then-number-gt0+then-number-eq0+in_ok-push w ↦
            subst (λ (marks : List Mark). AreMarksUpto view i (number + 1) marks) (sym (ap (λ (v : Vec Mark Global). v.items) w.marks-is))
            (one_marked view c.loop-number.marks.items w.push.new.self.items (record { function = i; number = number; start = c.in-Some.row.start; rows = c.loop-number.rows })
            (record { within = c.requires.within; numbered = p.within; positive = w.if-number-gt0.true; multiple = w.if-number-eq0.true; start = λ d. ap (λ (r : Row). r.start) (p.is d); start_below = c.fits_in_four_bytes.ensures; rows = c.loop-number.invariant.0 })
            w.in_ok-push.ensures.items c.loop-number.invariant.1)
        | else-number-gt0 w ↦
            subst (λ (marks : List Mark). AreMarksUpto view i (number + 1) marks) (sym (ap (λ (v : Vec Mark Global). v.items) w.marks-is))
            (one_passed view c.loop-number.marks.items i number (elim w.else-number-gt0.branch [
              | else-number-gt0-via-then-number-gt0+else-number-eq0 w' ↦ λ some multiple. absurd (w'.if-number-eq0.false multiple)
              | else-number-gt0-via-else-number-gt0 w' ↦ λ some multiple. omega (some, w'.if-number-gt0.false, arith)
            ]) c.loop-number.invariant.1)
      ],
    )

pub returns : goal.returns
returns c =
    let view = c.args.view.now in
    let rows = ap (λ (h : FuncHead). h.rows) c.func-number-end.ensures in
    function_marked view c.loop-number.marks.items c.args.i c.loop-number.number c.functions_are_numbered.ensures c.requires.within (omega (rows, c.loop-number-test.false, arith))
    (omega (rows, c.loop-number.auto.number-end, arith)) c.loop-number.invariant.1
