use Rattle.std.proofs.Common.{◌<◌, ◌+◌, Global, List, Vec, length, sym, ap, subst, arith}
use Rattle.sf_model.specs.declared.function.FuncHead.{FuncHead}
use Rattle.sf_decode.specs.View.{table_of}
use Rattle.sf_lookup.specs.declared.marks.Mark.{Mark}
use Rattle.sf_lookup.specs.Mark.{AreMarksUpto}
use Rattle.sf_lookup.proofs.Marking.{function_without, no_marks}
use Rattle.sf_lookup.proofs.marks.marks_of.Goals as goal
use Rattle.sf_lookup.proofs.marks.marks_of.Goals.{then-func-gt-STRIDE+in_ok-mark_rows, else-func-gt-STRIDE}

pub loop-i-init : goal.loop-i-init
loop-i-init c = no_marks c.args.view.now c.new-marks.result.items c.new-marks.ensures.items

pub loop-i-preserved : goal.loop-i-preserved
loop-i-preserved c =
    let view = c.args.view.now in
    let i = c.loop-i.i in
    let within : i < length (table_of view).functions = omega (c.loop-i-test.true, c.len-i-end.ensures.value, arith) in
    elim c.if-func-gt-STRIDE.branch [
      | then-func-gt-STRIDE+in_ok-mark_rows w ↦ subst (λ (marks : List Mark). AreMarksUpto view (i + 1) 0 marks) (sym (ap (λ (v : Vec Mark Global). v.items) w.marks-is)) w.in_ok-mark_rows.ensures
      | else-func-gt-STRIDE w ↦
          let rows = ap (λ (h : FuncHead). h.rows) c.func.ensures in
          subst (λ (marks : List Mark). AreMarksUpto view (i + 1) 0 marks) (sym (ap (λ (v : Vec Mark Global). v.items) w.marks-is))
          (function_without view c.loop-i.marks.items i c.functions_are_numbered.ensures within (omega (rows, w.if-func-gt-STRIDE.false, arith)) c.loop-i.invariant)
    ]
