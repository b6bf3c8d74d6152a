use Rattle.std.proofs.Common.{sym, w64, FitsSigned}
use Rattle.std.proofs.lemmas.Result.{err_from_is_err_and}
use Rattle.std.proofs.lemmas.Int.{to_z-of_z}
use Rattle.cfa_machine.proofs.InstructionLoops.{cie_goes_on, cie_ends, cie_done}
use Rattle.cfa_machine.proofs.initial.initial_row.Goals as goal

pub returns-in_err-define_row : goal.returns-in_err-define_row
returns-in_err-define_row c =
    let fits : FitsSigned w64 c.args.data_alignment_factor = c.ranges.data_alignment_factor in
    let p = err_from_is_err_and c.from_residual.result c.from_residual.ensures.1 in
    rw (p.1, p.2) (simp to_z-of_z at (cie_ends _ _ _ _ _ _ _ _ c.in-Some.ensures.steps (sym c.in_err-define_row.ensures) c.loop-item.invariant.same))

pub loop-item-preserved : goal.loop-item-preserved
loop-item-preserved c = record {
  can = tt;
  ends = tt;
  same = cie_goes_on _ _ _ _ _ _ _ _ c.in-Some.ensures.steps (sym c.in_ok-define_row.ensures) c.loop-item.invariant.same;
}

pub returns : goal.returns
returns c =
    let fits : FitsSigned w64 c.args.data_alignment_factor = c.ranges.data_alignment_factor in
    simp to_z-of_z at (cie_done _ _ _ _ _ c.in-None.ensures.steps.0 c.loop-item.invariant.same)
