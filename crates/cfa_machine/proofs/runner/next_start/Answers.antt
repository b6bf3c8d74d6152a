use Rattle.std.proofs.Common.{◌≡◌, ◌∙◌, w64, FitsSigned, rules}
use Rattle.std.proofs.lemmas.Result.{err_from_is_err_and}
use Rattle.std.proofs.lemmas.Int.{to_z-of_z}
use Rattle.cfa_machine.proofs.InstructionLoops.{advance_row_comes, advance_no_row_comes, cfa_moves, cfa_fault_comes, register_saved, nothing_done, place_given, same_left, none_taken, next_row_comes, next_gives_no_row, next_fault_comes, none_is_next}
use Rattle.cfa_machine.proofs.runner.next_start.Goals as goal

-- ---- the frequent instructions
pub returns-in-Some-advance-clause-reaches : goal.returns-in-Some-advance-clause-reaches
returns-in-Some-advance-clause-reaches c =
    let fits : FitsSigned w64 c.args.data_alignment_factor = c.ranges.data_alignment_factor in
    let delta : c.from.result ≡ c.in-Some.delta = search rules in
    simp to_z-of_z at (advance_row_comes c.args.context.now _ _ _ _ _ _ _ _ _ _ _ _ c.in-Some.ensures.takes delta (c.advance.ensures.steps 0) c.in-Some-advance.is c.loop-delta.invariant.same)

pub loop-delta-preserved-in_default-advance : goal.loop-delta-preserved-in_default-advance
loop-delta-preserved-in_default-advance c =
    let delta : c.from.result ≡ c.in-Some.delta = search rules in
    record {
      same = advance_no_row_comes c.args.context.now _ _ _ _ _ _ _ _ _ _ _ c.in-Some.ensures.takes delta (c.advance.ensures.steps 0) c.in_default-advance.is c.loop-delta.invariant.same;
      most = search rules;
    }

pub loop-delta-preserved-in-Continue-1 : goal.loop-delta-preserved-in-Continue-1
loop-delta-preserved-in-Continue-1 c =
    let place = place_given _ _ _ _ c.in-Some-next_def_cfa_offset.ensures.is in
    record {
      same = cfa_moves c.args.context.now _ _ _ _ _ _ _ _ _ (same_left _ _ c.in_default.ensures.takes ∙ c.in-Some-next_def_cfa_offset.ensures.takes) place (c.in_ok-move_cfa.ensures c.args.context.now) c.loop-delta.invariant.same;
      most = search rules;
    }

pub returns-in_err-move_cfa-clause-reaches : goal.returns-in_err-move_cfa-clause-reaches
returns-in_err-move_cfa-clause-reaches c =
    let fits : FitsSigned w64 c.args.data_alignment_factor = c.ranges.data_alignment_factor in
    let p = err_from_is_err_and c.from_residual.result c.from_residual.ensures.1 in
    let place = place_given _ _ _ _ c.in-Some-next_def_cfa_offset.ensures.is in
    rw (p.1, p.2) (simp to_z-of_z at (cfa_fault_comes c.args.context.now _ _ _ _ _ _ _ _ _ (same_left _ _ c.in_default.ensures.takes ∙ c.in-Some-next_def_cfa_offset.ensures.takes) place (c.in_err-move_cfa.ensures c.args.context.now) c.loop-delta.invariant.same))

pub loop-delta-preserved-in-Some-next_offset : goal.loop-delta-preserved-in-Some-next_offset
loop-delta-preserved-in-Some-next_offset c = record {
  same = register_saved c.args.context.now _ _ _ _ _ _ _ _ _ (same_left _ _ c.in_default.ensures.takes ∙ same_left _ _ c.in_default-next_def_cfa_offset.ensures.takes ∙ c.in-Some-next_offset.ensures.takes) (c.save_at.ensures 0) c.loop-delta.invariant.same;
  most = search rules;
}

pub loop-delta-preserved-then-next_nop : goal.loop-delta-preserved-then-next_nop
loop-delta-preserved-then-next_nop c = record {
  same = nothing_done c.args.context.now _ _ _ _ _ _ (same_left _ _ c.in_default.ensures.takes ∙ same_left _ _ c.in_default-next_def_cfa_offset.ensures.takes ∙ same_left _ _ c.in_default-next_offset.ensures.takes ∙ c.if-next_nop.ensures.takes) c.loop-delta.invariant.same;
  most = search rules;
}

-- ---- any other
pub returns-in_err-start-clause-reaches : goal.returns-in_err-start-clause-reaches
returns-in_err-start-clause-reaches c =
    let fits : FitsSigned w64 c.args.data_alignment_factor = c.ranges.data_alignment_factor in
    let p = err_from_is_err_and c.from_residual-in_err-start.result c.from_residual-in_err-start.ensures.1 in
    let same = none_taken _ _ _ _ _ c.in_default.ensures.takes c.in_default-next_def_cfa_offset.ensures.takes c.in_default-next_offset.ensures.takes c.if-next_nop.ensures.takes in
    rw (p.1, p.2) (simp to_z-of_z at (next_fault_comes _ _ c.loop-delta.machine c.step_next.new.machine _ _ _ _ _ _ same c.in-Some-step_next.ensures c.in_err-start.was c.loop-delta.invariant.same))

pub returns-in-Some-2-clause-reaches : goal.returns-in-Some-2-clause-reaches
returns-in-Some-2-clause-reaches c =
    let fits : FitsSigned w64 c.args.data_alignment_factor = c.ranges.data_alignment_factor in
    let same = none_taken _ _ _ _ _ c.in_default.ensures.takes c.in_default-next_def_cfa_offset.ensures.takes c.in_default-next_offset.ensures.takes c.if-next_nop.ensures.takes in
    simp to_z-of_z at (next_row_comes _ _ c.loop-delta.machine c.step_next.new.machine _ _ _ _ _ _ _ same c.in-Some-step_next.ensures c.in_ok-start.was c.in-Some-2.is c.loop-delta.invariant.same)

pub loop-delta-preserved : goal.loop-delta-preserved
loop-delta-preserved c =
    let same = none_taken _ _ _ _ _ c.in_default.ensures.takes c.in_default-next_def_cfa_offset.ensures.takes c.in_default-next_offset.ensures.takes c.if-next_nop.ensures.takes in
    record {
      same = next_gives_no_row _ _ c.loop-delta.machine c.step_next.new.machine _ _ _ _ _ _ same c.in-Some-step_next.ensures c.in_ok-start.was c.in_default-2.is c.loop-delta.invariant.same;
      most = search rules;
    }

pub returns-in_default-step_next-clause-reaches : goal.returns-in_default-step_next-clause-reaches
returns-in_default-step_next-clause-reaches c =
    let fits : FitsSigned w64 c.args.data_alignment_factor = c.ranges.data_alignment_factor in
    let same = none_taken _ _ _ _ _ c.in_default.ensures.takes c.in_default-next_def_cfa_offset.ensures.takes c.in_default-next_offset.ensures.takes c.if-next_nop.ensures.takes in
    simp to_z-of_z at (none_is_next _ _ c.loop-delta.machine c.step_next.new.machine _ _ _ _ same c.in_default-step_next.ensures c.loop-delta.invariant.same)
