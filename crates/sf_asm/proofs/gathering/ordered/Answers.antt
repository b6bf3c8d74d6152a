use Rattle.std.proofs.Common.{inr, map, subst, ◌∙◌}
use Rattle.std.proofs.lemmas.List.Sorted.{All-permutation}
use Rattle.std.proofs.lemmas.Result.{err_from_is_err_and}
use Rattle.frame_functions.specs.ReadFunction.{IsSound}
use Rattle.sf_asm.specs.Functions.{object_of}
use Rattle.frame_functions.specs.ReadSoFar.{AreSound}
use Rattle.frame_functions.specs.Kept.{read_of}
use Rattle.sf_asm.specs.Linking.{fault_of_limit}
use Rattle.sf_asm.proofs.Limits.{fault_is}
use Rattle.sf_asm.proofs.Machines.{inputs_have}
use Rattle.sf_asm.proofs.WithinLimits.{checked, gathered, machines_differ, overlapping, past_limit}
use Rattle.sf_asm.proofs.gathering.ordered.Goals as goal

pub returns-in_err-arch-clause-fault : goal.returns-in_err-arch-clause-fault
returns-in_err-arch-clause-fault c =
    let p = err_from_is_err_and c.from_residual-in_err-arch.result c.from_residual-in_err-arch.ensures.1 in
    rw (p.1, p.2)
    (inr (machines_differ c.args.before (map object_of c.args.inputs.now) c.first_item.result c.args.lending c.in_ok-machines.field-0.read c.deref.result.now c.first_item.ensures (c.deref.ensures.value ∙ c.in_ok-machines.ensures.machines) c.in_ok-machines.ensures.reads
    c.in_err-arch.field-0.0 c.in_err-arch.ensures.exact))

pub returns-in_err-held-clause-fault : goal.returns-in_err-held-clause-fault
returns-in_err-held-clause-fault c =
    let p = err_from_is_err_and c.from_residual-in_err-held.result c.from_residual-in_err-held.ensures.1 in
    let all = c.in_ok-machines.ensures.reads in
    rw (p.1, p.2)
    (inr (past_limit c.args.before (map object_of c.args.inputs.now) c.first_item.result c.args.lending c.in_ok-machines.field-0.read c.deref.result.now c.first_item.ensures (c.deref.ensures.value ∙ c.in_ok-machines.ensures.machines) c.in_ok-arch.ensures.exact all
    (fault_of_limit c.in_err-held.field-0.0) (fault_is (map read_of all.0) c.in_err-held.field-0.0 (c.in_err-held.ensures.fault c.args.lending all.0 all.2))))

pub returns-in_err-check_overlaps-clause-fault : goal.returns-in_err-check_overlaps-clause-fault
returns-in_err-check_overlaps-clause-fault c =
    let p = err_from_is_err_and c.from_residual-in_err-check_overlaps.result c.from_residual-in_err-check_overlaps.ensures.1 in
    rw (p.1, p.2)
    (inr (overlapping c.args.before (map object_of c.args.inputs.now) c.first_item.result c.args.lending c.in_ok-machines.field-0.read c.deref.result.now c.first_item.ensures (c.deref.ensures.value ∙ c.in_ok-machines.ensures.machines) c.in_ok-arch.ensures.exact c.in_ok-machines.ensures.reads
    c.in_ok-held.held c.in_ok-entries.entries c.in_ok-held.ensures.held c.in_ok-entries.ensures c.in_err-check_overlaps.field-0.0 c.in_err-check_overlaps.ensures))

pub returns-clause-gathered : goal.returns-clause-gathered
returns-clause-gathered c =
    gathered c.args.before (map object_of c.args.inputs.now) c.first_item.result c.args.lending c.in_ok-machines.field-0.read c.deref.result.now c.first_item.ensures (c.deref.ensures.value ∙ c.in_ok-machines.ensures.machines) c.in_ok-arch.ensures.exact c.in_ok-machines.ensures.reads
    c.in_ok-held.held c.in_ok-entries.entries c.in_ok-held.ensures.held c.in_ok-entries.ensures c.in_ok-check_overlaps.ensures

pub returns-clause-checked : goal.returns-clause-checked
returns-clause-checked c =
    checked c.args.before (map object_of c.args.inputs.now) c.first_item.result c.args.lending c.in_ok-machines.field-0.read c.deref.result.now c.first_item.ensures (c.deref.ensures.value ∙ c.in_ok-machines.ensures.machines) c.in_ok-arch.ensures.exact c.in_ok-machines.ensures.reads
    c.in_ok-held.held c.in_ok-entries.entries c.in_ok-held.ensures.held c.in_ok-entries.ensures c.in_ok-check_overlaps.ensures

pub returns-clause-sound : goal.returns-clause-sound
returns-clause-sound c =
    let arch = c.in_ok-arch.arch in
    let sound = c.in_ok-machines.ensures.sound arch (inputs_have c.args.before arch c.in_ok-machines.field-0.machines.items (rw c.deref.ensures.value at c.in_ok-arch.ensures.one)) in
    All-permutation (IsSound arch) _ _ c.in_ok-entries.ensures.moved (subst (AreSound arch) c.in_ok-held.ensures.held sound)
