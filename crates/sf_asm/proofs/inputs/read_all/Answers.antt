use Rattle.std.proofs.Common.{◌≡◌, ◌∙◌, ℕ, All, List, ◌++◌, ◌∷◌, [], take, map, ap, arith, subst}
use Rattle.std.proofs.lemmas.Result.{err_from_is_err_and}
use Rattle.sf_model.specs.declared.machine.Arch.{Arch}
use Rattle.sf_asm.specs.Functions.{functions_of, machine_of, object_of}
use Rattle.frame_functions.specs.ReadSoFar.{AreSound}
use Rattle.sf_asm.proofs.Machines.{earlier_have, last_has}
use Rattle.sf_asm.proofs.ReadInputs.{AreReadUpTo, ends_at, goes_on_at, machines_more, starts, stops_at}
use Rattle.frame_functions.proofs.ReadSoFar.{none_sound}
use Rattle.sf_asm.proofs.inputs.read_all.Goals as goal

pub returns-in_err-arch-clause-fault : goal.returns-in_err-arch-clause-fault
returns-in_err-arch-clause-fault c =
    let p = err_from_is_err_and c.from_residual.result c.from_residual.ensures.1 in
    rw (p.1, p.2) (stops_at c.args.lending c.loop-index.seen c.loop-index.all.read c.args.first c.loop-index.index c.args.inputs.now c.index-inputs-index.result (functions_of c.args.first (map object_of c.args.inputs.now)) c.in_err-arch.field-0.0 c.loop-index-test.true c.index-inputs-index.is c.loop-index.invariant.reads c.in_err-arch.ensures.fault)

pub loop-index-init : goal.loop-index-init
loop-index-init c = record {
  reads = subst (λ (item : ℕ). AreReadUpTo c.args.lending c.new-seen.result c.new-2.result item (map object_of c.args.inputs.now) (functions_of c.args.first (map object_of c.args.inputs.now))) (omega arith)
      (starts c.args.lending c.new-seen.result c.new-2.result c.args.first (map object_of c.args.inputs.now) c.new-seen.ensures (c.new-2.ensures c.args.lending));
  machines = c.new.ensures.items;
  sound = λ arch h. none_sound arch c.args.lending c.new-2.result (c.new-2.ensures c.args.lending);
}

pub loop-index-preserved : goal.loop-index-preserved
loop-index-preserved c =
    let so_far = c.loop-index.invariant in
    record {
      reads = goes_on_at c.args.lending c.loop-index.seen c.read_item.new.seen c.loop-index.all.read c.read_item.new.read c.args.first c.loop-index.index c.args.inputs.now c.index-inputs-index.result (functions_of c.args.first (map object_of c.args.inputs.now)) c.loop-index-test.true c.index-inputs-index.is so_far.reads c.in_ok-arch.ensures.reads c.in_ok-arch.ensures.seen;
      machines =
          c.in_ok-push.ensures.items ∙ ap (λ (ms : List Arch). ms ++ c.in_ok-arch.arch ∷ []) so_far.machines
          ∙ ap (λ (m : Arch). map machine_of (map object_of (take c.loop-index.index c.args.inputs.now)) ++ m ∷ []) c.in_ok-arch.ensures.arch ∙ machines_more c.args.inputs.now c.loop-index.index c.index-inputs-index.result c.loop-index-test.true c.index-inputs-index.is;
      sound = λ arch h.
          let all = subst (All (λ (m : Arch). m ≡ arch)) c.in_ok-push.ensures.items h in
          subst (λ (a : Arch). AreSound a c.loop-index.all.read → AreSound a c.read_item.new.read) (last_has arch c.loop-index.all.machines.items c.in_ok-arch.arch all) c.in_ok-arch.ensures.sound
          (so_far.sound arch (earlier_have arch c.loop-index.all.machines.items c.in_ok-arch.arch all));
    }

pub returns-clause-reads : goal.returns-clause-reads
returns-clause-reads c = ends_at c.args.lending c.loop-index.seen c.loop-index.all.read _ c.loop-index.index c.args.inputs.now _ c.loop-index-test.false c.loop-index.invariant.reads
