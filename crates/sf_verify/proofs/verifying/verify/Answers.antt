use Rattle.std.specs.Prelude.{IsTrue}
use Rattle.std.proofs.Common.{◌∙◌, map, refl, sym, subst}
use Rattle.sf_asm.specs.Functions.{object_of}
use Rattle.sf_decode.specs.View.{section_bytes}
use Rattle.sf_verify.specs.declared.fault.VerifyFault.{VerifyFault}
use Rattle.sf_verify.specs.FaultShown.{is_returned}
use Rattle.sf_verify.proofs.NeverMemory.{refused_is_answered, shared_is_answered}
use Rattle.sf_verify.specs.Asking.{kept_in}
use Rattle.sf_verify.proofs.Verdicts.{has_verdict, prepared}
use Rattle.sf_verify.proofs.verifying.verify.Goals as goal

pub verdict_on-requires-clause-machine : goal.verdict_on-requires-clause-machine
verdict_on-requires-clause-machine c =
    (prepared c.args.view.now (map object_of c.args.inputs.now) c.arch.result c.in-Ok.gathered.arch (kept_in c.in-Ok.gathered) c.in-Ok.gathered.omitted.items c.in-Ok.gathered.descriptions.functions c.in_ok-ordered.ordered c.in_ok-ordered.ordered c.shared_address-shared.result
    c.arch.ensures c.in-Ok.ensures.gathered c.in-Ok.ensures.machine c.in_order.ensures.read c.in_ok-ordered.ensures.order refl c.shared_address-shared.ensures c.in-None.is).machine

pub verdict_on-requires-clause-comparable : goal.verdict_on-requires-clause-comparable
verdict_on-requires-clause-comparable c =
    (prepared c.args.view.now (map object_of c.args.inputs.now) c.arch.result c.in-Ok.gathered.arch (kept_in c.in-Ok.gathered) c.in-Ok.gathered.omitted.items c.in-Ok.gathered.descriptions.functions c.in_ok-ordered.ordered c.in_ok-ordered.ordered c.shared_address-shared.result
    c.arch.ensures c.in-Ok.ensures.gathered c.in-Ok.ensures.machine c.in_order.ensures.read c.in_ok-ordered.ensures.order refl c.shared_address-shared.ensures c.in-None.is).comparable

pub verdict_on-requires-clause-rise : goal.verdict_on-requires-clause-rise
verdict_on-requires-clause-rise c =
    (prepared c.args.view.now (map object_of c.args.inputs.now) c.arch.result c.in-Ok.gathered.arch (kept_in c.in-Ok.gathered) c.in-Ok.gathered.omitted.items c.in-Ok.gathered.descriptions.functions c.in_ok-ordered.ordered c.in_ok-ordered.ordered c.shared_address-shared.result
    c.arch.ensures c.in-Ok.ensures.gathered c.in-Ok.ensures.machine c.in_order.ensures.read c.in_ok-ordered.ensures.order refl c.shared_address-shared.ensures c.in-None.is).rise

pub verdict_on-requires-clause-holders : goal.verdict_on-requires-clause-holders
verdict_on-requires-clause-holders c =
    (prepared c.args.view.now (map object_of c.args.inputs.now) c.arch.result c.in-Ok.gathered.arch (kept_in c.in-Ok.gathered) c.in-Ok.gathered.omitted.items c.in-Ok.gathered.descriptions.functions c.in_ok-ordered.ordered c.in_ok-ordered.ordered c.shared_address-shared.result
    c.arch.ensures c.in-Ok.ensures.gathered c.in-Ok.ensures.machine c.in_order.ensures.read c.in_ok-ordered.ensures.order refl c.shared_address-shared.ensures c.in-None.is).holders

pub verdict_on-requires-clause-kept : goal.verdict_on-requires-clause-kept
verdict_on-requires-clause-kept c =
    (prepared c.args.view.now (map object_of c.args.inputs.now) c.arch.result c.in-Ok.gathered.arch (kept_in c.in-Ok.gathered) c.in-Ok.gathered.omitted.items c.in-Ok.gathered.descriptions.functions c.in_ok-ordered.ordered c.in_ok-ordered.ordered c.shared_address-shared.result
    c.arch.ensures c.in-Ok.ensures.gathered c.in-Ok.ensures.machine c.in_order.ensures.read c.in_ok-ordered.ensures.order refl c.shared_address-shared.ensures c.in-None.is).kept_rises

pub returns-clause-verdict : goal.returns-clause-verdict
returns-clause-verdict c =
    has_verdict c.args.view.now (map object_of c.args.inputs.now) c.arch.result c.in-Ok.gathered.arch (kept_in c.in-Ok.gathered) c.in-Ok.gathered.omitted.items c.in-Ok.gathered.descriptions.functions c.in_ok-ordered.ordered c.in_ok-ordered.ordered c.in_ok-verdict_on-in-None.field-0
    c.arch.ensures c.in-Ok.ensures.gathered c.in-Ok.ensures.machine
    (prepared c.args.view.now (map object_of c.args.inputs.now) c.arch.result c.in-Ok.gathered.arch (kept_in c.in-Ok.gathered) c.in-Ok.gathered.omitted.items c.in-Ok.gathered.descriptions.functions c.in_ok-ordered.ordered c.in_ok-ordered.ordered c.shared_address-shared.result
    c.arch.ensures c.in-Ok.ensures.gathered c.in-Ok.ensures.machine c.in_order.ensures.read c.in_ok-ordered.ensures.order refl c.shared_address-shared.ensures c.in-None.is)
    refl c.in_ok-verdict_on-in-None.ensures

pub returns-in-Err-clause-answered : goal.returns-in-Err-clause-answered
returns-in-Err-clause-answered c =
    subst (λ (f : VerifyFault). IsTrue (is_returned f)) (sym c.refused.ensures)
    (refused_is_answered (section_bytes c.args.view.now) c.in_ok-ordered.ordered c.shared_address-shared.result c.in-Err.fault c.shared_address-shared.ensures c.in-Err.ensures.answered)

pub returns-in-Some-clause-answered : goal.returns-in-Some-clause-answered
returns-in-Some-clause-answered c = shared_is_answered (section_bytes c.args.view.now) c.in_ok-ordered.ordered c.in-Some.fault (sym c.in-Some.is ∙ c.shared_address-shared.ensures)
