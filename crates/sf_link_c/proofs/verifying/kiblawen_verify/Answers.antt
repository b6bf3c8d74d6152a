use Rattle.std.proofs.Common.{List, map, rules, refl, sym, ap, ◌∙◌}
use Rattle.sf_asm.specs.declared.input.Input.{Input}
use Rattle.sf_asm.specs.Functions.{object_of}
use Rattle.sf_decode.specs.View.{section_bytes, table_of}
use Rattle.sf_verify.specs.declared.fault.VerifyFault.TheVariants.{NoMemory}
use Rattle.sf_link_c.specs.Inputs.{object_of_input}
use Rattle.sf_link_c.proofs.Verified.{refused, verified}
use Rattle.sf_link_c.proofs.verifying.kiblawen_verify.Goals as goal

pub returns-in_default-inputs_of : goal.returns-in_default-inputs_of
returns-in_default-inputs_of c =
    refused c.args.section.now c.args.inputs.now (section_bytes c.in-Some.view) (table_of c.in-Some.view) (map object_of_input c.args.inputs.now) NoMemory 5
    c.no_verdict-in_default-inputs_of.result c.no_refusal-in_default-inputs_of.result
    (sym c.in-Some.ensures.table) c.in-Some.ensures.bytes refl (search rules) (search rules) (search rules) refl
    c.no_verdict-in_default-inputs_of.ensures c.no_refusal-in_default-inputs_of.ensures

pub returns-in-Ok-verify : goal.returns-in-Ok-verify
returns-in-Ok-verify c =
    verified c.args.section.now c.args.inputs.now (section_bytes c.in-Some.view) (table_of c.in-Some.view) (map object_of c.deref.result.now) c.in-Ok-verify.given c.verdict_shown-answer.result
    (sym c.in-Some.ensures.table) c.in-Some.ensures.bytes (ap (λ (is : List Input). map object_of is) c.deref.ensures.value ∙ c.in-Ok.ensures.objects) (search rules) c.in-Ok-verify.ensures.verdict c.verdict_shown-answer.ensures

pub returns : goal.returns
returns c =
    refused c.args.section.now c.args.inputs.now (section_bytes c.in-Some.view) (table_of c.in-Some.view) (map object_of c.deref.result.now) c.in-Err.fault c.fault_answer.result
    c.no_verdict-in-Err.result c.refusal_of.result
    (sym c.in-Some.ensures.table) c.in-Some.ensures.bytes (ap (λ (is : List Input). map object_of is) c.deref.ensures.value ∙ c.in-Ok.ensures.objects) (search rules) c.in-Err.ensures.fault c.in-Err.ensures.answered
    c.fault_answer.ensures c.no_verdict-in-Err.ensures c.refusal_of.ensures
