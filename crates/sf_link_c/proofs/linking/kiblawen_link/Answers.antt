use Rattle.std.proofs.Common.{rules, length, sym, ap, ◌∙◌}
use Rattle.sf_link_c.proofs.Answering.{made_answers, refused_answers}
use Rattle.sf_link_c.proofs.linking.kiblawen_link.Goals as goal

pub returns-in-Ok : goal.returns-in-Ok
returns-in-Ok c =
    made_answers c.args.inputs.now c.args.at c.write_section.result c.args.out.now c.write_section.new.room c.args.omitted.now c.write_omissions.new.room
    (record { section = c.in-Ok.made.section.items; kept = c.in-Ok.made.kept; omitted = c.in-Ok.made.omitted.items })
    c.len.result c.len-in-Ok.result c.deref-in-Ok.result.now c.deref.result.now c.no_refusal-in-Ok.result
    (search rules) c.in-Ok.ensures.linked c.deref-in-Ok.ensures.value c.deref.ensures.value
    (c.len.ensures ∙ sym c.deref-in-Ok.ensures.len ∙ ap length c.deref-in-Ok.ensures.value)
    (c.len-in-Ok.ensures ∙ sym c.deref.ensures.len ∙ ap length c.deref.ensures.value)
    c.no_refusal-in-Ok.ensures c.write_section.ensures.answer c.write_section.ensures.room c.write_omissions.ensures

pub returns-in-Err : goal.returns-in-Err
returns-in-Err c =
    refused_answers c.args.inputs.now c.args.at c.fault_answer.result c.args.out.now c.args.omitted.now c.in-Err.fault c.refusal_of.result c.nothing_linked-in-Err.result
    (search rules) c.in-Err.ensures.fault c.in-Err.ensures.answered c.fault_answer.ensures c.nothing_linked-in-Err.ensures c.refusal_of.ensures
