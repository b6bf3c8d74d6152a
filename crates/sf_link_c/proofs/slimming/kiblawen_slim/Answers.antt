use Rattle.std.proofs.Common.{length, sym, ap, ◌∙◌}
use Rattle.sf_decode.specs.View.{section_bytes, table_of}
use Rattle.sf_link_c.proofs.Slimmed.{made_answers, refused_answers}
use Rattle.sf_link_c.proofs.slimming.kiblawen_slim.Goals as goal

pub returns-in-Ok : goal.returns-in-Ok
returns-in-Ok c =
    made_answers c.args.section.now c.args.at c.write_section.result c.args.out.now c.write_section.new.room (section_bytes c.in-Some.view) (table_of c.in-Some.view)
    (record { section = c.in-Ok.made.section.items; functions = c.in-Ok.made.functions; rows = c.in-Ok.made.rows })
    c.len.result c.deref.result.now c.no_refusal-in-Ok.result
    (sym c.in-Some.ensures.table) c.in-Some.ensures.bytes c.in-Ok.ensures.slimmed
    c.deref.ensures.value (c.len.ensures ∙ sym c.deref.ensures.len ∙ ap length c.deref.ensures.value)
    c.no_refusal-in-Ok.ensures c.write_section.ensures.answer c.write_section.ensures.room

pub returns-in-Err : goal.returns-in-Err
returns-in-Err c =
    refused_answers c.args.section.now c.args.at c.fault_answer.result c.args.out.now (section_bytes c.in-Some.view) (table_of c.in-Some.view) c.in-Err.fault c.refusal_of.result c.nothing_made-in-Err.result
    (sym c.in-Some.ensures.table) c.in-Some.ensures.bytes c.in-Err.ensures.fault c.fault_answer.ensures c.nothing_made-in-Err.ensures c.refusal_of.ensures
