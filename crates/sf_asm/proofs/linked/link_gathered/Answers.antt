use Rattle.std.proofs.Common.{map, sym, ◌∙◌}
use Rattle.std.proofs.lemmas.List.{length-map}
use Rattle.sf_write.specs.Stored.{stored_in}
use Rattle.sf_asm.proofs.FaithfulSections.{linked}
use Rattle.sf_asm.proofs.linked.link_gathered.Goals as goal

pub returns-clause-linked : goal.returns-clause-linked
returns-clause-linked c = λ before objects gathered machine.
    let written = c.in_ok-section.ensures in
    let functions = c.args.functions in
    let kept = map (stored_in functions.rows) functions.kept in
    linked before objects c.args.at c.in_ok-section.section.items c.len.result functions.arch kept functions.omitted.items gathered.ordered gathered.is machine
    gathered.kept_are gathered.omitted_are written.section written.tight written.narrow written.in_reach (c.len.ensures ∙ sym (length-map functions.kept (stored_in functions.rows)))
