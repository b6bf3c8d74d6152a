use Rattle.std.proofs.Common.{◌≡◌, ℕ, List, None, Some, codes, ap, map, sym, subst, ◌∙◌}
use Rattle.sf_asm.specs.Answers.{IsFirstLinked, IsLinked}
use Rattle.sf_asm.specs.Functions.{Object, object_of}
use Rattle.sf_text.specs.Report.{report_text}
use Rattle.sf_words.specs.Forms.{section_and_inputs_of}
use Rattle.sf_words.specs.Loading.{loaded_bytes}
use Rattle.sf_words.specs.Named.{inputs_of}
use Rattle.section_commands.specs.declared.made.Outcome.TheVariants.{Done}
use Rattle.section_commands.specs.Coming.{Makes}
use Rattle.sf_run.specs.Inputs.{objects_in}
use Rattle.sf_run.specs.Link.{LinkComes, section_and_report}
use Rattle.sf_run.proofs.Inputs.{link_fits}
use Rattle.sf_run.proofs.LinkedComes.{linked_comes, unlinked_comes}
use Rattle.sf_run.proofs.link.make.Goals as goal

pub inputs_in-requires : goal.inputs_in-requires
inputs_in-requires c = (inputs_of c.args.named.now.inputs, c.requires.items)

pub link-requires-clause-some : goal.link-requires-clause-some
link-requires-clause-some c =
    let link = section_and_inputs_of c.args.named.now in
    let fits = link_fits (codes "link") link c.requires.asked c.args.loaded.now c.requires.items c.requires.within c.in_ok-inputs.inputs.items _ (c.in_ok-inputs.ensures link.inputs c.requires.items) c.deref.ensures.value in
    (fits.some, fits.few)

pub link-requires-clause-small : goal.link-requires-clause-small
link-requires-clause-small c =
    let link = section_and_inputs_of c.args.named.now in
    let fits = link_fits (codes "link") link c.requires.asked c.args.loaded.now c.requires.items c.requires.within c.in_ok-inputs.inputs.items _ (c.in_ok-inputs.ensures link.inputs c.requires.items) c.deref.ensures.value in
    fits.small

pub returns-in-Ok : goal.returns-in-Ok
returns-in-Ok c =
    let link = section_and_inputs_of c.args.named.now in
    let objects = objects_in link.inputs (loaded_bytes c.args.loaded.now) in
    let made = c.in-Ok.linked in
    let are = ap (map object_of) c.deref.ensures.value ∙ c.in_ok-inputs.ensures link.inputs c.requires.items in
    let linked = subst (λ (os : List Object). IsLinked None os link.section.at made.section.items made.kept made.omitted.items) are c.in-Ok.ensures.linked in
    let text : c.in_ok-text-in-Ok.text.items ≡ report_text made.kept made.omitted.items = c.in_ok-text-in-Ok.ensures ∙ ap (report_text made.kept) c.deref-in-Ok.ensures.value in
    subst (λ (t : List ℕ). LinkComes link (loaded_bytes c.args.loaded.now) (Makes Done (Some made.section.items) t)) (sym text)
    (linked_comes None objects link.section.at section_and_report made.section.items made.kept made.omitted.items linked c.in-Ok.ensures.are_bytes)

pub returns : goal.returns
returns c =
    let link = section_and_inputs_of c.args.named.now in
    let objects = objects_in link.inputs (loaded_bytes c.args.loaded.now) in
    let are = ap (map object_of) c.deref.ensures.value ∙ c.in_ok-inputs.ensures link.inputs c.requires.items in
    let first = subst (λ (os : List Object). IsFirstLinked None os link.section.at c.in-Err.fault) are c.in-Err.ensures.fault in
    unlinked_comes None objects link.section.at section_and_report c.in-Err.fault c.unlinked.result first c.unlinked.ensures.memory c.unlinked.ensures.is
