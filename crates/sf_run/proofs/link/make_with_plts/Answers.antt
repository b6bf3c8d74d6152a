use Rattle.std.proofs.Common.{◌≡◌, ℕ, List, None, Some, codes, ap, map, sym, subst, ◌∙◌}
use Rattle.sf_model.specs.declared.omission.Omitted.{Omitted}
use Rattle.sf_asm.specs.Functions.{Object, object_of}
use Rattle.sf_plt.specs.Answers.{IsFirstPltLinked, IsPltLinked}
use Rattle.sf_text.specs.PltReport.{plt_report_text}
use Rattle.sf_words.specs.Forms.{section_and_inputs_of}
use Rattle.sf_words.specs.Loading.{loaded_bytes}
use Rattle.sf_words.specs.Named.{inputs_of}
use Rattle.section_commands.specs.declared.made.Outcome.TheVariants.{Done}
use Rattle.section_commands.specs.Coming.{Makes}
use Rattle.sf_run.specs.Inputs.{objects_in}
use Rattle.sf_run.specs.LinkPlt.{LinkPltComes}
use Rattle.sf_run.proofs.Inputs.{link_fits}
use Rattle.sf_run.proofs.LinkedComes.{plt_linked_comes, plt_unlinked_comes}
use Rattle.sf_run.proofs.link.make_with_plts.Goals as goal

pub inputs_in-requires : goal.inputs_in-requires
inputs_in-requires c = (inputs_of c.args.named.now.inputs, c.requires.items)

pub link_plt-requires-clause-some : goal.link_plt-requires-clause-some
link_plt-requires-clause-some c =
    let link = section_and_inputs_of c.args.named.now in
    let fits = link_fits (codes "linkplt") link c.requires.asked c.args.loaded.now c.requires.items c.requires.within c.in_ok-inputs.inputs.items _ (c.in_ok-inputs.ensures link.inputs c.requires.items) c.deref.ensures.value in
    (fits.some, fits.few)

pub link_plt-requires-clause-small : goal.link_plt-requires-clause-small
link_plt-requires-clause-small c =
    let link = section_and_inputs_of c.args.named.now in
    let fits = link_fits (codes "linkplt") link c.requires.asked c.args.loaded.now c.requires.items c.requires.within c.in_ok-inputs.inputs.items _ (c.in_ok-inputs.ensures link.inputs c.requires.items) c.deref.ensures.value in
    fits.small

pub returns-in-Ok : goal.returns-in-Ok
returns-in-Ok c =
    let link = section_and_inputs_of c.args.named.now in
    let objects = objects_in link.inputs (loaded_bytes c.args.loaded.now) in
    let made = c.in-Ok.linked in
    let are = ap (map object_of) c.deref.ensures.value ∙ c.in_ok-inputs.ensures link.inputs c.requires.items in
    let linked = subst (λ (os : List Object). IsPltLinked None os link.section.at made.section.items made.kept made.omitted.items made.plts.items) are c.in-Ok.ensures.linked in
    let text : c.in_ok-text-in-Ok.text.items ≡ plt_report_text made.kept made.omitted.items made.plts.items =
    c.in_ok-text-in-Ok.ensures ∙ ap (λ (omitted : List Omitted). plt_report_text made.kept omitted c.deref-in-Ok-2.result.now) c.deref-in-Ok.ensures.value ∙ ap (plt_report_text made.kept made.omitted.items) c.deref-in-Ok-2.ensures.value in
    subst (λ (t : List ℕ). LinkPltComes link (loaded_bytes c.args.loaded.now) (Makes Done (Some made.section.items) t)) (sym text)
    (plt_linked_comes objects link.section.at made.section.items made.kept made.omitted.items made.plts.items linked c.in-Ok.ensures.are_bytes)

pub returns : goal.returns
returns c =
    let link = section_and_inputs_of c.args.named.now in
    let objects = objects_in link.inputs (loaded_bytes c.args.loaded.now) in
    let are = ap (map object_of) c.deref.ensures.value ∙ c.in_ok-inputs.ensures link.inputs c.requires.items in
    let first = subst (λ (os : List Object). IsFirstPltLinked None os link.section.at c.in-Err.fault) are c.in-Err.ensures.fault in
    plt_unlinked_comes objects link.section.at c.in-Err.fault c.unlinked.result first c.unlinked.ensures.memory c.unlinked.ensures.is
