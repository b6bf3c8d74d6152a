use Rattle.std.proofs.Common.{ap, subst, sym, ◌∙◌}
use Rattle.frame_functions.specs.declared.read_function.Expressed.{Expressed}
use Rattle.frame_functions.specs.ReadFunction.{IsSoundOutcome}
use Rattle.frame_functions.proofs.ListedFunctions.{kept_entry}
use Rattle.frame_functions.proofs.function_list.store.Goals as goal

pub returns-in_ok-stored-in-Kept-clause-stored : goal.returns-in_ok-stored-in-Kept-clause-stored
returns-in_ok-stored-in-Kept-clause-stored c =
    let pushed = c.in_ok-stored-in-Kept.ensures.pushed in
    let sound = subst (λ (o : Expressed). IsSoundOutcome c.args.arch c.args.entry.span.start c.args.entry.span.size o) c.in-Kept.is c.requires in
    let same = kept_entry c.push_packed.new.self c.args.arch _ c.in-Kept.function c.args.entry.span pushed.1 sound in
    (pushed.0, same ∙ ap (λ (o : Expressed). record { span = c.args.entry.span; outcome = o }) (sym c.in-Kept.is))
