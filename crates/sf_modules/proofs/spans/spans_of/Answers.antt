use Rattle.std.specs.Prelude.{map}
use Rattle.std.proofs.Common.{◌∙◌, Bor, List, ℕ, ap}
use Rattle.sf_modules.specs.Name.{name_number}
use Rattle.sf_modules.specs.Module.{module_view}
use Rattle.sf_modules.proofs.FirstWith.{of_modules, spans_more}
use Rattle.sf_modules.proofs.spans.spans_of.Goals as goal

pub loop-entry-preserved : goal.loop-entry-preserved
loop-entry-preserved c =
    let modules = map module_view c.args.modules.now in
    spans_more modules c.args.entries.now c.loop-entry.entry-index _ c.loop-entry.spans.items c.push.new.self.items _ c.copied-leads_to.result c.loop-entry-test.true c.in_ok-push.ensures.items c.saturating_sub.ensures
    (c.copied-leads_to.ensures ∙ c.get.ensures.value ∙ c.in_ok-numbers.ensures _ ∙ ap (name_number _) (ap (map (λ (n : Bor (List ℕ)). n.now)) c.deref.ensures.value ∙ c.in_ok-names_of.ensures) ∙ of_modules _ 0 modules)
    c.loop-entry.invariant
