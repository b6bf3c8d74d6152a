use Rattle.std.specs.Prelude.{map}
use Rattle.std.specs.Option.{option_and_then}
use Rattle.std.proofs.Common.{ℕ, Option, ap, ◌∙◌}
use Rattle.sf_modules.specs.Span.{entry_span}
use Rattle.sf_modules.specs.Views.{entry_views, modules_in}
use Rattle.sf_modules.proofs.Numbers.{led}
use Rattle.sf_modules.proofs.modules.Modules.number_at.Goals as goal

pub returns-in_err-first_at : goal.returns-in_err-first_at
returns-in_err-first_at c =
    let m = c.args.self.now in
    let spans = map (entry_span (modules_in m)) (entry_views m) in
    c.from_residual.ensures ∙ ap (option_and_then (λ (o : Option ℕ). o)) (c.in_err-first_at.ensures spans m.ordered) ∙ led (modules_in m) (entry_views m) c.args.pc

pub returns : goal.returns
returns c =
    let m = c.args.self.now in
    let spans = map (entry_span (modules_in m)) (entry_views m) in
    ap (option_and_then (λ (o : Option ℕ). o)) (c.in_ok-first_at.ensures spans m.ordered) ∙ led (modules_in m) (entry_views m) c.args.pc
