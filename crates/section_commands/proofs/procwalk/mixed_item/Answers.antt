use Rattle.std.specs.Option.{option_map}
use Rattle.std.proofs.Common.{ℕ, ◌+◌, Option, ap, sym, ◌∙◌}
use Rattle.sf_modules.specs.Module.{module_view}
use Rattle.section_commands.specs.Procwalk.{is_for_another}
use Rattle.section_commands.proofs.Procwalks.{position_map}
use Rattle.section_commands.proofs.procwalk.mixed_item.Goals as goal

pub returns-in_err-place : goal.returns-in_err-place
returns-in_err-place c =
    c.from_residual.ensures
    ∙ ap (λ (place : Option ℕ). option_map (λ (k : ℕ). k + 1) place)
    (sym c.in_err-place.was ∙ c.first_other.ensures ∙ sym (position_map (is_for_another c.args.arch) module_view c.args.modules.now))

pub returns : goal.returns
returns c =
    ap (λ (place : Option ℕ). option_map (λ (k : ℕ). k + 1) place)
    (sym c.in_ok-place.was ∙ c.first_other.ensures ∙ sym (position_map (is_for_another c.args.arch) module_view c.args.modules.now))
