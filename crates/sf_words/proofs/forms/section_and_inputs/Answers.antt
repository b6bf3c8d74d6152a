use Rattle.std.proofs.Common.{rules, ◌≡◌, ℕ, List, ◌∷◌, ◌<◌, map, ap, sym, subst, ◌∙◌}
use Rattle.std.proofs.lemmas.List.{length-map}
use Rattle.std.specs.String.{string_bytes}
use Rattle.sf_words.proofs.forms.section_and_inputs.Goals as goal

pub returns-clause-found : goal.returns-clause-found
returns-clause-found c =
    let command : c.in_ok-command.command.now ≡ c.args.name.now = search rules in
    record {
      section_word = c.in_ok-command.section.now;
      input_words = map string_bytes c.in_ok-command.inputs.now;
      words_are = c.in_ok-command.ensures.found.0 ∙ ap (λ (w : List ℕ). w ∷ c.in_ok-command.section.now ∷ map string_bytes c.in_ok-command.inputs.now) command;
      section = c.in_ok-section.ensures.found;
      some = subst (λ (n : ℕ). 0 < n) (sym (length-map c.in_ok-command.inputs.now string_bytes)) c.in_ok-command.ensures.found.1;
      inputs = c.in_ok-inputs.ensures.found;
    }
