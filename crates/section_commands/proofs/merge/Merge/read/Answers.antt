use Rattle.std.proofs.Common.{rules, ◌≡◌, ℕ, List, ◌∷◌, ◌<◌, map, ap, sym, subst, ◌∙◌}
use Rattle.std.proofs.lemmas.List.{length-map}
use Rattle.std.specs.Prelude.{codes}
use Rattle.std.specs.String.{string_bytes}
use Rattle.section_commands.proofs.merge.Merge.read.Goals as goal

pub returns-clause-found : goal.returns-clause-found
returns-clause-found c =
    let command : c.in_ok-command.command.now ≡ codes "merge" = search rules in
    record {
      out_word = c.in_ok-command.out.now;
      section_words = map string_bytes c.in_ok-command.sections.now;
      words_are = c.in_ok-command.ensures.found.0 ∙ ap (λ (w : List ℕ). w ∷ c.in_ok-command.out.now ∷ map string_bytes c.in_ok-command.sections.now) command;
      out = c.in_ok-out.ensures.found;
      some = subst (λ (n : ℕ). 0 < n) (sym (length-map c.in_ok-command.sections.now string_bytes)) c.in_ok-command.ensures.found.1;
      sections = c.in_ok-sections.ensures.found;
    }
