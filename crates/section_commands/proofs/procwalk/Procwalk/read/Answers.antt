use Rattle.std.proofs.Common.{rules, ◌≡◌, ◌<◌, ℕ, All, List, ◌∷◌, length, map, refl, ap, sym, subst, ◌∙◌}
use Rattle.std.proofs.lemmas.List.{length-map}
use Rattle.std.proofs.lemmas.List.Elements.{All-map}
use Rattle.std.specs.String.{string_bytes}
use Rattle.sf_base.specs.Word.{SpellsDecimal}
use Rattle.section_commands.specs.Procwalk.{ProcwalkWords}
use Rattle.sf_words.proofs.NamedWords.{all_seen}
use Rattle.section_commands.proofs.procwalk.Procwalk.read.Goals as goal

pub returns-in_err-depth-clause-only : goal.returns-in_err-depth-clause-only
returns-in_err-depth-clause-only c procwalk h =
    let depth : h.depth_word ≡ c.in_ok-command.depth.now = cc (c.in_ok-command.ensures.found.0, h.words_are) in
    absurd (c.in_err-depth.ensures.only procwalk.depth (subst (λ (w : List ℕ). SpellsDecimal w procwalk.depth) depth h.depth) h.within.some h.within.most)

pub returns-then-not-are_named-clause-only : goal.returns-then-not-are_named-clause-only
returns-then-not-are_named-clause-only c procwalk h =
    let files : procwalk.files ≡ map string_bytes c.in_ok-command.files.now = cc (c.in_ok-command.ensures.found.0, h.words_are) in
    let named = all_seen string_bytes (λ (name : List ℕ). 0 < length name) c.in_ok-command.files.now (subst (All (λ (name : List ℕ). 0 < length name)) files h.files_named) in
    let is_named = c.if-not-are_named.ensures.only named in
    cc

pub returns-clause-found : goal.returns-clause-found
returns-clause-found c =
    let command : c.in_ok-command.command.now ≡ c.args.name.now = search rules in
    let after : List ℕ → List (List ℕ) = λ w. w ∷ c.in_ok-command.core.now ∷ c.in_ok-command.depth.now ∷ map string_bytes c.in_ok-command.files.now in
    record {
      depth_word = c.in_ok-command.depth.now;
      words_are = c.in_ok-command.ensures.found.0 ∙ ap after command;
      named = search rules;
      depth = c.in_ok-depth.ensures.found.0;
      within = search rules;
      some = subst (λ (n : ℕ). 0 < n) (sym (length-map c.in_ok-command.files.now string_bytes)) c.in_ok-command.ensures.found.1;
      files_named = All-map (λ (name : List ℕ). 0 < length name) string_bytes c.in_ok-command.files.now (c.if-not-are_named.ensures.all refl);
    }

pub returns-clause-only : goal.returns-clause-only
returns-clause-only c procwalk h =
    let words = c.in_ok-command.ensures.found.0 in
    let core : c.in_ok-command.core.now ≡ procwalk.core = cc (words, h.words_are) in
    let depth : h.depth_word ≡ c.in_ok-command.depth.now = cc (words, h.words_are) in
    let files : map string_bytes c.in_ok-command.files.now ≡ procwalk.files = cc (words, h.words_are) in
    let number = c.in_ok-depth.ensures.only procwalk.depth (subst (λ (w : List ℕ). SpellsDecimal w procwalk.depth) depth h.depth) h.within.some h.within.most in
    let made : List ℕ → ℕ → List (List ℕ) → ProcwalkWords = λ n d fs. record { core = n; depth = d; files = fs } in
    ap (λ (n : List ℕ). made n c.in_ok-depth.depth (map string_bytes c.in_ok-command.files.now)) core ∙ ap (λ (d : ℕ). made procwalk.core d (map string_bytes c.in_ok-command.files.now)) number ∙ ap (made procwalk.core procwalk.depth) files
