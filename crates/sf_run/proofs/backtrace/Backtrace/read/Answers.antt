use Rattle.std.specs.List.{AllZip}
use Rattle.std.proofs.Common.{rules, ◌≡◌, ℕ, List, ◌∷◌, ◌<◌, length, map, codes, ap, sym, subst, ◌∙◌}
use Rattle.std.proofs.lemmas.List.{length-map}
use Rattle.std.specs.String.{string_bytes}
use Rattle.sf_base.specs.Word.{SpellsDecimal}
use Rattle.sf_words.specs.Named.{inputs_of}
use Rattle.sf_words.specs.Words.{InputWords, IsInputWord, IsSectionWord, SectionWords}
use Rattle.sf_run.specs.Backtrace.{BacktraceWords}
use Rattle.sf_run.proofs.backtrace.Backtrace.read.Goals as goal

pub returns-in_err-depth-clause-only : goal.returns-in_err-depth-clause-only
returns-in_err-depth-clause-only c wanted h =
    let depth : h.depth_word ≡ c.in_ok-command.depth.now = cc (c.in_ok-command.ensures.found.0, h.words_are) in
    absurd (c.in_err-depth.ensures.only wanted.depth (subst (λ (w : List ℕ). SpellsDecimal w wanted.depth) depth h.depth) h.within.some h.within.most)

pub returns-clause-found : goal.returns-clause-found
returns-clause-found c =
    let command : c.in_ok-command.command.now ≡ codes "backtrace" = search rules in
    let named : 0 < length c.in_ok-command.core.now = search rules in
    let after : List ℕ → List (List ℕ) = λ w. w ∷ c.in_ok-command.out.now ∷ c.in_ok-command.core.now ∷ c.in_ok-command.depth.now ∷ map string_bytes c.in_ok-command.inputs.now in
    record {
      out_word = c.in_ok-command.out.now;
      depth_word = c.in_ok-command.depth.now;
      input_words = map string_bytes c.in_ok-command.inputs.now;
      words_are = c.in_ok-command.ensures.found.0 ∙ ap after command;
      out = c.in_ok-out.ensures.found;
      named = named;
      depth = c.in_ok-depth.ensures.found.0;
      within = record { some = c.in_ok-depth.ensures.found.1; most = c.in_ok-depth.ensures.found.2 };
      some = subst (λ (n : ℕ). 0 < n) (sym (length-map c.in_ok-command.inputs.now string_bytes)) c.in_ok-command.ensures.found.1;
      inputs = c.in_ok-inputs.ensures.found;
    }

pub returns-clause-only : goal.returns-clause-only
returns-clause-only c wanted h =
    let words = c.in_ok-command.ensures.found.0 in
    let out : h.out_word ≡ c.in_ok-command.out.now = cc (words, h.words_are) in
    let core : c.in_ok-command.core.now ≡ wanted.core = cc (words, h.words_are) in
    let depth : h.depth_word ≡ c.in_ok-command.depth.now = cc (words, h.words_are) in
    let inputs : h.input_words ≡ map string_bytes c.in_ok-command.inputs.now = cc (words, h.words_are) in
    let section = c.in_ok-out.ensures.only wanted.out (subst (λ (w : List ℕ). IsSectionWord w wanted.out) out h.out) in
    let number = c.in_ok-depth.ensures.only wanted.depth (subst (λ (w : List ℕ). SpellsDecimal w wanted.depth) depth h.depth) h.within.some h.within.most in
    let files = c.in_ok-inputs.ensures.only wanted.inputs (subst (λ (ws : List (List ℕ)). AllZip IsInputWord ws wanted.inputs) inputs h.inputs) in
    let made : SectionWords → List ℕ → ℕ → List InputWords → BacktraceWords = λ s n d is. record { out = s; core = n; depth = d; inputs = is } in
    let given = inputs_of c.in_ok-inputs.inputs in
    ap (λ (s : SectionWords). made s c.in_ok-command.core.now c.in_ok-depth.depth given) section ∙ ap (λ (n : List ℕ). made wanted.out n c.in_ok-depth.depth given) core
    ∙ ap (λ (d : ℕ). made wanted.out wanted.core d given) number ∙ ap (made wanted.out wanted.core wanted.depth) files
