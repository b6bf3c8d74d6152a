use Rattle.std.proofs.Common.{◌≡◌, List, ℕ, ap, subst, ◌∙◌}
use Rattle.sf_base.specs.Word.{SpellsDecimal}
use Rattle.sf_words.specs.Words.{IsSectionWord, SectionWords}
use Rattle.section_commands.specs.Walk.{WalkWords}
use Rattle.section_commands.proofs.walk.Walk.read.Goals as goal

pub returns-in_err-depth-clause-only : goal.returns-in_err-depth-clause-only
returns-in_err-depth-clause-only c walk h =
    let depth : h.depth_word ≡ c.in_ok-command.depth.now = cc (c.in_ok-command.ensures.found, h.words_are) in
    absurd (c.in_err-depth.ensures.only walk.depth (subst (λ (w : List ℕ). SpellsDecimal w walk.depth) depth h.depth) h.within.some h.within.most)

pub returns-clause-only : goal.returns-clause-only
returns-clause-only c walk h =
    let words = c.in_ok-command.ensures.found in
    let section : h.section_word ≡ c.in_ok-command.section.now = cc (words, h.words_are) in
    let core : c.in_ok-command.core.now ≡ walk.core = cc (words, h.words_are) in
    let depth : h.depth_word ≡ c.in_ok-command.depth.now = cc (words, h.words_are) in
    let file = c.in_ok-section.ensures.only walk.section (subst (λ (w : List ℕ). IsSectionWord w walk.section) section h.section) in
    let number = c.in_ok-depth.ensures.only walk.depth (subst (λ (w : List ℕ). SpellsDecimal w walk.depth) depth h.depth) h.within.some h.within.most in
    let made : SectionWords → List ℕ → ℕ → WalkWords = λ s n d. record { section = s; core = n; depth = d } in
    ap (λ (s : SectionWords). made s c.in_ok-command.core.now c.in_ok-depth.depth) file ∙ ap (λ (n : List ℕ). made walk.section n c.in_ok-depth.depth) core ∙ ap (made walk.section walk.core) number
