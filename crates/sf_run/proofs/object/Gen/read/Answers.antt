use Rattle.std.proofs.Common.{◌≡◌, List, ℕ, subst}
use Rattle.sf_base.specs.Word.{SpellsDecimal}
use Rattle.sf_run.proofs.object.Gen.read.Goals as goal

pub returns-in_err-functions-clause-only : goal.returns-in_err-functions-clause-only
returns-in_err-functions-clause-only c n h =
    let count : h.count_word ≡ c.in_ok-command.count.now = cc (c.in_ok-command.ensures.found, h.words_are) in
    absurd (c.in_err-functions.ensures.only n (subst (λ (w : List ℕ). SpellsDecimal w n) count h.count) h.within.some h.within.most)

pub returns-clause-only : goal.returns-clause-only
returns-clause-only c n h =
    let count : h.count_word ≡ c.in_ok-command.count.now = cc (c.in_ok-command.ensures.found, h.words_are) in
    c.in_ok-functions.ensures.only n (subst (λ (w : List ℕ). SpellsDecimal w n) count h.count) h.within.some h.within.most
