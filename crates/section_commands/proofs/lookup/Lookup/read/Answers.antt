use Rattle.std.proofs.Common.{◌≡◌, List, ℕ, ap, subst, ◌∙◌}
use Rattle.sf_base.specs.Word.{SpellsHexadecimal}
use Rattle.sf_words.specs.Words.{IsSectionWord, SectionWords}
use Rattle.section_commands.specs.Lookup.{LookupWords}
use Rattle.section_commands.proofs.lookup.Lookup.read.Goals as goal

pub returns-in_err-pc-clause-only : goal.returns-in_err-pc-clause-only
returns-in_err-pc-clause-only c lookup h =
    let address : h.address_word ≡ c.in_ok-command.address.now = cc (c.in_ok-command.ensures.found, h.words_are) in
    let number = c.in_err-pc.ensures.only lookup.pc (subst (λ (w : List ℕ). SpellsHexadecimal w lookup.pc) address h.address) in
    absurd cc

pub returns-clause-only : goal.returns-clause-only
returns-clause-only c lookup h =
    let words = c.in_ok-command.ensures.found in
    let section : h.section_word ≡ c.in_ok-command.section.now = cc (words, h.words_are) in
    let address : h.address_word ≡ c.in_ok-command.address.now = cc (words, h.words_are) in
    let file = c.in_ok-section.ensures.only lookup.section (subst (λ (w : List ℕ). IsSectionWord w lookup.section) section h.named) in
    let found = c.in_ok-pc.ensures.only lookup.pc (subst (λ (w : List ℕ). SpellsHexadecimal w lookup.pc) address h.address) in
    let number : c.in_ok-pc.pc ≡ lookup.pc = cc in
    let made : SectionWords → ℕ → LookupWords = λ s n. record { section = s; pc = n } in
    ap (λ (s : SectionWords). made s c.in_ok-pc.pc) file ∙ ap (made lookup.section) number
