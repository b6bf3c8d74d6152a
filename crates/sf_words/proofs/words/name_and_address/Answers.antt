use Rattle.std.proofs.Common.{◌≡◌, ℕ, List, sym, subst, ◌∙◌}
use Rattle.sf_base.specs.Word.{SpellsHexadecimal}
use Rattle.sf_words.specs.AtSigns.{HasNoAt-address, cut_is_last, has_at}
use Rattle.sf_words.proofs.words.name_and_address.Goals as goal

pub returns-in_err-name-clause-only : goal.returns-in_err-name-clause-only
returns-in_err-name-clause-only c name address h = absurd (has_at c.args.word.now name h.digits h.parts c.in_err-name.ensures.cases)

pub returns-in_err-address-clause-only : goal.returns-in_err-address-clause-only
returns-in_err-address-clause-only c name address h =
    let m = c.in_ok-name.ensures.cases in
    let cut = cut_is_last c.args.word.now name h.digits m.0 m.1 m.2.0 m.2.1 h.parts (HasNoAt-address h.digits address h.value) in
    let digits : c.in_ok-name.digits.now ≡ h.digits = m.4 ∙ cut.1 in
    let found = c.in_err-address.ensures.only address (subst (λ (t : List ℕ). SpellsHexadecimal t address) (sym digits) h.value) in
    absurd cc

pub returns-clause-only : goal.returns-clause-only
returns-clause-only c name address h =
    let m = c.in_ok-name.ensures.cases in
    let cut = cut_is_last c.args.word.now name h.digits m.0 m.1 m.2.0 m.2.1 h.parts (HasNoAt-address h.digits address h.value) in
    let digits : c.in_ok-name.digits.now ≡ h.digits = m.4 ∙ cut.1 in
    let found = c.in_ok-address.ensures.only address (subst (λ (t : List ℕ). SpellsHexadecimal t address) (sym digits) h.value) in
    (m.3 ∙ cut.0, cc)
