use Rattle.std.proofs.Common.{◌≡◌, arith, ap, length, refl, sym, subst, List, ℕ}
use Rattle.std.proofs.lemmas.Bool.{eqb-true}
use Rattle.sf_words.specs.Words.{Spells}
use Rattle.sf_words.proofs.words.input_file.Goals as goal

pub returns-in_err-placed-clause-only : goal.returns-in_err-placed-clause-only
returns-in_err-placed-clause-only c input h = absurd (c.in_err-placed.ensures.only h.text input.base h.placed)

pub returns-then-is_empty-clause-only : goal.returns-then-is_empty-clause-only
returns-then-is_empty-clause-only c input h =
    let given = c.in_ok-placed.ensures.only h.text input.base h.placed in
    let form = c.form_of-form.ensures.only input.form input.name (subst (λ (t : List ℕ). Spells input.form t input.name) (sym given.0) h.spelled) in
    let none : length c.form_of-form.result.1.now ≡ 0 = eqb-true (length c.form_of-form.result.1.now) 0 (sym c.if-is_empty.ensures) in
    omega (arith, ap length form.1, none, h.named)

pub returns-clause-only : goal.returns-clause-only
returns-clause-only c input h =
    let given = c.in_ok-placed.ensures.only h.text input.base h.placed in
    let form = c.form_of-form.ensures.only input.form input.name (subst (λ (t : List ℕ). Spells input.form t input.name) (sym given.0) h.spelled) in
    rw (form.0, form.1, given.1) refl
