use Rattle.std.proofs.Common.{◌≡◌, arith, ap, length, refl, sym}
use Rattle.std.proofs.lemmas.Bool.{eqb-true}
use Rattle.sf_words.proofs.words.section_file.Goals as goal

pub returns-in_err-placed-clause-only : goal.returns-in_err-placed-clause-only
returns-in_err-placed-clause-only c section h = absurd (c.in_err-placed.ensures.only section.name section.at h.placed)

pub returns-then-is_empty-clause-only : goal.returns-then-is_empty-clause-only
returns-then-is_empty-clause-only c section h =
    let given = c.in_ok-placed.ensures.only section.name section.at h.placed in
    let none : length c.in_ok-placed.placed.name.now ≡ 0 = eqb-true (length c.in_ok-placed.placed.name.now) 0 (sym c.if-is_empty.ensures) in
    omega (arith, ap length given.0, h.named)

pub returns-clause-only : goal.returns-clause-only
returns-clause-only c section h =
    let given = c.in_ok-placed.ensures.only section.name section.at h.placed in
    rw (given.0, given.1) refl
