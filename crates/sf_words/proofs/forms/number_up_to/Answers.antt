use Rattle.std.proofs.Common.{◌≡◌, arith}
use Rattle.sf_words.proofs.forms.number_up_to.Goals as goal
use Rattle.sf_words.proofs.forms.number_up_to.Goals.{then-number-eq0-via-then-number-eq0, then-number-eq0-via-else-number-eq0+then-number-most}

pub returns-in_err-number-clause-only : goal.returns-in_err-number-clause-only
returns-in_err-number-clause-only c n spells some most = let none = c.in_err-number.ensures.only n spells in absurd cc

pub returns-then-number-eq0-clause-only : goal.returns-then-number-eq0-clause-only
returns-then-number-eq0-clause-only c n spells some most =
    let number = c.in_ok-number.ensures.only n spells in
    let same : c.in_ok-number.number ≡ n = cc in
    elim c.then-number-eq0.branch [
      | then-number-eq0-via-then-number-eq0 w ↦ omega (arith, same, some, w.if-number-eq0.true)
      | then-number-eq0-via-else-number-eq0+then-number-most w ↦ omega (arith, same, most, w.if-number-most.true)
    ]

pub returns-clause-only : goal.returns-clause-only
returns-clause-only c n spells some most = let number = c.in_ok-number.ensures.only n spells in cc
