use Rattle.std.proofs.Common.{rules, ◌≡◌, ◌<◌, ◌*◌, ◌^◌, get_or, inl, inr, arith, w64}
use Rattle.std.specs.Int.{trailing_zeros}
use Rattle.std.proofs.lemmas.Bool.{cases_lt}
use Rattle.elf_read.proofs.Pieces.{clear_below, clear_mask}
use Rattle.elf_read.proofs.masks.first_from_mask.Goals as goal

pub loop-at-init : goal.loop-at-init
loop-at-init c = λ piece low below. absurd (omega (arith, low, below))

pub loop-at-preserved : goal.loop-at-preserved
loop-at-preserved c = λ piece low below. elim (cases_lt piece (c.loop-at.at * 64)) [
  | inl before ↦ c.loop-at.invariant piece low before
  | inr from ↦ clear_mask c.args.masks.now c.loop-at.at piece c.loop-at-test.true c.if-masks-at-ne0.false from below
]

pub returns-then-masks-at-ne0-clause-clear : goal.returns-then-masks-at-ne0-clause-clear
returns-then-masks-at-ne0-clause-clear c = λ piece low below.
    let masks = c.args.masks.now in
    let at = c.loop-at.at in
    let some : 0 < get_or masks at 0 = omega (arith, c.if-masks-at-ne0.true) in
    let small : get_or masks at 0 < 2 ^ 64 = search rules in
    let lowest : c.from.result ≡ trailing_zeros w64 (get_or masks at 0) = search rules in
    elim (cases_lt piece (at * 64)) [
      | inl before ↦ c.loop-at.invariant piece low before
      | inr from ↦ clear_below masks at piece c.loop-at-test.true some small from (omega (arith, below, lowest))
    ]
