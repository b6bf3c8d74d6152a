use Rattle.std.proofs.Common.{rules, ◌≡◌, ◌≤◌, ◌+◌, ◌*◌, ◌/◌, ◌%◌, ℕ, get_or, slice_set, refl, subst, sym, ap, ◌∙◌, arith, inl, inr}
use Rattle.std.proofs.Math.Nat.{eq-or-lt_of_le}
use Rattle.std.proofs.lemmas.Grind.{get_or-set_at}
use Rattle.std.proofs.lemmas.List.{get_or-set_other}
use Rattle.std.specs.Int.{bit_at}
use Rattle.elf_read.specs.Number.{HasNoZero}
use Rattle.elf_read.proofs.masks.write_masks.Goals as goal

pub loop-at-init : goal.loop-at-init
loop-at-init c = record { written = λ piece below _. absurd (omega (arith, below)); len = refl }

pub loop-at-preserved : goal.loop-at-preserved
loop-at-preserved c =
    let at = c.loop-at.at in
    let len = c.args.piece_len in
    record {
      written = λ piece below clear.
          let upto : piece / 64 ≤ at = omega (arith, below) in
          elim (eq-or-lt_of_le upto) [
            | inl same ↦
                let is : get_or (slice_set c.loop-at.masks at c.mask_from.result) (piece / 64) 0 ≡ c.mask_from.result = get_or-set_at c.loop-at.masks at (piece / 64) c.mask_from.result 0 same (omega (arith, c.loop-at-test.true, c.loop-at.invariant.len)) in
                let place : (at * 64 + piece % 64) * len ≡ piece * len = let number : at * 64 + piece % 64 ≡ piece = omega (arith, same) in ap (λ (n : ℕ). n * len) number in
                subst (λ (n : ℕ). HasNoZero c.args.file.now n len) place
                (c.mask_from.ensures (piece % 64) (omega arith) (ap (λ (m : ℕ). bit_at m (piece % 64)) (sym is) ∙ clear))
            | inr before ↦
                let kept : get_or (slice_set c.loop-at.masks at c.mask_from.result) (piece / 64) 0 ≡ get_or c.loop-at.masks (piece / 64) 0 = get_or-set_other c.loop-at.masks at (piece / 64) c.mask_from.result 0 (λ e. omega (arith, e, before)) in
                c.loop-at.invariant.written piece before (ap (λ (m : ℕ). bit_at m (piece % 64)) (sym kept) ∙ clear)
          ];
      len = search rules;
    }

pub returns-clause-clear : goal.returns-clause-clear
returns-clause-clear c = λ piece clear. c.loop-at.invariant.written piece (omega (arith, clear.0, c.loop-at-test.false, c.loop-at.invariant.len)) clear.1
