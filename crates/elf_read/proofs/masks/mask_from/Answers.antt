use Rattle.std.proofs.Common.{◌≡◌, ◌≤◌, ◌+◌, ◌*◌, ℕ, ap, subst, sym, ◌∙◌, arith, inl, inr, w64}
use Rattle.std.proofs.Math.Nat.{eq-or-lt_of_le}
use Rattle.std.proofs.lemmas.Nat.Bits.{bit_at_set_same, bit_at_set_other}
use Rattle.std.specs.Int.{bit_at}
use Rattle.elf_read.specs.Number.{HasNoZero}
use Rattle.elf_read.proofs.FirstZero.{before_zero, is_free}
use Rattle.elf_read.proofs.masks.mask_from.Goals as goal
use Rattle.elf_read.proofs.masks.mask_from.Goals.{then-bytes_before_zero-piece_len, else-bytes_before_zero-piece_len}

pub loop-k-init : goal.loop-k-init
loop-k-init c = λ j below _. absurd (omega (arith, below))

pub loop-k-preserved : goal.loop-k-preserved
loop-k-preserved c = λ j below clear.
    let k = c.loop-k.k in
    let mask = c.if-bytes_before_zero-piece_len.mask in
    let upto : j ≤ k = omega (arith, below) in
    elim (eq-or-lt_of_le upto) [
      | inl same ↦
          elim c.if-bytes_before_zero-piece_len.branch [
            | then-bytes_before_zero-piece_len w ↦
                let set : bit_at mask k ≡ 1 = ap (λ (m : ℕ). bit_at m k) w.mask-is ∙ bit_at_set_same w64 c.loop-k.mask k c.loop-k-test.true in
                absurd (omega (arith, set, ap (bit_at mask) (sym same) ∙ clear))
            | else-bytes_before_zero-piece_len w ↦
                let place : (c.args.first + j) * c.args.piece_len ≡ (c.args.first + k) * c.args.piece_len = ap (λ (n : ℕ). (c.args.first + n) * c.args.piece_len) same in
                subst (λ (n : ℕ). HasNoZero c.args.file.now n c.args.piece_len) (sym place)
                (is_free c.args.file.now ((c.args.first + k) * c.args.piece_len) c.args.piece_len c.bytes_before_zero.result
                (c.bytes_before_zero.ensures.value ∙ ap before_zero c.bytes_at-piece.ensures.bytes) w.if-bytes_before_zero-piece_len.false)
          ]
      | inr before ↦
          elim c.if-bytes_before_zero-piece_len.branch [
            | then-bytes_before_zero-piece_len w ↦
                let kept : bit_at mask j ≡ bit_at c.loop-k.mask j = ap (λ (m : ℕ). bit_at m j) w.mask-is ∙ bit_at_set_other w64 c.loop-k.mask k c.loop-k-test.true j (λ e. omega (arith, e, before)) in
                c.loop-k.invariant j before (sym kept ∙ clear)
            | else-bytes_before_zero-piece_len w ↦ c.loop-k.invariant j before (ap (λ (m : ℕ). bit_at m j) (sym w.mask-is) ∙ clear)
          ]
    ]

pub returns : goal.returns
returns c = λ k below. c.loop-k.invariant k (omega (arith, below, c.loop-k-test.false))
