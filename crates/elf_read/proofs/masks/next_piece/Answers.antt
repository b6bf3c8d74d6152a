use Rattle.std.proofs.Common.{rules, ◌≡◌, ◌<◌, ◌+◌, ◌*◌, ◌/◌, ◌%◌, ◌^◌, get_or, inl, inr, arith, w64}
use Rattle.std.specs.Int.{trailing_zeros}
use Rattle.std.proofs.lemmas.Bool.{cases_lt}
use Rattle.std.proofs.lemmas.Nat.{shr_le}
use Rattle.elf_read.proofs.Pieces.{clear_upto_lowest, clear_upto_next}
use Rattle.elf_read.proofs.masks.next_piece.Goals as goal

pub returns-then-rest-ne0-clause-clear : goal.returns-then-rest-ne0-clause-clear
returns-then-rest-ne0-clause-clear c = λ before low below.
    let piece = c.args.piece in
    let masks = c.args.masks.now in
    let mask = get_or masks (piece / 64) 0 in
    let small : mask < 2 ^ 64 = search rules in
    let some : 0 < mask / 2 ^ (piece % 64) = omega (arith, c.if-rest-ne0.true) in
    let rest_small : mask / 2 ^ (piece % 64) < 2 ^ 64 = omega (arith, shr_le mask (piece % 64), small) in
    let lowest : c.from.result ≡ trailing_zeros w64 (mask / 2 ^ (piece % 64)) = c.from.ensures in
    clear_upto_lowest masks piece before (omega (arith, c.if-at-masks.false)) small some rest_small low (omega (arith, below, lowest))

pub returns-clause-clear : goal.returns-clause-clear
returns-clause-clear c = λ before low below.
    let piece = c.args.piece in
    elim (cases_lt before ((piece / 64 + 1) * 64)) [
      | inl here ↦ clear_upto_next c.args.masks.now piece before (omega (arith, c.if-at-masks.false)) c.if-rest-ne0.false low here
      | inr later ↦ c.first_from_mask.ensures.clear before later below
    ]
