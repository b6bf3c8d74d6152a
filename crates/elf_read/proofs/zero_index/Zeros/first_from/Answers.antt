use Rattle.std.proofs.Common.{rules, ◌≡◌, ◌+◌, ◌-◌, ◌%◌, ◌<◌, ℕ, drop, min, ap, ◌∙◌, arith}
use Rattle.std.proofs.Math.Nat.{mod-lt}
use Rattle.elf_read.specs.Number.{zero_from}
use Rattle.elf_read.proofs.FirstZero.{before_zero, before_zero-take, next_piece, zero_from-later}
use Rattle.elf_read.proofs.zero_index.Zeros.first_from.Goals as goal

pub returns-then-len-left : goal.returns-then-len-left
returns-then-len-left c =
    let rest = drop c.args.place c.args.file.now in
    let left = c.args.self.now.piece_len - c.args.place % c.args.self.now.piece_len in
    let is : c.bytes_before_zero-len.result ≡ min left (before_zero rest) = c.bytes_before_zero-len.ensures.value ∙ ap before_zero c.bytes_at.ensures.bytes ∙ before_zero-take left rest in
    ap (λ (n : ℕ). c.args.place + n) (omega (arith, is, c.if-len-left.true))

pub returns-else-len-left : goal.returns-else-len-left
returns-else-len-left c =
    let file = c.args.file.now in
    let rest = drop c.args.place file in
    let len = c.args.self.now.piece_len in
    let left = len - c.args.place % len in
    let is : c.bytes_before_zero-len.result ≡ min left (before_zero rest) = c.bytes_before_zero-len.ensures.value ∙ ap before_zero c.bytes_at.ensures.bytes ∙ before_zero-take left rest in
    let some : 0 < len = search rules in
    c.first_from_piece.ensures
    ∙ ap (zero_from file) (next_piece c.args.place len some (mod-lt c.args.place some))
    ∙ zero_from-later file c.args.place left (omega (arith, is, c.if-len-left.false))
