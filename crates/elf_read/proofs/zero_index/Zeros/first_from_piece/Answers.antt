use Rattle.std.proofs.Common.{rules, ◌≡◌, ◌+◌, ◌-◌, ◌*◌, ℕ, ap, sym, ◌∙◌, arith}
use Rattle.elf_read.specs.Number.{zero_from}
use Rattle.elf_read.proofs.FirstZero.{zero_from-past_pieces}
use Rattle.elf_read.proofs.Pieces.{next_place}
use Rattle.elf_read.proofs.zero_index.Zeros.first_from_piece.Goals as goal

pub zero_from-requires : goal.zero_from-requires
zero_from-requires c = next_place c.args.piece c.args.self.now.piece_len c.next_piece.result c.next_piece.ensures.within (search rules) c.requires.small

pub returns : goal.returns
returns c =
    let file = c.args.file.now in
    let piece = c.args.piece in
    let len = c.args.self.now.piece_len in
    let next = c.next_piece.result in
    let sum : piece + (next - piece) ≡ next = omega (arith, c.next_piece.ensures.later) in
    c.zero_from.ensures
    ∙ ap (λ (n : ℕ). zero_from file (n * len)) (sym sum)
    ∙ zero_from-past_pieces file len piece (next - piece)
    (λ j below. c.requires.zeros (piece + j) (c.next_piece.ensures.clear (piece + j) (omega arith) (omega (arith, below, c.next_piece.ensures.later))))
