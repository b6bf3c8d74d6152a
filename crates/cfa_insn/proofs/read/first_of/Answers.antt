use Rattle.std.proofs.Common.{◌≡◌, length, rules}
use Rattle.cfa_insn.proofs.Listings.{nothing_left}
use Rattle.cfa_insn.proofs.read.first_of.Goals as goal

pub returns-then-is_empty : goal.returns-then-is_empty
returns-then-is_empty c =
    let none : length c.args.part.bytes.now ≡ 0 = search rules in
    nothing_left c.args.part.place c.args.part.bytes.now none
