use Rattle.std.proofs.Common.{◌≤◌, ◌<◌, rules}
use Rattle.cfa_insn.proofs.Frequent.{starts_with_advance}
use Rattle.cfa_insn.proofs.insns.Insns.next_advance_loc.Goals as goal

pub returns-clause-takes : goal.returns-clause-takes
returns-clause-takes c =
    let least : 0x40 ≤ c.in_ok-opcode.opcode = search rules in
    let below : c.in_ok-opcode.opcode < 0x80 = search rules in
    starts_with_advance _ _ _ least below c.in_ok-opcode.ensures
