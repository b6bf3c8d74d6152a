use Rattle.std.proofs.Common.{◌≤◌, ◌<◌, rules}
use Rattle.cfa_insn.proofs.Frequent.{starts_with_offset}
use Rattle.cfa_insn.proofs.insns.Insns.next_offset.Goals as goal

pub returns-clause-takes : goal.returns-clause-takes
returns-clause-takes c =
    let least : 0x80 ≤ c.in_ok-opcode.opcode = search rules in
    let below : c.in_ok-opcode.opcode < 0xc0 = search rules in
    starts_with_offset _ _ _ _ _ least below c.in_ok-opcode.ensures c.in_ok-factored.ensures
