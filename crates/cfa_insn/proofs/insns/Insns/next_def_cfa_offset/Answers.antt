use Rattle.std.proofs.Common.{◌≡◌, rules}
use Rattle.cfa_insn.proofs.Frequent.{starts_with_cfa_offset}
use Rattle.cfa_insn.proofs.insns.Insns.next_def_cfa_offset.Goals as goal

pub returns-clause-takes : goal.returns-clause-takes
returns-clause-takes c =
    let is : c.in_ok-opcode.opcode ≡ 0x0e = search rules in
    starts_with_cfa_offset _ _ _ _ _ is c.in_ok-opcode.ensures c.in_ok-offset.ensures
