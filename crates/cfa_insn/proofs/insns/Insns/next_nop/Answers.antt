use Rattle.std.proofs.Common.{◌≡◌, rules}
use Rattle.cfa_insn.proofs.Frequent.{starts_with_nop}
use Rattle.cfa_insn.proofs.insns.Insns.next_nop.Goals as goal

pub returns-in-Some-eq0-default-clause-takes : goal.returns-in-Some-eq0-default-clause-takes
returns-in-Some-eq0-default-clause-takes c =
    let is : c.in-Some-eq0-default.field-0-0 ≡ 0x00 = search rules in
    starts_with_nop _ _ _ is c.in-Some-eq0-default.ensures
