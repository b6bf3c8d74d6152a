-- What the line of an instruction that can't be read shows: the fault's number and name, the place of its opcode byte, and an unknown opcode.
use Rattle.std.specs.Prelude.{[], ◌∷◌, codes}
use Rattle.sf_model.specs.declared.notice.Group.TheVariants as group
use Rattle.sf_model.specs.FaultShown.{ShownFault, shown_fault, fault_at}
use Rattle.cfa_insn.specs.declared.fault.InsnFault.{InsnFault}
use Rattle.cfa_insn.specs.declared.fault.InsnFault.TheVariants.{Opcode, Short, Leb}

abbrev pub shown_insn : InsnFault → ShownFault
shown_insn (Opcode place opcode) = shown_fault group.Insn 1 (codes "Opcode") (place ∷ opcode ∷ [])
shown_insn (Short place) = fault_at group.Insn 2 (codes "Short") place
shown_insn (Leb place) = fault_at group.Insn 3 (codes "Leb") place
