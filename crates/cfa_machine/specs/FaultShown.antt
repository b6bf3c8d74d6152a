-- What the line of an instruction that can't be run shows: the fault's number and name, and the place of its opcode byte. One that
-- can't be read is shown as such.
use Rattle.std.specs.Prelude.{codes}
use Rattle.sf_model.specs.declared.notice.Group.TheVariants as group
use Rattle.sf_model.specs.FaultShown.{ShownFault, fault_at, not_shown}
use Rattle.cfa_insn.specs.FaultShown.{shown_insn}
use Rattle.cfa_machine.specs.declared.fault.MachineFault.{MachineFault}
use Rattle.cfa_machine.specs.declared.fault.MachineFault.TheVariants.{CieInstruction, StateEmpty, StateDepth, NoCfaRegister, Insn, NoMemory}

abbrev pub shown_machine : MachineFault → ShownFault
shown_machine (CieInstruction place) = fault_at group.Machine 1 (codes "CieInstruction") place
shown_machine (StateEmpty place) = fault_at group.Machine 2 (codes "StateEmpty") place
shown_machine (StateDepth place) = fault_at group.Machine 3 (codes "StateDepth") place
shown_machine (NoCfaRegister place) = fault_at group.Machine 4 (codes "NoCfaRegister") place
shown_machine (Insn fault) = shown_insn fault
shown_machine NoMemory = not_shown group.Machine
