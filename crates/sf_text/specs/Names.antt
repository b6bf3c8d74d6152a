-- The names that lines print: of the reasons for omitting a function, and of the groups of faults.
use Rattle.std.specs.Prelude.{ℕ, List, codes}
use Rattle.sf_model.specs.declared.notice.Group.{Group}
use Rattle.sf_model.specs.declared.notice.Group.TheVariants.{Elf, Place, Reloc, Record, Insn, Machine, Section, Core, Module, Link}
use Rattle.sf_model.specs.declared.omission.Reason.{Reason}
use Rattle.sf_model.specs.declared.omission.Reason.TheVariants.{EmptyRange, SizeTooLarge, ReturnColumn, SignalFrame, NoCfa, CfaExpression, CfaRegister, CfaOffset, SpRule, RaRule, RaOffset, FpRule, FpOffset, FpWithoutRa, SignState}

-- a reason for omitting a function
abbrev pub reason_name : Reason → List ℕ
reason_name EmptyRange = codes "EmptyRange"
reason_name SizeTooLarge = codes "SizeTooLarge"
reason_name ReturnColumn = codes "ReturnColumn"
reason_name SignalFrame = codes "SignalFrame"
reason_name NoCfa = codes "NoCfa"
reason_name CfaExpression = codes "CfaExpression"
reason_name CfaRegister = codes "CfaRegister"
reason_name CfaOffset = codes "CfaOffset"
reason_name SpRule = codes "SpRule"
reason_name RaRule = codes "RaRule"
reason_name RaOffset = codes "RaOffset"
reason_name FpRule = codes "FpRule"
reason_name FpOffset = codes "FpOffset"
reason_name FpWithoutRa = codes "FpWithoutRa"
reason_name SignState = codes "SignState"

-- a group of faults
abbrev pub group_name : Group → List ℕ
group_name Elf = codes "elf"
group_name Place = codes "place"
group_name Reloc = codes "reloc"
group_name Record = codes "record"
group_name Insn = codes "insn"
group_name Machine = codes "machine"
group_name Section = codes "section"
group_name Core = codes "core"
group_name Module = codes "module"
group_name Link = codes "link"
