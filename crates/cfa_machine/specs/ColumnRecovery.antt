-- What the columns of a row recover of the caller's frame (DWARF 5, section 6.4.1): the same as the full row, where the machine's
-- own column has the return address.
use Rattle.std.specs.Prelude.{ℕ, List, Option, Some, None}
use Rattle.std.specs.Option.{option_map}
use Rattle.sf_model.specs.declared.machine.Arch.{Arch}
use Rattle.sf_model.specs.declared.machine.Arch.TheVariants.{Amd64, Aarch64}
use Rattle.sf_model.specs.declared.machine.Key.{Key}
use Rattle.sf_model.specs.declared.recovery.Regs.{Regs}
use Rattle.sf_model.specs.Memory.{Region}
use Rattle.sf_model.specs.Recovery.{Value, Known, key_if_signed}
use Rattle.cfa_machine.specs.declared.columns.Columns.{Columns}
use Rattle.cfa_machine.specs.Recovery.{RuleRecovery, frame_address_by, value_by}

-- the present value of the return column: x30 on AArch64; on AMD64 no register has it
abbrev pub return_register : Arch → Regs → Option Value
return_register Amd64 regs = None
return_register Aarch64 regs = Some (Known regs.lr)

-- what columns recover, where this is the canonical frame address
abbrev pub columns_recover_from : Arch → Columns → Key → Regs → List Region → (frame_address : Option ℕ) → RuleRecovery
columns_recover_from arch columns key regs memory frame_address = record {
  frame_address = frame_address;
  return_address = value_by memory frame_address (return_register arch regs) (return_register arch regs) columns.ra;
  frame_pointer = value_by memory frame_address (Some (Known regs.fp)) (Some (Known regs.fp)) columns.fp;
  stack_pointer = value_by memory frame_address (option_map Known frame_address) (Some (Known regs.sp)) columns.sp;
  signed = key_if_signed columns.signed key;
}

-- what columns recover, with the machine's return column, the key, the present registers and the memory
unfoldable pub columns_recover : Arch → Columns → Key → Regs → List Region → RuleRecovery
columns_recover arch columns key regs memory = columns_recover_from arch columns key regs memory (frame_address_by arch columns.cfa regs)
