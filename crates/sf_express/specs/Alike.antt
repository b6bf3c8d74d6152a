-- A row of call frame instructions and the content of a frame row entry recover the same of the caller's frame (DWARF 5,
-- section 6.4.1; GNU SFrame specification, Version 2, "SFrame Frame Row Entries").
use Rattle.std.specs.Prelude.{◌≡◌, List, Option, Some}
use Rattle.std.specs.Option.{option_map}
use Rattle.sf_model.specs.declared.machine.Arch.{Arch}
use Rattle.sf_model.specs.declared.machine.Key.{Key}
use Rattle.sf_model.specs.declared.content.Content.{Content}
use Rattle.sf_model.specs.declared.recovery.Regs.{Regs}
use Rattle.sf_model.specs.Memory.{Region}
use Rattle.sf_model.specs.Recovery.{Recovery, Known, recovery}
use Rattle.cfa_machine.specs.declared.columns.Columns.{Columns}
use Rattle.cfa_machine.specs.ColumnRecovery.{columns_recover}
use Rattle.cfa_machine.specs.FullRow.{FullRow}
use Rattle.cfa_machine.specs.Recovery.{RuleRecovery, recovery_by_rules}
use Rattle.cfa_machine.specs.Registers.{return_address}

-- a recovery in which nothing is undefined
abbrev pub defined : Recovery → RuleRecovery
defined r = record {
  frame_address = Some r.frame_address;
  return_address = Some r.return_address;
  frame_pointer = Some r.frame_pointer;
  stack_pointer = Some (Known r.stack_pointer);
  signed = r.signed;
}

-- In a function whose return address column is the machine's own, with every key, all registers and all memory, the rules of a
-- row and a content recover the same: the canonical frame address, the return address, the frame pointer, the stack pointer and
-- the key of the signature; what can't be read has the same address.
pub record RecoverAlike (arch : Arch) (row : FullRow) (content : Content) : Type 0 where
  pub alike : (key : Key) (regs : Regs) (memory : List Region)
      → recovery_by_rules arch (return_address arch) row key regs memory ≡ defined (recovery content key regs memory)
  -- by the rules the caller's stack pointer is the canonical frame address
  pub stack_pointer : (key : Key) (regs : Regs) (memory : List Region)
      → (recovery_by_rules arch (return_address arch) row key regs memory).stack_pointer
      ≡ option_map Known (recovery_by_rules arch (return_address arch) row key regs memory).frame_address

-- the columns of a row recover the same as a content, in the same sense
pub record ColumnsRecoverAlike (arch : Arch) (columns : Columns) (content : Content) : Type 0 where
  pub alike : (key : Key) (regs : Regs) (memory : List Region) → columns_recover arch columns key regs memory ≡ defined (recovery content key regs memory)
  pub stack_pointer : (key : Key) (regs : Regs) (memory : List Region)
      → (columns_recover arch columns key regs memory).stack_pointer ≡ option_map Known (columns_recover arch columns key regs memory).frame_address

-- a content was found, and it recovers what the full row recovers
pub record FoundAlike (arch : Arch) (row : FullRow) (found : Option Content) : Type 0 where
  pub content : Content
  pub is : found ≡ Some content
  pub alike : RecoverAlike arch row content
