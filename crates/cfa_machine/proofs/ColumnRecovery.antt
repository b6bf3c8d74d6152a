-- The columns of a row recover what the row recovers, where the function's return address column is the machine's own.
use Rattle.std.proofs.Common.{◌≡◌, ℕ, List, Option, refl}
use Rattle.sf_model.specs.declared.machine.Arch.{Arch}
use Rattle.sf_model.specs.declared.machine.Arch.TheVariants.{Amd64, Aarch64}
use Rattle.sf_model.specs.declared.machine.Key.{Key}
use Rattle.sf_model.specs.declared.recovery.Regs.{Regs}
use Rattle.sf_model.specs.Memory.{Region}
use Rattle.cfa_machine.specs.ColumnRecovery.{columns_recover, columns_recover_from}
use Rattle.cfa_machine.specs.FullRow.{FullRow, columns_of}
use Rattle.cfa_machine.specs.Recovery.{frame_address_by, recovery_from, recovery_by_rules}
use Rattle.cfa_machine.specs.Registers.{return_address}

pub recovery_from_columns : (arch : Arch) (row : FullRow) (key : Key) (regs : Regs) (memory : List Region) (frame_address : Option ℕ)
    → recovery_from arch (return_address arch) row key regs memory frame_address ≡ columns_recover_from arch (columns_of arch row) key regs memory frame_address
recovery_from_columns Amd64 row key regs memory frame_address = refl
recovery_from_columns Aarch64 row key regs memory frame_address = refl

pub recovery_of_columns : (arch : Arch) (row : FullRow) (key : Key) (regs : Regs) (memory : List Region)
    → recovery_by_rules arch (return_address arch) row key regs memory ≡ columns_recover arch (columns_of arch row) key regs memory
unfolding recovery_by_rules columns_recover
recovery_of_columns arch row key regs memory = recovery_from_columns arch row key regs memory (frame_address_by arch row.cfa regs)
