-- A function without a reason as a whole has the machine's own return address column.
use Rattle.std.proofs.Common.{◌≡◌, Bool, true, false, cond, eqb, Some, None, refl}
use Rattle.std.proofs.lemmas.Bool.{eqb-true}
use Rattle.std.specs.Prelude.{◌^◌, nat_le}
use Rattle.sf_model.specs.declared.facts.FdeFacts.{FdeFacts}
use Rattle.sf_model.specs.declared.machine.Arch.{Arch}
use Rattle.sf_model.specs.declared.omission.Reason.TheVariants.{EmptyRange, SizeTooLarge, ReturnColumn, SignalFrame}
use Rattle.cfa_machine.specs.Registers.{return_address}
use Rattle.sf_express.specs.Expressed.{reason_of}

by_tests : (empty large column signal : Bool) → cond empty (Some EmptyRange) (cond large (Some SizeTooLarge) (cond column (cond signal (Some SignalFrame) None) (Some ReturnColumn))) ≡ None → column ≡ true
by_tests true large column signal e = cc
by_tests false true column signal e = cc
by_tests false false true signal e = refl
by_tests false false false signal e = cc

pub own_column : (arch : Arch) (facts : FdeFacts) → reason_of arch facts ≡ None → facts.column ≡ return_address arch
own_column arch facts e =
    eqb-true facts.column (return_address arch) (by_tests (eqb facts.size 0) (nat_le (2 ^ 32) facts.size) (eqb facts.column (return_address arch)) facts.signal e)
