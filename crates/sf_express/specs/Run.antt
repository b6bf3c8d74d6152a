-- A function in SFrame's form, from rows that are made one by one.
use Rattle.std.specs.Prelude.{◌≡◌, is_ok, true, List, Result, Ok, Err}
use Rattle.sf_model.specs.declared.function.Func.{Func}
use Rattle.sf_model.specs.declared.function.FuncHead.{FuncHead}
use Rattle.sf_model.specs.declared.omission.Omission.{Omission}
use Rattle.sf_model.specs.declared.rows.Row.{Row}
use Rattle.cfa_machine.specs.declared.fault.MachineFault.{MachineFault}
use Rattle.cfa_machine.specs.declared.row.DwRow.{DwRow}
use Rattle.cfa_machine.specs.Pass.{Fails}
use Rattle.sf_decode.specs.View.{head_of}
use Rattle.sf_write.specs.declared.packed.PackedRows.{PackedRows}
use Rattle.sf_write.specs.Packed.{ArePacked}

-- what is made of the rows that are left, or their fault
abbrev pub on_rows : {Y : Type 0} → (List DwRow → Y) → Result (List DwRow) MachineFault → Result Y MachineFault
on_rows f (Ok rows) = Ok (f rows)
on_rows f (Err e) = Err e

-- Inside the crate: every instruction was run, or this is the first fault
abbrev pub RunsAll : {U : Type 0} → Result U MachineFault → Result (List DwRow) MachineFault → Type 0
RunsAll (Ok u) left = is_ok left ≡ true
RunsAll (Err e) left = left ≡ Err e

-- Inside the crate: the rows are packed, or the omission or the fault was returned in their place
abbrev pub PacksRows : {U : Type 0} → PackedRows → Result (Result U Omission) MachineFault → Result (Result (List Row) Omission) MachineFault → Type 0
PacksRows packed (Ok (Ok u)) given = (rows : List Row) × ArePacked packed rows × (given ≡ Ok (Ok rows))
PacksRows packed (Ok (Err omission)) given = given ≡ Ok (Err omission)
PacksRows packed (Err fault) given = Fails fault given

-- the head of the function was returned and its rows are packed, or the omission or the fault was returned
abbrev pub PacksFunction : PackedRows → Result (Result FuncHead Omission) MachineFault → Result (Result Func Omission) MachineFault → Type 0
PacksFunction packed (Ok (Ok head)) given = (func : Func) × (given ≡ Ok (Ok func)) × (head ≡ head_of func) × ArePacked packed func.rows
PacksFunction packed (Ok (Err omission)) given = given ≡ Ok (Err omission)
PacksFunction packed (Err fault) given = Fails fault given
