-- Inside the crate. The common information entry that was read last.
use Rattle.std.specs.Prelude.{◌≡◌, ℕ, List, Option, Some, None, Result, Ok, Err}
use Rattle.std.specs.Option.{ForSome}
use Rattle.sf_model.specs.declared.machine.Arch.{Arch}
use Rattle.eh_records.specs.declared.last_cie.LastCie.{LastCie}
use Rattle.eh_records.specs.declared.fault.RecordFault.{RecordFault}
use Rattle.eh_records.specs.Cie.{FullCieView, full_cie_view}
use Rattle.eh_records.specs.Fde.{cie_at_place}

-- the last entry is the one at its place of the section
abbrev pub IsLastCie : Arch → List ℕ → Option LastCie → Type 0
IsLastCie arch section last = ForSome last (λ (k : LastCie). cie_at_place arch section k.place ≡ Ok (full_cie_view k.cie))

-- a call returned what reading the entry at a place gives, and the entry that was read is the last one
abbrev pub GivesLastCie : {U : Type 0} → Option LastCie → Result U RecordFault → Result FullCieView RecordFault → Type 0
GivesLastCie (Some k) (Ok u) read = read ≡ Ok (full_cie_view k.cie)
GivesLastCie None (Ok u) read = ⊥
GivesLastCie last (Err e) read = read ≡ Err e
