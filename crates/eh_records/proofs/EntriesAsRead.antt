-- The entries of records as the reader gives them.
use Rattle.std.proofs.Common.{◌≡◌, ℕ, List, [], ◌∷◌, Ok}
use Rattle.sf_model.specs.declared.machine.Arch.{Arch}
use Rattle.eh_records.specs.RawRecord.{RawRecordView}
use Rattle.eh_records.specs.Section.{EntryView, entry_at, with_place}

-- the entries of the records as the reader gives them, if common information entries come before them at these places
abbrev pub AreGiven : Arch → List ℕ → List ℕ → List RawRecordView → List EntryView → Type 0
AreGiven arch section cies [] [] = Unit {0}
AreGiven arch section cies [] (e ∷ es) = ⊥
AreGiven arch section cies (p ∷ ps) [] = ⊥
AreGiven arch section cies (p ∷ ps) (e ∷ es) = (entry_at arch section cies p ≡ Ok e) × AreGiven arch section (with_place cies p) ps es
