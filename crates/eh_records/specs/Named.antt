-- The common information entry of a frame description entry: the one at the place that it names (LSB Core, "The .eh_frame
-- section"). So two frame description entries that name one place have the same alignment factors and the same initial
-- instructions.
use Rattle.std.specs.Prelude.{All, ◌≡◌, ℕ, List, Option, Some, None, Result, Ok, Err}
use Rattle.sf_model.specs.declared.machine.Arch.{Arch}
use Rattle.eh_records.specs.declared.fault.RecordFault.{RecordFault}
use Rattle.eh_records.specs.declared.records.Records.{Records}
use Rattle.eh_records.specs.Cie.{CieView, FullCieView}
use Rattle.eh_records.specs.Fde.{FdeView, cie_at_place}
use Rattle.eh_records.specs.Section.{frames}
use Rattle.eh_records.specs.View.{arch_of, bytes_of, entries}

-- a common information entry, if it was read
abbrev pub cie_if_read : Result FullCieView RecordFault → Option CieView
cie_if_read (Ok full) = Some full.cie
cie_if_read (Err e) = None

-- the common information entry at a place of a section, if one can be read there
abbrev pub standing_cie : Arch → (section : List ℕ) → (place : ℕ) → Option CieView
standing_cie arch section place = cie_if_read (cie_at_place arch section place)

-- a frame description entry has the common information entry at the place that its own has
abbrev pub HasNamed : Arch → (section : List ℕ) → FdeView → Type 0
HasNamed arch section f = standing_cie arch section f.cie.place ≡ Some f.cie

-- each frame description entry of the records has the one at that place
abbrev pub HaveNamed : Records → Type 0
HaveNamed r = All (HasNamed (arch_of r) (bytes_of r)) (frames (entries r))
