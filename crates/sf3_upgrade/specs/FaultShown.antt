-- What the line of a fault of upgrading shows. Two functions that share an address are a fault of the section, as in a section with
-- the flag SFRAME_F_FDE_SORTED, and a number of rows that has more than 16 bits is a fault of linking.
use Rattle.std.specs.Prelude.{ℕ, Bool, true, false, Option, None, codes}
use Rattle.sf_model.specs.declared.notice.Group.TheVariants as group
use Rattle.sf_model.specs.FaultShown.{FaultShown, ShownFault, fault_at, not_shown}
use Rattle.sf_decode.specs.declared.fault.DecodeFault.TheVariants as decode
use Rattle.sf_decode.specs.FaultShown.{shown_section}
use Rattle.sf3_upgrade.specs.declared.fault.UpgradeFault.{UpgradeFault}
use Rattle.sf3_upgrade.specs.declared.fault.UpgradeFault.TheVariants.{Overlap, TooManyRows, NoMemory}

-- the place of an entry, or the start of a function; out of memory has no line
abbrev pub shown_upgrade : UpgradeFault → ShownFault
shown_upgrade (Overlap place) = shown_section (decode.Overlap place)
shown_upgrade (TooManyRows start) = fault_at group.Link 4 (codes "TooManyRows") start
shown_upgrade NoMemory = not_shown group.Link

-- the item of a fault of this item's section: a fault of linking has none
abbrev pub item_of : Option ℕ → UpgradeFault → Option ℕ
item_of item (Overlap place) = item
item_of item (TooManyRows start) = None
item_of item NoMemory = None

-- the fault of this item's section, as its line shows it
abbrev pub shown_of_upgrading : Option ℕ → UpgradeFault → FaultShown
shown_of_upgrading item fault = record { item = item_of item fault; fault = shown_upgrade fault }

-- the fault is not out of memory
abbrev pub is_upgrade_refusal : UpgradeFault → Bool
is_upgrade_refusal (Overlap place) = true
is_upgrade_refusal (TooManyRows start) = true
is_upgrade_refusal NoMemory = false
