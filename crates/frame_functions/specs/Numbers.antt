-- Inside the crate. What the functions of a common information entry share is found again by the entry's place in its section (LSB Core, "The .eh_frame
-- section": a frame description entry names its common information entry by the distance to it).
use Rattle.std.specs.Prelude.{◌≡◌, ◌<◌, ℕ, List, get_or, length, Option, Some}
use Rattle.std.specs.BTreeMap.{get}
use Rattle.std.specs.Option.{ForSome, option_map}
use Rattle.std.specs.Ordering.{nat_cmp}
use Rattle.sf_model.specs.declared.machine.Arch.{Arch}
use Rattle.eh_records.specs.Named.{standing_cie}
use Rattle.frame_functions.specs.declared.numbers.CommonNumbers.{CommonNumbers}
use Rattle.frame_functions.specs.Descriptions.{Common, common_of, no_common}

-- the number at a place
abbrev pub common_number_at : CommonNumbers → (place : ℕ) → Option ℕ
common_number_at numbers place = get nat_cmp numbers.by_place place

-- it is the number of this one among those that are held
abbrev pub IsNumberOf : List Common → Option Common → (number : ℕ) → Type 0
IsNumberOf commons common number = (number < length commons) × (Some (get_or commons number no_common) ≡ common)

-- each number is that of what the functions of the entry at its place share
abbrev pub AreNumbered : Arch → (section : List ℕ) → CommonNumbers → List Common → Type 0
AreNumbered arch section numbers commons = (place : ℕ) → ForSome (common_number_at numbers place) (IsNumberOf commons (option_map (common_of arch) (standing_cie arch section place)))
