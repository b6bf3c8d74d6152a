-- Inside the crate. Places in the order of a section.
use Rattle.std.specs.Prelude.{ℕ, ◌<◌, ◌≤◌, List, length, slice_index}

-- places that rise
abbrev pub IsRising : List ℕ → Type 0
IsRising places = (i j : ℕ) → i ≤ j → j < length places → slice_index places i ≤ slice_index places j

-- places before another one
abbrev pub IsBefore : ℕ → List ℕ → Type 0
IsBefore end places = (i : ℕ) → i < length places → slice_index places i < end
