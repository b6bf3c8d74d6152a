-- The first fault of items, each of which is checked by itself.
use Rattle.std.specs.Prelude.{◌+◌, ℕ, List, [], ◌∷◌, Option, Some, None, Result, Ok, Err}

-- a fault with the number of its item, or else a later one
abbrev pub or_in : {F : Type 0} → Result (Unit {0}) F → (item : ℕ) → Option (ℕ × F) → Option (ℕ × F)
or_in (Err fault) item later = Some (item, fault)
or_in (Ok u) item later = later

-- the first item that fails its check, of items that are numbered from this number on, and its fault
unfoldable pub first_failing : {A F : Type 0} → (check : A → Result (Unit {0}) F) → (number : ℕ) → List A → Option (ℕ × F)
first_failing check number [] = None
first_failing check number (item ∷ items) = or_in (check item) number (first_failing check (number + 1) items)
