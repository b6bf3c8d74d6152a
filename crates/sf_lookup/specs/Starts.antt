-- GNU SFrame specification, Version 2, function descriptor entries: their starts in order, and the last one that an
-- address has reached.
use Rattle.std.specs.Prelude.{◌+◌, ◌<◌, ◌≤◌, ℕ, List, length, map, slice_index, Option, Some, None}
use Rattle.std.specs.List.{AllAdjacentBelow}
use Rattle.sf_model.specs.declared.function.Func.{Func}

-- where the functions of a section start, in the order of their entries
abbrev pub starts_of : List Func → List ℕ
starts_of functions = map (λ (f : Func). f.start) functions

-- Inside the crate: each function ends where the next one starts, or before
abbrev pub Apart : List Func → Type 0
Apart functions = AllAdjacentBelow (λ (f : Func) (g : Func). f.start + f.size ≤ g.start) functions (length functions)

-- no address is below the one before it
abbrev pub NeverFall : List ℕ → Type 0
NeverFall starts = AllAdjacentBelow (λ a b. a ≤ b) starts (length starts)

-- the greatest number whose address is not above this one, or none
abbrev pub IsLastStart : List ℕ → (pc : ℕ) → Option ℕ → Type 0
IsLastStart starts pc None = (i : ℕ) → i < length starts → pc < slice_index starts i
IsLastStart starts pc (Some i) =
    (i < length starts) × (slice_index starts i ≤ pc) × ((j : ℕ) → i < j → j < length starts → pc < slice_index starts j)
