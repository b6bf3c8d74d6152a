-- Functions in the order of their addresses, and the limits of a section.
use Rattle.std.specs.Prelude.{ℕ, ◌+◌, Bool, true, ◌&&◌, nat_le, ◌==◌, if◌then◌else◌, List, [], ◌∷◌, length, sum_by, Option}
use Rattle.sf_functions.specs.declared.limits.Limit.{Limit}
use Rattle.sf_functions.specs.Limits.{exceeded}
use Rattle.sf_functions.specs.Order.{IsInOrder}
use Rattle.frame_functions.specs.declared.read_function.ReadFunction.{ReadFunction}
use Rattle.frame_functions.specs.declared.read_function.Expressed.{Expressed}
use Rattle.frame_functions.specs.declared.read_function.Expressed.TheVariants.{Kept, LeftOut}

-- the number of rows of a kept function; an omitted one has none
abbrev pub rows_of : Expressed → ℕ
rows_of (Kept f) = length f.rows
rows_of (LeftOut omission) = 0

-- the same, with its addresses
abbrev pub read_rows : ReadFunction → ℕ
read_rows e = rows_of e.outcome

-- the limit of functions or rows that they exceed, if there is one
unfoldable pub exceeded_by : List ReadFunction → Option Limit
exceeded_by entries = exceeded (length entries) (sum_by read_rows entries)

-- its first address
abbrev pub start_of : ReadFunction → ℕ
start_of entry = entry.span.start

-- the same functions by rising start; those of one start stay in their order
abbrev pub InOrder : (all ordered : List ReadFunction) → Type 0
InOrder all ordered = IsInOrder start_of all ordered

-- ---- Inside the crate
-- none of these functions, but for empty ones, starts before this address or before the end of an earlier one
abbrev pub are_apart : ℕ → List ReadFunction → Bool
are_apart end [] = true
are_apart end (e ∷ es) =
    if e.span.size == 0 then are_apart end es else (nat_le end e.span.start && are_apart (e.span.start + e.span.size) es)
