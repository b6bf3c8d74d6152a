-- Functions that were read, kept or omitted.
use Rattle.std.specs.Prelude.{◌≡◌, ◌==◌, ℕ, List, map, Option, Some, None}
use Rattle.std.specs.List.{filter, filter_map, range_with_len}
use Rattle.sf_model.specs.declared.machine.Arch.{Arch}
use Rattle.sf_model.specs.declared.function.Func.{Func}
use Rattle.sf_model.specs.declared.omission.Omitted.{Omitted}
use Rattle.sf_model.specs.declared.omission.Span.{Span}
use Rattle.sf_model.specs.Function.{IsWritable}
use Rattle.frame_functions.specs.declared.read_function.Expressed.{Expressed}
use Rattle.frame_functions.specs.declared.read_function.Expressed.TheVariants.{Kept, LeftOut}
use Rattle.frame_functions.specs.declared.read_function.ReadFunction.{ReadFunction}

-- the function, if it is kept
abbrev pub kept_in : Expressed → Option Func
kept_in (Kept f) = Some f
kept_in (LeftOut omission) = None

-- the function, if it is omitted
abbrev pub omitted_in : Span → Expressed → Option Omitted
omitted_in span (Kept f) = None
omitted_in span (LeftOut omission) = Some record { start = span.start; size = span.size; origin = span.origin; omission = omission }

-- the kept functions, in order
abbrev pub kept_of : List ReadFunction → List Func
kept_of entries = filter_map (λ (e : ReadFunction). kept_in e.outcome) entries

-- the omitted functions, in order
abbrev pub omitted_of : List ReadFunction → List Omitted
omitted_of entries = filter_map (λ (e : ReadFunction). omitted_in e.span e.outcome) entries

-- the addresses of all, in order
abbrev pub spans_of : List ReadFunction → List Span
spans_of entries = map (λ (e : ReadFunction). e.span) entries

-- ---- by items
-- the functions of one item, in order
abbrev pub of_item : (item : ℕ) → List ReadFunction → List ReadFunction
of_item item entries = filter (λ (e : ReadFunction). e.span.origin.item == item) entries

-- the kept functions of `count` items from `first` on, a list for each, in order
abbrev pub kept_by_item : (first count : ℕ) → List ReadFunction → List (List Func)
kept_by_item first count entries = map (λ (item : ℕ). kept_of (of_item item entries)) (range_with_len first count)

-- ---- Inside the crate
-- a kept function is one that a section can hold, and has this start and size
abbrev pub IsSoundOutcome : Arch → (start size : ℕ) → Expressed → Type 0
IsSoundOutcome arch start size (Kept f) = IsWritable arch f × (f.start ≡ start) × (f.size ≡ size)
IsSoundOutcome arch start size (LeftOut omission) = Unit {0}

-- the same for a function with its addresses
abbrev pub IsSound : Arch → ReadFunction → Type 0
IsSound arch entry = IsSoundOutcome arch entry.span.start entry.span.size entry.outcome
