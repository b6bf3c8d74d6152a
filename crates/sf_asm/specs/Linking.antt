-- The functions of all inputs in the order of their addresses, and why there may be no section of them.
use Rattle.std.specs.Prelude.{◌≡◌, ℕ, Bool, not, ◌==◌, List, ◌∷◌, map, Option, Some, None, Result, Ok, Err, if◌then◌else◌}
use Rattle.std.specs.Option.{option_map}
use Rattle.std.specs.List.{filter}
use Rattle.sf_model.specs.declared.machine.Arch.{Arch}
use Rattle.sf_model.specs.declared.omission.Span.{Span}
use Rattle.sf_write.specs.Reach.{first_out_of_reach}
use Rattle.sf_functions.specs.declared.limits.Limit.{Limit}
use Rattle.sf_functions.specs.declared.limits.Limit.TheVariants.{Functions, Rows}
use Rattle.sf_functions.specs.Neighbours.{first_overlap, overlap_by}
use Rattle.frame_functions.specs.declared.read_function.ReadFunction.{ReadFunction}
use Rattle.sf_asm.specs.declared.fault.GatherFault.{GatherFault}
use Rattle.sf_asm.specs.declared.fault.GatherFault.TheVariants as gather
use Rattle.sf_asm.specs.declared.overlaps.Overlaps.{Overlaps}
use Rattle.sf_asm.specs.declared.fault.LinkFault.{LinkFault}
use Rattle.sf_asm.specs.declared.fault.LinkFault.TheVariants.{Gather, OutOfReach}
use Rattle.frame_functions.specs.ReadFunction.{kept_of, spans_of}
use Rattle.frame_functions.specs.Functions.{Function}
use Rattle.sf_asm.specs.Functions.{Object}
use Rattle.sf_asm.specs.Described.{DescribeTogether}
use Rattle.frame_functions.specs.Kept.{read_of}
use Rattle.frame_functions.specs.Order.{InOrder, exceeded_by}
pub use Rattle.sf_model.specs.Firsts.{or_later, unless_fault}

-- ---- overlaps
-- the first of a function's addresses
abbrev pub span_start : Span → ℕ
span_start span = span.start

-- how many addresses a function has
abbrev pub span_size : Span → ℕ
span_size span = span.size

-- these are the addresses of a function that isn't empty
abbrev pub has_bytes : Span → Bool
has_bytes span = not (span.size == 0)

-- the first overlapping pair of neighbours among the functions that have bytes
unfoldable pub overlap_in : List Span → Option (Span × Span)
overlap_in spans = first_overlap span_start span_size (filter has_bytes spans)

-- the fault of two functions that share an address
abbrev pub overlap_fault : Span × Span → GatherFault
overlap_fault pair = gather.Overlap pair.0.start pair.0.origin.item pair.1.start pair.1.origin.item

-- ---- the first fault
-- the fault of a limit
abbrev pub fault_of_limit : Limit → GatherFault
fault_of_limit Functions = gather.TooManyFunctions
fault_of_limit Rows = gather.TooManyRows

-- at most 2^21 functions, omitted ones included, and 2^24 rows of kept ones
unfoldable pub limits_fault : List ReadFunction → Option GatherFault
limits_fault ordered = option_map fault_of_limit (exceeded_by ordered)

-- of all functions: the limits, and then overlaps
abbrev pub functions_fault : List ReadFunction → Option GatherFault
functions_fault ordered = or_later (limits_fault ordered) (option_map overlap_fault (overlap_in (spans_of ordered)))

-- and of a section at an address: a kept function that is out of reach
abbrev pub link_fault : (at : ℕ) → List ReadFunction → Option LinkFault
link_fault at ordered = or_later (option_map Gather (functions_fault ordered)) (option_map OutOfReach (first_out_of_reach at 0 (kept_of ordered)))

-- ---- all functions in order, or the first fault
-- a condition on the functions in order, or one on the fault in their place
abbrev pub Ordered : Result (List Function) GatherFault → (List ReadFunction → Type 0) → (GatherFault → Type 0) → Type 0
Ordered (Ok functions) Then Fails = (ordered : List ReadFunction) × InOrder (map read_of functions) ordered × Then ordered
Ordered (Err fault) Then Fails = Fails fault

-- gathering these functions, or the fault in their place, comes to this
abbrev pub GathersFrom : Result (List Function) GatherFault → Result (List ReadFunction) GatherFault → Type 0
GathersFrom given result = Ordered given (λ ordered. result ≡ unless_fault (functions_fault ordered) ordered) (λ fault. result ≡ Err fault)

-- gathering inputs, after an item of this machine or of none, comes to this
pub record Gathers (before : Option Arch) (objects : List Object) (result : Result (List ReadFunction) GatherFault) : Type 0 where
  pub given : Result (List Function) GatherFault
  pub described : DescribeTogether before objects given
  pub comes : GathersFrom given result

-- linking them for this address comes to this
abbrev pub LinksFrom : (at : ℕ) → Result (List Function) GatherFault → Result (List ReadFunction) LinkFault → Type 0
LinksFrom at given result = Ordered given (λ ordered. result ≡ unless_fault (link_fault at ordered) ordered) (λ fault. result ≡ Err (Gather fault))

-- linking inputs for this address comes to this
pub record Links (before : Option Arch) (objects : List Object) (at : ℕ) (result : Result (List ReadFunction) LinkFault) : Type 0 where
  pub given : Result (List Function) GatherFault
  pub described : DescribeTogether before objects given
  pub comes : LinksFrom at given result

-- ---- Inside the crate: one function after the other
-- the second begins before the end of the first
abbrev pub overlap : Span × Span → Bool
overlap pair = overlap_by span_start span_size pair

-- the fault of a function with the one before it, if there is one
abbrev pub overlap_with : (before : Option Span) → Span → Option GatherFault
overlap_with None span = None
overlap_with (Some before) span = if overlap (before, span) then Some (overlap_fault (before, span)) else None

-- consecutive functions: the one before that has bytes, if there is one, and those that follow it
abbrev pub with_span_before : Option Span → List Span → List Span
with_span_before None spans = spans
with_span_before (Some before) spans = before ∷ spans

-- the first overlapping pair among these
abbrev pub overlap_after : (before : Option Span) → List Span → Option (Span × Span)
overlap_after before spans = first_overlap span_start span_size (with_span_before before (filter has_bytes spans))

-- the fault that was found, or else the one of what is left
abbrev pub overlap_left : Overlaps → List Span → Option GatherFault
overlap_left seen spans = or_later seen.first (option_map overlap_fault (overlap_after seen.before spans))
