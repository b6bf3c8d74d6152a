-- Which inputs can be gathered: all their functions can be read and run, they are of one machine and within the limits, and no address
-- lies in two of them. And which can be linked: each kept function is near enough to the section too.
use Rattle.std.specs.Prelude.{◌≡◌, ◌≤◌, ◌+◌, ◌&&◌, ℕ, Bool, nat_le, nat_lt, List, map, length, sum_by, Option, None, Ok, if◌then◌else◌}
use Rattle.sf_model.specs.declared.machine.Arch.{Arch}
use Rattle.sf_model.specs.declared.omission.Span.{Span}
use Rattle.sf_model.specs.Limits.{most_functions, most_rows}
use Rattle.sf_write.specs.Reach.{first_out_of_reach}
use Rattle.sf_asm.specs.Described.{Describe}
use Rattle.frame_functions.specs.declared.read_function.ReadFunction.{ReadFunction}
use Rattle.frame_functions.specs.ReadFunction.{kept_of}
use Rattle.frame_functions.specs.Functions.{Function}
use Rattle.sf_asm.specs.Functions.{Object}
use Rattle.sf_asm.specs.Inputs.{HaveMachine, first_item}
use Rattle.frame_functions.specs.Kept.{read_of}
use Rattle.frame_functions.specs.Order.{InOrder, read_rows}

-- the address lies in the function, kept or omitted
abbrev pub has_address : (address : ℕ) → Span → Bool
has_address address span = nat_le span.start address && nat_lt address (span.start + span.size)

-- how many of these have the address
abbrev pub how_many_at : (address : ℕ) → List ReadFunction → ℕ
how_many_at address entries = sum_by (λ (e : ReadFunction). if has_address address e.span then 1 else 0) entries

-- inputs, after an item of this machine or of none, that can be gathered
pub record CanBeGathered (before : Option Arch) (objects : List Object) : Type 0 where
  pub functions : List Function
  -- none is malformed
  pub are : Describe (first_item before) objects (Ok functions)
  -- all items have one machine
  pub arch : Arch
  pub machine : HaveMachine before objects arch
  -- functions, omitted ones included, and rows of kept ones
  pub few : length functions ≤ most_functions
  pub few_rows : sum_by read_rows (map read_of functions) ≤ most_rows
  -- each address lies in one of them at most
  pub apart : (address : ℕ) → how_many_at address (map read_of functions) ≤ 1

-- those that can be linked for a section at this address
pub record IsAccepted (before : Option Arch) (objects : List Object) (at : ℕ) : Type 0 where
  pub gathered : CanBeGathered before objects
  -- the kept ones by rising start are within reach
  pub ordered : List ReadFunction
  pub in_order : InOrder (map read_of gathered.functions) ordered
  pub near : first_out_of_reach at 0 (kept_of ordered) ≡ None
