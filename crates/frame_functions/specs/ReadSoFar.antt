-- The functions that were read so far: within the limits they are held, and past one they are only counted.
use Rattle.std.specs.Prelude.{◌≡◌, ◌⊎◌, ◌≤◌, ◌+◌, ℕ, Bool, false, IsTrue, is_none, List, ◌++◌, map, length, min, sum_by, All, Result, Ok, Err}
use Rattle.sf_model.specs.declared.machine.Arch.{Arch}
use Rattle.sf_model.specs.Limits.{most_functions, most_rows}
use Rattle.frame_functions.specs.declared.fault.AsmFault.{AsmFault}
use Rattle.frame_functions.specs.declared.fault.AsmFault.TheVariants as asm
use Rattle.frame_functions.specs.declared.read.HeldFunctions.{HeldFunctions}
use Rattle.frame_functions.specs.declared.read.ReadFunctions.{ReadFunctions}
use Rattle.frame_functions.specs.declared.read.ReadFunctions.TheVariants.{Within, Past}
use Rattle.frame_functions.specs.ReadFunction.{IsSound}
use Rattle.frame_functions.specs.Functions.{Function}
use Rattle.frame_functions.specs.Kept.{read_of, omitted_functions}
use Rattle.frame_functions.specs.Order.{read_rows, exceeded_by}
use Rattle.frame_functions.specs.Numbers.{AreNumbered}
use Rattle.frame_functions.specs.declared.numbers.CommonNumbers.{CommonNumbers}

-- within the limits: all functions, the number of rows that may still come, and the omitted ones if they are to be lent
pub record AreHeld (lending : Bool) (held : HeldFunctions) (functions : List Function) : Type 0 where
  pub entries : held.entries ≡ map read_of functions
  pub few : length functions ≤ most_functions
  pub rows : sum_by read_rows (map read_of functions) + held.rows_left ≡ most_rows
  pub lent : IsTrue lending → held.descriptions.functions ≡ omitted_functions functions

-- past a limit: how many there are; a number above the limit of functions counts as one above it
pub record AreCounted (count : ℕ) (functions : List Function) : Type 0 where
  pub counted : count ≡ min (length functions) (most_functions + 1)
  pub past : is_none (exceeded_by (map read_of functions)) ≡ false

-- these are the functions that were read so far
abbrev pub AreReadSoFar : (lending : Bool) → ReadFunctions → List Function → Type 0
AreReadSoFar lending (Within held) functions = AreHeld lending held functions
AreReadSoFar lending (Past count) functions = AreCounted count functions

-- how many there are, as far as they are counted
abbrev pub counted_in : ReadFunctions → ℕ
counted_in (Within held) = length held.entries
counted_in (Past count) = count

-- one section can hold each kept function that is held
abbrev pub AreSound : Arch → ReadFunctions → Type 0
AreSound arch (Within held) = All (IsSound arch) held.entries
AreSound arch (Past count) = Unit {0}

-- each number is that of what the functions of an entry of a section share, while functions are held
abbrev pub AreNumberedIn : Arch → (section : List ℕ) → CommonNumbers → ReadFunctions → Type 0
AreNumberedIn arch section numbers (Within held) = AreNumbered arch section numbers held.descriptions.common
AreNumberedIn arch section numbers (Past count) = Unit {0}

-- these functions were read after those that were read before
abbrev pub ReadsFunctions : (lending : Bool) → (old new : ReadFunctions) → (functions : List Function) → Type 0
ReadsFunctions lending old new functions = (before : List Function) → AreReadSoFar lending old before → AreReadSoFar lending new (before ++ functions)

-- all of these were read, and none is refused
abbrev pub ReadsAll : {F : Type 0} → (lending : Bool) → (old new : ReadFunctions) → Result (List Function) F → Type 0
ReadsAll lending old new given = (functions : List Function) × (given ≡ Ok functions) × ReadsFunctions lending old new functions

-- all of these were read; or the first fault was returned, or memory ran out
abbrev pub ReadsMore : {X : Type 0} → (lending : Bool) → Result X AsmFault → (old new : ReadFunctions) → Result (List Function) AsmFault → Type 0
ReadsMore lending (Ok x) old new given = ReadsAll lending old new given
ReadsMore lending (Err fault) old new given = (fault ≡ asm.NoMemory) ⊎ (given ≡ Err fault)
