-- GNU SFrame specification, Version 3, function descriptor entries and frame row entries: what is found at an address, and what it
-- recovers. A row is looked up, and read, as in Version 2.
use Rattle.std.specs.Prelude.{ℕ, Bool, false, List, [], ◌∷◌, Option, Some, None}
use Rattle.std.specs.Option.{option_map}
use Rattle.std.specs.List.{find}
use Rattle.sf_model.specs.declared.function.Func.{Func}
use Rattle.sf_model.specs.declared.recovery.Regs.{Regs}
use Rattle.sf_model.specs.declared.rows.Row.{Row}
use Rattle.sf_model.specs.Lookup.{FoundRow, contains, row_in}
use Rattle.sf_model.specs.Memory.{Region}
use Rattle.sf_model.specs.Recovery.{Recovery, recovery}
use Rattle.sf3_model.specs.Described.{Described}

-- what is found at an address
pub data Found : Type 0 where
  -- the row that holds there, of a signal frame or of another one
  ByRow : FoundRow → (is_signal : Bool) → Found
  -- a function whose frames are outermost ones
  Outermost : Func → Found

-- a row, with the kind of its frame
abbrev pub by_row : (is_signal : Bool) → FoundRow → Found
by_row is_signal found = ByRow found is_signal

-- what Version 2 finds, which knows no signal frames, as it is found in Version 3
abbrev pub found_alike : Option FoundRow → Option Found
found_alike found = option_map (by_row false) found

-- what is found in a function that contains the address, by its rows
abbrev pub found_by : (pc : ℕ) → (is_signal : Bool) → Func → List Row → Option Found
found_by pc is_signal f [] = Some (Outermost f)
found_by pc is_signal f (row ∷ rows) = option_map (by_row is_signal) (row_in pc f)

-- what is found in the first function that contains the address, if there is one
abbrev pub found_in_first : (pc : ℕ) → Option Described → Option Found
found_in_first pc (Some d) = found_by pc d.is_signal d.func d.func.rows
found_in_first pc None = None

-- the function's bytes hold the address
abbrev pub describes : (pc : ℕ) → Described → Bool
describes pc d = contains pc d.func

-- what a section's functions have at an address: the first function that contains it decides
unfoldable pub found_at : List Described → (pc : ℕ) → Option Found
found_at functions pc = found_in_first pc (find (describes pc) functions)

-- what a stack tracer learns of a frame
pub data Step : Type 0 where
  -- the caller's frame; or, in a signal frame, the one that was interrupted
  Recovers : Recovery → (is_signal : Bool) → Step
  -- there is no caller
  Ends : Step

-- what Version 2 recovers, as it is recovered in Version 3
abbrev pub step_alike : Option Recovery → Option Step
step_alike recovered = option_map (λ (r : Recovery). Recovers r false) recovered

-- what is recovered by what was found, with the present registers and the memory
abbrev pub step_by : Regs → List Region → Found → Step
step_by regs memory (ByRow found is_signal) = Recovers (recovery found.row.content found.func.key regs memory) is_signal
step_by regs memory (Outermost f) = Ends

-- what a section's functions recover at an address, if they have anything there
abbrev pub step_at : List Described → List Region → (pc : ℕ) → Regs → Option Step
step_at functions memory pc regs = option_map (step_by regs memory) (found_at functions pc)
