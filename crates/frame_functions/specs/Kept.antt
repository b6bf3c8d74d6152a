-- What becomes of a function: SFrame Version 2 can express each of its rows (GNU SFrame specification, function descriptor entries
-- and frame row entries), or it is omitted with the first reason.
use Rattle.std.specs.Prelude.{ℕ, Bool, is_none, not, List, Result, Ok, Err}
use Rattle.std.specs.List.{filter}
use Rattle.sf_model.specs.declared.facts.FdeFacts.{FdeFacts}
use Rattle.sf_model.specs.declared.function.Func.{Func}
use Rattle.sf_model.specs.declared.omission.Omission.{Omission}
use Rattle.cfa_machine.specs.RowAtOffset.{row_at_offset}
use Rattle.cfa_machine.specs.Columns.{row_from}
use Rattle.cfa_machine.specs.FullRow.{FullRow, columns_of}
use Rattle.sf_express.specs.Rules.{content_of}
use Rattle.sf_express.specs.Runs.{ContentsByOffset, omission_of, function_of}
use Rattle.frame_functions.specs.declared.read_function.ReadFunction.{ReadFunction}
use Rattle.frame_functions.specs.declared.read_function.Expressed.{Expressed}
use Rattle.frame_functions.specs.declared.read_function.Expressed.TheVariants as outcome
use Rattle.frame_functions.specs.Functions.{Function}

-- the row of a function at an offset, with all registers
abbrev pub full_row : Function → (offset : ℕ) → FullRow
full_row f offset = row_at_offset f.code f.factor f.initial f.own offset

-- its content in SFrame, or the first reason against the row
abbrev pub row_contents : Function → ContentsByOffset
row_contents f offset = content_of f.arch (row_from offset (columns_of f.arch (full_row f offset)))

-- what the records describe of it, apart from its instructions
abbrev pub facts_of : Function → FdeFacts
facts_of f = record { start = f.start; size = f.size; column = f.column; signal = f.signal; key = f.key }

-- what becomes of it: kept as SFrame expresses it, or omitted
abbrev pub outcome_by : Result Func Omission → Expressed
outcome_by (Ok function) = outcome.Kept function
outcome_by (Err omission) = outcome.LeftOut omission

-- a function with its addresses and origin, and what becomes of it
abbrev pub read_of : Function → ReadFunction
read_of f = record {
  span = record { start = f.start; size = f.size; origin = f.origin };
  outcome = outcome_by (function_of f.arch (facts_of f) (row_contents f));
}

-- there is no reason against the function
abbrev pub is_kept : Function → Bool
is_kept f = is_none (omission_of f.arch (facts_of f) (row_contents f))

-- the functions that a section of these functions has
abbrev pub kept_functions : List Function → List Function
kept_functions functions = filter is_kept functions

-- the functions that it omits
abbrev pub omitted_functions : List Function → List Function
omitted_functions functions = filter (λ (f : Function). not (is_kept f)) functions
