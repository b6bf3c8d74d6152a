-- The limits of the functions and rows of all sections of a run.
use Rattle.std.specs.Prelude.{ℕ, List, Option}
use Rattle.std.specs.Option.{option_map}
use Rattle.sf_model.specs.Table.{Table}
use Rattle.sf_functions.specs.declared.limits.Limit.{Limit as CountLimit}
use Rattle.sf_functions.specs.declared.limits.Limit.TheVariants.{Functions, Rows}
use Rattle.sf_functions.specs.Limits.{exceeded}
use Rattle.sf_merge.specs.Merging.{functions_in_all, rows_in_all}
use Rattle.sf_words.specs.declared.refusal.Limit.{Limit}
use Rattle.sf_words.specs.declared.refusal.Limit.TheVariants as limits

-- a limit of functions and rows, as a limit of the run
abbrev pub run_limit : CountLimit → Limit
run_limit Functions = limits.Functions
run_limit Rows = limits.Rows

-- the limit of a run that these numbers exceed: the limit of functions, or else the limit of rows
abbrev pub exceeded_limit : (functions rows : ℕ) → Option Limit
exceeded_limit functions rows = option_map run_limit (exceeded functions rows)

-- the limit that the functions or the rows of all sections together exceed
abbrev pub sums_limit : List Table → Option Limit
sums_limit tables = exceeded_limit (functions_in_all tables) (rows_in_all tables)
