-- Which limit is exceeded, of functions and rows.
use Rattle.std.specs.Prelude.{ℕ, nat_lt, Option, Some, None, if◌then◌else◌}
use Rattle.sf_model.specs.Limits.{most_functions, most_rows}
use Rattle.sf_functions.specs.declared.limits.Limit.{Limit}
use Rattle.sf_functions.specs.declared.limits.Limit.TheVariants.{Functions, Rows}

-- the limit that these numbers exceed: that of functions, or else that of rows
abbrev pub exceeded : (functions rows : ℕ) → Option Limit
exceeded functions rows =
    if nat_lt most_functions functions then Some Functions else
    if nat_lt most_rows rows then Some Rows else None
