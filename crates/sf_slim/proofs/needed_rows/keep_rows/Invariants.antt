use Rattle.std.proofs.Common.{◌≡◌, ◌++◌, List, None}
use Rattle.sf_model.specs.declared.rows.Row.{Row}
use Rattle.sf_slim.specs.Pass.{kept}
use Rattle.sf_slim.proofs.needed_rows.keep_rows.Given as goal

-- what is kept so far and of any further rows is what is to be kept of all
abbrev pub invariant-loop-row : goal.invariant-loop-row
invariant-loop-row l = (rest : List Row) → l.kept ++ kept l.last l.size rest ≡ kept None l.size (l.yielded ++ rest)
