-- The text of a section that was slimmed.
use Rattle.std.specs.Prelude.{◌++◌, ℕ, List, codes}
use Rattle.std.specs.Fmt.{decimal}

-- ` functions COUNT rows COUNT`
unfoldable pub counts_text : (functions rows : ℕ) → List ℕ
counts_text functions rows = codes " functions " ++ decimal functions ++ codes " rows " ++ decimal rows ++ codes "\n"

-- `slim BEFORE AFTER functions COUNT rows COUNT`: how many bytes the given section and the new one have, and the counts of the new one
unfoldable pub slim_text : (before after functions rows : ℕ) → List ℕ
slim_text before after functions rows = codes "slim " ++ decimal before ++ codes " " ++ decimal after ++ counts_text functions rows
