-- The text of a merge, and the line of an item that is too long.
use Rattle.std.specs.Prelude.{◌++◌, ℕ, List, codes}
use Rattle.std.specs.Fmt.{decimal}

-- `merged COUNT functions COUNT rows`
unfoldable pub merged_text : (functions rows : ℕ) → List ℕ
merged_text functions rows = codes "merged " ++ decimal functions ++ codes " functions " ++ decimal rows ++ codes " rows\n"

-- `limit file ITEM`
unfoldable pub file_limit_text : (item : ℕ) → List ℕ
file_limit_text item = codes "limit file " ++ decimal item ++ codes "\n"
