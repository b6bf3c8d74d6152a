-- The text of a section that was upgraded.
use Rattle.std.specs.Prelude.{◌++◌, ℕ, List, codes}
use Rattle.std.specs.Fmt.{decimal}

-- `upgraded COUNT functions COUNT rows`
unfoldable pub upgraded_text : (functions rows : ℕ) → List ℕ
upgraded_text functions rows = codes "upgraded " ++ decimal functions ++ codes " functions " ++ decimal rows ++ codes " rows\n"
