-- The text of a look-up.
use Rattle.std.specs.Prelude.{◌++◌, ℕ, List, codes, Option, Some, None}
use Rattle.sf_model.specs.declared.rows.Row.{Row}
use Rattle.sf_model.specs.declared.function.FuncHead.{FuncHead}
use Rattle.sf_text.specs.Number.{hexadecimal_text}
use Rattle.sf_text.specs.Content.{row_text}

-- `PC in START row +START CONTENT`, with the starts of the function and of its row
unfoldable pub found_line : (pc : ℕ) → FuncHead → Row → List ℕ
found_line pc head row = hexadecimal_text pc ++ codes " in " ++ hexadecimal_text head.start ++ codes " row " ++ row_text row ++ codes "\n"

-- `none` where no row was found
abbrev pub found_text : (pc : ℕ) → Option (FuncHead × Row) → List ℕ
found_text pc None = codes "none\n"
found_text pc (Some found) = found_line pc found.0 found.1
