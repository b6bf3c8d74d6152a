-- The text of a made object's link.
use Rattle.std.specs.Prelude.{◌++◌, ℕ, List, codes, length, sum}
use Rattle.std.specs.Fmt.{decimal}

-- ` length LENGTH sum SUM`: how many bytes the section has, and their sum
unfoldable pub bytes_text : (section : List ℕ) → List ℕ
bytes_text section = codes " length " ++ decimal (length section) ++ codes " sum " ++ decimal (sum section) ++ codes "\n"

-- `gen N kept COUNT omitted COUNT length LENGTH sum SUM`
unfoldable pub summary_text : (n kept omitted : ℕ) → (section : List ℕ) → List ℕ
summary_text n kept omitted section =
    codes "gen " ++ decimal n ++ codes " kept " ++ decimal kept ++ codes " omitted " ++ decimal omitted ++ bytes_text section
