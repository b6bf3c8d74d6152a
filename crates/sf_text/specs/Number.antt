-- Numbers in texts: decimal, or `0x` and lower-case digits of base 16, both without leading zeros.
use Rattle.std.specs.Prelude.{◌++◌, ℕ, false, List, codes}
use Rattle.std.specs.Fmt.{digits}

-- the number in base 16
unfoldable pub hexadecimal_text : ℕ → List ℕ
hexadecimal_text n = codes "0x" ++ digits 16 false n
