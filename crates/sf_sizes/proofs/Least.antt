-- No byte and no two bytes hold a start that is greater than theirs.
use Rattle.std.proofs.Common.{◌≡◌, ◌<◌, ℕ, zero, suc, false, arith}
use Rattle.sf_model.specs.Width.{holds_unsigned}

pub none_below_two : (last smaller : ℕ) → 65535 < last → smaller < 2 → holds_unsigned last smaller ≡ false
none_below_two last zero h lt = search (arith, h)
none_below_two last (suc zero) h lt = search (arith, h)
none_below_two last (suc (suc smaller)) h lt = absurd (omega (lt, arith))
