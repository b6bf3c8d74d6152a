-- A bound worked out: of three starts at most two are read.
use Rattle.std.proofs.Common.{ℕ, ◌+◌, ◌-◌, ◌*◌, ◌^◌, ◌<◌, ◌≤◌, ◌≡◌, ◌⊎◌, inl, inr, arith}
use Rattle.std.proofs.Math.Pow.{pow_mono}
use Rattle.std.proofs.lemmas.Bool.{cases_lt}

pub two_of_three : (before now count : ℕ) → count ≡ 3 → 2 ^ (now - before) ≤ 2 * count + 1 → now ≤ before + 2
two_of_three before now count three cost = by_order (cases_lt (now - before) 3)
  where
    by_order : ((now - before) < 3) ⊎ (3 ≤ (now - before)) → now ≤ before + 2
    by_order (inl lt) = omega (lt, arith)
    by_order (inr le) = let more : 2 ^ 3 ≤ 2 ^ (now - before) = pow_mono le in absurd (omega (more, cost, three, arith))
