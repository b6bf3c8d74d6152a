-- The address that a signed number of bytes leads to.
use Rattle.std.proofs.Common.{◌≡◌, ℕ, ◌+◌, ◌-◌, ◌<◌, ◌%◌, ◌^◌, w64, ℤ, pos, FitsSigned, of_z, refl, ap, arith}
use Rattle.std.proofs.Math.Nat.{mod-eq_of_lt}
use Rattle.std.specs.Prelude.{suc, negsuc}
use Rattle.sf_model.specs.Recovery.{moved}

-- a number below 2^63 is one below 2^64
below : (n : ℕ) → n < 2 ^ 63 → n < 2 ^ 64
below n low = omega arith

-- two ways to count down
down : (n : ℕ) → 2 ^ 64 - suc n ≡ 2 ^ 64 - 1 - n
down n = omega arith

-- adding the two's complement of a number of 64 bits, modulo 2^64, is moving by it
pub moved_by : (address : ℕ) (by : ℤ) → FitsSigned w64 by → (address + of_z w64 by) % 2 ^ 64 ≡ moved address by
unfolding moved
moved_by address (pos n) fits = refl
moved_by address (negsuc n) fits =
    let low : n < 2 ^ 63 = fits.sfits in
    let small : n % 2 ^ 64 ≡ n = mod-eq_of_lt (below n low) in
    ap (λ k. (address + k) % 2 ^ 64) (rw small (down n))
