use Rattle.std.proofs.Common.{◌≡◌, ℕ, ◌<◌, false, get_or}
use Rattle.sample_walk.specs.declared.cache.CacheEntry.{CacheEntry}
use Rattle.sample_walk.proofs.cache.clear.Given as goal

abbrev pub invariant-loop-i : goal.invariant-loop-i
invariant-loop-i l = (k : ℕ) (d : CacheEntry) → k < l.i → (get_or l.cache k d).is_used ≡ false
