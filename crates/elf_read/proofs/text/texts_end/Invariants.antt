use Rattle.std.proofs.Common.{◌≡◌, ◌==◌, ◌<◌, ◌≤◌, ◌-◌, ℕ, true, false, get_or}
use Rattle.elf_read.proofs.text.texts_end.Given as goal

abbrev pub invariant-loop-i : goal.invariant-loop-i
invariant-loop-i l = (l.end ≤ l.i)
    × (0 < l.end → (get_or l.table (l.end - 1) 0 == 0) ≡ true)
    × ((k : ℕ) → l.end ≤ k → k < l.i → (get_or l.table k 0 == 0) ≡ false)
