use Rattle.std.proofs.Common.{◌<◌, ◌≤◌, ◌*◌, ℕ}
use Rattle.elf_read.specs.Masks.{IsClear}
use Rattle.elf_read.proofs.masks.first_from_mask.Given as goal

-- the pieces of the masks before
abbrev pub invariant-loop-at : goal.invariant-loop-at
invariant-loop-at l = (piece : ℕ) → l.first * 64 ≤ piece → piece < l.at * 64 → IsClear l.masks piece
