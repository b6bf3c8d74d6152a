use Rattle.std.proofs.Common.{◌≡◌, ◌<◌, ◌+◌, ◌*◌, ℕ}
use Rattle.std.specs.Int.{bit_at}
use Rattle.elf_read.specs.Number.{HasNoZero}
use Rattle.elf_read.proofs.masks.mask_from.Given as goal

-- the bits of the pieces before
abbrev pub invariant-loop-k : goal.invariant-loop-k
invariant-loop-k l = (j : ℕ) → j < l.k → bit_at l.mask j ≡ 0 → HasNoZero l.file ((l.first + j) * l.piece_len) l.piece_len
