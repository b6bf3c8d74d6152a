use Rattle.std.proofs.Common.{◌≡◌, ◌<◌, ◌*◌, ◌/◌, ◌%◌, ℕ, length, get_or}
use Rattle.std.specs.Int.{bit_at}
use Rattle.elf_read.specs.Number.{HasNoZero}
use Rattle.elf_read.proofs.masks.write_masks.Given as goal

-- the masks before
abbrev pub invariant-loop-at : goal.invariant-loop-at
invariant-loop-at l = record {
  written : (piece : ℕ) → piece / 64 < l.at → bit_at (get_or l.masks (piece / 64) 0) (piece % 64) ≡ 0 → HasNoZero l.file (piece * l.piece_len) l.piece_len;
  len : length l.masks ≡ length l.fn.masks;
}
