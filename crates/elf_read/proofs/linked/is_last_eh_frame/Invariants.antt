use Rattle.std.proofs.Common.{◌≡◌, ◌<◌, ℕ, false}
use Rattle.elf_read.specs.Linked.{whole_of}
use Rattle.elf_read.specs.Sections.{is_eh_frame}
use Rattle.elf_read.proofs.linked.is_last_eh_frame.Given as goal

-- none of the sections so far, after the first, has call frame information
abbrev pub invariant-loop-i : goal.invariant-loop-i
invariant-loop-i l = (k : ℕ) → l.first < k → k < l.i → is_eh_frame (whole_of l.headers) k ≡ false
