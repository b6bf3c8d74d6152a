use Rattle.std.proofs.Common.{◌+◌, ◌≤◌, ◌⊎◌, vec_len}
use Rattle.std.specs.List.{AllWithin}
use Rattle.sf_bytes.specs.declared.file_part.FilePart.{FilePart}
use Rattle.sf_parts.proofs.file_parts.are_apart.Given as goal

abbrev pub invariant-loop-part : goal.invariant-loop-part
invariant-loop-part l = AllWithin (λ (part : FilePart). (part.place + vec_len part.bytes ≤ l.place) ⊎ (l.end ≤ part.place)) l.parts 0 l.part-index
