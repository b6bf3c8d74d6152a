-- A section's bytes are no more than the file's.
use Rattle.std.proofs.Common.{ℕ, ◌≤◌, Bool, true, false, cond, List, [], length, drop, arith}
use Rattle.std.proofs.lemmas.List.{length-drop, length-take}
use Rattle.elf_read.specs.Number.{window}
use Rattle.elf_read.specs.Sections.{has_bytes, section_bytes, section_fields}

pub bytes_short : (file : List ℕ) (i : ℕ) → length (section_bytes file i) ≤ length file
unfolding section_bytes
bytes_short file i = by_case (has_bytes file i)
  where
    by_case : (b : Bool) → length (cond b (window (section_fields file i).sh_offset (section_fields file i).sh_size file) []) ≤ length file
    by_case true =
        let a = length-take (section_fields file i).sh_size (drop (section_fields file i).sh_offset file) in
        let b = length-drop (section_fields file i).sh_offset file in
        omega (arith, a, b)
    by_case false = omega arith
