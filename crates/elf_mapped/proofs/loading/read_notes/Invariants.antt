use Rattle.std.proofs.Common.{◌≡◌, IfSome}
use Rattle.sf_base.specs.Reading.{StaysOpen}
use Rattle.sf_bytes.specs.Parts.{AreParts}
use Rattle.elf_mapped.proofs.loading.read_notes.Given as goal

-- the parts so far are parts of the same open file
abbrev pub invariant-loop-i : goal.invariant-loop-i
invariant-loop-i g l =
    StaysOpen g.F.Files l.fn.files l.files
    × IfSome ((g.F.Files.seen l.fn.files).contents) (λ _. AreParts (g.F.Files.whole l.fn.files) l.parts.parts.items)
    × (l.parts.len ≡ l.fn.parts.len)
