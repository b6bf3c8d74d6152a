use Rattle.std.proofs.Common.{◌≡◌, ◌+◌, ◌-◌, ◌++◌, List}
use Rattle.elf_place.specs.Views.{placing}
use Rattle.elf_reloc.specs.Reading.{Relocation, entries_from, going_on}
use Rattle.elf_reloc.proofs.reading.read_entries.Given as goal

abbrev pub invariant-loop-k : goal.invariant-loop-k
invariant-loop-k l =
    ((left : List Relocation) → going_on (placing l.placed) l.section l.fn.read (entries_from l.i 0 l.count ++ left) ≡ going_on (placing l.placed) l.section l.read (entries_from l.i l.k (l.count - l.k) ++ left))
    × (l.read.next ≡ l.fn.read.next + l.k)
