use Rattle.std.proofs.Common.{◌≡◌, ◌+◌, ◌<◌, ◌^◌, drop, length}
use Rattle.elf_place.specs.Relocations.{numbers_of}
use Rattle.elf_place.specs.Views.{placed_file, placing}
use Rattle.elf_reloc.specs.Reading.{going_on, relocations_in}
use Rattle.elf_reloc.proofs.reading.read_sections.Given as goal

abbrev pub invariant-loop-it : goal.invariant-loop-it
invariant-loop-it l =
    (going_on (placing l.placed) l.section l.fn.read (relocations_in (placed_file l.placed) (numbers_of l.sections)) ≡ going_on (placing l.placed) l.section l.read (relocations_in (placed_file l.placed) (numbers_of (drop l.it-index l.sections))))
    × (l.read.next + length (relocations_in (placed_file l.placed) (numbers_of (drop l.it-index l.sections))) < 2 ^ 32)
