use Rattle.std.proofs.Common.{◌≡◌}
use Rattle.elf_read.specs.Views.{file}
use Rattle.elf_load.specs.Segments.{can_be_of, mapped_segments, only_one}
use Rattle.elf_load.proofs.Numbers.{only_with, passing_from}
use Rattle.elf_load.proofs.segments.mapped_segment.Given as goal

abbrev pub invariant-loop-i : goal.invariant-loop-i
invariant-loop-i l =
    only_with l.found (passing_from (can_be_of l.page l.offset (file l.elf)) l.count l.i) ≡ only_one (mapped_segments l.page l.offset (file l.elf))
