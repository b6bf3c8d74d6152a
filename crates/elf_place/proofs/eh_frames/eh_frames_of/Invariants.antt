use Rattle.std.proofs.Common.{◌≡◌}
use Rattle.elf_read.specs.Input.{file}
use Rattle.elf_place.specs.Place.{eh_frames_below}
use Rattle.elf_place.proofs.eh_frames.eh_frames_of.Given as goal

abbrev pub invariant-loop-i : goal.invariant-loop-i
invariant-loop-i l = l.found.items ≡ eh_frames_below (file l.elf) l.dropped l.i
