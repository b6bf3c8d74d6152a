use Rattle.std.proofs.Common.{drop, map}
use Rattle.elf_place.specs.Views.{placing, shift_in}
use Rattle.frame_functions.specs.Functions.{sections_functions}
use Rattle.frame_functions.specs.ReadSoFar.{AreSound}
use Rattle.sf_asm.specs.Sections.{placed_section}
use Rattle.frame_functions.proofs.ReadSoFar.{GoesOn}
use Rattle.sf_asm.proofs.elf.read_sections.Given as goal

abbrev pub invariant-loop-number : goal.invariant-loop-number
invariant-loop-number l = record {
  sound : AreSound l.arch l.initial.read → AreSound l.arch l.read;
  reads : GoesOn l.lending l.initial.read l.read
      (sections_functions l.arch l.item (map (placed_section (placing l.placed) (shift_in l.placed)) (drop l.number-index l.numbers)))
      (sections_functions l.arch l.item (map (placed_section (placing l.placed) (shift_in l.placed)) l.numbers));
}
