use Rattle.std.proofs.Common.{List, ℕ, map, ◌∙◌, arith}
use Rattle.elf_read.specs.Sections.{segment_total}
use Rattle.elf_read.specs.Views.{file}
use Rattle.core_notes.proofs.Numbered.{left_of, starts}
use Rattle.elf_load.specs.Segments.{greatest, loaded_end, segment_end}
use Rattle.elf_load.proofs.Numbers.{greatest_end, greatest_next, none_greater}
use Rattle.elf_load.proofs.segments.memory_end.Goals as goal

pub loop-i-init : goal.loop-i-init
unfolding loaded_end
loop-i-init c = (
  none_greater (greatest (map (segment_end (file c.args.elf.now)) (left_of c.args.count 0)))
      ∙ starts (λ (ns : List ℕ). greatest (map (segment_end (file c.args.elf.now)) ns)) c.args.count (segment_total (file c.args.elf.now)) c.requires,
  omega arith,
)

pub loop-i-preserved : goal.loop-i-preserved
loop-i-preserved c =
    let more = greatest_next (segment_end (file c.args.elf.now)) c.args.count c.loop-i.i c.loop-i-test.true in (
      omega (more, c.loop-i.invariant.0, c.segment_end.ensures.value, c.greater-end.ensures, arith),
      omega (c.loop-i.invariant.1, c.segment_end.ensures.small, c.greater-end.ensures, arith),
    )

pub returns-clause-value : goal.returns-clause-value
returns-clause-value c =
    let last = greatest_end (segment_end (file c.args.elf.now)) c.args.count c.loop-i.i c.loop-i-test.false in
    omega (last, c.loop-i.invariant.0, arith)
