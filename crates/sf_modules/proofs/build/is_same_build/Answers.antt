use Rattle.std.specs.List.{list_all}
use Rattle.std.proofs.Common.{◌≡◌, true, false, refl, sym, ◌∙◌, arith}
use Rattle.elf_read.specs.Sections.{segment_total}
use Rattle.elf_mapped.specs.Program.{program_bytes}
use Rattle.core_parts.specs.Input.{map_file}
use Rattle.core_notes.proofs.Numbered.{all_end, all_next, not_all, starts}
use Rattle.sf_modules.specs.Build.{segment_agrees}
use Rattle.sf_modules.proofs.build.is_same_build.Goals as goal

pub loop-i-init : goal.loop-i-init
loop-i-init c =
    let f = program_bytes c.args.program.now.elf in
    starts (list_all (segment_agrees (map_file c.args.memory.now) f c.args.base)) (segment_total f) (segment_total f) refl

pub loop-i-preserved : goal.loop-i-preserved
loop-i-preserved c =
    let f = program_bytes c.args.program.now.elf in
    let agrees : segment_agrees (map_file c.args.memory.now) f c.args.base c.loop-i.i ≡ true = sym c.in_ok-segment_agrees.ensures.agrees ∙ c.if-not-branch.false in
    sym (all_next (segment_agrees (map_file c.args.memory.now) f c.args.base) (segment_total f) c.loop-i.i (omega (c.loop-i-test.true, c.args.program.now.counted, arith)) agrees) ∙ c.loop-i.invariant

pub returns-then-not-branch-clause-agrees : goal.returns-then-not-branch-clause-agrees
returns-then-not-branch-clause-agrees c =
    let f = program_bytes c.args.program.now.elf in
    let differs : segment_agrees (map_file c.args.memory.now) f c.args.base c.loop-i.i ≡ false = sym c.in_ok-segment_agrees.ensures.agrees ∙ c.if-not-branch.true in
    sym (not_all (segment_agrees (map_file c.args.memory.now) f c.args.base) (segment_total f) c.loop-i.i (omega (c.loop-i-test.true, c.args.program.now.counted, arith)) differs) ∙ c.loop-i.invariant

pub returns-clause-agrees : goal.returns-clause-agrees
returns-clause-agrees c =
    let f = program_bytes c.args.program.now.elf in
    sym (all_end (segment_agrees (map_file c.args.memory.now) f c.args.base) (segment_total f) c.loop-i.i (omega (c.loop-i-test.false, c.args.program.now.counted, arith)))
    ∙ c.loop-i.invariant
