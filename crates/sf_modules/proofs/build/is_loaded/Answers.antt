use Rattle.std.specs.List.{list_any}
use Rattle.std.proofs.Common.{refl, sym, ◌∙◌, arith}
use Rattle.elf_read.specs.Sections.{segment_total}
use Rattle.elf_mapped.specs.Program.{program_bytes}
use Rattle.core_notes.proofs.Numbered.{any_end, any_here, any_next, starts}
use Rattle.sf_modules.specs.Build.{is_within}
use Rattle.sf_modules.proofs.build.is_loaded.Goals as goal

pub loop-k-init : goal.loop-k-init
loop-k-init c =
    let f = program_bytes c.args.program.now.elf in
    starts (list_any (is_within f c.args.i)) (segment_total f) (segment_total f) refl

pub loop-k-preserved : goal.loop-k-preserved
loop-k-preserved c =
    let f = program_bytes c.args.program.now.elf in
    sym (any_next (is_within f c.args.i) (segment_total f) c.loop-k.k (omega (c.loop-k-test.true, c.args.program.now.counted, arith)) (sym c.is_within.ensures ∙ c.if-is_within.false))
    ∙ c.loop-k.invariant

pub returns-then-is_within : goal.returns-then-is_within
returns-then-is_within c =
    let f = program_bytes c.args.program.now.elf in
    sym (any_here (is_within f c.args.i) (segment_total f) c.loop-k.k (omega (c.loop-k-test.true, c.args.program.now.counted, arith)) (sym c.is_within.ensures ∙ c.if-is_within.true))
    ∙ c.loop-k.invariant

pub returns : goal.returns
returns c =
    let f = program_bytes c.args.program.now.elf in
    sym (any_end (is_within f c.args.i) (segment_total f) c.loop-k.k (omega (c.loop-k-test.false, c.args.program.now.counted, arith)))
    ∙ c.loop-k.invariant
