use Rattle.std.proofs.Common.{sym, ◌∙◌, arith}
use Rattle.elf_read.specs.Views.{file}
use Rattle.core_notes.specs.MemoryBytes.{is_bytes_holder}
use Rattle.core_notes.specs.Segment.{segment_view}
use Rattle.core_notes.proofs.Scan.{none_left, skips, takes}
use Rattle.core_notes.proofs.memory.by_scan.Goals as goal

pub returns-then-is_holder : goal.returns-then-is_holder
returns-then-is_holder c =
    sym (takes (is_bytes_holder c.args.address c.args.len) (file c.args.elf.now) c.loop-i.i (segment_view c.segment_at-segment.result) (omega (c.loop-i-test.true, c.segments-i-end.ensures, arith)) c.segment_at-segment.ensures
    (sym c.is_holder.ensures ∙ c.if-is_holder.true))
    ∙ c.loop-i.invariant

pub loop-i-preserved : goal.loop-i-preserved
loop-i-preserved c =
    sym (skips (is_bytes_holder c.args.address c.args.len) (file c.args.elf.now) c.loop-i.i (segment_view c.segment_at-segment.result) (omega (c.loop-i-test.true, c.segments-i-end.ensures, arith)) c.segment_at-segment.ensures
    (sym c.is_holder.ensures ∙ c.if-is_holder.false))
    ∙ c.loop-i.invariant

pub returns : goal.returns
returns c = sym (none_left (is_bytes_holder c.args.address c.args.len) (file c.args.elf.now) c.loop-i.i (omega (c.loop-i-test.false, c.segments-i-end.ensures, arith))) ∙ c.loop-i.invariant
