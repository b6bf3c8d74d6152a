use Rattle.std.proofs.Common.{arith}
use Rattle.elf_read.specs.Views.{file}
use Rattle.core_notes.specs.Segment.{segment_view}
use Rattle.core_notes.proofs.Holdings.{all_held, one_more}
use Rattle.core_notes.proofs.core_memory.holdings_of.Goals as goal

pub loop-i-preserved : goal.loop-i-preserved
loop-i-preserved c =
    one_more (file c.args.elf.now) c.loop-i.i (segment_view c.segment_at-segment.result) c.loop-i.spans.items c.push.new.self.items _ (omega (c.loop-i-test.true, c.segments-i-end.ensures, arith)) c.segment_at-segment.ensures
    (c.holding_size.ensures c.loop-i.i) c.in_ok-push.ensures.items c.loop-i.invariant

pub returns : goal.returns
returns c = all_held (file c.args.elf.now) c.loop-i.i c.loop-i.spans.items (omega (c.loop-i-test.false, c.segments-i-end.ensures, arith)) c.loop-i.invariant
