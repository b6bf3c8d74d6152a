use Rattle.std.proofs.Common.{ℕ, ◌+◌, drop, ◌<◌, ◌≤◌, sym, ap, ◌∙◌, arith}
use Rattle.elf_read.specs.Views.{file}
use Rattle.core_notes.specs.Memory.{rise_from}
use Rattle.core_notes.specs.Segment.{segment_view, segments}
use Rattle.core_notes.proofs.Scan.{rise_ends, rise_fails, rise_passes}
use Rattle.core_notes.proofs.memory.rise.Goals as goal

pub returns-then-from-end : goal.returns-then-from-end
returns-then-from-end c =
    let s = segment_view c.segment_at-segment.result in
    let low : s.vaddr < c.loop-i.end = omega (c.if-from-end.true, c.from.ensures, arith) in
    sym (rise_fails (file c.args.elf.now) c.loop-i.i c.loop-i.end s (omega (c.loop-i-test.true, c.segments-i-end.ensures, arith)) c.segment_at-segment.ensures low) ∙ c.loop-i.invariant

pub loop-i-preserved : goal.loop-i-preserved
loop-i-preserved c =
    let s = segment_view c.segment_at-segment.result in
    let high : c.loop-i.end ≤ s.vaddr = omega (c.if-from-end.false, c.from.ensures, arith) in
    ap (λ (end : ℕ). rise_from end (drop (c.loop-i.i + 1) (segments (file c.args.elf.now)))) c.memory_end-end.ensures
    ∙ sym (rise_passes (file c.args.elf.now) c.loop-i.i c.loop-i.end s (omega (c.loop-i-test.true, c.segments-i-end.ensures, arith)) c.segment_at-segment.ensures high) ∙ c.loop-i.invariant

pub returns : goal.returns
returns c = sym (rise_ends (file c.args.elf.now) c.loop-i.i c.loop-i.end (omega (c.loop-i-test.false, c.segments-i-end.ensures, arith))) ∙ c.loop-i.invariant
