use Rattle.std.proofs.Common.{◌<◌, ◌≤◌, ◌+◌, ◌-◌, ◌/◌, ◌∙◌, sym, arith, subst}
use Rattle.elf_read.specs.Views.{file}
use Rattle.elf_read.specs.Sections.{segment_count}
use Rattle.core_notes.specs.Segment.{SegmentView, segment_view, segments}
use Rattle.core_notes.proofs.Rising.{halved, halving_starts, lower, upper}
use Rattle.core_notes.proofs.Segments.{is_at, segments-length}
use Rattle.core_notes.proofs.memory.count_upto.Goals as goal

pub loop-low-init : goal.loop-low-init
loop-low-init c = halving_starts (segments (file c.args.elf.now)) c.args.address c.segments-high.result (c.segments-high.ensures ∙ sym (segments-length (file c.args.elf.now)))

pub loop-low-preserved-then-segment_at-address : goal.loop-low-preserved-then-segment_at-address
loop-low-preserved-then-segment_at-address c =
    let bytes = file c.args.elf.now in
    let s = segment_view c.segment_at.result in
    let middle = c.loop-low.low + (c.loop-low.high - c.loop-low.low) / 2 in
    let within : middle < segment_count bytes = omega (c.loop-low-test.true, c.loop-low.invariant.within, segments-length bytes, arith) in
    let low : s.vaddr ≤ c.args.address = c.if-segment_at-address.true in
    upper (segments bytes) c.args.address c.loop-low.low c.loop-low.high c.requires c.loop-low.invariant c.loop-low-test.true
    (λ d. subst (λ (x : SegmentView). x.vaddr ≤ c.args.address) (sym (is_at bytes middle s d within c.segment_at.ensures)) low)

pub loop-low-preserved : goal.loop-low-preserved
loop-low-preserved c =
    let bytes = file c.args.elf.now in
    let s = segment_view c.segment_at.result in
    let middle = c.loop-low.low + (c.loop-low.high - c.loop-low.low) / 2 in
    let within : middle < segment_count bytes = omega (c.loop-low-test.true, c.loop-low.invariant.within, segments-length bytes, arith) in
    let high : c.args.address < s.vaddr = c.if-segment_at-address.false in
    lower (segments bytes) c.args.address c.loop-low.low c.loop-low.high c.requires c.loop-low.invariant c.loop-low-test.true
    (λ d. subst (λ (x : SegmentView). c.args.address < x.vaddr) (sym (is_at bytes middle s d within c.segment_at.ensures)) high)

pub returns : goal.returns
returns c = halved (segments (file c.args.elf.now)) c.args.address c.loop-low.low c.loop-low.high c.loop-low.invariant c.loop-low-test.false
