use Rattle.std.proofs.Common.{◌≤◌, ◌+◌, ◌^◌, ℕ, Some, sym, ap, ◌∙◌, arith}
use Rattle.elf_read.specs.Views.{file}
use Rattle.core_notes.specs.Memory.{file_regions}
use Rattle.core_notes.specs.Segment.{segment_view, segments}
use Rattle.core_notes.proofs.BytesHeld.{holder_holds}
use Rattle.core_notes.proofs.Holders.{read_none, read_some, too_high}
use Rattle.core_notes.proofs.memory.read_eight.Goals as goal

pub returns-then-address : goal.returns-then-address
returns-then-address c = sym (too_high (file_regions (file c.args.elf.now)) c.args.address (omega (c.if-address.true, arith)))

pub returns-in_err-segment : goal.returns-in_err-segment
returns-in_err-segment c =
    let low : c.args.address + 8 ≤ 2 ^ 64 = omega (c.if-address.false, arith) in
    c.from_residual.ensures ∙ read_none (file c.args.elf.now) c.args.address low (c.in_err-segment.ensures)

pub overflow_sub-address : goal.overflow_sub-address
overflow_sub-address c = (holder_holds c.args.address 8 (segments (file c.args.elf.now)) (segment_view c.in_ok-segment.segment) (c.in_ok-segment.ensures)).from

pub returns : goal.returns
returns c =
    let low : c.args.address + 8 ≤ 2 ^ 64 = omega (c.if-address.false, arith) in
    ap (λ (n : ℕ). Some n) c.u64_at.ensures ∙ read_some (file c.args.elf.now) c.args.address (segment_view c.in_ok-segment.segment) low (c.in_ok-segment.ensures)
