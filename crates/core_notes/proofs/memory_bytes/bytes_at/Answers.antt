use Rattle.std.specs.Option.{option_map}
use Rattle.std.proofs.Common.{Bor, List, ℕ, None, Some, ap, take, ◌∙◌, arith}
use Rattle.elf_read.specs.Views.{file}
use Rattle.core_notes.specs.Segment.{segment_view, segments}
use Rattle.core_notes.proofs.BytesHeld.{held_by, holder_holds}
use Rattle.core_notes.proofs.memory_bytes.bytes_at.Goals as goal

pub returns-in_err-segment : goal.returns-in_err-segment
returns-in_err-segment c =
    ap (option_map (λ (b : Bor (List ℕ)). b.now)) c.from_residual.ensures ∙ held_by (file c.args.elf.now) c.args.address c.args.len None (c.in_err-segment.ensures)

pub overflow_sub-address : goal.overflow_sub-address
overflow_sub-address c = (holder_holds c.args.address c.args.len (segments (file c.args.elf.now)) (segment_view c.in_ok-segment.segment) (c.in_ok-segment.ensures)).from

pub split_at-requires : goal.split_at-requires
split_at-requires c =
    let h = holder_holds c.args.address c.args.len (segments (file c.args.elf.now)) (segment_view c.in_ok-segment.segment) (c.in_ok-segment.ensures) in
    omega (h.from, h.to, arith)

pub split_at-requires-2 : goal.split_at-requires-2
split_at-requires-2 c =
    let h = holder_holds c.args.address c.args.len (segments (file c.args.elf.now)) (segment_view c.in_ok-segment.segment) (c.in_ok-segment.ensures) in
    omega (h.from, h.to, c.split_at.ensures.back_len, arith)

pub returns : goal.returns
returns c =
    ap (λ (bs : List ℕ). Some bs) (c.split_at-2.ensures.front ∙ ap (take c.args.len) c.split_at.ensures.back)
    ∙ held_by (file c.args.elf.now) c.args.address c.args.len (Some (segment_view c.in_ok-segment.segment)) (c.in_ok-segment.ensures)
