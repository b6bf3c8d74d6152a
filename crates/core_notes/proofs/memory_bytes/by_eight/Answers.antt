use Rattle.std.specs.Option.{option_map}
use Rattle.std.proofs.Common.{◌≡◌, true, Some, None, sym, subst, ap, ◌∙◌}
use Rattle.elf_read.specs.Views.{file}
use Rattle.core_notes.specs.MemoryBytes.{is_bytes_holder}
use Rattle.core_notes.specs.Segment.{SegmentView, segment_view, segments}
use Rattle.core_notes.proofs.BytesHeld.{by_fewer}
use Rattle.core_notes.proofs.memory_bytes.by_eight.Goals as goal

pub returns-in_err-segment : goal.returns-in_err-segment
returns-in_err-segment c =
    ap (option_map segment_view) c.from_residual.ensures
    ∙ by_fewer c.args.address c.args.len (segments (file c.args.elf.now)) None c.requires.eight c.in_err-segment.ensures (λ s e. let no : None ≡ Some s = e in cc)

pub returns-then-is_holder : goal.returns-then-is_holder
returns-then-is_holder c =
    let t = segment_view c.in_ok-segment.segment in
    by_fewer c.args.address c.args.len (segments (file c.args.elf.now)) (Some t) c.requires.eight c.in_ok-segment.ensures
    (λ s e. let same : t ≡ s = cc in subst (λ (x : SegmentView). is_bytes_holder c.args.address c.args.len x ≡ true) same (sym c.is_holder.ensures ∙ c.if-is_holder.true))
