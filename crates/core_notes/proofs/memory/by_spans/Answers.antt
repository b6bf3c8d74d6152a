use Rattle.std.specs.Option.{option_map}
use Rattle.std.proofs.Common.{Some, ap, ◌∙◌}
use Rattle.elf_read.specs.Views.{file}
use Rattle.core_notes.specs.Memory.{holdings}
use Rattle.core_notes.specs.Segment.{SegmentView, segment_of, segment_view, segments}
use Rattle.core_notes.proofs.Holdings.{first_holds}
use Rattle.core_notes.proofs.memory.by_spans.Goals as goal

pub returns-in_err-i : goal.returns-in_err-i
returns-in_err-i c =
    let bytes = file c.args.elf.now in
    ap (option_map segment_view) c.from_residual.ensures ∙ ap (option_map (segment_of bytes)) (c.in_err-i.ensures (holdings 0 (segments bytes)) c.requires) ∙ first_holds bytes c.args.address

pub returns : goal.returns
returns c =
    let bytes = file c.args.elf.now in
    ap (λ (s : SegmentView). Some s) c.segment_at.ensures ∙ ap (option_map (segment_of bytes)) (c.in_ok-i.ensures (holdings 0 (segments bytes)) c.requires) ∙ first_holds bytes c.args.address
