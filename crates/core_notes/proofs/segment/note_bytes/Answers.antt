use Rattle.std.proofs.Common.{ne_eqb}
use Rattle.elf_read.specs.Views.{file}
use Rattle.core_notes.specs.Segment.{segment_view}
use Rattle.core_notes.proofs.Segmented.{not_notes}
use Rattle.core_notes.proofs.segment.note_bytes.Goals as goal

pub returns-else-segment-eq-PT_NOTE : goal.returns-else-segment-eq-PT_NOTE
returns-else-segment-eq-PT_NOTE c =
    let part = c.new-else-segment-eq-PT_NOTE in
    not_notes (file c.args.elf.now) c.args.i part.result.place part.result.bytes.now (segment_view c.segment_at-segment.result) part.ensures.bytes c.segment_at-segment.ensures (ne_eqb _ _ c.if-segment-eq-PT_NOTE.false)
