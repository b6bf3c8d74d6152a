use Rattle.std.proofs.Common.{sym, ◌∙◌}
use Rattle.elf_read.specs.Sections.{segment_total}
use Rattle.elf_read.specs.Views.{file}
use Rattle.core_notes.proofs.Numbered.{starts}
use Rattle.core_notes.specs.SegmentNotes.{segment_notes}
use Rattle.sf_bytes.specs.Cursor.{cursor}
use Rattle.elf_load.specs.BuildId.{build_id}
use Rattle.elf_load.proofs.Numbers.{first_ids, id_end, id_here, id_next}
use Rattle.elf_load.proofs.build_id.build_id.Goals as goal

pub loop-i-init : goal.loop-i-init
unfolding build_id
loop-i-init c = starts (first_ids (segment_notes (file c.args.elf.now))) c.args.count (segment_total (file c.args.elf.now)) c.requires.count

pub returns-in-Some : goal.returns-in-Some
returns-in-Some c =
    sym (id_here (segment_notes (file c.args.elf.now)) c.args.count c.loop-i.i (cursor c.in-Some.id) c.loop-i-test.true (sym c.in-Some.ensures)) ∙ c.loop-i.invariant

pub loop-i-preserved : goal.loop-i-preserved
loop-i-preserved c =
    sym (id_next (segment_notes (file c.args.elf.now)) c.args.count c.loop-i.i c.loop-i-test.true (sym c.in_default.ensures)) ∙ c.loop-i.invariant

pub returns : goal.returns
returns c =
    sym (id_end (segment_notes (file c.args.elf.now)) c.args.count c.loop-i.i c.loop-i-test.false) ∙ c.loop-i.invariant
