use Rattle.std.specs.List.{find}
use Rattle.std.proofs.Common.{sym, ◌∙◌}
use Rattle.elf_read.specs.Sections.{segment_total}
use Rattle.elf_read.specs.Views.{file}
use Rattle.core_notes.proofs.Numbered.{skips, starts}
use Rattle.elf_load.specs.Segments.{first_loaded, is_loaded}
use Rattle.elf_load.proofs.segments.first_loaded.Goals as goal

pub loop-i-init : goal.loop-i-init
unfolding first_loaded
loop-i-init c = starts (find (is_loaded (file c.args.elf.now))) c.args.count (segment_total (file c.args.elf.now)) c.requires

pub loop-i-preserved : goal.loop-i-preserved
loop-i-preserved c =
    sym (skips (is_loaded (file c.args.elf.now)) c.args.count c.loop-i.i c.loop-i-test.true (sym c.is_loaded.ensures ∙ c.if-is_loaded.false)) ∙ c.loop-i.invariant
