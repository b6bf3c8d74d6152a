use Rattle.std.specs.List.{find}
use Rattle.std.proofs.Common.{sym, ◌∙◌}
use Rattle.std.proofs.lemmas.Bool.{ne_eqb}
use Rattle.elf_read.specs.Header.{p_type}
use Rattle.elf_read.specs.Sections.{segment_total}
use Rattle.elf_mapped.specs.Program.{program_bytes}
use Rattle.sf_modules.specs.File.{first_load, is_load_header}
use Rattle.core_notes.proofs.Numbered.{skips, starts}
use Rattle.sf_modules.proofs.file.first_load.Goals as goal

pub loop-i-init : goal.loop-i-init
unfolding first_load
loop-i-init c = starts (find (is_load_header (program_bytes c.args.elf.now))) c.args.count (segment_total (program_bytes c.args.elf.now)) c.requires

pub loop-i-preserved : goal.loop-i-preserved
loop-i-preserved c =
    sym (skips (is_load_header (program_bytes c.args.elf.now)) c.args.count c.loop-i.i c.loop-i-test.true (ne_eqb (p_type (program_bytes c.args.elf.now) c.loop-i.i) 1 (λ e. c.if-segment-eq-PT_LOAD.false (c.segment.ensures.kind ∙ e))))
    ∙ c.loop-i.invariant
