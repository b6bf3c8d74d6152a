use Rattle.std.proofs.Common.{ℕ, Option, sym, ap, ◌∙◌}
use Rattle.elf_read.specs.Used.{least, least_compressed}
use Rattle.elf_read.proofs.Least.{least_compressed_none, least_compressed_more}
use Rattle.elf_read.proofs.compressed.least_compressed.Goals as goal

pub loop-i-init : goal.loop-i-init
loop-i-init c = sym (least_compressed_none c.args.file.now)

pub loop-i-preserved : goal.loop-i-preserved
loop-i-preserved c =
    c.least-found.ensures
    ∙ ap (λ (o : Option ℕ). least o c.compressed_by.result) c.loop-i.invariant
    ∙ ap (least (least_compressed c.args.file.now c.loop-i.i)) c.compressed_by.ensures
    ∙ sym (least_compressed_more c.args.file.now c.loop-i.i)
