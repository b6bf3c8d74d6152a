use Rattle.std.proofs.Common.{rules}
use Rattle.elf_read.specs.Checks.{name_check}
use Rattle.elf_read.specs.Linked.{whole_of}
use Rattle.elf_read.proofs.Each.{each_below-none, each_below-more}
use Rattle.elf_read.proofs.linked.all_names_stand.Goals as goal

pub loop-i-init : goal.loop-i-init
loop-i-init c = each_below-none (name_check (whole_of c.args.headers.now))

pub loop-i-preserved : goal.loop-i-preserved
loop-i-preserved c = each_below-more c.loop-i.i (name_check (whole_of c.args.headers.now)) c.loop-i.invariant (search rules)
