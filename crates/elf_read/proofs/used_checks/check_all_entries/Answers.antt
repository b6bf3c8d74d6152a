use Rattle.std.proofs.Common.{sym}
use Rattle.std.proofs.lemmas.Result.{err_from_is_err_and}
use Rattle.elf_read.specs.Used.{entries_check}
use Rattle.elf_read.proofs.Each.{each_below-none, each_below-more, each_below-stop}
use Rattle.elf_read.proofs.used_checks.check_all_entries.Goals as goal

pub loop-i-init : goal.loop-i-init
loop-i-init c = each_below-none (entries_check c.args.file.now)

pub returns-in_err-check_entries : goal.returns-in_err-check_entries
returns-in_err-check_entries c =
    let p = err_from_is_err_and c.from_residual.result c.from_residual.ensures.1 in
    rw (p.1, p.2)
    (sym (each_below-stop c.args.count c.loop-i.i (entries_check c.args.file.now) c.in_err-check_entries.field-0.0 c.loop-i-test.true c.loop-i.invariant (sym c.in_err-check_entries.ensures)))

pub loop-i-preserved : goal.loop-i-preserved
loop-i-preserved c = each_below-more c.loop-i.i (entries_check c.args.file.now) c.loop-i.invariant (sym c.in_ok-check_entries.ensures)
