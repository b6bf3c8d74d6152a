use Rattle.std.proofs.Common.{sym}
use Rattle.std.proofs.lemmas.Result.{err_from_is_err_and}
use Rattle.elf_read.specs.Used.{entry_check}
use Rattle.elf_read.proofs.Each.{each_below-none, each_below-more, each_below-stop}
use Rattle.elf_read.proofs.used_checks.check_entries_upto.Goals as goal

pub loop-k-init : goal.loop-k-init
loop-k-init c = each_below-none (entry_check c.args.file.now c.args.i)

pub returns-in_err-check_entry : goal.returns-in_err-check_entry
returns-in_err-check_entry c =
    let p = err_from_is_err_and c.from_residual.result c.from_residual.ensures.1 in
    rw (p.1, p.2)
    (sym (each_below-stop c.args.count c.loop-k.k (entry_check c.args.file.now c.args.i) c.in_err-check_entry.field-0.0 c.loop-k-test.true c.loop-k.invariant (sym c.in_err-check_entry.ensures)))

pub loop-k-preserved : goal.loop-k-preserved
loop-k-preserved c = each_below-more c.loop-k.k (entry_check c.args.file.now c.args.i) c.loop-k.invariant (sym c.in_ok-check_entry.ensures)
