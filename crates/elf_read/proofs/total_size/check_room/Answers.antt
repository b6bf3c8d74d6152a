use Rattle.std.proofs.Common.{◌+◌, ◌≡◌, sym, ◌∙◌, arith}
use Rattle.std.proofs.lemmas.Result.{err_from_is_err_and}
use Rattle.std.proofs.lemmas.Bool.{leb-true}
use Rattle.elf_read.specs.TotalSize.{room_check, read_size_below}
use Rattle.elf_read.proofs.Each.{each_below-none, each_below-more, each_below-stop}
use Rattle.elf_read.proofs.ReadSizes.{read_size_below-none, read_size_below-more, room_check-is}
use Rattle.elf_read.proofs.total_size.check_room.Goals as goal

pub loop-i-init : goal.loop-i-init
loop-i-init c = (sym (read_size_below-none c.args.file.now), omega arith, each_below-none (room_check c.args.file.now))

pub returns-in_err-require : goal.returns-in_err-require
returns-in_err-require c =
    let file = c.args.file.now in
    let i = c.loop-i.i in
    let before : c.loop-i.taken ≡ read_size_below file i = c.loop-i.invariant.0 in
    let here = c.read_size-taken.ensures.value in
    let more = read_size_below-more file i in
    let taken : c.loop-i.taken + c.read_size-taken.result ≡ read_size_below file (i + 1) = omega (arith, before, here, more) in
    let p = err_from_is_err_and c.from_residual.result c.from_residual.ensures.1 in
    rw (p.1, p.2)
    (sym (each_below-stop c.args.count i (room_check file) c.in_err-require.field-0.0 c.loop-i-test.true c.loop-i.invariant.2
    (sym (room_check-is file i _ _ taken c.header_place.ensures) ∙ sym c.in_err-require.ensures.answer)))

pub loop-i-preserved : goal.loop-i-preserved
loop-i-preserved c =
    let file = c.args.file.now in
    let i = c.loop-i.i in
    let before : c.loop-i.taken ≡ read_size_below file i = c.loop-i.invariant.0 in
    let here = c.read_size-taken.ensures.value in
    let more = read_size_below-more file i in
    let taken : c.loop-i.taken + c.read_size-taken.result ≡ read_size_below file (i + 1) = omega (arith, before, here, more) in
    (taken, leb-true _ _ c.in_ok-require.ensures.holds, each_below-more i (room_check file) c.loop-i.invariant.2 (sym (room_check-is file i _ _ taken c.header_place.ensures) ∙ sym c.in_ok-require.ensures.answer))
