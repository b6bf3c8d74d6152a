use Rattle.std.proofs.Common.{length, arith}
use Rattle.std.proofs.lemmas.Int.{ints}
use Rattle.sf_bytes.proofs.Run.{leb_signed-negative, leb_signed-positive, power_fits}
use Rattle.sf_bytes.proofs.leb.signed_sum_of.Goals as goal

pub returns-then-run-gt63 : goal.returns-then-run-gt63
returns-then-run-gt63 c =
    let power = power_fits (length c.args.run.now) c.requires.most in
    let p = c.pow.ensures in
    let s = c.sum_of.ensures.value in
    let b = c.sum_of.ensures.bound in
    let x = c.cast_signed-sum.ensures in
    let y = c.cast_signed.ensures in
    rw (leb_signed-negative c.args.run.now c.requires.some c.if-run-gt63.true) (omega (arith, ints))

pub returns-else-run-gt63 : goal.returns-else-run-gt63
returns-else-run-gt63 c =
    let s = c.sum_of.ensures.value in
    let b = c.sum_of.ensures.bound in
    let x = c.cast_signed-sum.ensures in
    rw (leb_signed-positive c.args.run.now c.requires.some c.if-run-gt63.false) (omega (arith, ints))
