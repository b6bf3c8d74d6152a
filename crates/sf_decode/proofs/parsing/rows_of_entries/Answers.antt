use Rattle.std.proofs.Common.{◌≡◌, ◌-◌, refl, ap, ◌∙◌, arith}
use Rattle.sf_decode.specs.Checking.{sum_from}
use Rattle.sf_decode.specs.Decoding.{rows_of_entry}
use Rattle.sf_decode.proofs.Loops.{sum_from-none, sum_from-more}
use Rattle.sf_decode.proofs.parsing.rows_of_entries.Goals as goal

pub loop-i-preserved : goal.loop-i-preserved
unfolding rows_of_entry
loop-i-preserved c =
    let bytes = c.args.bytes.now in
    let here : c.from-sum.result ≡ rows_of_entry bytes c.loop-i.i = rw (c.from-sum.ensures, c.row_count_at.ensures, c.entry_place.ensures.value) refl in
    let split = sum_from-more c.loop-i.i c.args.count (rows_of_entry bytes) c.loop-i-test.true in
    (omega (c.loop-i.invariant.0, arith), omega (c.loop-i.invariant.1, here, split, arith))

pub returns : goal.returns
returns c =
    let bytes = c.args.bytes.now in
    let none : c.args.count - c.loop-i.i ≡ 0 = omega (c.loop-i-test.false, arith) in
    let empty : sum_from c.loop-i.i (c.args.count - c.loop-i.i) (rows_of_entry bytes) ≡ 0 =
    ap (λ n. sum_from c.loop-i.i n (rows_of_entry bytes)) none ∙ sum_from-none c.loop-i.i (rows_of_entry bytes) in
    omega (c.loop-i.invariant.1, empty, arith)
