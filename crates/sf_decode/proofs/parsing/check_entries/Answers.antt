use Rattle.std.proofs.Common.{◌≡◌, ℕ, ◌+◌, ◌-◌, ap, sym, ◌∙◌, arith}
use Rattle.std.proofs.lemmas.Result.{err_from_is_err_and}
use Rattle.sf_decode.specs.Bounds.{bounds_of}
use Rattle.sf_decode.specs.Checking.{each_from}
use Rattle.sf_decode.specs.Entry.{entry_check, entry_place}
use Rattle.sf_decode.proofs.Loops.{each_from-none, each_from-more, each_from-stop}
use Rattle.sf_decode.proofs.parsing.check_entries.Goals as goal

pub returns-in_err-before : goal.returns-in_err-before
returns-in_err-before c =
    let p = err_from_is_err_and c.from_residual.result c.from_residual.ensures.1 in
    rw (p.1, p.2)
    (sym (each_from-stop c.loop-i.i c.args.count (entry_check c.args.bytes.now c.args.at) c.in_err-before.field-0.0 c.loop-i-test.true (sym c.in_err-before.ensures.checked))
    ∙ c.loop-i.invariant.0)

pub loop-i-preserved : goal.loop-i-preserved
loop-i-preserved c =
    let bytes = c.args.bytes.now in
    let this : c.loop-i.i ≡ c.loop-i.i + 1 - 1 = omega arith in (
      each_from-more c.loop-i.i c.args.count (entry_check bytes c.args.at) c.loop-i-test.true (sym c.in_ok-before.ensures.checked) ∙ c.loop-i.invariant.0,
      λ some. c.in_ok-before.ensures.bounds ∙ ap (λ (i : ℕ). bounds_of bytes c.args.at (entry_place bytes i)) this,
    )

pub returns : goal.returns
returns c =
    let none : c.args.count - c.loop-i.i ≡ 0 = omega (c.loop-i-test.false, arith) in
    sym (each_from-none c.loop-i.i (entry_check c.args.bytes.now c.args.at))
    ∙ (ap (λ n. each_from c.loop-i.i n (entry_check c.args.bytes.now c.args.at)) (sym none) ∙ c.loop-i.invariant.0)
