use Rattle.std.proofs.Common.{◌≡◌, true, false, take, get_or, sym, ◌∙◌, arith}
use Rattle.eh_records.proofs.LetterLoop.{is_new, goes_on, stops, ends}
use Rattle.eh_records.proofs.letters.letters_are_known.Goals as goal

pub returns-then-not-is_new_letter : goal.returns-then-not-is_new_letter
returns-then-not-is_new_letter c =
    let old : is_new c.args.arch (take c.loop-index.index c.args.letters.now) (get_or c.args.letters.now c.loop-index.index 0) ≡ false =
    rw (← c.split_at.ensures.front) (sym c.is_new_letter.ensures ∙ c.if-not-is_new_letter.true) in
    sym (stops c.args.arch c.args.letters.now c.loop-index.index c.loop-index-test.true old) ∙ c.loop-index.invariant

pub loop-index-preserved : goal.loop-index-preserved
loop-index-preserved c =
    let new : is_new c.args.arch (take c.loop-index.index c.args.letters.now) (get_or c.args.letters.now c.loop-index.index 0) ≡ true =
    rw (← c.split_at.ensures.front) (sym c.is_new_letter.ensures ∙ c.if-not-is_new_letter.false) in
    sym (goes_on c.args.arch c.args.letters.now c.loop-index.index c.loop-index-test.true new) ∙ c.loop-index.invariant

pub returns : goal.returns
returns c = sym (ends c.args.arch c.args.letters.now c.loop-index.index (omega arith)) ∙ c.loop-index.invariant
