use Rattle.std.specs.Prelude.{is_some}
use Rattle.std.proofs.Common.{List, ℕ, Option, sym, ap, ◌∙◌}
use Rattle.sf_modules.proofs.NamesRead.{texts_some}
use Rattle.sf_modules.proofs.Texts.{has-next, texts-end, texts-stop}
use Rattle.sf_modules.proofs.note.has_texts.Goals as goal

pub returns-in_default : goal.returns-in_default
returns-in_default c =
    sym (ap (λ (o : Option (List (List ℕ))). is_some o) (texts-stop c.args.count c.loop-passed.passed c.loop-passed.rest.now c.loop-passed-test.true c.in_default.ensures)) ∙ c.loop-passed.invariant ∙ texts_some c.args.count c.args.bytes.now

pub loop-passed-preserved : goal.loop-passed-preserved
loop-passed-preserved c =
    sym (has-next c.args.count c.loop-passed.passed c.loop-passed.rest.now c.in-Some.field-0-0.now c.in-Some.later.now c.loop-passed-test.true c.in-Some.ensures) ∙ c.loop-passed.invariant

pub returns : goal.returns
returns c =
    sym (ap (λ (o : Option (List (List ℕ))). is_some o) (texts-end c.args.count c.loop-passed.passed c.loop-passed.rest.now c.loop-passed-test.false)) ∙ c.loop-passed.invariant ∙ texts_some c.args.count c.args.bytes.now
