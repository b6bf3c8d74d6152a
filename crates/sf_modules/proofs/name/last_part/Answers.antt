use Rattle.std.proofs.Common.{◌≡◌, ◌+◌, ◌-◌, false, get_or, length, sym, ap, ◌∙◌, ℕ, arith}
use Rattle.std.proofs.lemmas.Bool.{eq-eqb, ne_eqb}
use Rattle.std.proofs.lemmas.List.{take_rest}
use Rattle.sf_modules.specs.Name.{is_slash}
use Rattle.sf_modules.proofs.Names.{last_after_slash, last_goes_on, last_is_all}
use Rattle.sf_modules.proofs.name.last_part.Goals as goal

pub returns-then-name-start-eq47 : goal.returns-then-name-start-eq47
returns-then-name-start-eq47 c =
    let name = c.args.name.now in
    let start = length name - c.loop-passed.passed in
    let lt = c.loop-passed-test.true in
    take_rest name start
    ∙ sym (last_after_slash name start (start - 1) 0 (omega (lt, arith)) (omega (lt, arith)) (eq-eqb _ 47 c.if-name-start-eq47.true))
    ∙ c.loop-passed.invariant

pub loop-passed-preserved : goal.loop-passed-preserved
loop-passed-preserved c =
    let name = c.args.name.now in
    let start = length name - c.loop-passed.passed in
    let before = length name - (c.loop-passed.passed + 1) in
    let lt = c.loop-passed-test.true in
    let same : before ≡ start - 1 = omega (lt, arith) in
    let other : is_slash (get_or name before 0) ≡ false = ap (λ (k : ℕ). is_slash (get_or name k 0)) same ∙ ne_eqb _ 47 c.if-name-start-eq47.false in
    sym (last_goes_on name start before 0 (omega (lt, arith)) (omega (lt, arith)) other) ∙ c.loop-passed.invariant

pub returns : goal.returns
returns c =
    let name = c.args.name.now in
    sym (last_is_all name (length name - c.loop-passed.passed) (omega (c.loop-passed-test.false, arith))) ∙ c.loop-passed.invariant
