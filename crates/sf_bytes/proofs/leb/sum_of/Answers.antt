use Rattle.std.proofs.Common.{◌≡◌, ◌≤◌, length, drop, ◌∙◌, arith, refl}
use Rattle.std.proofs.lemmas.List.{length-drop}
use Rattle.sf_bytes.proofs.Run.{leb_sum-all, leb_sum-fits, leb_sum-drop}
use Rattle.sf_bytes.proofs.leb.sum_of.Goals as goal

pub loop-left-init : goal.loop-left-init
loop-left-init c = record { within = omega arith; sum = leb_sum-all c.args.run.now }

pub overflow_mul-sum : goal.overflow_mul-sum
overflow_mul-sum c =
    let few : length (drop c.loop-left.left c.args.run.now) ≤ 10 = omega (arith, length-drop c.loop-left.left c.args.run.now) in
    let h = leb_sum-fits (drop c.loop-left.left c.args.run.now) few in
    omega (arith, h, c.loop-left.invariant.sum)

pub overflow_add-sum : goal.overflow_add-sum
overflow_add-sum c =
    let few : length (drop c.loop-left.left c.args.run.now) ≤ 10 = omega (arith, length-drop c.loop-left.left c.args.run.now) in
    let h = leb_sum-fits (drop c.loop-left.left c.args.run.now) few in
    omega (arith, h, c.loop-left.invariant.sum, c.from.ensures)

pub loop-left-preserved : goal.loop-left-preserved
loop-left-preserved c = record {
  within = omega arith;
  sum = rw (c.from.ensures, c.loop-left.invariant.sum) (leb_sum-drop c.loop-left.left c.args.run.now (omega arith) (omega arith));
}

pub returns-clause-bound : goal.returns-clause-bound
returns-clause-bound c =
    let few : length (drop c.loop-left.left c.args.run.now) ≤ 10 = omega (arith, length-drop c.loop-left.left c.args.run.now) in
    let h = leb_sum-fits (drop c.loop-left.left c.args.run.now) few in
    omega (arith, h, c.loop-left.invariant.sum)

pub returns-clause-value : goal.returns-clause-value
returns-clause-value c =
    let all : c.loop-left.left ≡ 0 = omega arith in
    c.loop-left.invariant.sum ∙ rw all refl
