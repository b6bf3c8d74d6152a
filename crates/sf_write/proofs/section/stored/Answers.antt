use Rattle.std.proofs.Common.{◌≡◌, ◌∙◌, ℕ, ap, arith, take, length}
use Rattle.std.proofs.Math.Seq.{take-length}
use Rattle.sf_write.proofs.Kept.{one_more}
use Rattle.sf_write.proofs.section.stored.Goals as goal

pub loop-func-preserved : goal.loop-func-preserved
loop-func-preserved c =
    let stored = c.in_ok-push.ensures.pushed in
    let more =
    one_more c.loop-func.rows c.push.new.self c.loop-func.functions.items c.push-in-loop-func.new.self.items c.in_ok-push.field-0 c.args.funcs.now c.loop-func.func-index c.func-item.result
    c.push.ensures.keeps c.loop-func.invariant.stored c.loop-func.invariant.functions c.loop-func-test.true (stored.0, stored.1 ∙ c.func-item.is) c.in_ok-push-2.ensures.items in
    record { stored = more.0; functions = more.1 }

pub returns-clause-functions : goal.returns-clause-functions
returns-clause-functions c =
    let end : c.loop-func.func-index ≡ length c.args.funcs.now = omega (c.loop-func-test.false, c.loop-func.auto.func-index-end, arith) in
    c.loop-func.invariant.functions ∙ (ap (λ (k : ℕ). take k c.args.funcs.now) end ∙ take-length c.args.funcs.now)
