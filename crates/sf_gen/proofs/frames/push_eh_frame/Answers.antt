use Rattle.std.proofs.Common.{◌≡◌, ◌++◌, ◌+◌, suc, ap, ◌∙◌, sym, arith, ℕ}
use Rattle.std.proofs.lemmas.Grind.{common_steps}
use Rattle.sf_gen.proofs.Ranges.{appended, range_more}
use Rattle.sf_gen.specs.Frames.{fde}
use Rattle.sf_gen.specs.Pattern.{kind, state_kind, next, state_after}
use Rattle.sf_gen.proofs.frames.push_eh_frame.Goals as goal

pub loop-i-preserved : goal.loop-i-preserved
loop-i-preserved c =
    let one : c.loop-i.i + 1 ≡ suc c.loop-i.i = omega arith in
    let state : c.next-after.result ≡ state_after c.args.n (c.loop-i.i + 1) =
    c.next-after.ensures.value ∙ (ap next c.loop-i.invariant.state ∙ ap (λ (k : ℕ). state_after c.args.n k) (sym one)) in
    let pushed : c.push_fde.new.bytes.items ≡ c.loop-i.bytes.items ++ fde c.loop-i.i (kind c.args.n c.loop-i.i) =
    grind (arith, common_steps, c.in_ok-push_fde.ensures, c.kind_of.ensures.value, ap state_kind state) in
    record {
      entries = appended _ _ _ _ _ _ c.loop-i.invariant.entries pushed (range_more (λ i. fde i (kind c.args.n i)) c.loop-i.i);
      state = state;
      below = c.next-after.ensures.below;
    }
