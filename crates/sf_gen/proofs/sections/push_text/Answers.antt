use Rattle.std.proofs.Common.{◌≡◌, ◌++◌, ◌+◌, ◌*◌, ℕ, ap, sym, ◌∙◌, arith, replicate}
use Rattle.std.proofs.lemmas.List.{replicate-append-replicate}
use Rattle.sf_gen.proofs.Ranges.{appended}
use Rattle.sf_gen.proofs.sections.push_text.Goals as goal

pub loop-preserved : goal.loop-preserved
loop-preserved c =
    let nop : ℕ = 0x90 in
    let len : 32 * (c.loop.counter + 1) ≡ 32 * c.loop.counter + 32 = omega arith in
    let more : replicate (32 * (c.loop.counter + 1)) nop ≡ replicate (32 * c.loop.counter) nop ++ replicate 32 nop =
    ap (λ (k : ℕ). replicate k nop) len ∙ sym (replicate-append-replicate (32 * c.loop.counter) 32 nop) in
    let pushed : c.extend_from_slice.new.self.items ≡ c.loop.bytes.items ++ replicate 32 nop = c.in_ok-extend_from_slice.ensures.items in
    appended _ _ _ _ _ _ c.loop.invariant pushed more
