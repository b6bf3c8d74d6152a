use Rattle.std.specs.List.{list_all, range_with_len}
use Rattle.std.specs.Prelude.{◌&&◌}
use Rattle.std.proofs.Common.{◌≡◌, ◌≤◌, ◌<◌, ◌+◌, ℕ, zero, suc, Bool, true, false, refl, sym, ap, ◌∙◌, arith, inl, inr}
use Rattle.std.proofs.lemmas.Bool.{cases_lt}
use Rattle.elf_read.specs.Sections.{segment_total}
use Rattle.elf_mapped.specs.Program.{program_bytes}
use Rattle.core_notes.proofs.Numbered.{all_end, all_next, not_all, starts}
use Rattle.sf_modules.specs.Fit.{segment_fits}
use Rattle.sf_modules.specs.Process.{process_view}
use Rattle.sf_modules.proofs.fit.all_fit.Goals as goal

and_false : (b : Bool) → (b && false) ≡ false
and_false true = refl
and_false false = refl

one_fails : (p : ℕ → Bool) (i n k : ℕ) → i ≤ k → k < i + n → p k ≡ false → list_all p (range_with_len i n) ≡ false
one_fails p i zero k from lt e = absurd (omega (from, lt, arith))
one_fails p i (suc n) k from lt e =
    elim (cases_lt i k) [
      | inl before ↦ ap (λ (b : Bool). p i && b) (one_fails p (i + 1) n k (omega (before, arith)) (omega (lt, arith)) e) ∙ and_false (p i)
      | inr after ↦
          let same : i ≡ k = omega (from, after, arith) in
          ap (λ (b : Bool). b && list_all p (range_with_len (i + 1) n)) (ap p same ∙ e)
    ]

pub loop-i-init : goal.loop-i-init
loop-i-init c =
    let f = program_bytes c.args.program.now.elf in
    starts (list_all (segment_fits (process_view c.args.process.now) f c.args.named.now.name.now c.args.base)) (segment_total f) (segment_total f) refl

pub loop-i-preserved : goal.loop-i-preserved
loop-i-preserved c =
    let f = program_bytes c.args.program.now.elf in
    sym (all_next (segment_fits (process_view c.args.process.now) f c.args.named.now.name.now c.args.base) (segment_total f) c.loop-i.i (omega (c.loop-i-test.true, c.args.program.now.counted, arith)) (sym c.if-not-segment_fits-2.ensures))
    ∙ c.loop-i.invariant

pub returns-then-not-segment_fits : goal.returns-then-not-segment_fits
returns-then-not-segment_fits c =
    let f = program_bytes c.args.program.now.elf in
    sym (one_fails (segment_fits (process_view c.args.process.now) f c.args.named.now.name.now c.args.base) 0 (segment_total f) _ (omega arith) (omega (c.if-first-program.true, c.args.program.now.counted, arith)) (sym c.if-not-segment_fits.ensures))

pub returns-then-not-segment_fits-2 : goal.returns-then-not-segment_fits-2
returns-then-not-segment_fits-2 c =
    let f = program_bytes c.args.program.now.elf in
    sym (not_all (segment_fits (process_view c.args.process.now) f c.args.named.now.name.now c.args.base) (segment_total f) c.loop-i.i (omega (c.loop-i-test.true, c.args.program.now.counted, arith)) (sym c.if-not-segment_fits-2.ensures))
    ∙ c.loop-i.invariant

pub returns : goal.returns
returns c =
    let f = program_bytes c.args.program.now.elf in
    sym (all_end (segment_fits (process_view c.args.process.now) f c.args.named.now.name.now c.args.base) (segment_total f) c.loop-i.i (omega (c.loop-i-test.false, c.args.program.now.counted, arith)))
    ∙ c.loop-i.invariant
