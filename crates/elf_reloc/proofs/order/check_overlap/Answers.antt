use Rattle.std.proofs.Common.{◌≡◌, ℕ, ◌+◌, ◌<◌, ◌≤◌, get_or, drop, sym, ap, ◌∙◌, arith, lt-ltb, le-ltb}
use Rattle.elf_reloc.specs.Order.{overlap_check}
use Rattle.elf_reloc.specs.Table.{width_of}
use Rattle.elf_reloc.proofs.Overlaps.{no_fix, stops, goes_on, ends}
use Rattle.elf_reloc.proofs.order.check_overlap.Goals as goal

pub returns-then-from-end : goal.returns-then-from-end
returns-then-from-end c =
    let below : (get_or c.args.fixes.now c.loop-fix.fix-index no_fix).place < c.loop-fix.end = omega (arith, c.from.ensures, c.if-from-end.true) in
    sym (stops c.args.fixes.now c.loop-fix.end c.loop-fix.fix-index no_fix c.loop-fix-test.true (lt-ltb _ _ below)) ∙ c.loop-fix.invariant

pub loop-fix-preserved : goal.loop-fix-preserved
loop-fix-preserved c =
    let f = get_or c.args.fixes.now c.loop-fix.fix-index no_fix in
    let above : c.loop-fix.end ≤ f.place = omega (arith, c.from.ensures, c.if-from-end.false) in
    let end : c.from-in-loop-fix.result + c.from-in-loop-fix-2.result ≡ f.place + width_of f.range =
    ap (λ (k : ℕ). k + c.from-in-loop-fix-2.result) c.from-in-loop-fix.ensures ∙ ap (λ (k : ℕ). f.place + k) (c.from-in-loop-fix-2.ensures ∙ c.width_of.ensures) in
    ap (λ (k : ℕ). overlap_check k (drop (c.loop-fix.fix-index + 1) c.args.fixes.now)) end
    ∙ sym (goes_on c.args.fixes.now c.loop-fix.end c.loop-fix.fix-index no_fix c.loop-fix-test.true (le-ltb _ _ above))
    ∙ c.loop-fix.invariant

pub returns : goal.returns
returns c = sym (ends c.args.fixes.now c.loop-fix.end c.loop-fix.fix-index (omega arith)) ∙ c.loop-fix.invariant
