use Rattle.std.specs.Prelude.{◌+◌, ◌≤◌, ◌*◌}
use Rattle.std.specs.List.{list_any}
use Rattle.std.proofs.Common.{◌≡◌, ◌-◌, false, length, take, drop, ap, sym, ◌∙◌, arith}
use Rattle.std.proofs.lemmas.List.{length-drop}
use Rattle.elf_read.proofs.FirstZero.{before_zero, before_zero-drop, before_zero-past, is_zero}
use Rattle.elf_read.proofs.first_zero.len_without_zero.Goals as goal

pub loop-index-preserved : goal.loop-index-preserved
loop-index-preserved c =
    let bytes = c.args.bytes.now in
    let index = c.loop-index.index in
    let rest = c.split_at.result.1.now in
    let none : list_any is_zero (take 64 c.split_at.result.1.now) ≡ false = ap (list_any is_zero) (sym c.split_at-in-loop-index.ensures.front) ∙ sym c.if-has_zero.ensures in
    let len : length c.split_at.result.1.now ≡ length c.args.bytes.now - c.loop-index.index * 64 = ap length c.split_at.ensures.back ∙ length-drop (c.loop-index.index * 64) c.args.bytes.now in
    let more : 64 ≤ before_zero c.split_at.result.1.now = before_zero-past 64 c.split_at.result.1.now (omega (arith, len, c.loop-index-test.true)) none in
    let all : c.loop-index.index * 64 + before_zero (drop (c.loop-index.index * 64) c.args.bytes.now) ≡ before_zero c.args.bytes.now = before_zero-drop (c.loop-index.index * 64) c.args.bytes.now c.loop-index.invariant in
    let same : before_zero c.split_at.result.1.now ≡ before_zero (drop (c.loop-index.index * 64) c.args.bytes.now) = ap before_zero c.split_at.ensures.back in
    omega (arith, more, all, same)
