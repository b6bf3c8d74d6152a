use Rattle.std.proofs.Common.{◌≡◌, true, false, get_or, sym, ◌∙◌, arith}
use Rattle.elf_reloc.specs.Order.{lies_on}
use Rattle.elf_reloc.proofs.Overlaps.{no_fix}
use Rattle.elf_reloc.proofs.Placing.{stops, goes_on, ends}
use Rattle.elf_reloc.proofs.fields.check_places.Goals as goal

pub returns-then-not-lies : goal.returns-then-not-lies
returns-then-not-lies c =
    let test : lies_on c.args.fields.now (get_or c.args.fixes.now c.loop-fix.fix-index no_fix) ≡ false = sym c.lies.ensures ∙ c.if-not-lies.true in
    sym (stops c.args.fields.now c.args.fixes.now c.loop-fix.fix-index no_fix c.loop-fix-test.true test) ∙ c.loop-fix.invariant

pub loop-fix-preserved : goal.loop-fix-preserved
loop-fix-preserved c =
    let test : lies_on c.args.fields.now (get_or c.args.fixes.now c.loop-fix.fix-index no_fix) ≡ true = sym c.lies.ensures ∙ c.if-not-lies.false in
    sym (goes_on c.args.fields.now c.args.fixes.now c.loop-fix.fix-index no_fix c.loop-fix-test.true test) ∙ c.loop-fix.invariant

pub returns : goal.returns
returns c = sym (ends c.args.fields.now c.args.fixes.now c.loop-fix.fix-index (omega arith)) ∙ c.loop-fix.invariant
