use Rattle.std.proofs.Common.{◌<◌, ◌^◌, arith, rules}
use Rattle.sf_modules.proofs.Lines.{later_end}
use Rattle.sf_modules.proofs.stretch.further.Goals as goal

pub returns-else-own-line : goal.returns-else-own-line
returns-else-own-line c = λ at.
    let s = c.args.stretch.now in
    let small : c.args.stretch.now.start < 2 ^ 64 = search rules in
    let lt : c.args.line < c.args.stretch.now.line = omega (c.requires, small, c.if-own-line.false, arith) in
    later_end c.args.line s.line c.args.end s.start s.end at c.ranges.end.fits lt
