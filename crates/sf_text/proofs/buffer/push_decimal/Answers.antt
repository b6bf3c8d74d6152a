use Rattle.std.proofs.Common.{rules, ◌≡◌, [], ◌∷◌}
use Rattle.std.specs.Fmt.{decimal}
use Rattle.sf_text.proofs.Numerals.{one_digit, two_digits, three_digits}
use Rattle.sf_text.proofs.buffer.push_decimal.Goals as goal

pub returns-then-number-lt10-clause-items : goal.returns-then-number-lt10-clause-items
returns-then-number-lt10-clause-items c =
    let shown : decimal c.args.number ≡ c.glyph.result ∷ [] = rw c.glyph.ensures (one_digit c.args.number c.if-number-lt10.true) in
    rw shown (search rules)

pub returns-then-tens-lt10-clause-items : goal.returns-then-tens-lt10-clause-items
returns-then-tens-lt10-clause-items c =
    let shown : decimal c.args.number ≡ c.glyph-then-tens-lt10.result ∷ c.glyph-unit.result ∷ [] = rw (c.glyph-then-tens-lt10.ensures, c.glyph-unit.ensures) (two_digits c.args.number c.if-number-lt10.false c.if-tens-lt10.true) in
    rw shown (search rules)

pub returns-then-hundreds-lt10-clause-items : goal.returns-then-hundreds-lt10-clause-items
returns-then-hundreds-lt10-clause-items c =
    let shown : decimal c.args.number ≡ c.glyph-then-hundreds-lt10.result ∷ c.glyph-ten.result ∷ c.glyph-unit.result ∷ [] =
    rw (c.glyph-then-hundreds-lt10.ensures, c.glyph-ten.ensures, c.glyph-unit.ensures) (three_digits c.args.number c.if-number-lt10.false c.if-tens-lt10.false c.if-hundreds-lt10.true) in
    rw shown (search rules)
