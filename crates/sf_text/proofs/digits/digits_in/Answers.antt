use Rattle.std.proofs.Common.{rules, arith, ◌≤◌, ◌-◌, ◌/◌, ◌∷◌, ◌∙◌, ap, drop}
use Rattle.sf_text.proofs.Numerals.{digits_before, all_digits, two_places, quotient_fits, more_digits, last_digit, digit_in_front}
use Rattle.sf_text.proofs.digits.digits_in.Goals as goal

pub loop-left-init : goal.loop-left-init
loop-left-init c = record {
  some = omega arith;
  sized = search rules;
  in_range = omega arith;
  fits = c.requires.fits;
  text = all_digits c.args.base c.args.number;
}

pub loop-left-preserved : goal.loop-left-preserved
loop-left-preserved c =
    let room : 2 ≤ c.loop-left.start = two_places c.args.base c.loop-left.left c.loop-left.start (search rules) c.loop-left.invariant.fits c.loop-left.invariant.some in
    record {
      some = omega arith;
      sized = search rules;
      in_range = omega arith;
      fits = quotient_fits c.args.base c.loop-left.left c.loop-left.start (search rules) c.loop-left.invariant.some c.loop-left.invariant.fits;
      text =
          ap (λ xs. digits_before (c.loop-left.start - 1) c.args.base (c.loop-left.left / c.args.base) xs)
          (digit_in_front c.loop-left.bytes c.loop-left.start c.glyph.result c.loop-left.invariant.some (omega (arith, c.loop-left.invariant.sized, c.loop-left.invariant.in_range))
          ∙ ap (λ g. g ∷ drop c.loop-left.start c.loop-left.bytes) c.glyph.ensures)
          ∙ (more_digits c.loop-left.start c.args.base c.loop-left.left (drop c.loop-left.start c.loop-left.bytes) (search rules) (search rules) c.loop-left.invariant.some
          ∙ c.loop-left.invariant.text);
    }

pub returns : goal.returns
returns c =
    digit_in_front c.loop-left.bytes c.loop-left.start c.glyph-2.result c.loop-left.invariant.some (omega (arith, c.loop-left.invariant.sized, c.loop-left.invariant.in_range))
    ∙ (ap (λ g. g ∷ drop c.loop-left.start c.loop-left.bytes) c.glyph-2.ensures
    ∙ (last_digit c.loop-left.start c.args.base c.loop-left.left (drop c.loop-left.start c.loop-left.bytes) c.loop-left-test.false c.loop-left.invariant.some
    ∙ c.loop-left.invariant.text))
