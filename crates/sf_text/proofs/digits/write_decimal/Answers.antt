use Rattle.std.proofs.Common.{rules, arith, ◌≡◌, ◌≤◌, ◌-◌, ◌/◌, ◌%◌, ◌∷◌, ◌∙◌, false, ap, drop, length}
use Rattle.std.proofs.lemmas.List.{drop_all, length-set}
use Rattle.std.specs.Fmt.{digit_glyph}
use Rattle.sf_text.proofs.Numerals.{digits_before, all_digits, two_places, three_places, pair_fits, two_more, last_two, last_digit, digit_in_front, pair_in_front}
use Rattle.sf_text.proofs.digits.write_decimal.Goals as goal

pub loop-left-init : goal.loop-left-init
loop-left-init c =
    let bytes = c.args.bytes.now in
    let sized : length bytes ≡ 20 = search rules in
    record {
      some = omega arith;
      sized = sized;
      in_range = omega arith;
      fits = search rules;
      text = ap (λ xs. digits_before 20 10 c.args.number xs) (drop_all 20 bytes (omega (arith, sized))) ∙ all_digits 10 c.args.number;
    }

pub loop-left-preserved : goal.loop-left-preserved
loop-left-preserved c =
    let start = c.loop-left.start in
    let left = c.loop-left.left in
    let bytes = c.loop-left.bytes in
    let unit = c.glyph.result in
    let ten = c.glyph-in-loop-left.result in
    let high : 100 ≤ left = search rules in
    let room : 3 ≤ start = three_places left start high c.loop-left.invariant.fits c.loop-left.invariant.some in
    let within : start ≤ length bytes = omega (arith, c.loop-left.invariant.sized, c.loop-left.invariant.in_range) in
    let two : 2 ≤ start = omega (arith, room) in
    record {
      some = omega (arith, room);
      sized = length-set _ (start - 2) ten ∙ (length-set bytes _ unit ∙ c.loop-left.invariant.sized);
      in_range = omega (arith, c.loop-left.invariant.in_range);
      fits = pair_fits left start high room c.loop-left.invariant.fits;
      text =
          ap (λ xs. digits_before (start - 2) 10 (left / 100) xs)
          (pair_in_front bytes start ten unit two within
          ∙ (ap (λ g. g ∷ unit ∷ drop start bytes) c.glyph-in-loop-left.ensures ∙ ap (λ g. digit_glyph false (left / 10 % 10) ∷ g ∷ drop start bytes) c.glyph.ensures))
          ∙ (two_more start left (drop start bytes) high room ∙ c.loop-left.invariant.text);
    }

pub returns-then-left-lt10-clause-digits : goal.returns-then-left-lt10-clause-digits
returns-then-left-lt10-clause-digits c =
    let start = c.loop-left.start in
    let bytes = c.loop-left.bytes in
    digit_in_front bytes start c.glyph-then-left-lt10.result c.loop-left.invariant.some (omega (arith, c.loop-left.invariant.sized, c.loop-left.invariant.in_range))
    ∙ (ap (λ g. g ∷ drop start bytes) c.glyph-then-left-lt10.ensures
    ∙ (last_digit start 10 c.loop-left.left (drop start bytes) c.if-left-lt10.true c.loop-left.invariant.some ∙ c.loop-left.invariant.text))

pub returns-clause-digits : goal.returns-clause-digits
returns-clause-digits c =
    let start = c.loop-left.start in
    let left = c.loop-left.left in
    let bytes = c.loop-left.bytes in
    let room : 2 ≤ start = two_places 10 left start c.if-left-lt10.false c.loop-left.invariant.fits c.loop-left.invariant.some in
    let within : start ≤ length bytes = omega (arith, c.loop-left.invariant.sized, c.loop-left.invariant.in_range) in
    pair_in_front bytes start c.glyph-3.result c.glyph-2.result room within
    ∙ (ap (λ g. g ∷ c.glyph-2.result ∷ drop start bytes) c.glyph-3.ensures
    ∙ (ap (λ g. digit_glyph false (left / 10) ∷ g ∷ drop start bytes) c.glyph-2.ensures
    ∙ (last_two start left (drop start bytes) c.if-left-lt10.false c.loop-left-test.false room ∙ c.loop-left.invariant.text)))
