use Rattle.std.proofs.Common.{◌<◌, ◌≤◌, ◌+◌, ◌∙◌, drop, get_or, sym, ap, arith}
use Rattle.std.specs.Option.{option_map}
use Rattle.sf_base.specs.Word.{text_digits}
use Rattle.std.proofs.lemmas.List.{drop_more}
use Rattle.sf_base.proofs.Spelling.{continued, digits_step, still_fits, fits_word}
use Rattle.sf_base.proofs.word.read_number.Goals as goal

pub overflow_mul-number : goal.overflow_mul-number
overflow_mul-number c =
    let i = c.loop-byte.byte-index in
    let below : c.in_ok-digit.digit < c.args.base = c.if-digit-base.false in
    let more = still_fits c.args.base c.loop-byte.number c.in_ok-digit.digit i c.loop-byte.invariant.fits below c.requires.base in
    let short : i + 1 ≤ 16 = omega arith in
    let fits = fits_word _ (i + 1) more short in
    omega arith

pub overflow_add-number : goal.overflow_add-number
overflow_add-number c =
    let i = c.loop-byte.byte-index in
    let below : c.in_ok-digit.digit < c.args.base = c.if-digit-base.false in
    let more = still_fits c.args.base c.loop-byte.number c.in_ok-digit.digit i c.loop-byte.invariant.fits below c.requires.base in
    let short : i + 1 ≤ 16 = omega arith in
    let fits = fits_word _ (i + 1) more short in
    omega arith

pub loop-byte-preserved : goal.loop-byte-preserved
loop-byte-preserved c =
    let i = c.loop-byte.byte-index in
    let below : c.in_ok-digit.digit < c.args.base = c.if-digit-base.false in
    let is = c.in_ok-digit.ensures in
    record {
      fits = still_fits c.args.base c.loop-byte.number c.in_ok-digit.digit i c.loop-byte.invariant.fits below c.requires.base;
      rest = sym (digits_step c.args.base c.loop-byte.number c.in_ok-digit.digit (get_or c.args.text.now i 0) (drop (i + 1) c.args.text.now) (sym is) below)
          ∙ (ap (λ xs. option_map (continued c.args.base c.loop-byte.number) (text_digits c.args.base xs)) (sym (drop_more c.args.text.now i 0 c.loop-byte-test.true)) ∙ c.loop-byte.invariant.rest);
    }
