use Rattle.std.proofs.Common.{◌≡◌, ◌+◌, ◌-◌, ◌*◌, ℕ, List, All, length, drop, refl, sym, subst, arith}
use Rattle.std.specs.Ordering.{nat_cmp, ordering_then}
use Rattle.elf_read.specs.Number.{LiesAt}
use Rattle.elf_groups.specs.TextNumbers.{AreBlocks, Numbers}
use Rattle.elf_groups.specs.SeenSignatures.{HasTexts, IsKnown}
use Rattle.elf_groups.proofs.NumberedText.{all_numbered, all_still_known, is_known, known_end, next_end, one_end_more}
use Rattle.elf_groups.proofs.Runs.{one_value_more}
use Rattle.elf_groups.proofs.file_strings.FileStrings.number.Goals as goal

pub loop-index-init : goal.loop-index-init
loop-index-init c =
    let known = c.known-known.result in
    let place = c.args.place in
    record {
      number = λ file blocks texts stands.
          known_end file c.args.text.now c.args.blocks.now known place (known.place - place - 0) (c.known-known.ensures.known file c.args.blocks.now texts.known) stands c.known-known.ensures.end c.known-known.ensures.from c.known-known.ensures.upto (omega arith);
      blocks = λ file blocks texts stands. blocks;
      grows = λ n text numbers. numbers;
      known = λ file blocks texts stands. texts.known;
      ends = refl;
    }

pub loop-index-preserved : goal.loop-index-preserved
loop-index-preserved c =
    let text = c.args.text.now in
    let place = c.args.place in
    let left = c.known-known.result.place - place in
    let index = c.loop-index.index in
    let old = c.loop-index.blocks in
    let new = c.number.new.self in
    let rest = c.split_at.result.1.now in
    let back : rest ≡ drop (left - 256 - index * 256) text = c.split_at.ensures.back in
    let inv = c.loop-index.invariant in
    let next : (file : List ℕ) → AreBlocks c.args.blocks.now → HasTexts file c.args.blocks.now c.args.self.now → LiesAt place text file → Numbers old c.loop-index.number (drop 256 rest) = λ file blocks texts stands. next_end old text rest c.loop-index.number left index (left - 256 - index * 256) (inv.number file blocks texts stands) c.loop-index-test.true refl back in
    let numbers : (file : List ℕ) → AreBlocks c.args.blocks.now → HasTexts file c.args.blocks.now c.args.self.now → LiesAt place text file → Numbers new c.in_ok-number.number rest = λ file blocks texts stands. c.in_ok-number.ensures.number (inv.blocks file blocks texts stands) (next file blocks texts stands) in
    record {
      number = λ file blocks texts stands. one_end_more new text rest c.in_ok-number.number left index (left - 256 - index * 256) (numbers file blocks texts stands) refl back;
      blocks = λ file blocks texts stands. c.in_ok-number.ensures.blocks (inv.blocks file blocks texts stands) (next file blocks texts stands);
      grows = λ n bytes is. c.in_ok-number.ensures.grows n bytes (inv.grows n bytes is);
      known = λ file blocks texts stands.
          subst (All (λ e. IsKnown file new e.1)) (sym c.in_ok-insert.ensures.entries)
          (one_value_more (λ a b. ordering_then (nat_cmp a.0 b.0) (nat_cmp a.1 b.1)) (IsKnown file new) c.loop-index.self.known.entries _ _
          (all_still_known file old new c.loop-index.self c.in_ok-number.ensures.grows (inv.known file blocks texts stands))
          (is_known file text rest new place (left - 256 - index * 256) (place + (left - 256 - index * 256)) (place + length text) c.in_ok-number.number (numbers file blocks texts stands) back stands (omega (arith, c.known-known.ensures.end, c.known-known.ensures.upto)) refl refl));
      ends = inv.ends;
    }

pub returns-clause-number : goal.returns-clause-number
returns-clause-number c = λ file blocks texts stands whole.
    let text = c.args.text.now in
    let known = c.known-known.result in
    let place = c.args.place in
    all_numbered c.args.blocks.now c.loop-index.blocks text known.number c.loop-index.number (known.place - place) c.loop-index.index blocks
    (known_end file text c.args.blocks.now known place (known.place - place) (c.known-known.ensures.known file c.args.blocks.now texts.known) stands c.known-known.ensures.end c.known-known.ensures.from c.known-known.ensures.upto refl)
    whole (omega (arith, c.known-known.ensures.end, c.known-known.ensures.upto)) (omega (arith, c.loop-index-test.false)) (c.loop-index.invariant.number file blocks texts stands)
