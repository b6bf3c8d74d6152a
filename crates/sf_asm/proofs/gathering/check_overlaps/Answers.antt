use Rattle.std.proofs.Common.{◌≡◌, ◌<◌, ◌≤◌, ◌+◌, ◌∷◌, ℕ, List, drop, get_or, length, ap, sym, ◌∙◌, arith}
use Rattle.std.proofs.lemmas.List.{drop_all, drop_more}
use Rattle.sf_model.specs.declared.omission.Span.{Span}
use Rattle.frame_functions.specs.declared.read_function.ReadFunction.{ReadFunction}
use Rattle.frame_functions.specs.ReadFunction.{spans_of}
use Rattle.sf_asm.specs.Functions.{unless}
use Rattle.sf_asm.specs.Linking.{overlap_left}
use Rattle.frame_functions.proofs.ListedFunctions.{no_entry}
use Rattle.sf_asm.proofs.gathering.check_overlaps.Goals as goal

-- one span after another
spans_left : (entries : List ReadFunction) (i : ℕ) (span : Span) → i < length entries → span ≡ (get_or entries i no_entry).span → spans_of (drop i entries) ≡ span ∷ spans_of (drop (i + 1) entries)
spans_left entries i span low is = ap spans_of (drop_more entries i no_entry low) ∙ ap (λ (s : Span). s ∷ spans_of (drop (i + 1) entries)) (sym is)

pub loop-number-preserved : goal.loop-number-preserved
loop-number-preserved c =
    let entries = c.args.entries.now in
    let low : c.loop-number.number < length entries = omega (arith, c.loop-number-test.true, c.len-number-end.ensures) in
    c.loop-number.invariant
    ∙ ap (overlap_left c.loop-number.overlaps) (spans_left entries c.loop-number.number c.span.result low (c.span.ensures no_entry))
    ∙ c.see.ensures (spans_of (drop (c.loop-number.number + 1) entries))

pub returns : goal.returns
returns c =
    let entries = c.args.entries.now in
    let past : length entries ≤ c.loop-number.number = omega (arith, c.loop-number-test.false, c.len-number-end.ensures) in
    c.into_result.ensures
    ∙ sym (ap unless (c.loop-number.invariant ∙ ap (λ (es : List ReadFunction). overlap_left c.loop-number.overlaps (spans_of es)) (drop_all c.loop-number.number entries past)))
