use Rattle.std.proofs.Common.{◌++◌, ◌∷◌, ◌+◌, ◌-◌, ◌<◌, ◌≤◌, ◌≡◌, [], ℕ, List, Vec, Global, Ok, Err, arith, length, take, ap, refl, subst, sym, ◌∙◌}
use Rattle.std.proofs.lemmas.List.{length-set, take_all}
use Rattle.frame_functions.specs.declared.read_function.ReadFunction.{ReadFunction}
use Rattle.frame_functions.specs.declared.read_function.Expressed.TheVariants.{Kept, LeftOut}
use Rattle.sf_asm.specs.declared.list_forms.Gathered.{Gathered}
use Rattle.sf_model.specs.declared.function.Func.{Func}
use Rattle.sf_model.specs.declared.omission.Omitted.{Omitted}
use Rattle.sf_model.specs.declared.omission.Span.{Span}
use Rattle.frame_functions.specs.ReadFunction.{kept_by_item, kept_of, of_item, omitted_of, spans_of}
use Rattle.frame_functions.specs.Kept.{outcome_by}
use Rattle.sf_asm.proofs.KeptByInput.{AreSortedOut, all_handed_out, one_kept, one_left, one_more, span_within}
use Rattle.sf_asm.proofs.Kept.{omitted_of-kept, omitted_of-left, spans_of-push}
use Rattle.sf_asm.proofs.list_forms.sort_out.Goals as goal
use Rattle.sf_asm.proofs.list_forms.sort_out.Goals.{in-Ok+in_ok-push-in-Ok, in-Err+in_ok-push-in-Err}

pub overflow_sub-span : goal.overflow_sub-span
overflow_sub-span c =
    let low : c.loop-number.number < length c.args.entries.now = omega (arith, c.loop-number-test.true, c.len-number-end.ensures) in
    (span_within c.args.first (c.args.first + c.args.count) c.args.entries.now c.loop-number.number c.span-span.result low c.requires c.span-span.ensures).0

pub index_mut-requires : goal.index_mut-requires
index_mut-requires c =
    let low : c.loop-number.number < length c.args.entries.now = omega (arith, c.loop-number-test.true, c.len-number-end.ensures) in
    let within = span_within c.args.first (c.args.first + c.args.count) c.args.entries.now c.loop-number.number c.span-span.result low c.requires c.span-span.ensures in
    let from : c.args.first ≤ c.span-span.result.origin.item = within.0 in
    let to : c.span-span.result.origin.item < c.args.first + c.args.count = within.1 in
    omega (arith, from, to, c.loop-number.invariant.many, c.loop-number.gathered.kept.ok.0)

pub loop-number-preserved : goal.loop-number-preserved
loop-number-preserved c =
    let so_far = c.loop-number.invariant in
    let entries = c.args.entries.now in
    let k = c.loop-number.number in
    let before = take k entries in
    let low : k < length entries = omega (arith, c.loop-number-test.true, c.len-number-end.ensures) in
    let within = span_within c.args.first (c.args.first + c.args.count) entries k c.span-span.result low c.requires c.span-span.ensures in
    let from : c.args.first ≤ c.span-span.result.origin.item = within.0 in
    let to : c.span-span.result.origin.item < c.args.first + c.args.count = within.1 in
    let spans : (e : ReadFunction) → e.span ≡ c.span-span.result → take (k + 1) entries ≡ before ++ e ∷ [] → c.push.new.self.items ≡ spans_of (take (k + 1) entries) =
    λ e is more. c.in_ok-push.ensures.items ∙ ap (λ (xs : List Span). xs ++ c.span-span.result ∷ []) so_far.spans ∙ ap (λ (s : Span). spans_of before ++ s ∷ []) (sym is) ∙ sym (spans_of-push before e) ∙ ap spans_of (sym more) in
    elim c.match-given.branch [
      | in-Ok+in_ok-push-in-Ok w ↦
          let e : ReadFunction = record { span = c.span-span.result; outcome = Kept w.in-Ok.func } in
          let turn = one_more entries k e (Ok w.in-Ok.func) low (c.span-span.ensures e) (c.in_ok-given.ensures e ∙ ap outcome_by w.in-Ok.is) refl in
          subst (λ (g : Gathered). AreSortedOut c.args.arch c.args.first c.args.count g (take (k + 1) entries)) (sym w.gathered-is)
          (record {
            arch_is = so_far.arch_is;
            many = omega (arith, so_far.many, length-set {A = Vec Func Global});
            kept = λ j d lt.
                one_kept c.args.first c.loop-number.gathered.kept.items before e w.in-Ok.func (c.span-span.result.origin.item - c.args.first) w.index_mut.result.now w.push-in-Ok.new.self so_far.kept refl (omega (arith, from))
                (omega (arith, from, to, so_far.many)) w.index_mut.ensures.value w.in_ok-push-in-Ok.ensures.items j d lt
                ∙ ap (λ (es : List ReadFunction). kept_of (of_item (c.args.first + j) es)) (sym turn.1);
            omitted = so_far.omitted ∙ sym (omitted_of-kept before e w.in-Ok.func refl) ∙ ap omitted_of (sym turn.1);
            spans = spans e refl turn.1;
          })
      | in-Err+in_ok-push-in-Err w ↦
          let e : ReadFunction = record { span = c.span-span.result; outcome = LeftOut w.in-Err.omission } in
          let turn = one_more entries k e (Err w.in-Err.omission) low (c.span-span.ensures e) (c.in_ok-given.ensures e ∙ ap outcome_by w.in-Err.is) refl in
          subst (λ (g : Gathered). AreSortedOut c.args.arch c.args.first c.args.count g (take (k + 1) entries)) (sym w.gathered-is)
          (record {
            arch_is = so_far.arch_is;
            many = so_far.many;
            kept = λ j d lt. one_left c.args.first c.loop-number.gathered.kept.items before e w.in-Err.omission so_far.kept refl j d lt ∙ ap (λ (es : List ReadFunction). kept_of (of_item (c.args.first + j) es)) (sym turn.1);
            omitted =
                w.in_ok-push-in-Err.ensures.items
                ∙ ap (λ (xs : List Omitted). xs ++ record { start = c.span-span.result.start; size = c.span-span.result.size; origin = c.span-span.result.origin; omission = w.in-Err.omission } ∷ []) so_far.omitted
                ∙ sym (omitted_of-left before e w.in-Err.omission refl) ∙ ap omitted_of (sym turn.1);
            spans = spans e refl turn.1;
          })
    ]

pub returns : goal.returns
returns c =
    let so_far = c.loop-number.invariant in
    let entries = c.args.entries.now in
    let all : take c.loop-number.number entries ≡ entries = take_all c.loop-number.number entries (omega (arith, c.loop-number-test.false, c.len-number-end.ensures)) in
    record {
      arch = so_far.arch_is;
      kept =
          all_handed_out c.args.first c.loop-number.gathered.kept.items (take c.loop-number.number entries) so_far.kept
          ∙ ap (λ (count : ℕ). kept_by_item c.args.first count (take c.loop-number.number entries)) so_far.many ∙ ap (kept_by_item c.args.first c.args.count) all;
      omitted = so_far.omitted ∙ ap omitted_of all;
      spans = so_far.spans ∙ ap spans_of all;
    }
