use Rattle.std.proofs.Common.{◌≡◌, ◌∷◌, [], ◌++◌, List, rules, sym, ap, subst, ◌∙◌}
use Rattle.std.specs.List.{flat_map}
use Rattle.std.specs.List.Sorted.{IsPermutation}
use Rattle.std.proofs.lemmas.List.{append-nil, map-id}
use Rattle.std.proofs.lemmas.List.Concat.{flat_map-append}
use Rattle.std.proofs.lemmas.List.Sorted.{IsNonDecreasingBy-from_sort_by_key}
use Rattle.std.proofs.lemmas.Iterator.Adapters.{YieldsList-from_vec}
use Rattle.std.proofs.lemmas.Iterator.Consumers.{YieldsList-end}
use Rattle.sf_model.specs.declared.function.Func.{Func}
use Rattle.sf_merge.proofs.Joined.{are_joined, AreJoined}
use Rattle.sf_merge.proofs.list_forms.join.Goals as goal
use Rattle.sf_merge.proofs.list_forms.join.Goals.{In_ok-sort_by_key}

pub loop-part-preserved : goal.loop-part-preserved
loop-part-preserved c =
    c.in_ok-append.ensures.items ∙ ap (λ fs. fs ++ c.in-Some.part.items) c.loop-part.invariant
    ∙ sym (flat_map-append (λ part. part.items) c.loop-part.yielded (c.in-Some.part ∷ []) ∙ ap (λ fs. flat_map (λ part. part.items) c.loop-part.yielded ++ fs) (append-nil c.in-Some.part.items))

joined : (c : In_ok-sort_by_key) → AreJoined (flat_map (λ part. part.items) c.args.parts.items) c.sort_by_key.new.self.items
joined c =
    let h = c.into_iter-part-iterator.ensures.into_iter_gives in
    let given = YieldsList-from_vec {s = c.into_iter-part-iterator.result} c.args.parts.items h.0 (h.1 ∙ c.args.parts.ok.0) in
    let end = YieldsList-end given c.loop-part.yielded c.loop-part.part-iterator c.loop-part.yielded_by c.next.result c.next.new.self c.in-None.is c.next.ensures.steps in
    let all : c.loop-part.yielded ≡ c.args.parts.items = sym (map-id c.loop-part.yielded) ∙ end.0 in
    let whole = c.loop-part.invariant ∙ ap (λ parts. flat_map (λ part. part.items) parts) all in
    are_joined (flat_map (λ part. part.items) c.args.parts.items) c.sort_by_key.new.self.items c.requires.sized c.requires.apart
    (subst (λ (fs : List Func). IsPermutation fs c.sort_by_key.new.self.items) whole c.sort_by_key.ensures.permutation)
    (IsNonDecreasingBy-from_sort_by_key (λ (f : Func). f.start) _ c.in_ok-sort_by_key.ensures.sorted (λ a r q k. search rules))

pub returns-clause-joined : goal.returns-clause-joined
returns-clause-joined c = (joined c).moved

pub returns-clause-rising : goal.returns-clause-rising
returns-clause-rising c = (joined c).rising

pub returns-clause-apart : goal.returns-clause-apart
returns-clause-apart c = (joined c).apart
