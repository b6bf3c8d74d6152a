use Rattle.std.proofs.Common.{◌≡◌, Bor, List, ℕ, length, map, sym, subst, ap, ◌∙◌}
use Rattle.std.specs.List.Sorted.{IsNonDecreasingBy, IsPermutation}
use Rattle.std.proofs.lemmas.List.Sorted.{length_permutation, list_any-IsPermutation}
use Rattle.std.proofs.lemmas.List.{with_items_is}
use Rattle.std.specs.List.{list_any}
use Rattle.std.specs.Vec.{with_items}
use Rattle.sf_modules.specs.declared.stretch.Stretch.{Stretch}
use Rattle.sf_modules.specs.Name.{name_number}
use Rattle.sf_modules.specs.Stretch.{AreReached, has_place, start_point}
use Rattle.sf_modules.proofs.stretches.Stretches.new.Goals as goal

pub invariant_of-result : goal.invariant_of-result
invariant_of-result c =
    let old = c.in_ok-stretches.stretches in
    let new = c.put_in_order.new.stretches in
    let moved = subst (λ (xs : List Stretch). IsPermutation xs new) c.deref_mut.ensures.value c.put_in_order.ensures.permutation in
    let items : (with_items old new).items ≡ new = with_items_is old new (length_permutation old.items new moved ∙ sym old.ok.0) in
    record {
      rise = subst (λ (xs : List Stretch). IsNonDecreasingBy start_point xs) (sym items) c.put_in_order.ensures.rise;
      reached = subst (λ (xs : List Stretch). AreReached xs c.in_ok-reach.reach.items) c.deref-2.ensures.value c.in_ok-reach.ensures;
    }

pub returns : goal.returns
returns c =
    let old = c.in_ok-stretches.stretches in
    let new = c.put_in_order.new.stretches in
    let moved = subst (λ (xs : List Stretch). IsPermutation xs c.put_in_order.new.stretches) c.deref_mut.ensures.value c.put_in_order.ensures.permutation in
    let count : length c.put_in_order.new.stretches ≡ c.in_ok-stretches.stretches.len = length_permutation old.items new moved ∙ sym old.ok.0 in
    let items : (with_items c.in_ok-stretches.stretches c.put_in_order.new.stretches).items ≡ c.put_in_order.new.stretches = with_items_is old new count in
    record {
      numbers = λ name. c.in_ok-numbers.ensures name ∙ ap (name_number name) (ap (map (λ (n : Bor (List ℕ)). n.now)) c.deref.ensures.value ∙ c.in_ok-names_of.ensures);
      stretches = λ name number address place n a p.
          ap (list_any (has_place number address place)) items
          ∙ sym (list_any-IsPermutation (has_place number address place) old.items new moved) ∙ c.in_ok-stretches.ensures name number address place n a p;
    }
