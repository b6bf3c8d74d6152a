-- What is found in lists with the same elements, where exactly one can be found.
use Rattle.std.specs.List.{find}
use Rattle.std.specs.List.Sorted.{IsPermutation}
use Rattle.std.proofs.Common.{◌≡◌, Bool, List, Option, Some, None, refl, sym, ap, ◌∙◌}
use Rattle.std.proofs.lemmas.List.Sorted.{IsPermutation-sym}
use Rattle.sf_model.proofs.Unions.{OnePasses, found, moved, some_found}

pub found_alike : {X : Type 0} (p : X → Bool) (xs ys : List X) → IsPermutation xs ys → OnePasses p ys → find p xs ≡ find p ys
found_alike p xs ys same one = at_both (find p xs) (find p ys) refl refl
  where
    at_both : (r s : Option _) → find p xs ≡ r → find p ys ≡ s → find p xs ≡ find p ys
    at_both None None e e' = e ∙ sym e'
    at_both None (Some y) e e' =
        let there = found p ys y e' in
        absurd (some_found p xs y there.passes (moved ys xs y (IsPermutation-sym xs ys same) there.within) e)
    at_both (Some x) None e e' =
        let here = found p xs x e in
        absurd (some_found p ys x here.passes (moved xs ys x same here.within) e')
    at_both (Some x) (Some y) e e' =
        let here = found p xs x e in
        let there = found p ys y e' in
        e ∙ ap Some (one x y (moved xs ys x same here.within) there.within here.passes there.passes) ∙ sym e'
