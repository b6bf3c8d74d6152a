-- Neighbours that share an address, seen in another way.
use Rattle.std.specs.List.{AllByRecursion, find, zip}
use Rattle.std.specs.Option.{option_map}
use Rattle.std.proofs.Common.{◌≡◌, ℕ, Bool, true, false, List, [], ◌∷◌, All, map, Option, Some, None, refl, ap, ◌∙◌}
use Rattle.std.proofs.lemmas.List.Elements.{recursion_from_All}
use Rattle.sf_functions.specs.Neighbours.{first_overlap, overlap_by}

module _ {X Y : Type 0} (view : X → Y) (start size : X → ℕ) (seen_start seen_size : Y → ℕ) where
  -- start and size are seen as they are
  abbrev pub IsSeen : X → Type 0
  IsSeen x = (seen_start (view x) ≡ start x) × (seen_size (view x) ≡ size x)

  abbrev pub both_seen : X × X → Y × Y
  both_seen pair = (view pair.0, view pair.1)

  overlap_is : (x y : X) → IsSeen x → IsSeen y → overlap_by seen_start seen_size (view x, view y) ≡ overlap_by start size (x, y)
  overlap_is x y h g = rw (h.0, h.1, g.0) refl

  first_one : (x y : X) (ys : List X) (b : Bool) → overlap_by start size (x, y) ≡ b → overlap_by seen_start seen_size (view x, view y) ≡ b
      → find (overlap_by seen_start seen_size) (zip (map view (y ∷ ys)) (map view ys)) ≡ option_map both_seen (find (overlap_by start size) (zip (y ∷ ys) ys))
      → find (overlap_by seen_start seen_size) (zip (map view (x ∷ y ∷ ys)) (map view (y ∷ ys))) ≡ option_map both_seen (find (overlap_by start size) (zip (x ∷ y ∷ ys) (y ∷ ys)))
  first_one x y ys true e is later = rw (e, is) refl
  first_one x y ys false e is later = rw (e, is) later

  first_is : (x : X) (xs : List X) → AllByRecursion IsSeen (x ∷ xs)
      → find (overlap_by seen_start seen_size) (zip (map view (x ∷ xs)) (map view xs)) ≡ option_map both_seen (find (overlap_by start size) (zip (x ∷ xs) xs))
  first_is x [] h = refl
  first_is x (y ∷ ys) h = first_one x y ys (overlap_by start size (x, y)) refl (overlap_is x y h.0 h.1.0) (first_is y ys h.1)

  by_recursion : (xs : List X) → AllByRecursion IsSeen xs → first_overlap seen_start seen_size (map view xs) ≡ option_map both_seen (first_overlap start size xs)
  by_recursion [] h = refl
  by_recursion (x ∷ xs) h = first_is x xs h

  pub seen_overlap : (xs : List X) → All IsSeen xs → first_overlap seen_start seen_size (map view xs) ≡ option_map both_seen (first_overlap start size xs)
  seen_overlap xs h = by_recursion xs (recursion_from_All IsSeen xs h)

  -- with what is made of two neighbours
  made : {F : Type 0} (of_seen : Y × Y → F) (of_both : X × X → F) → ((pair : X × X) → of_seen (both_seen pair) ≡ of_both pair) → (found : Option (X × X))
      → option_map of_seen (option_map both_seen found) ≡ option_map of_both found
  made of_seen of_both same None = refl
  made of_seen of_both same (Some pair) = ap Some (same pair)

  pub made_of_overlap : {F : Type 0} (of_seen : Y × Y → F) (of_both : X × X → F) → ((pair : X × X) → of_seen (both_seen pair) ≡ of_both pair) → (xs : List X) → All IsSeen xs
      → option_map of_seen (first_overlap seen_start seen_size (map view xs)) ≡ option_map of_both (first_overlap start size xs)
  made_of_overlap of_seen of_both same xs h = ap (option_map of_seen) (seen_overlap xs h) ∙ made of_seen of_both same (first_overlap start size xs)
