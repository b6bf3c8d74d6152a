-- Functions with rows, of a list in which each function may have rows.
use Rattle.std.specs.List.{AllByRecursion, cons_option, filter, filter_map}
use Rattle.std.specs.Option.{is_some}
use Rattle.std.proofs.Common.{◌≡◌, ◌<◌, ℕ, true, cond, List, [], ◌∷◌, length, get_or, map, Option, Some, None, refl, sym, ap, ◌∙◌, arith}
use Rattle.std.proofs.lemmas.List.{get_or-map, length-map}
use Rattle.std.proofs.lemmas.List.Elements.{recursion_from_All}
use Rattle.sf_functions.specs.WithRows.{HaveRows, has_rows}

module _ {X Y : Type 0} (stored : X → Option Y) where
  one_more : (x : X) (xs : List X) (o : Option Y) → stored x ≡ o → filter_map stored (filter (has_rows stored) xs) ≡ filter_map stored xs
      → filter_map stored (cond (is_some o) (x ∷ filter (has_rows stored) xs) (filter (has_rows stored) xs)) ≡ cons_option o (filter_map stored xs)
  one_more x xs (Some y) is others = rw is (ap (λ (ys : List Y). y ∷ ys) others)
  one_more x xs None is others = others

  -- functions without rows are not stored
  pub stored_alone : (xs : List X) → filter_map stored (filter (has_rows stored) xs) ≡ filter_map stored xs
  stored_alone [] = refl
  stored_alone (x ∷ xs) = one_more x xs (stored x) refl (stored_alone xs)

  one_stored : (x : X) (xs : List X) (o : Option Y) → is_some o ≡ true → map stored xs ≡ map Some (filter_map stored xs) → o ∷ map stored xs ≡ map Some (cons_option o (filter_map stored xs))
  one_stored x xs (Some y) is others = ap (λ (ys : List (Option Y)). Some y ∷ ys) others
  one_stored x xs None is others = absurd (cc is)

  each_stored : (xs : List X) → AllByRecursion (λ (x : X). has_rows stored x ≡ true) xs → map stored xs ≡ map Some (filter_map stored xs)
  each_stored [] are = refl
  each_stored (x ∷ xs) are = one_stored x xs (stored x) are.0 (each_stored xs are.1)

  each_is_stored : (xs : List X) → HaveRows stored xs → map stored xs ≡ map Some (filter_map stored xs)
  each_is_stored xs are = each_stored xs (recursion_from_All (λ (x : X). has_rows stored x ≡ true) xs are)

  -- how many functions with rows there are
  pub stored_len : (xs : List X) → HaveRows stored xs → length (filter_map stored xs) ≡ length xs
  stored_len xs are = sym (length-map (filter_map stored xs) Some) ∙ ap length (sym (each_is_stored xs are)) ∙ length-map xs stored

  -- the function with a number
  pub stored_at : (xs : List X) (i : ℕ) (x : X) (d : Y) → HaveRows stored xs → i < length xs → stored (get_or xs i x) ≡ Some (get_or (filter_map stored xs) i d)
  stored_at xs i x d are low =
      sym (get_or-map stored xs i x None low) ∙ ap (λ (ys : List (Option Y)). get_or ys i None) (each_is_stored xs are)
      ∙ get_or-map Some (filter_map stored xs) i d None (omega (arith, low, stored_len xs are))
