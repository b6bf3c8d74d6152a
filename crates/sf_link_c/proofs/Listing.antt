-- Items in a room, one after the other.
use Rattle.std.specs.Prelude.{◌++◌, map, drop, take}
use Rattle.std.proofs.Common.{◌≡◌, ℕ, ◌+◌, ◌<◌, List, [], ◌∷◌, length, set, get_or, min, refl, sym, ap, ◌∙◌, arith}
use Rattle.std.proofs.lemmas.List.{drop-drop, drop-set-lt, drop_all, length-set, map-append, take-append-drop, take_all, take_more, take_more_set}
use Rattle.sf_link_c.specs.Omissions.{listed}

-- the first of these items are in the room from its front on, and what is after them is as it was
pub record Written {A B : Type 0} (shown : A → B) (items : List A) (count : ℕ) (now before : List B) : Type 0 where
  pub first : take count now ≡ map shown (take count items)
  pub kept : drop count now ≡ drop count before
  pub room : length now ≡ length before

later_kept : {B : Type 0} (n : ℕ) (now before : List B) → drop n now ≡ drop n before → drop (n + 1) now ≡ drop (n + 1) before
later_kept n now before e = sym (drop-drop 1 n now) ∙ ap (drop 1) e ∙ drop-drop 1 n before

pub none_written : {A B : Type 0} (shown : A → B) (items : List A) (before : List B) → Written shown items 0 before before
none_written shown items before = record { first = refl; kept = refl; room = refl }

pub one_more : {A B : Type 0} (shown : A → B) (items : List A) (count : ℕ) (now before : List B) (x : B) (d : A) → count < length items → count < length before
    → x ≡ shown (get_or items count d) → Written shown items count now before → Written shown items (count + 1) (set now count x) before
one_more shown items count now before x d lt room e h = record {
  first = take_more_set now count x (omega (room, h.room, arith))
      ∙ ap (λ xs. xs ++ x ∷ []) h.first
      ∙ ap (λ y. map shown (take count items) ++ y ∷ []) e
      ∙ sym (map-append shown (take count items) (get_or items count d ∷ []))
      ∙ ap (map shown) (sym (take_more items count d lt));
  kept = drop-set-lt (count + 1) now count x (omega arith) ∙ later_kept count now before h.kept;
  room = length-set now count x ∙ h.room;
}

-- as many as there are, or as there is room for
all_of : {A : Type 0} (items : List A) (n room : ℕ) → n ≡ min (length items) room → take n items ≡ take room items
all_of items n room e = grind (arith, take_all)

rest_of : {A B : Type 0} (items : List A) (n : ℕ) (before : List B) → n ≡ min (length items) (length before) → drop n before ≡ drop (length items) before
rest_of items n before e = grind (arith, drop_all)

pub all_written : {A B : Type 0} (shown : A → B) (items : List A) (n : ℕ) (now before : List B) → n ≡ min (length items) (length before) → Written shown items n now before → now ≡ listed shown items before
all_written shown items n now before e h =
    sym (take-append-drop n now)
    ∙ ap (λ xs. xs ++ drop n now) (h.first ∙ ap (map shown) (all_of items n (length before) e))
    ∙ ap (λ xs. map shown (take (length before) items) ++ xs) (h.kept ∙ rest_of items n before e)
