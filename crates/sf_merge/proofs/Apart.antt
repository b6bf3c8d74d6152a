-- Functions in order, no two of which share an address.
use Rattle.std.specs.Prelude.{nat_lt}
use Rattle.std.specs.List.{AllAdjacentBelow, AllPairs}
use Rattle.std.specs.Option.{option_map}
use Rattle.std.proofs.Common.{◌≡◌, ◌+◌, ◌<◌, ◌≤◌, Bool, true, false, cond, List, [], ◌∷◌, All, length, get_or, map, Option, Some, None, refl, arith, inl, inr}
use Rattle.std.proofs.lemmas.Bool.{and_parts, ltb-true, ltb-false}
use Rattle.std.proofs.lemmas.List.Elements.{All-nil, All-cons, All-head, All-tail, All-weaker, All-map}
use Rattle.std.proofs.lemmas.List.Kept.{AllPairs-cons, AllPairs-filter}
use Rattle.sf_model.specs.declared.function.Func.{Func}
use Rattle.sf_model.specs.Union.{is_of_use, IsApart}
use Rattle.sf_functions.specs.Neighbours.{first_overlap, overlap_by}
use Rattle.sf_merge.specs.declared.located.Located.{Located}
use Rattle.sf_merge.specs.Located.{located_size, located_start}
use Rattle.sf_merge.specs.Merging.{shared_address_fault, shared_by, merged_functions}
use Rattle.sf_model.proofs.Unions.{pairs_head, pairs_tail}

-- the one ends where the other begins, or before
abbrev pub EndsBy : Func → Func → Type 0
EndsBy f g = f.start + f.size ≤ g.start

abbrev pub function_of : Located → Func
function_of l = l.func

pub all_back : {X Y : Type 0} (P : Y → Type 0) (f : X → Y) (xs : List X) → All P (map f xs) → All (λ x. P (f x)) xs
all_back P f [] h = All-nil (λ x. P (f x))
all_back P f (x ∷ xs) h = All-cons (λ x. P (f x)) x xs (All-head P (f x) (map f xs) h) (all_back P f xs (All-tail P (f x) (map f xs) h))

pub pairs_none : {X : Type 0} (R : X → X → Type 0) → AllPairs R []
pairs_none R = λ i j d lt within. absurd (omega (within, arith))

pub pairs_weaker : {X : Type 0} (R S : X → X → Type 0) → ((x y : X) → R x y → S x y) → (xs : List X) → AllPairs R xs → AllPairs S xs
pairs_weaker R S f xs h = λ i j d lt within. f (get_or xs i d) (get_or xs j d) (h i j d lt within)

pub pairs_map : {X Y : Type 0} (R : Y → Y → Type 0) (f : X → Y) (xs : List X) → AllPairs (λ x y. R (f x) (f y)) xs → AllPairs R (map f xs)
pairs_map R f [] h = pairs_none R
pairs_map R f (x ∷ xs) h =
    AllPairs-cons R (f x) (map f xs) (All-map (R (f x)) f xs (pairs_head (λ x y. R (f x) (f y)) x xs h)) (pairs_map R f xs (pairs_tail (λ x y. R (f x) (f y)) x xs h))

pub adjacent : {X : Type 0} (R : X → X → Type 0) (xs : List X) → AllPairs R xs → AllAdjacentBelow R xs (length xs)
adjacent R xs h = λ k d lt. h k (k + 1) d (omega arith) lt

-- ---- no neighbours share an address, and so no two functions do
not_shared : (a b : Located) (later : Option (Located × Located)) → cond (overlap_by located_start located_size (a, b)) (Some (a, b)) later ≡ None → EndsBy a.func b.func × (later ≡ None)
not_shared a b later e = at_test (overlap_by located_start located_size (a, b)) refl e
  where
    at_test : (t : Bool) → overlap_by located_start located_size (a, b) ≡ t → cond t (Some (a, b)) later ≡ None → EndsBy a.func b.func × (later ≡ None)
    at_test true t e = cc
    at_test false t e = (ltb-false b.func.start (a.func.start + a.func.size) t, e)

record Follow (a : Located) (ls : List Located) : Type 0 where
  behind : All (λ (l : Located). EndsBy a.func l.func) ls
  pairs : AllPairs (λ (l : Located) (m : Located). EndsBy l.func m.func) (a ∷ ls)

follow : (a : Located) (ls : List Located) → first_overlap located_start located_size (a ∷ ls) ≡ None → Follow a ls
follow a [] e = record {
  behind = All-nil (λ (l : Located). EndsBy a.func l.func);
  pairs = AllPairs-cons (λ (l : Located) (m : Located). EndsBy l.func m.func) a [] (All-nil (λ (l : Located). EndsBy a.func l.func)) (pairs_none (λ (l : Located) (m : Located). EndsBy l.func m.func));
}
follow a (b ∷ ls) e =
    let first = not_shared a b (first_overlap located_start located_size (b ∷ ls)) e in
    let rest = follow b ls first.1 in
    let behind = All-cons (λ (l : Located). EndsBy a.func l.func) b ls first.0 (All-weaker (λ (l : Located). EndsBy b.func l.func) (λ (l : Located). EndsBy a.func l.func) (λ l h. omega (first.0, h, arith)) ls rest.behind) in
    record { behind = behind; pairs = AllPairs-cons (λ (l : Located) (m : Located). EndsBy l.func m.func) a (b ∷ ls) behind rest.pairs }

none_found : (o : Option (Located × Located)) → option_map shared_by o ≡ None → o ≡ None
none_found None e = refl
none_found (Some pair) e = cc

pub none_share : (ls : List Located) → shared_address_fault ls ≡ None → AllPairs (λ (l : Located) (m : Located). EndsBy l.func m.func) ls
unfolding shared_address_fault
none_share [] e = pairs_none (λ (l : Located) (m : Located). EndsBy l.func m.func)
none_share (l ∷ ls) e = (follow l ls (none_found (first_overlap located_start located_size (l ∷ ls)) e)).pairs

-- ---- the functions that are written
pub written_apart : (ls : List Located) → shared_address_fault ls ≡ None → AllPairs EndsBy (merged_functions ls)
written_apart ls e = AllPairs-filter EndsBy is_of_use (map function_of ls) (pairs_map EndsBy function_of ls (none_share ls e))

-- a function that is of use
pub record Useful (f : Func) : Type 0 where
  pub size : 0 < f.size
  pub rows : 0 < length f.rows

pub useful : (f : Func) → is_of_use f ≡ true → Useful f
useful f e =
    let two = and_parts (nat_lt 0 f.size) (nat_lt 0 (length f.rows)) e in
    record { size = ltb-true 0 f.size two.0; rows = ltb-true 0 (length f.rows) two.1 }

pub rises : (fs : List Func) → All (λ (f : Func). 0 < f.size) fs → AllAdjacentBelow EndsBy fs (length fs) → AllAdjacentBelow (λ (f : Func) (g : Func). f.start < g.start) fs (length fs)
rises fs sizes apart = λ k d lt. let size = sizes k d (omega (lt, arith)) in let ends = apart k d lt in omega (size, ends, arith)

-- ---- apart in either order
pub turned : (f g : Func) → IsApart f g → IsApart g f
turned f g (inl none) = inr (inl none)
turned f g (inr (inl none)) = inl none
turned f g (inr (inr (inl before))) = inr (inr (inr before))
turned f g (inr (inr (inr behind))) = inr (inr (inl behind))
