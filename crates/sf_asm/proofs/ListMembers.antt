-- Elements of lists: of their images, their places, and which one is found.
use Rattle.std.specs.List.{All, find}
use Rattle.std.specs.Option.{option_map}
use Rattle.std.proofs.Common.{◌≡◌, ℕ, suc, ◌<◌, Bool, true, false, cond, List, [], ◌∷◌, get_or, length, map, Some, refl, ap, arith, inl, inr}
use Rattle.std.proofs.lemmas.List.Elements.{All-nil, All-cons}
use Rattle.sf_model.proofs.Unions.{Member}

pub all_members : {X : Type 0} (xs : List X) → All (Member xs) xs
all_members [] = All-nil (Member [])
all_members {X} (x ∷ xs) = All-cons (Member (x ∷ xs)) x xs (inl refl) (later xs (all_members xs))
  where
    later : (ys : List X) → All (Member xs) ys → All (Member (x ∷ xs)) ys
    later ys h = λ k d lt. inr (h k d lt)

pub in_map : {X Y : Type 0} (f : X → Y) (xs : List X) (x : X) → Member xs x → Member (map f xs) (f x)
in_map f [] x m = m
in_map f (y ∷ ys) x (inl is) = inl (ap f is)
in_map f (y ∷ ys) x (inr m) = inr (in_map f ys x m)

-- the place of an element
pub record IsPlaced {X : Type 0} (xs : List X) (x : X) : Type 0 where
  pub place : ℕ
  pub within : place < length xs
  pub is : (d : X) → get_or xs place d ≡ x

pub placed : {X : Type 0} (xs : List X) (x : X) → Member xs x → IsPlaced xs x
placed [] x m = absurd m
placed (y ∷ ys) x (inl is) = record { place = 0; within = omega arith; is = λ d. is }
placed (y ∷ ys) x (inr m) = let h = placed ys x m in record { place = suc h.place; within = omega (arith, h.within); is = h.is }

pub find_in_map : {X Y : Type 0} (p : Y → Bool) (f : X → Y) (xs : List X) → find p (map f xs) ≡ option_map f (find (λ x. p (f x)) xs)
find_in_map p f [] = refl
find_in_map p f (x ∷ xs) = at_test (p (f x)) (find_in_map p f xs)
  where
    at_test : (b : Bool) → find p (map f xs) ≡ option_map f (find (λ y. p (f y)) xs) → cond b (Some (f x)) (find p (map f xs)) ≡ option_map f (cond b (Some x) (find (λ y. p (f y)) xs))
    at_test true later = refl
    at_test false later = later
