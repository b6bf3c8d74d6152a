-- The first function that passes a test, by its number.
use Rattle.std.specs.Prelude.{nat_le, nat_lt, ◌&&◌}
use Rattle.std.specs.List.{find}
use Rattle.std.proofs.Common.{◌≡◌, ℕ, zero, suc, ◌+◌, ◌<◌, Bool, true, false, cond, IsTrue, List, [], ◌∷◌, length, drop, get_or, Some, None, refl, sym, ap, ◌∙◌, arith}
use Rattle.std.proofs.lemmas.List.{drop_more}
use Rattle.sf_model.specs.declared.function.Func.{Func}
use Rattle.sf_model.specs.declared.function.FuncHead.{FuncHead}
use Rattle.sf_model.specs.Lookup.{contains}
use Rattle.sf_decode.specs.View.{head_of}

tested : {X : Type 0} (p : X → Bool) (xs : List X) (i : ℕ) (x : X) (b : Bool) → i < length xs → get_or xs i x ≡ x → p x ≡ b → find p (drop i xs) ≡ cond b (Some x) (find p (drop (i + 1) xs))
tested p xs i x b lt at t =
    ap (find p) (drop_more xs i x lt) ∙ ap (λ y. cond (p y) (Some y) (find p (drop (i + 1) xs))) at ∙ ap (λ c. cond c (Some x) (find p (drop (i + 1) xs))) t

-- the member with a number passes, or fails
pub takes : {X : Type 0} (p : X → Bool) (xs : List X) (i : ℕ) (x : X) → i < length xs → get_or xs i x ≡ x → p x ≡ true → find p (drop i xs) ≡ Some x
takes p xs i x = tested p xs i x true

pub skips : {X : Type 0} (p : X → Bool) (xs : List X) (i : ℕ) (x : X) → i < length xs → get_or xs i x ≡ x → p x ≡ false → find p (drop i xs) ≡ find p (drop (i + 1) xs)
skips p xs i x = tested p xs i x false

-- all members fail
pub none_passes : {X : Type 0} (p : X → Bool) (xs : List X) → ((k : ℕ) (d : X) → k < length xs → p (get_or xs k d) ≡ false) → find p xs ≡ None
none_passes p [] h = refl
none_passes p (x ∷ xs) h =
    let here : p x ≡ false = h 0 x (omega arith) in
    rw here (none_passes p xs (λ k d lt. h (suc k) d (omega (lt, arith))))

-- all members before one fail
pub first_passes : {X : Type 0} (p : X → Bool) (xs : List X) (i : ℕ) (e : X) → i < length xs → ((k : ℕ) (d : X) → k < i → p (get_or xs k d) ≡ false) → p (get_or xs i e) ≡ true
    → find p xs ≡ Some (get_or xs i e)
first_passes p [] i e lt h t = absurd (omega (lt, arith))
first_passes p (x ∷ xs) zero e lt h t = rw t refl
first_passes p (x ∷ xs) (suc i) e lt h t =
    let here : p x ≡ false = h 0 x (omega arith) in
    rw here (first_passes p xs i e (omega (lt, arith)) (λ k d before. h (suc k) d (omega (before, arith))) t)

-- what is found passes, and is a member
pub found_passes : {X : Type 0} (p : X → Bool) (xs : List X) (x : X) → find p xs ≡ Some x → IsTrue (p x)
found_passes p [] x e = absurd (let no : None ≡ Some x = e in cc)
found_passes p (y ∷ ys) x e = by_test (p y) refl e (found_passes p ys x)
  where
    by_test : (b : Bool) → p y ≡ b → cond b (Some y) (find p ys) ≡ Some x → (find p ys ≡ Some x → IsTrue (p x)) → IsTrue (p x)
    by_test true t here later = let same : y ≡ x = cc in rw (← same) t
    by_test false t here later = later here

-- a function contains an address by its start and size alone
pub contains_head : (pc : ℕ) (f : Func) (head : FuncHead) (b : Bool) → head ≡ head_of f → b ≡ (nat_le head.start pc && nat_lt pc (head.start + head.size)) → contains pc f ≡ b
contains_head pc f head b e h = sym (h ∙ ap (λ (x : FuncHead). nat_le x.start pc && nat_lt pc (x.start + x.size)) e)
