-- Going over numbers from 0 on.
use Rattle.std.specs.List.{find, list_all, list_any, range_with_len}
use Rattle.std.specs.Prelude.{◌&&◌, ◌||◌}
use Rattle.std.proofs.Common.{◌≡◌, ℕ, suc, ◌+◌, ◌-◌, ◌<◌, ◌≤◌, Bool, true, false, cond, List, ◌∷◌, Some, None, ap, ◌∙◌, arith}

-- what is left of n numbers after the first i
abbrev pub left_of : (n i : ℕ) → List ℕ
left_of n i = range_with_len i (n - i)

range-next : (n i : ℕ) → i < n → left_of n i ≡ i ∷ left_of n (i + 1)
range-next n i lt = let left : n - i ≡ suc (n - (i + 1)) = omega (lt, arith) in ap (range_with_len i) left

pub takes : (p : ℕ → Bool) (n i : ℕ) → i < n → p i ≡ true → find p (left_of n i) ≡ Some i
takes p n i lt t = ap (find p) (range-next n i lt) ∙ ap (λ (b : Bool). cond b (Some i) (find p (left_of n (i + 1)))) t

pub skips : (p : ℕ → Bool) (n i : ℕ) → i < n → p i ≡ false → find p (left_of n i) ≡ find p (left_of n (i + 1))
skips p n i lt t = ap (find p) (range-next n i lt) ∙ ap (λ (b : Bool). cond b (Some i) (find p (left_of n (i + 1)))) t

pub none_left : (p : ℕ → Bool) (n i : ℕ) → n ≤ i → find p (left_of n i) ≡ None
none_left p n i le = let none : n - i ≡ 0 = omega (le, arith) in ap (λ (k : ℕ). find p (range_with_len i k)) none

pub starts : {X : Type 0} (f : List ℕ → X) (n m : ℕ) → n ≡ m → f (left_of n 0) ≡ f (range_with_len 0 m)
starts f n m e = let all : n - 0 ≡ m = omega (e, arith) in ap (λ (k : ℕ). f (range_with_len 0 k)) all

-- whether all pass
pub all_next : (p : ℕ → Bool) (n i : ℕ) → i < n → p i ≡ true → list_all p (left_of n i) ≡ list_all p (left_of n (i + 1))
all_next p n i lt t = ap (list_all p) (range-next n i lt) ∙ ap (λ (b : Bool). b && list_all p (left_of n (i + 1))) t

pub not_all : (p : ℕ → Bool) (n i : ℕ) → i < n → p i ≡ false → list_all p (left_of n i) ≡ false
not_all p n i lt t = ap (list_all p) (range-next n i lt) ∙ ap (λ (b : Bool). b && list_all p (left_of n (i + 1))) t

pub all_end : (p : ℕ → Bool) (n i : ℕ) → n ≤ i → list_all p (left_of n i) ≡ true
all_end p n i le = let none : n - i ≡ 0 = omega (le, arith) in ap (λ (k : ℕ). list_all p (range_with_len i k)) none

-- whether one does
pub any_next : (p : ℕ → Bool) (n i : ℕ) → i < n → p i ≡ false → list_any p (left_of n i) ≡ list_any p (left_of n (i + 1))
any_next p n i lt t = ap (list_any p) (range-next n i lt) ∙ ap (λ (b : Bool). b || list_any p (left_of n (i + 1))) t

pub any_here : (p : ℕ → Bool) (n i : ℕ) → i < n → p i ≡ true → list_any p (left_of n i) ≡ true
any_here p n i lt t = ap (list_any p) (range-next n i lt) ∙ ap (λ (b : Bool). b || list_any p (left_of n (i + 1))) t

pub any_end : (p : ℕ → Bool) (n i : ℕ) → n ≤ i → list_any p (left_of n i) ≡ false
any_end p n i le = let none : n - i ≡ 0 = omega (le, arith) in ap (λ (k : ℕ). list_any p (range_with_len i k)) none
