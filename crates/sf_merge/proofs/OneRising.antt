-- There is one list of some functions whose starts rise.
use Rattle.std.specs.List.Sorted.{IsPermutation}
use Rattle.std.proofs.Common.{◌≡◌, ℕ, suc, ◌+◌, ◌<◌, ◌≤◌, List, [], ◌∷◌, All, length, get_or, refl, ap, subst, ◌∙◌, arith}
use Rattle.std.proofs.lemmas.List.Elements.{All-nil, All-cons, All-head, All-tail, All-weaker}
use Rattle.std.proofs.lemmas.List.Sorted.{All-permutation, IsPermutation-sym, length_permutation}
use Rattle.sf_model.specs.declared.function.Func.{Func}
use Rattle.sf_merge.specs.Joining.{RisesStrictly}

rest_rises : (f : Func) (fs : List Func) → RisesStrictly (f ∷ fs) → RisesStrictly fs
rest_rises f fs up = λ k d within.
    let place : suc k + 1 ≡ suc (k + 1) = omega arith in
    subst (λ (m : ℕ). (get_or fs k d).start < (get_or (f ∷ fs) m d).start) place (up (suc k) d (omega (within, arith)))

-- all later functions start after the first
behind_first : (f : Func) (fs : List Func) → RisesStrictly (f ∷ fs) → All (λ (g : Func). f.start < g.start) fs
behind_first f [] up = All-nil (λ (g : Func). f.start < g.start)
behind_first f (g ∷ gs) up =
    let next : f.start < g.start = up 0 f (omega arith) in
    All-cons (λ (h : Func). f.start < h.start) g gs next
    (All-weaker (λ (h : Func). g.start < h.start) (λ (h : Func). f.start < h.start) (λ h lt. omega (next, lt, arith)) gs (behind_first g gs (rest_rises f (g ∷ gs) up)))

-- what holds of all of the one list holds of all of the other
abbrev Carries : List Func → List Func → Type 1
Carries fs gs = (P : Func → Type 0) → All P fs → All P gs

from_first : (f : Func) (fs : List Func) → RisesStrictly (f ∷ fs) → All (λ (g : Func). f.start ≤ g.start) (f ∷ fs)
from_first f fs up =
    All-cons (λ (g : Func). f.start ≤ g.start) f fs (omega arith) (All-weaker (λ (g : Func). f.start < g.start) (λ (g : Func). f.start ≤ g.start) (λ g lt. omega (lt, arith)) fs (behind_first f fs up))

first_alone : (f : Func) (fs : List Func) → RisesStrictly (f ∷ fs) → All (λ (g : Func). g.start ≡ f.start → g ≡ f) (f ∷ fs)
first_alone f fs up =
    All-cons (λ (g : Func). g.start ≡ f.start → g ≡ f) f fs (λ e. refl)
    (All-weaker (λ (g : Func). f.start < g.start) (λ (g : Func). g.start ≡ f.start → g ≡ f) (λ g lt e. absurd (omega (lt, e, arith))) fs (behind_first f fs up))

rest_carried : (f g : Func) (fs gs : List Func) → f.start ≡ g.start → RisesStrictly (g ∷ gs) → Carries (f ∷ fs) (g ∷ gs) → Carries fs gs
rest_carried f g fs gs e up carried P all =
    let later = All-tail (λ (x : Func). g.start < x.start → P x) g gs (carried (λ (x : Func). g.start < x.start → P x)
    (All-cons (λ (x : Func). g.start < x.start → P x) f fs (λ lt. absurd (omega (lt, e, arith))) (All-weaker P (λ (x : Func). g.start < x.start → P x) (λ x p lt. p) fs all))) in
    λ k d within. later k d within (behind_first g gs up k d within)

same_list : (fs gs : List Func) → length fs ≡ length gs → RisesStrictly fs → RisesStrictly gs → Carries fs gs → Carries gs fs → fs ≡ gs
same_list [] [] n up up' there back = refl
same_list [] (g ∷ gs) n up up' there back = absurd (omega (n, arith))
same_list (f ∷ fs) [] n up up' there back = absurd (omega (n, arith))
same_list (f ∷ fs) (g ∷ gs) n up up' there back =
    let above : g.start ≤ f.start = All-head (λ (x : Func). g.start ≤ x.start) f fs (back (λ (x : Func). g.start ≤ x.start) (from_first g gs up')) in
    let below : f.start ≤ g.start = All-head (λ (x : Func). f.start ≤ x.start) g gs (there (λ (x : Func). f.start ≤ x.start) (from_first f fs up)) in
    let starts : f.start ≡ g.start = omega (above, below, arith) in
    let turned : g.start ≡ f.start = omega (above, below, arith) in
    let count : length fs ≡ length gs = omega (n, arith) in
    let first : f ≡ g = All-head (λ (x : Func). x.start ≡ g.start → x ≡ g) f fs (back (λ (x : Func). x.start ≡ g.start → x ≡ g) (first_alone g gs up')) starts in
    ap (λ x. x ∷ fs) first
    ∙ ap (λ xs. g ∷ xs) (same_list fs gs count (rest_rises f fs up) (rest_rises g gs up') (rest_carried f g fs gs starts up' there) (rest_carried g f gs fs turned up back))

pub one_rising : (fs gs : List Func) → IsPermutation fs gs → RisesStrictly fs → RisesStrictly gs → fs ≡ gs
one_rising fs gs moved up up' =
    let long = length_permutation fs gs moved in
    same_list fs gs (omega (long, arith)) up up' (λ P all. All-permutation P fs gs moved all) (λ P all. All-permutation P gs fs (IsPermutation-sym fs gs moved) all)
