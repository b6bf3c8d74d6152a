-- Spans and points: which span decides at an address.
use Rattle.std.specs.Prelude.{nat_le, nat_lt, ◌⊎◌}
use Rattle.std.specs.List.{Contains, find}
use Rattle.std.specs.List.Sorted.{IsNonDecreasing, IsPermutation}
use Rattle.std.specs.Option.{option_map}
use Rattle.std.specs.Result.{OkIff, is_err}
use Rattle.std.proofs.Common.{◌≡◌, Result, Ok, Err, ℕ, zero, suc, ◌+◌, ◌^◌, ◌<◌, ◌≤◌, Bool, true, false, cond, ◌&&◌, List, [], ◌∷◌, ◌++◌, All, length, get_or, map, take, Option, Some, None, refl, sym, ap, subst, ◌∙◌, arith, inl, inr}
use Rattle.std.proofs.lemmas.Bool.{and_parts, cases_lt, le-leb, leb-true, lt-leb, lt-ltb, le-ltb, ltb-true}
use Rattle.std.proofs.lemmas.List.{get_or_default, append_assoc, length-append, length-map, map-append, take_all, take_more}
use Rattle.std.proofs.lemmas.List.Elements.{All-head, All-push, All-tail, All-weaker, Contains-append_left, Contains-push}
use Rattle.std.proofs.lemmas.List.Sorted.{Contains-permutation}
use Rattle.sf_lookup.specs.declared.span.Span.{Span}
use Rattle.sf_lookup.specs.Span.{HasEnds, IsReached, answer_at, answer_of, covers}
use Rattle.sf_lookup.specs.Starts.{IsLastStart}

-- ---- the first that passes
pub find-same : {X : Type 0} (p q : X → Bool) (xs : List X) → All (λ (x : X). p x ≡ q x) xs → find p xs ≡ find q xs
find-same p q [] all = refl
find-same p q (x ∷ xs) all =
    ap (λ (b : Bool). cond b (Some x) (find p xs)) (All-head (λ x. p x ≡ q x) x xs all)
    ∙ ap (λ (o : Option _). cond (q x) (Some x) o) (find-same p q xs (All-tail (λ x. p x ≡ q x) x xs all))

pub find-none : {X : Type 0} (p : X → Bool) (xs : List X) → All (λ (x : X). p x ≡ false) xs → find p xs ≡ None
find-none p [] all = refl
find-none p (x ∷ xs) all = ap (λ (b : Bool). cond b (Some x) (find p xs)) (All-head (λ x. p x ≡ false) x xs all) ∙ find-none p xs (All-tail (λ x. p x ≡ false) x xs all)

-- ---- lists alike
pub map-same : {X Y : Type 0} (f g : X → Y) (xs : List X) → All (λ (x : X). f x ≡ g x) xs → map f xs ≡ map g xs
map-same f g [] all = refl
map-same f g (x ∷ xs) all = ap (λ (y : _). y ∷ map f xs) (All-head (λ x. f x ≡ g x) x xs all) ∙ ap (λ (ys : List _). g x ∷ ys) (map-same f g xs (All-tail (λ x. f x ≡ g x) x xs all))

-- ---- spans
pub record IsCovered {A : Type 0} (s : Span A) (pc : ℕ) : Type 0 where
  pub from : s.start ≤ pc
  pub to : pc < s.start + s.size

pub is_covered : {A : Type 0} (s : Span A) (pc : ℕ) → covers pc s ≡ true → IsCovered s pc
is_covered s pc e = let two = and_parts (nat_le s.start pc) (nat_lt pc (s.start + s.size)) e in record { from = leb-true s.start pc two.0; to = ltb-true pc (s.start + s.size) two.1 }

pub covered : {A : Type 0} (s : Span A) (pc : ℕ) → s.start ≤ pc → pc < s.start + s.size → covers pc s ≡ true
covered s pc from to = ap (λ (b : Bool). b && nat_lt pc (s.start + s.size)) (le-leb s.start pc from) ∙ lt-ltb pc (s.start + s.size) to

-- ---- between two points no span begins or ends
place_of : (points : List ℕ) (x : ℕ) → Contains points x → (k : ℕ) × (k < length points) × (get_or points k 0 ≡ x)
place_of points x (k, lt, is) = (k, lt, get_or_default points k 0 x lt ∙ is)

-- a point comes after the address, or not after the last point that was reached
on_a_side : (points : List ℕ) (pc i : ℕ) → IsNonDecreasing points → IsReached points pc (suc i) → (x : ℕ) → Contains points x → (pc < x) ⊎ (x ≤ get_or points i 0)
on_a_side points pc i rise h x c =
    let place = place_of points x c in
    let k = place.0 in
    let is : get_or points k 0 ≡ x = place.2 in
    elim (cases_lt i k) [
      | inl after ↦
          let above : pc < get_or points k 0 = h.above k (omega (after, arith)) place.1 in
          inl (omega (above, is, arith))
      | inr upto ↦
          let low : get_or points k 0 ≤ get_or points i 0 = rise k i 0 upto (omega (h.within, arith)) in
          inr (omega (low, is, arith))
    ]

same_from : (points : List ℕ) (pc i : ℕ) → IsNonDecreasing points → IsReached points pc (suc i) → (x : ℕ) → Contains points x → nat_le x (get_or points i 0) ≡ nat_le x pc
same_from points pc i rise h x c =
    let last : get_or points i 0 ≤ pc = h.reached i (omega arith) in
    elim (on_a_side points pc i rise h x c) [
      | inl above ↦ lt-leb x (get_or points i 0) (omega (above, last, arith)) ∙ sym (lt-leb x pc above)
      | inr low ↦ le-leb x (get_or points i 0) low ∙ sym (le-leb x pc (omega (low, last, arith)))
    ]

-- an end comes after the last point that was reached exactly where it comes after the address
same_to : (points : List ℕ) (pc i : ℕ) → IsNonDecreasing points → IsReached points pc (suc i) → (x : ℕ) → Contains points x → nat_lt (get_or points i 0) x ≡ nat_lt pc x
same_to points pc i rise h x c =
    let last : get_or points i 0 ≤ pc = h.reached i (omega arith) in
    elim (on_a_side points pc i rise h x c) [
      | inl above ↦ lt-ltb (get_or points i 0) x (omega (above, last, arith)) ∙ sym (lt-ltb pc x above)
      | inr low ↦ le-ltb (get_or points i 0) x low ∙ sym (le-ltb pc x (omega (low, last, arith)))
    ]

-- an end beyond all addresses comes after both
same_end : {A : Type 0} (points : List ℕ) (pc i : ℕ) → pc < 2 ^ 64 → IsNonDecreasing points → IsReached points pc (suc i) → (s : Span A) → HasEnds points s → nat_lt (get_or points i 0) (s.start + s.size) ≡ nat_lt pc (s.start + s.size)
same_end points pc i small rise h s ends =
    elim (cases_lt (s.start + s.size) (2 ^ 64)) [
      | inl within ↦ same_to points pc i rise h (s.start + s.size) (ends.end within)
      | inr beyond ↦
          let last : get_or points i 0 ≤ pc = h.reached i (omega arith) in
          lt-ltb (get_or points i 0) (s.start + s.size) (omega (last, small, beyond, arith)) ∙ sym (lt-ltb pc (s.start + s.size) (omega (small, beyond, arith)))
    ]

covers_alike : {A : Type 0} (points : List ℕ) (pc i : ℕ) → pc < 2 ^ 64 → IsNonDecreasing points → IsReached points pc (suc i) → (s : Span A) → HasEnds points s → covers (get_or points i 0) s ≡ covers pc s
covers_alike points pc i small rise h s ends =
    ap (λ (b : Bool). b && nat_lt (get_or points i 0) (s.start + s.size)) (same_from points pc i rise h s.start ends.start)
    ∙ ap (λ (b : Bool). nat_le s.start pc && b) (same_end points pc i small rise h s ends)

all_alike : {A : Type 0} (points : List ℕ) (pc i : ℕ) → pc < 2 ^ 64 → IsNonDecreasing points → IsReached points pc (suc i) → (spans : List (Span A)) → All (HasEnds points) spans
    → All (λ (s : Span A). covers (get_or points i 0) s ≡ covers pc s) spans
all_alike points pc i small rise h spans ends = λ k d lt. covers_alike points pc i small rise h (get_or spans k d) (ends k d lt)

none_covers : {A : Type 0} (points : List ℕ) (pc : ℕ) → IsReached points pc 0 → (s : Span A) → HasEnds points s → covers pc s ≡ false
none_covers points pc h s ends =
    let place = place_of points s.start ends.start in
    let above : pc < get_or points place.0 0 = h.above place.0 (omega arith) place.1 in
    let is : get_or points place.0 0 ≡ s.start = place.2 in
    ap (λ (b : Bool). b && nat_lt pc (s.start + s.size)) (lt-leb s.start pc (omega (above, is, arith)))

get_or-answers : {A : Type 0} (spans : List (Span A)) (points : List ℕ) (i : ℕ) → i < length points → get_or (map (answer_of spans) points) i None ≡ answer_of spans (get_or points i 0)
get_or-answers spans [] i lt = absurd (omega (lt, arith))
get_or-answers spans (p ∷ ps) zero lt = refl
get_or-answers spans (p ∷ ps) (suc i) lt = get_or-answers spans ps i (omega (lt, arith))

-- the answer at the last point that was reached is that of the address
pub answer_is : {A : Type 0} (spans : List (Span A)) (points : List ℕ) (pc n : ℕ) → pc < 2 ^ 64 → IsNonDecreasing points → All (HasEnds points) spans → IsReached points pc n
    → answer_at (map (answer_of spans) points) n ≡ answer_of spans pc
answer_is spans points pc zero small rise ends h =
    sym (ap (option_map (λ (s : Span _). s.leads_to)) (find-none (covers pc) spans (λ k d lt. none_covers points pc h (get_or spans k d) (ends k d lt))))
answer_is spans points pc (suc i) small rise ends h =
    get_or-answers spans points i (omega (h.within, arith))
    ∙ ap (option_map (λ (s : Span _). s.leads_to)) (find-same (covers (get_or points i 0)) (covers pc) spans (all_alike points pc i small rise h spans ends))

-- the last start that an address has reached, among points
pub upto_last : (points : List ℕ) (pc i : ℕ) → IsNonDecreasing points → IsLastStart points pc (Some i) → IsReached points pc (suc i)
upto_last points pc i rise h = record {
  within = let within = h.0 in omega (within, arith);
  reached = λ k lt. let up = rise k i 0 (omega (lt, arith)) h.0 in let last = h.1 in omega (up, last, arith);
  above = λ k le lt. h.2 k (omega (le, arith)) lt;
}

pub none_upto : (points : List ℕ) (pc : ℕ) → IsLastStart points pc None → IsReached points pc 0
none_upto points pc h = record { within = omega arith; reached = λ k lt. absurd (omega (lt, arith)); above = λ k le lt. h k lt }

-- ---- a loop over spans
pub one_longer : (xs new : List ℕ) (x : ℕ) → new ≡ xs ++ x ∷ [] → length new ≡ length xs + 1
one_longer xs new x grown = ap length grown ∙ length-append xs (x ∷ [])

-- points that are there stay there, and a span whose ends are there is one more
more_ends : {A : Type 0} (spans : List (Span A)) (i : ℕ) (s : Span A) (points new : List ℕ) → i < length spans → s ≡ get_or spans i s → ((x : ℕ) → Contains points x → Contains new x) → HasEnds new s
    → All (HasEnds points) (take i spans) → All (HasEnds new) (take (i + 1) spans)
more_ends spans i s points new lt is stay this h =
    let earlier : All (HasEnds new) (take i spans) = All-weaker (HasEnds points) (HasEnds new) (λ t e. record { start = stay t.start e.start; end = λ fits. stay (t.start + t.size) (e.end fits) }) (take i spans) h in
    subst (All (HasEnds new)) (sym (take_more spans i s lt)) (All-push (HasEnds new) (take i spans) (get_or spans i s) earlier (subst (HasEnds new) is this))

stays : (points new : List ℕ) (x p : ℕ) → new ≡ points ++ p ∷ [] → Contains points x → Contains new x
stays points new x p grown c = subst (λ (ps : List ℕ). Contains ps x) (sym grown) (Contains-append_left points (p ∷ []) x c)

comes : (points new : List ℕ) (p : ℕ) → new ≡ points ++ p ∷ [] → Contains new p
comes points new p grown = subst (λ (ps : List ℕ). Contains ps p) (sym grown) (Contains-push points p)

-- a span with both ends
pub ends_more : {A : Type 0} (spans : List (Span A)) (i : ℕ) (s : Span A) (points middle new : List ℕ) (end : ℕ) → i < length spans → s ≡ get_or spans i s → end ≡ s.start + s.size → middle ≡ points ++ s.start ∷ []
    → new ≡ middle ++ end ∷ [] → All (HasEnds points) (take i spans) → All (HasEnds new) (take (i + 1) spans)
ends_more spans i s points middle new end lt is ends first second h =
    more_ends spans i s points new lt is (λ x c. stays middle new x end second (stays points middle x s.start first c))
    (record { start = stays middle new s.start end second (comes points middle s.start first); end = λ fits. subst (Contains new) ends (comes middle new end second) }) h

-- a span that ends beyond all addresses
pub start_more : {A : Type 0} (spans : List (Span A)) (i : ℕ) (s : Span A) (points new : List ℕ) → i < length spans → s ≡ get_or spans i s → 2 ^ 64 ≤ s.start + s.size → new ≡ points ++ s.start ∷ []
    → All (HasEnds points) (take i spans) → All (HasEnds new) (take (i + 1) spans)
start_more spans i s points new lt is beyond first h =
    more_ends spans i s points new lt is (λ x c. stays points new x s.start first c) (record { start = comes points new s.start first; end = λ fits. absurd (omega (fits, beyond, arith)) }) h

pub ends_moved : {A : Type 0} (spans : List (Span A)) (i : ℕ) (points sorted : List ℕ) → length spans ≤ i → IsPermutation points sorted → All (HasEnds points) (take i spans) → All (HasEnds sorted) spans
ends_moved spans i points sorted le moved h =
    All-weaker (HasEnds points) (HasEnds sorted)
    (λ t e. record { start = Contains-permutation points sorted t.start moved e.start; end = λ fits. Contains-permutation points sorted (t.start + t.size) moved (e.end fits) }) spans
    (subst (All (HasEnds points)) (take_all i spans le) h)

-- ---- all put in order
listed_answers : {A : Type 0} (spans : List (Span A)) (points listed : List ℕ) (old answers : List (Option A)) → listed ≡ points → old ≡ []
    → answers ≡ old ++ map (answer_of spans) listed → answers ≡ map (answer_of spans) points
listed_answers spans points listed old answers e none made =
    made ∙ ap (λ (xs : List (Option _)). xs ++ map (answer_of spans) listed) none ∙ ap (map (answer_of spans)) e

pub answers_more : {A : Type 0} (spans swept : List (Span A)) (points : List ℕ) (i : ℕ) (before now new : List (Option A)) (answer : Option A) → swept ≡ spans → i < length points
    → answer ≡ answer_of swept (get_or points i 0) → now ≡ before ++ map (answer_of spans) (take i points) → new ≡ now ++ answer ∷ []
    → new ≡ before ++ map (answer_of spans) (take (i + 1) points)
answers_more spans swept points i before now new answer same lt is so_far made =
    let point = get_or points i 0 in
    let listed = map (answer_of spans) (take i points) in
    let value : answer ≡ answer_of spans point = is ∙ ap (λ (ss : List (Span _)). answer_of ss point) same in
    let more : map (answer_of spans) (take (i + 1) points) ≡ listed ++ answer_of spans point ∷ [] =
    ap (map (answer_of spans)) (take_more points i 0 lt) ∙ map-append (answer_of spans) (take i points) (point ∷ []) in
    made
    ∙ ap (λ (xs : List (Option _)). xs ++ answer ∷ []) so_far
    ∙ ap (λ (a : Option _). (before ++ listed) ++ a ∷ []) value
    ∙ append_assoc before listed (answer_of spans point ∷ [])
    ∙ ap (λ (xs : List (Option _)). before ++ xs) (sym more)

pub as_many : {A : Type 0} (spans : List (Span A)) (points listed : List ℕ) (old answers : List (Option A)) → listed ≡ points → old ≡ []
    → answers ≡ old ++ map (answer_of spans) listed → length answers ≡ length points
as_many spans points listed old answers e none made =
    ap length (listed_answers spans points listed old answers e none made) ∙ length-map points (answer_of spans)

pub fits_word : {E : Type 0} (n : ℕ) (r : Result ℕ E) (b : Bool) → OkIff r (n < 2 ^ 32) n → b ≡ is_err r → b ≡ false → n < 2 ^ 32
fits_word n (Ok x) b h e f = h.0
fits_word n (Err x) b h e f = absurd (cc)

pub in_order : {A : Type 0} (spans : List (Span A)) (points listed : List ℕ) (old answers : List (Option A)) → listed ≡ points → old ≡ [] → IsNonDecreasing points → All (HasEnds points) spans
    → answers ≡ old ++ map (answer_of spans) listed → (pc n : ℕ) → pc < 2 ^ 64 → IsReached points pc n → answer_at answers n ≡ answer_of spans pc
in_order spans points listed old answers e none rise ends made pc n small h =
    ap (λ (xs : List (Option _)). answer_at xs n) (listed_answers spans points listed old answers e none made) ∙ answer_is spans points pc n small rise ends h
