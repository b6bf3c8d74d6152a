-- A scan of spans from the least address up: the first that waits and has the point is the first of all.
use Rattle.std.specs.Prelude.{nat_le, nat_lt, ◌&&◌, ◌==◌}
use Rattle.std.specs.BinaryHeap.{IsHeap, IsUpperBound, PopsGreatest}
use Rattle.std.specs.List.{Contains}
use Rattle.std.specs.List.Sorted.{IsNonDecreasingBy, IsPermutation}
use Rattle.std.specs.Option.{option_map}
use Rattle.std.specs.Ordering.{is_lt, nat_cmp}
use Rattle.std.specs.declared.cmp.Ordering.TheVariants.{Less, Equal, Greater}
use Rattle.std.specs.declared.cmp.Reverse.{Reverse}
use Rattle.std.proofs.Common.{◌≡◌, ℕ, zero, suc, ◌+◌, ◌-◌, ◌<◌, ◌≤◌, Bool, true, false, cond, List, [], ◌∷◌, ◌++◌, All, length, get_or, take, drop, Option, Some, None, IfSome, IsSome, refl, sym, ap, subst, ◌∙◌, arith, ◌⊎◌, inl, inr}
use Rattle.std.proofs.lemmas.Bool.{cases_lt, le-ltb, lt-leb, lt-ltb}
use Rattle.std.proofs.lemmas.List.{get_or_default, take_all}
use Rattle.std.proofs.lemmas.List.Elements.{All-cons, All-contains, All-from_recursion, All-head, All-push, All-tail, All-weaker, Contains-append_left, Contains-append_right, Contains-push}
use Rattle.std.proofs.lemmas.List.Sorted.{All-permutation, Contains-permutation}
use Rattle.sf_lookup.specs.declared.span.Span.{Span}
use Rattle.sf_lookup.specs.Begins.{AreByStart, span_start}
use Rattle.sf_lookup.specs.Span.{answer_of, covers}
use Rattle.sf_lookup.specs.Sweep.{HasBegun, IsAtPoint, IsKept, last_first}
use Rattle.sf_lookup.proofs.Covering.{covered}
use Rattle.sf_lookup.proofs.Numbered.{first_passes, none_passes}

-- ---- where spans begin
pub start_is : {A : Type 0} (spans : List (Span A)) (k : ℕ) (d : Span A) → k < length spans → (get_or spans k d).start ≡ span_start spans k
start_is [] k d lt = absurd (omega (lt, arith))
start_is (s ∷ spans) zero d lt = refl
start_is (s ∷ spans) (suc k) d lt = start_is spans k d (omega (lt, arith))

pub start_got : {A : Type 0} (spans : List (Span A)) (k : ℕ) (s : Span A) → k < length spans → s ≡ get_or spans k s → s.start ≡ span_start spans k
start_got spans k s lt is = ap (λ (x : Span _). x.start) is ∙ start_is spans k s lt

pub start_past : {A : Type 0} (spans : List (Span A)) (k : ℕ) → length spans ≤ k → 0 ≡ span_start spans k
start_past [] k le = refl
start_past (x ∷ spans) zero le = absurd (omega (le, arith))
start_past (x ∷ spans) (suc k) le = start_past spans k (omega (le, arith))

-- the numbers below n
pub record AreNumbers (n : ℕ) (numbers : List ℕ) : Type 0 where
  pub each : All (λ (k : ℕ). k < n) numbers
  pub all : (k : ℕ) → k < n → Contains numbers k

pub no_number : (numbers : List ℕ) → numbers ≡ [] → AreNumbers 0 numbers
no_number numbers e = subst (AreNumbers 0) (sym e) (record { each = λ k d lt. absurd (omega (lt, arith)); all = λ k lt. absurd (omega (lt, arith)) })

pub one_number : (n : ℕ) (numbers new : List ℕ) → new ≡ numbers ++ n ∷ [] → AreNumbers n numbers → AreNumbers (n + 1) new
one_number n numbers new grown h = subst (AreNumbers (n + 1)) (sym grown) (record {
  each = All-push (λ (k : ℕ). k < n + 1) numbers n (All-weaker (λ (k : ℕ). k < n) (λ (k : ℕ). k < n + 1) (λ k lt. omega (lt, arith)) numbers h.each) (omega arith);
  all = λ k lt. upto k (cases_lt k n) lt;
})
  where
    upto : (k : ℕ) → (k < n) ⊎ (n ≤ k) → k < n + 1 → Contains (numbers ++ n ∷ []) k
    upto k (inl before) within = Contains-append_left numbers (n ∷ []) k (h.all k before)
    upto k (inr from) within = let here : n ≡ k = omega (from, within, arith) in subst (Contains (numbers ++ n ∷ [])) here (Contains-push numbers n)

pub put_in_order : {A : Type 0} (spans : List (Span A)) (n : ℕ) (numbers new : List ℕ) → n ≡ length spans → AreNumbers n numbers → IsPermutation numbers new → IsNonDecreasingBy (span_start spans) new → AreByStart spans new
put_in_order spans n numbers new all h moved rise = record {
  rise = rise;
  each = All-weaker (λ (k : ℕ). k < n) (λ (k : ℕ). k < length spans) (λ k lt. omega (lt, all, arith)) new (All-permutation (λ (k : ℕ). k < n) numbers new moved h.each);
  all = λ k lt. Contains-permutation numbers new k moved (h.all k (omega (lt, all, arith)));
}

-- ---- one more span waits
in_rest : {X : Type 0} (x y : X) (xs : List X) → Contains (y ∷ xs) x → (y ≡ x) ⊎ Contains xs x
in_rest x y xs (zero, lt, is) = inl is
in_rest x y xs (suc k, lt, is) = inr (k, omega (lt, arith), is)

in_more : {X : Type 0} (x y : X) (xs : List X) → Contains xs x → Contains (y ∷ xs) x
in_more x y xs c = Contains-append_right (y ∷ []) xs x c

rise_after : (start : ℕ → ℕ) (k : ℕ) (later : List ℕ) → IsNonDecreasingBy start (k ∷ later) → IsNonDecreasingBy start later
rise_after start k later rise = λ i j d le lt. rise (suc i) (suc j) d (omega (le, arith)) (omega (lt, arith))

pub one_waits : {A : Type 0} (spans : List (Span A)) (point : ℕ) (begun new : List (Reverse ℕ)) (n : ℕ) (later : List ℕ) → span_start spans n ≤ point → IsPermutation (record { 0 = n } ∷ begun) new → (IsHeap last_first begun → IsHeap last_first new)
    → IsAtPoint spans point begun (n ∷ later) → IsAtPoint spans point new later
one_waits {A} spans point begun new n later le moved heap h = record {
  order = heap h.order;
  by =
      All-permutation (HasBegun spans point) (this ∷ begun) new moved
      (All-cons (HasBegun spans point) this begun (record { within = All-head (λ (k : ℕ). k < length spans) n later h.each; by = le }) h.by);
  rise = rise_after (span_start spans) n later h.rise;
  each = All-tail (λ (k : ℕ). k < length spans) n later h.each;
  kept = λ k d lt. still k d (h.kept k d lt);
}
  where
    this : Reverse ℕ
    this = record { 0 = n }

    comes : (k : ℕ) (d : Span A) → (n ≡ k) ⊎ Contains later k → IsKept spans point new later k d
    comes k d (inl same) = inl (Contains-permutation (this ∷ begun) new (record { 0 = k }) moved (subst (λ (m : ℕ). Contains (this ∷ begun) (record { 0 = m })) same (0, omega arith, refl)))
    comes k d (inr c) = inr (inl c)

    still : (k : ℕ) (d : Span A) → IsKept spans point begun (n ∷ later) k d → IsKept spans point new later k d
    still k d (inl c) = inl (Contains-permutation (this ∷ begun) new (record { 0 = k }) moved (in_more (record { 0 = k }) this begun c))
    still k d (inr (inl c)) = comes k d (in_rest k n later c)
    still k d (inr (inr ended)) = inr (inr ended)

-- one more span waits: the first of a list
pub first_waits : {A : Type 0} (spans : List (Span A)) (point : ℕ) (begun new : List (Reverse ℕ)) (later : List ℕ) (d : ℕ) → 1 ≤ length later → span_start spans (get_or later 0 d) ≤ point
    → IsPermutation (record { 0 = get_or later 0 d } ∷ begun) new → (IsHeap last_first begun → IsHeap last_first new) → IsAtPoint spans point begun later → IsAtPoint spans point new (take (length later - 1) (drop 1 later))
first_waits spans point begun new [] d some le moved heap h = absurd (omega (some, arith))
first_waits spans point begun new (n ∷ later) d some le moved heap h = subst (IsAtPoint spans point new) (sym (take_all (length (n ∷ later) - 1) later (omega arith))) (one_waits spans point begun new n later le moved heap h)

-- where the first of the others begins after the point, all do
pub others_later : {A : Type 0} (spans : List (Span A)) (point : ℕ) (later : List ℕ) (d : ℕ) → point < span_start spans (get_or later 0 d) → IsNonDecreasingBy (span_start spans) later → All (λ (k : ℕ). point < span_start spans k) later
others_later spans point later d lt rise = λ k e within.
    let up = rise 0 k d (omega arith) within in
    let same = ap (span_start spans) (get_or_default later k d e within) in
    omega (lt, up, same, arith)

-- ---- a span that has ended waits no longer
pub record Popped (old : List (Reverse ℕ)) (top : Reverse ℕ) (new : List (Reverse ℕ)) : Type 0 where
  pub moved : IsPermutation old (top ∷ new)
  pub heap : PopsGreatest last_first old top new

pub popped : (r : Option (Reverse ℕ)) (old new : List (Reverse ℕ)) (top : Reverse ℕ) → 0 < length old → top ≡ get_or old 0 top → IfSome r (λ x. x ≡ get_or old 0 x) → IfSome r (λ x. IsPermutation old (x ∷ new))
    → IfSome r (λ x. PopsGreatest last_first old x new) → IsSome r → Popped old top new
popped None old new top some at is moved heap there = absurd (let differ : false ≡ true = there in cc)
popped (Some x) old new top some at is moved heap there =
    let same : x ≡ top = is ∙ get_or_default old 0 x top some ∙ sym at in
    subst (λ (y : Reverse ℕ). Popped old y new) same (record { moved = moved; heap = heap })

pub one_ended : {A : Type 0} (spans : List (Span A)) (point : ℕ) (begun new : List (Reverse ℕ)) (top : Reverse ℕ) (s : Span A) (later : List ℕ) → top.0 < length spans → covers point (get_or spans top.0 s) ≡ false → Popped begun top new
    → IsAtPoint spans point begun later → IsAtPoint spans point new later
one_ended {A} spans point begun new top s later within not pop h = record {
  order = (pop.heap h.order).0;
  by = All-tail (HasBegun spans point) top new first_all;
  rise = h.rise;
  each = h.each;
  kept = λ k d lt. still k d (h.kept k d lt);
}
  where
    first_all : All (HasBegun spans point) (top ∷ new)
    first_all = All-permutation (HasBegun spans point) begun (top ∷ new) pop.moved h.by

    same : (d : Span A) → get_or spans top.0 s ≡ get_or spans top.0 d
    same d = get_or_default spans top.0 s d within

    ended : (x : Span A) → covers point x ≡ false → x.start ≤ point → x.start + x.size ≤ point
    ended x fails by = by_order (cases_lt point (x.start + x.size))
      where
        by_order : (point < x.start + x.size) ⊎ (x.start + x.size ≤ point) → x.start + x.size ≤ point
        by_order (inl lt) = absurd (let differ : false ≡ true = sym fails ∙ covered x point by lt in cc)
        by_order (inr le) = le

    gone : (k : ℕ) (d : Span A) → (top ≡ record { 0 = k }) ⊎ Contains new (record { 0 = k }) → IsKept spans point new later k d
    gone k d (inl is) =
        let number : top.0 ≡ k = ap (λ (r : Reverse ℕ). r.0) is in
        let by = (All-head (HasBegun spans point) top new first_all).by in
        let over = ended (get_or spans top.0 d) (subst (λ (x : Span A). covers point x ≡ false) (same d) not) (omega (by, start_is spans top.0 d within, arith)) in
        inr (inr (subst (λ (n : ℕ). (get_or spans n d).start + (get_or spans n d).size ≤ point) number over))
    gone k d (inr c) = inl c

    still : (k : ℕ) (d : Span A) → IsKept spans point begun later k d → IsKept spans point new later k d
    still k d (inl c) = gone k d (in_rest (record { 0 = k }) top new (Contains-permutation begun (top ∷ new) (record { 0 = k }) pop.moved c))
    still k d (inr (inl c)) = inr (inl c)
    still k d (inr (inr over)) = inr (inr over)

-- ---- the answer
begins_after : {A : Type 0} (s : Span A) (point : ℕ) → point < s.start → covers point s ≡ false
begins_after s point lt = ap (λ (b : Bool). b && nat_lt point (s.start + s.size)) (lt-leb s.start point lt)

ends_before : {A : Type 0} (s : Span A) (point : ℕ) → s.start + s.size ≤ point → covers point s ≡ false
ends_before s point le = ap (λ (b : Bool). nat_le s.start point && b) (le-ltb point (s.start + s.size) le) ∙ and_false (nat_le s.start point)
  where
    and_false : (b : Bool) → (b && false) ≡ false
    and_false true = refl
    and_false false = refl

-- a span that does not wait doesn't have the point
absent : {A : Type 0} (spans : List (Span A)) (point : ℕ) (later : List ℕ) (k : ℕ) (d : Span A) → k < length spans → All (λ (k : ℕ). point < span_start spans k) later
    → Contains later k ⊎ ((get_or spans k d).start + (get_or spans k d).size ≤ point) → covers point (get_or spans k d) ≡ false
absent spans point later k d within after (inl c) =
    begins_after (get_or spans k d) point (omega (All-contains (λ (n : ℕ). point < span_start spans n) later k after c, start_is spans k d within, arith))
absent spans point later k d within after (inr le) = ends_before (get_or spans k d) point le

not_before : (k n : ℕ) → is_lt (nat_cmp k n) ≡ false → k < n → ⊥
not_before k n h lt =
    let less : is_lt (nat_cmp k n) ≡ true = ap (λ (b : Bool). is_lt (cond b Less (cond (k == n) Equal Greater))) (lt-ltb k n lt) in
    let differ : false ≡ true = sym h ∙ less in cc

pub top_decides : {A : Type 0} (spans : List (Span A)) (point : ℕ) (begun : List (Reverse ℕ)) (later : List ℕ) (top : Reverse ℕ) (s : Span A) → IsAtPoint spans point begun later → All (λ (k : ℕ). point < span_start spans k) later
    → (IsHeap last_first begun → IsUpperBound last_first top begun) → top.0 < length spans → covers point (get_or spans top.0 s) ≡ true → Some (get_or spans top.0 s).leads_to ≡ answer_of spans point
top_decides {A} spans point begun later top s h after greatest within has =
    sym (ap (option_map (λ (x : Span _). x.leads_to)) (first_passes (covers point) spans top.0 s within fails has))
  where
    none_greater : All (λ (r : Reverse ℕ). is_lt (nat_cmp r.0 top.0) ≡ false) begun
    none_greater = All-from_recursion (λ (r : Reverse ℕ). is_lt (nat_cmp r.0 top.0) ≡ false) begun (greatest h.order)

    earlier : (k : ℕ) (d : Span A) → k < top.0 → k < length spans → IsKept spans point begun later k d → covers point (get_or spans k d) ≡ false
    earlier k d before lt (inl c) = absurd (not_before k top.0 (All-contains (λ (r : Reverse ℕ). is_lt (nat_cmp r.0 top.0) ≡ false) begun (record { 0 = k }) none_greater c) before)
    earlier k d before lt (inr else) = absent spans point later k d lt after else

    fails : (k : ℕ) (d : Span A) → k < top.0 → covers point (get_or spans k d) ≡ false
    fails k d before = let lt : k < length spans = omega (before, within, arith) in earlier k d before lt (h.kept k d lt)

pub none_waits : {A : Type 0} (spans : List (Span A)) (point : ℕ) (begun : List (Reverse ℕ)) (later : List ℕ) → IsAtPoint spans point begun later → All (λ (k : ℕ). point < span_start spans k) later → length begun ≡ 0 → None ≡ answer_of spans point
none_waits {A} spans point begun later h after none = sym (ap (option_map (λ (x : Span _). x.leads_to)) (none_passes (covers point) spans (λ k d lt. fails k d lt (h.kept k d lt))))
  where
    fails : (k : ℕ) (d : Span A) → k < length spans → IsKept spans point begun later k d → covers point (get_or spans k d) ≡ false
    fails k d within (inl (i, lt, is)) = absurd (omega (lt, none, arith))
    fails k d within (inr else) = absent spans point later k d within after else

-- ---- a later point
pub at_later : {A : Type 0} (spans : List (Span A)) (point next : ℕ) (begun : List (Reverse ℕ)) (later : List ℕ) → point ≤ next → IsAtPoint spans point begun later → IsAtPoint spans next begun later
at_later {A} spans point next begun later le h = record {
  order = h.order;
  by = All-weaker (HasBegun spans point) (HasBegun spans next) (λ r x. record { within = x.within; by = let by = x.by in omega (by, le, arith) }) begun h.by;
  rise = h.rise;
  each = h.each;
  kept = λ k d lt. still k d (h.kept k d lt);
}
  where
    still : (k : ℕ) (d : Span A) → IsKept spans point begun later k d → IsKept spans next begun later k d
    still k d (inl c) = inl c
    still k d (inr (inl c)) = inr (inl c)
    still k d (inr (inr over)) = inr (inr (omega (over, le, arith)))
