-- Functions that are read one after another, within the limits and past them.
use Rattle.std.specs.Prelude.{◌&&◌, nat_le, nat_lt, is_none, min, IsTrue}
use Rattle.std.specs.List.Sorted.{IsPermutation}
use Rattle.std.proofs.Common.{◌≡◌, ◌⊎◌, All, ℕ, ◌+◌, ◌^◌, ◌<◌, ◌≤◌, Bool, true, false, List, [], ◌∷◌, ◌++◌, length, map, sum_by, Some, None, Result, Ok, Err, refl, sym, ap, subst, ◌∙◌, append_assoc, arith, inl, inr}
use Rattle.std.proofs.lemmas.Bool.{ltb-true, ltb-false, leb-false}
use Rattle.std.proofs.lemmas.List.{append-nil, length-append, length-map, map-append}
use Rattle.std.proofs.lemmas.List.Elements.{All-from_recursion}
use Rattle.std.proofs.lemmas.List.Sorted.{length_permutation, sum_by-IsPermutation}
use Rattle.std.proofs.lemmas.List.Sums.{sum_by-append, sum_by-cons}
use Rattle.sf_model.specs.declared.machine.Arch.{Arch}
use Rattle.frame_functions.specs.declared.read_function.ReadFunction.{ReadFunction}
use Rattle.sf_functions.specs.declared.limits.Limit.TheVariants as limit
use Rattle.frame_functions.specs.declared.read.HeldFunctions.{HeldFunctions}
use Rattle.frame_functions.specs.declared.read.ReadFunctions.{ReadFunctions}
use Rattle.frame_functions.specs.declared.read.ReadFunctions.TheVariants.{Within, Past}
use Rattle.frame_functions.specs.Answers.{after_read}
use Rattle.frame_functions.specs.ReadFunction.{IsSound}
use Rattle.sf_bytes.specs.Steps.{◌>>=◌}
use Rattle.frame_functions.specs.Functions.{Function}
use Rattle.frame_functions.specs.Kept.{read_of}
use Rattle.frame_functions.specs.Order.{read_rows, exceeded_by}
use Rattle.frame_functions.specs.ReadSoFar.{AreCounted, AreHeld, AreReadSoFar, AreSound, ReadsFunctions, ReadsAll}
use Rattle.frame_functions.specs.Descriptions.{if_left}
use Rattle.frame_functions.proofs.Lending.{one_omitted}
use Rattle.frame_functions.proofs.Limits.{too_many_functions, too_many_rows, within_limits}

-- ---- what was read, and what is left
pub after_none : {X F : Type 0} (given : Result (List X) F) → after_read [] given ≡ given
after_none (Ok xs) = refl
after_none (Err fault) = refl

pub after_both : {X F : Type 0} (some more : List X) (given : Result (List X) F) → after_read (some ++ more) given ≡ after_read some (after_read more given)
after_both some more (Ok xs) = ap Ok (append_assoc some more xs)
after_both some more (Err fault) = refl

-- those that are read first, and the others
pub then_others : {X F : Type 0} (one : Result (List X) F) (more : List X) (others : Result (List X) F) → one ≡ Ok more → (one >>= λ fs. others >>= λ gs. Ok (fs ++ gs)) ≡ after_read more others
then_others {X} {F} one more others e = ap (λ (r : Result (List X) F). r >>= λ fs. others >>= λ gs. Ok (fs ++ gs)) e ∙ by_others others
  where
    by_others : (given : Result (List X) F) → (given >>= λ gs. Ok (more ++ gs)) ≡ after_read more given
    by_others (Ok gs) = refl
    by_others (Err fault) = refl

pub then_more : {X F : Type 0} (one : Result X F) (x : X) (others : Result (List X) F) → one ≡ Ok x → (one >>= λ g. others >>= λ gs. Ok (g ∷ gs)) ≡ after_read (x ∷ []) others
then_more {X} {F} one x others e = ap (λ (r : Result X F). r >>= λ g. others >>= λ gs. Ok (g ∷ gs)) e ∙ by_others others
  where
    by_others : (given : Result (List X) F) → (given >>= λ gs. Ok (x ∷ gs)) ≡ after_read (x ∷ []) given
    by_others (Ok gs) = refl
    by_others (Err fault) = refl

-- some functions were read after those before, and what is left after them comes to what all come to
pub record GoesOn {F : Type 0} (lending : Bool) (old new : ReadFunctions) (left all : Result (List Function) F) : Type 0 where
  pub some : List Function
  pub comes : after_read some left ≡ all
  pub reads : ReadsFunctions lending old new some

pub begins : {F : Type 0} (lending : Bool) (read : ReadFunctions) (left all : Result (List Function) F) → left ≡ all → GoesOn lending read read left all
begins lending read left all e = record {
  some = [];
  comes = after_none left ∙ e;
  reads = λ before h. subst (AreReadSoFar lending read) (sym (append-nil before)) h;
}

pub reads_both : (lending : Bool) (old mid new : ReadFunctions) (some more : List Function) → ReadsFunctions lending old mid some → ReadsFunctions lending mid new more → ReadsFunctions lending old new (some ++ more)
reads_both lending old mid new some more first second = λ before h. subst (AreReadSoFar lending new) (append_assoc before some more) (second (before ++ some) (first before h))

pub goes_on : {F : Type 0} (lending : Bool) (old mid new : ReadFunctions) (more : List Function) (left rest all : Result (List Function) F) → GoesOn lending old mid left all → left ≡ after_read more rest → ReadsFunctions lending mid new more → GoesOn lending old new rest all
goes_on lending old mid new more left rest all h is reads = record {
  some = h.some ++ more;
  comes = after_both h.some more rest ∙ ap (after_read h.some) (sym is) ∙ h.comes;
  reads = reads_both lending old mid new h.some more h.reads reads;
}

-- nothing is read
pub passes_on : {F : Type 0} (lending : Bool) (old new : ReadFunctions) (left rest all : Result (List Function) F) → GoesOn lending old new left all → left ≡ rest → GoesOn lending old new rest all
passes_on lending old new left rest all h is = record { some = h.some; comes = ap (after_read h.some) (sym is) ∙ h.comes; reads = h.reads }

pub is_done : {F : Type 0} (lending : Bool) (old new : ReadFunctions) (left all : Result (List Function) F) → GoesOn lending old new left all → left ≡ Ok [] → ReadsAll lending old new all
is_done lending old new left all h e = (h.some, sym h.comes ∙ ap (after_read h.some) e ∙ ap Ok (append-nil h.some), h.reads)

pub ends : {F : Type 0} (lending : Bool) (old new : ReadFunctions) (left all : Result (List Function) F) (fault : F) → GoesOn lending old new left all → left ≡ Err fault → all ≡ Err fault
ends lending old new left all fault h e = sym h.comes ∙ ap (after_read h.some) e

-- ---- past a limit
past_means : (entries : List ReadFunction) → is_none (exceeded_by entries) ≡ false → (2 ^ 21 < length entries) ⊎ (2 ^ 24 < sum_by read_rows entries)
past_means entries h = at_tests (nat_lt (2 ^ 21) (length entries)) (nat_lt (2 ^ 24) (sum_by read_rows entries)) refl refl
  where
    at_tests : (functions rows : Bool) → nat_lt (2 ^ 21) (length entries) ≡ functions → nat_lt (2 ^ 24) (sum_by read_rows entries) ≡ rows → (2 ^ 21 < length entries) ⊎ (2 ^ 24 < sum_by read_rows entries)
    at_tests true rows t u = inl (ltb-true (2 ^ 21) (length entries) t)
    at_tests false true t u = inr (ltb-true (2 ^ 24) (sum_by read_rows entries) u)
    at_tests false false t u =
        let none = within_limits entries (ltb-false (2 ^ 21) (length entries) t) (ltb-false (2 ^ 24) (sum_by read_rows entries) u) in
        let both : true ≡ false = sym (ap is_none none) ∙ h in
        cc

is_past : (entries : List ReadFunction) → (2 ^ 21 < length entries) ⊎ (2 ^ 24 < sum_by read_rows entries) → is_none (exceeded_by entries) ≡ false
is_past entries (inl many) = ap is_none (too_many_functions entries many)
is_past entries (inr many) = at_test (nat_lt (2 ^ 21) (length entries)) refl
  where
    at_test : (b : Bool) → nat_lt (2 ^ 21) (length entries) ≡ b → is_none (exceeded_by entries) ≡ false
    at_test true t = ap is_none (too_many_functions entries (ltb-true (2 ^ 21) (length entries) t))
    at_test false t = ap is_none (too_many_rows entries (ltb-false (2 ^ 21) (length entries) t) many)

-- one function more
one_longer : (before : List Function) (f : Function) → length (before ++ f ∷ []) ≡ length before + 1
one_longer before f = length-append before (f ∷ [])

entries_more : (before : List Function) (f : Function) → map read_of (before ++ f ∷ []) ≡ map read_of before ++ read_of f ∷ []
entries_more before f = map-append read_of before (f ∷ [])

rows_more : (before : List Function) (f : Function) → sum_by read_rows (map read_of (before ++ f ∷ [])) ≡ sum_by read_rows (map read_of before) + read_rows (read_of f)
rows_more before f =
    ap (sum_by read_rows) (entries_more before f) ∙ sum_by-append read_rows (map read_of before) (read_of f ∷ [])
    ∙ ap (λ (n : ℕ). sum_by read_rows (map read_of before) + n) (sum_by-cons read_rows (read_of f) [] ∙ omega arith)

still_past : (before : List Function) (f : Function) → (2 ^ 21 < length (map read_of before)) ⊎ (2 ^ 24 < sum_by read_rows (map read_of before)) → is_none (exceeded_by (map read_of (before ++ f ∷ []))) ≡ false
still_past before f (inl many) =
    is_past (map read_of (before ++ f ∷ []))
    (inl (omega (arith, many, length-map before read_of, length-map (before ++ f ∷ []) read_of, one_longer before f)))
still_past before f (inr many) = is_past (map read_of (before ++ f ∷ [])) (inr (omega (arith, many, rows_more before f)))

pub one_counted : (count : ℕ) (before : List Function) (f : Function) → AreCounted count before → AreCounted (min count (2 ^ 21) + 1) (before ++ f ∷ [])
one_counted count before f h = record {
  counted = omega (arith, h.counted, one_longer before f);
  past = still_past before f (past_means (map read_of before) h.past);
}

-- there is no room for it
no_room : (few rows : Bool) → (few && rows) ≡ false → (few ≡ false) ⊎ (rows ≡ false)
no_room false rows e = inl refl
no_room true rows e = inr e

pub one_too_many : (lending : Bool) (held : HeldFunctions) (before : List Function) (f : Function) → AreHeld lending held before → (nat_lt (length held.entries) (2 ^ 21) && nat_le (read_rows (read_of f)) held.rows_left) ≡ false
    → AreCounted (min (length held.entries) (2 ^ 21) + 1) (before ++ f ∷ [])
one_too_many lending held before f h full =
    let count : length held.entries ≡ length before = ap length h.entries ∙ length-map before read_of in
    record {
      counted = omega (arith, count, h.few, one_longer before f);
      past = is_past (map read_of (before ++ f ∷ [])) (elim (no_room (nat_lt (length held.entries) (2 ^ 21)) (nat_le (read_rows (read_of f)) held.rows_left) full) [
        | inl many ↦ inl (omega (arith, ltb-false (length held.entries) (2 ^ 21) many, count, length-map (before ++ f ∷ []) read_of, one_longer before f))
        | inr many ↦ inr (omega (arith, leb-false (read_rows (read_of f)) held.rows_left many, h.rows, rows_more before f))
      ]);
    }

-- there is room for it
pub has_room : (entries : List ReadFunction) (rows left : ℕ) → (nat_lt (length entries) (2 ^ 21) && nat_le rows left) ≡ true → length entries < 2 ^ 21
has_room entries rows left e = at_test (nat_lt (length entries) (2 ^ 21)) refl e
  where
    at_test : (b : Bool) → nat_lt (length entries) (2 ^ 21) ≡ b → (b && nat_le rows left) ≡ true → length entries < 2 ^ 21
    at_test true t e = ltb-true (length entries) (2 ^ 21) t
    at_test false t e = cc

pub one_held : (lending : Bool) (old new : HeldFunctions) (before : List Function) (f : Function) (entry : ReadFunction) → AreHeld lending old before → read_of f ≡ entry → length old.entries < 2 ^ 21 → new.entries ≡ old.entries ++ entry ∷ []
    → new.rows_left + read_rows entry ≡ old.rows_left → (IsTrue lending → new.descriptions.functions ≡ old.descriptions.functions ++ if_left entry.outcome f) → AreHeld lending new (before ++ f ∷ [])
one_held lending old new before f entry h is room entries rows lent =
    let count : length old.entries ≡ length before = ap length h.entries ∙ length-map before read_of in
    record {
      entries = entries ∙ ap (λ (es : List ReadFunction). es ++ entry ∷ []) h.entries ∙ ap (λ (e : ReadFunction). map read_of before ++ e ∷ []) (sym is) ∙ sym (entries_more before f);
      few = omega (arith, room, count, one_longer before f);
      rows = omega (arith, rows, h.rows, rows_more before f, ap read_rows is);
      lent = λ asked. lent asked ∙ ap (λ (fs : List Function). fs ++ if_left entry.outcome f) (h.lent asked) ∙ sym (one_omitted before f entry is);
    }

-- ---- the limits
pub held_within : (lending : Bool) (held : HeldFunctions) (functions : List Function) → AreHeld lending held functions → exceeded_by (map read_of functions) ≡ None
held_within lending held functions h = within_limits (map read_of functions) (omega (arith, h.few, length-map functions read_of)) (omega (arith, h.rows))

pub counted_many : (count : ℕ) (functions : List Function) → AreCounted count functions → 2 ^ 21 < count → exceeded_by (map read_of functions) ≡ Some limit.Functions
counted_many count functions h many = too_many_functions (map read_of functions) (omega (arith, many, h.counted, length-map functions read_of))

pub counted_few : (count : ℕ) (functions : List Function) → AreCounted count functions → count ≤ 2 ^ 21 → exceeded_by (map read_of functions) ≡ Some limit.Rows
counted_few count functions h few =
    let all : length (map read_of functions) ≤ 2 ^ 21 = omega (arith, few, h.counted, length-map functions read_of) in
    elim (past_means (map read_of functions) h.past) [
      | inl many ↦ absurd (omega (arith, many, all))
      | inr many ↦ too_many_rows (map read_of functions) all many
    ]

-- in another order
pub limits_moved : (all ordered : List ReadFunction) → IsPermutation all ordered → exceeded_by ordered ≡ exceeded_by all
unfolding exceeded_by
limits_moved all ordered moved = rw (length_permutation all ordered moved, sum_by-IsPermutation read_rows all ordered moved) refl

-- ---- functions that a section can hold
pub none_sound : (arch : Arch) (lending : Bool) (read : ReadFunctions) → AreReadSoFar lending read [] → AreSound arch read
none_sound arch lending (Within held) h = subst (All (IsSound arch)) (sym h.entries) (All-from_recursion (IsSound arch) [] tt)
none_sound arch lending (Past count) h = tt
