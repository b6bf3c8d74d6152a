-- The test of writable functions gives what it tests.
use Rattle.std.proofs.Common.{◌≡◌, ℕ, zero, suc, ◌+◌, ◌^◌, ◌<◌, ◌≤◌, ◌&&◌, Bool, true, false, List, [], ◌∷◌, length, get_or, refl, sym, subst, arith, add-one}
use Rattle.std.proofs.lemmas.Bool.{ltb-true, leb-true}
use Rattle.std.specs.Prelude.{IsTrue, All, nat_lt, nat_le}
use Rattle.std.specs.List.{list_all, AllAdjacentBelow}
use Rattle.std.proofs.lemmas.List.Sums.{AllPass-from_list_all}
use Rattle.sf_model.specs.declared.machine.Arch.{Arch}
use Rattle.sf_model.specs.declared.rows.Row.{Row}
use Rattle.sf_model.specs.declared.function.Func.{Func}
use Rattle.sf_model.specs.Content.{content_fits}
use Rattle.sf_model.specs.Function.{key_fits, shape_fits, IsWritable, AreWritable}
use Rattle.sf_model.specs.Table.{row_count}
use Rattle.sframe_tests.specs.Writable.{each_next, is_writable, are_writable}

both-first : (a b : Bool) → (a && b) ≡ true → a ≡ true
both-first true b h = refl
both-first false b h = h

both-second : (a b : Bool) → (a && b) ≡ true → b ≡ true
both-second true b h = h
both-second false b h = absurd (cc)

-- each element and the next pass
each_next_gives : {X : Type 0} (test : X → X → Bool) (xs : List X) → each_next test xs ≡ true →
    (k : ℕ) (d : X) → suc k < length xs → test (get_or xs k d) (get_or xs (suc k) d) ≡ true
each_next_gives test [] h k d l = absurd (omega arith)
each_next_gives test (x ∷ []) h k d l = absurd (omega arith)
each_next_gives test (x ∷ y ∷ xs) h zero d l = both-first (test x y) (each_next test (y ∷ xs)) h
each_next_gives test (x ∷ y ∷ xs) h (suc k) d l =
    each_next_gives test (y ∷ xs) (both-second (test x y) (each_next test (y ∷ xs)) h) k d (omega arith)

adjacent : {X : Type 0} (test : X → X → Bool) (R : X → X → Type 0) → ((x y : X) → test x y ≡ true → R x y) → (xs : List X) →
    each_next test xs ≡ true → AllAdjacentBelow R xs (length xs)
adjacent test R gives xs h k d l =
    let e : k + 1 ≡ suc k = add-one k in
    let below : suc k < length xs = omega (arith, l) in
    gives (get_or xs k d) (get_or xs (k + 1) d)
    (subst (λ m. test (get_or xs k d) (get_or xs m d) ≡ true) (sym e) (each_next_gives test xs h k d below))

each : {X : Type 0} (test : X → Bool) (P : X → Type 0) → ((x : X) → test x ≡ true → P x) → (xs : List X) → list_all test xs ≡ true → All P xs
each test P gives xs h k d l = gives (get_or xs k d) (AllPass-from_list_all test xs h k d l)

rows_rise : (rows : List Row) → each_next (λ (r : Row) (s : Row). nat_lt r.start s.start) rows ≡ true →
    AllAdjacentBelow (λ (r : Row) (s : Row). r.start < s.start) rows (length rows)
rows_rise rows h =
    adjacent (λ (r : Row) (s : Row). nat_lt r.start s.start) (λ (r : Row) (s : Row). r.start < s.start)
    (λ r s e. ltb-true r.start s.start e) rows h

-- seven tests in a row
seven : (a b c d e f g : Bool) → (a && b && c && d && e && f && g) ≡ true →
    (a ≡ true) × (b ≡ true) × (c ≡ true) × (d ≡ true) × (e ≡ true) × (f ≡ true) × (g ≡ true)
seven a b c d e f g h =
    let six : (a && b && c && d && e && f) ≡ true = both-first _ g h in
    let five : (a && b && c && d && e) ≡ true = both-first _ f six in
    let four : (a && b && c && d) ≡ true = both-first _ e five in
    let three : (a && b && c) ≡ true = both-first _ d four in
    let two : (a && b) ≡ true = both-first _ c three in (
      both-first a b two,
      both-second a b two,
      both-second (a && b) c three,
      both-second (a && b && c) d four,
      both-second (a && b && c && d) e five,
      both-second (a && b && c && d && e) f six,
      both-second (a && b && c && d && e && f) g h,
    )

writable_gives : (arch : Arch) (f : Func) → is_writable arch f ≡ true → IsWritable arch f
writable_gives arch f h =
    let t = seven (nat_lt 0 f.size) (nat_le (f.start + f.size) (2 ^ 64)) (nat_lt 0 (length f.rows))
    (each_next (λ (r : Row) (s : Row). nat_lt r.start s.start) f.rows) (list_all (λ (r : Row). content_fits arch r.content) f.rows)
    (key_fits arch f.key) (shape_fits f.shape) h in
    record {
      size = ltb-true 0 f.size t.0;
      end = leb-true (f.start + f.size) (2 ^ 64) t.1;
      has_rows = ltb-true 0 (length f.rows) t.2;
      rows_rise = rows_rise f.rows t.3;
      contents = each (λ (r : Row). content_fits arch r.content) (λ (r : Row). IsTrue (content_fits arch r.content)) (λ r e. e) f.rows t.4;
      key = t.5;
      shape = t.6;
    }

pub are_writable_gives : (arch : Arch) (functions : List Func) → IsTrue (are_writable arch functions) → AreWritable arch functions
are_writable_gives arch functions h =
    let next : Bool = each_next (λ (f : Func) (g : Func). nat_le (f.start + f.size) g.start) functions in
    let all : Bool = list_all (is_writable arch) functions in
    let three : (all && next && nat_le (length functions) (2 ^ 21)) ≡ true = both-first _ (nat_le (row_count functions) (2 ^ 24)) h in
    let two : (all && next) ≡ true = both-first _ (nat_le (length functions) (2 ^ 21)) three in
    record {
      each = each (is_writable arch) (IsWritable arch) (writable_gives arch) functions (both-first all next two);
      apart = adjacent (λ (f : Func) (g : Func). nat_le (f.start + f.size) g.start) (λ (f : Func) (g : Func). f.start + f.size ≤ g.start)
          (λ f g e. leb-true (f.start + f.size) g.start e) functions (both-second all next two);
      count = leb-true (length functions) (2 ^ 21) (both-second (all && next) (nat_le (length functions) (2 ^ 21)) three);
      row_count = leb-true (row_count functions) (2 ^ 24) (both-second (all && next && nat_le (length functions) (2 ^ 21)) (nat_le (row_count functions) (2 ^ 24)) h);
    }
