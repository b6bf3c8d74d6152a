-- What a reader gives of bytes, and of the same bytes with more after them: what is read stays read, a number that is refused stays
-- refused, and bytes that end inside a value can be completed.
use Rattle.std.specs.Prelude.{nat_lt, int_lt, replicate}
use Rattle.std.proofs.Common.{◌≡◌, ℕ, ℤ, pos, zero, suc, ◌+◌, ◌-◌, ◌*◌, ◌%◌, ◌^◌, ◌<◌, ◌≤◌, ◌-ℤ◌, Bool, true, false, cond, List, [], ◌∷◌, ◌++◌, length, take, drop, Result, Ok, Err, refl, sym, ap, ◌∙◌, arith, inl, inr, if◌then◌else◌}
use Rattle.std.proofs.Math.Nat.{pow-suc}
use Rattle.std.proofs.lemmas.Bool.{lt-ltb, le-ltb, cases_lt}
use Rattle.std.proofs.lemmas.Int.{ints}
use Rattle.std.proofs.lemmas.List.{append_assoc, drop-append-le, drop_all, length-append, length-replicate, take-append-le, take_all}
use Rattle.byteorder.specs.Endian.{little_number}
use Rattle.sf_bytes.specs.declared.fault.ByteFault.{ByteFault}
use Rattle.sf_bytes.specs.declared.fault.ByteFault.TheVariants.{Short, Leb}
use Rattle.sf_bytes.specs.Cursor.{Cursor, Read, past, ◌>>=◌, number_at, part_at}
use Rattle.sf_bytes.specs.Leb.{fits_i64, is_negative, leb_signed, leb_sum, longer, run_length, sleb_at, uleb_at}
use Rattle.sf_bytes.proofs.Fields.{ok_is, unless_ok}
use Rattle.sf_bytes.proofs.Lebs.{run_takes}
use Rattle.sf_bytes.proofs.Run.{leb_sum-cons, leb_sum-nil, run_length-ends, run_length-goes_on}
use Rattle.cfa_insn.specs.Spelling.{with_more}

abbrev pub got : {X : Type 0} → X → Cursor → Read X
got x to = Ok (x, to)

abbrev pub stopped : {X : Type 0} → ByteFault → Read X
stopped e = Err e

-- with some more bytes a value is there, and nothing is left
pub record Ended {X : Type 0} (read : Cursor → Read X) (at : Cursor) : Type 0 where
  pub more : List ℕ
  pub value : X
  pub to : Cursor
  pub is : read (with_more at more) ≡ got value to
  pub empty : to.left ≡ []

-- of no bytes: a value is there, and nothing is left; or the bytes end
pub data OfNone {X : Type 0} (read : Cursor → Read X) (at : Cursor) : Type 0 where
  there : (x : X) (to : Cursor) → read at ≡ got x to → to.left ≡ [] → OfNone read at
  ended : (p : ℕ) → read at ≡ stopped (Short p) → OfNone read at

pub record Reader {X : Type 0} (read : Cursor → Read X) : Type 0 where
  pub stays : (at : Cursor) (more : List ℕ) (x : X) (to : Cursor) → read at ≡ got x to → read (with_more at more) ≡ got x (with_more to more)
  pub lasts : (at : Cursor) (more : List ℕ) (p : ℕ) → read at ≡ stopped (Leb p) → read (with_more at more) ≡ stopped (Leb p)
  pub ends : (at : Cursor) (p : ℕ) → read at ≡ stopped (Short p) → Ended read at
  pub none : (at : Cursor) → at.left ≡ [] → OfNone read at

-- ---- a given value
abbrev pub pure : {X : Type 0} → X → Cursor → Read X
pure x at = Ok (x, at)

not_stopped : {X : Type 0} (x : X) (to : Cursor) (e : ByteFault) → got x to ≡ stopped e → ⊥
not_stopped x to e h = cc

fault_is : {X : Type 0} (d e : ByteFault) → stopped {X = X} d ≡ stopped {X = X} e → d ≡ e
fault_is d e h = cc

pub pure_reads : {X : Type 0} (x : X) → Reader (pure x)
pure_reads {X = X} x = record {
  stays = λ at more y to e. let pair : (x, at) ≡ (y, to) = ok_is _ _ e in ap (λ (t : X × Cursor). got t.0 (with_more t.1 more)) pair;
  lasts = λ at more p e. absurd (not_stopped x at (Leb p) e);
  ends = λ at p e. absurd (not_stopped x at (Short p) e);
  none = λ at empty. there x at refl empty;
}

-- ---- n bytes
abbrev cut_at : {X : Type 0} → (ℕ → List ℕ → X) → ℕ → Cursor → Read X
cut_at value n at = cond (nat_lt (length at.left) n) (Err (Short at.place)) (Ok (value at.place (take n at.left), past n at))

cut_there : {X : Type 0} (value : ℕ → List ℕ → X) (n : ℕ) (at : Cursor) → n ≤ length at.left → cut_at value n at ≡ got (value at.place (take n at.left)) (past n at)
cut_there {X = X} value n at le = ap (λ (b : Bool). cond b (stopped {X = X} (Short at.place)) (got (value at.place (take n at.left)) (past n at))) (le-ltb (length at.left) n le)

cut_short : {X : Type 0} (value : ℕ → List ℕ → X) (n : ℕ) (at : Cursor) → length at.left < n → cut_at value n at ≡ stopped (Short at.place)
cut_short {X = X} value n at lt = ap (λ (b : Bool). cond b (stopped {X = X} (Short at.place)) (got (value at.place (take n at.left)) (past n at))) (lt-ltb (length at.left) n lt)

cut_more : {X : Type 0} (value : ℕ → List ℕ → X) (n : ℕ) (at : Cursor) (more : List ℕ) → n ≤ length at.left → cut_at value n (with_more at more) ≡ got (value at.place (take n at.left)) (with_more (past n at) more)
cut_more value n at more le =
    let longer : n ≤ length (at.left ++ more) = omega (arith, le, length-append at.left more) in
    cut_there value n (with_more at more) longer
    ∙ ap (λ (l : List ℕ). got (value at.place l) (past n (with_more at more))) (take-append-le n at.left more le)
    ∙ ap (λ (l : List ℕ). got (value at.place (take n at.left)) (record { place = at.place + n; left = l })) (drop-append-le n at.left more le)

pub cut_reads : {X : Type 0} (value : ℕ → List ℕ → X) (n : ℕ) → Reader (cut_at value n)
cut_reads {X = X} value n = record {
  stays = λ at more x to e. elim (cases_lt (length at.left) n) [
    | inl lt ↦ absurd (not_stopped x to (Short at.place) (sym e ∙ cut_short value n at lt))
    | inr le ↦
        let pair : (value at.place (take n at.left), past n at) ≡ (x, to) = ok_is _ _ (sym (cut_there value n at le) ∙ e) in
        cut_more value n at more le ∙ ap (λ (t : X × Cursor). got t.0 (with_more t.1 more)) pair
  ];
  lasts = λ at more p e. elim (cases_lt (length at.left) n) [
    | inl lt ↦ absurd (let clash : Short at.place ≡ Leb p = fault_is {X = X} _ _ (sym (cut_short value n at lt) ∙ e) in cc)
    | inr le ↦ absurd (not_stopped _ _ (Leb p) (sym (cut_there value n at le) ∙ e))
  ];
  ends = λ at p e. elim (cases_lt (length at.left) n) [
    | inl lt ↦
        let zeros = replicate (n - length at.left) 0 in
        let count : length (at.left ++ zeros) ≡ n = omega (arith, lt, length-append at.left zeros, length-replicate {A = ℕ} (n - length at.left) 0) in
        record {
          more = zeros;
          value = value at.place (take n (at.left ++ zeros));
          to = past n (with_more at zeros);
          is = cut_there value n (with_more at zeros) (omega (arith, count));
          empty = drop_all n (at.left ++ zeros) (omega (arith, count));
        }
    | inr le ↦ absurd (not_stopped _ _ (Short p) (sym (cut_there value n at le) ∙ e))
  ];
  none = λ at empty. elim (cases_lt (length at.left) n) [
    | inl lt ↦ ended at.place (cut_short value n at lt)
    | inr le ↦ let zero_left : length at.left ≡ 0 = ap length empty in
        there (value at.place (take n at.left)) (past n at) (cut_there value n at le) (drop_all n at.left (omega (arith, zero_left)))
  ];
}

pub number_reads : (n : ℕ) → Reader (number_at n)
unfolding number_at
number_reads n = cut_reads (λ place run. little_number n run) n

pub part_reads : (n : ℕ) → Reader (part_at n)
unfolding part_at
part_reads n = cut_reads (λ place run. record { place = place; left = run }) n

pub number_there : (n : ℕ) (at : Cursor) → n ≤ length at.left → number_at n at ≡ got (little_number n (take n at.left)) (past n at)
unfolding number_at
number_there n at le = cut_there (λ place run. little_number n run) n at le

-- ---- the bytes of a LEB128 number
abbrev many : ℕ → Result ℕ ByteFault
many n = Ok n

abbrev no_run : ByteFault → Result ℕ ByteFault
no_run e = Err e

longer_ok : (r : Result ℕ ByteFault) (n : ℕ) → longer r ≡ many n → (k : ℕ) × (r ≡ many k) × (suc k ≡ n)
longer_ok (Ok k) n e = (k, refl, ok_is (suc k) n e)
longer_ok (Err d) n e = absurd cc

longer_fault : (r : Result ℕ ByteFault) (d : ByteFault) → longer r ≡ no_run d → r ≡ no_run d
longer_fault (Ok k) d e = absurd cc
longer_fault (Err f) d e = e

run_more : (place most : ℕ) (bytes more : List ℕ) (n : ℕ) → run_length place most bytes ≡ many n → run_length place most (bytes ++ more) ≡ many n
unfolding run_length
run_more place zero bytes more n e = absurd cc
run_more place (suc most) [] more n e = absurd cc
run_more place (suc most) (b ∷ bs) more n e = elim (cases_lt b 128) [
  | inl low ↦ run_length-ends place most b (bs ++ more) low ∙ sym (run_length-ends place most b bs low) ∙ e
  | inr high ↦
      let l = longer_ok (run_length place most bs) n (sym (run_length-goes_on place most b bs high) ∙ e) in
      run_length-goes_on place most b (bs ++ more) high ∙ ap longer (run_more place most bs more l.0 l.1) ∙ ap many l.2
]

run_lasts : (place most : ℕ) (bytes more : List ℕ) (p : ℕ) → run_length place most bytes ≡ no_run (Leb p) → run_length place most (bytes ++ more) ≡ no_run (Leb p)
unfolding run_length
run_lasts place zero bytes more p e = e
run_lasts place (suc most) [] more p e = absurd cc
run_lasts place (suc most) (b ∷ bs) more p e = elim (cases_lt b 128) [
  | inl low ↦ absurd (let clash : many 1 ≡ no_run (Leb p) = sym (run_length-ends place most b bs low) ∙ e in cc)
  | inr high ↦
      let rest = longer_fault (run_length place most bs) (Leb p) (sym (run_length-goes_on place most b bs high) ∙ e) in
      run_length-goes_on place most b (bs ++ more) high ∙ ap longer (run_lasts place most bs more p rest)
]

-- bytes that all continue, and a zero byte
abbrev with_zero : List ℕ → List ℕ
with_zero bytes = bytes ++ 0 ∷ []

run_ends : (place most : ℕ) (bytes : List ℕ) (p : ℕ) → run_length place most bytes ≡ no_run (Short p) → (run_length place most (with_zero bytes) ≡ many (suc (length bytes))) × (length bytes < most)
unfolding run_length
run_ends place zero bytes p e = absurd cc
run_ends place (suc most) [] p e = (run_length-ends place most 0 [] (omega arith), omega arith)
run_ends place (suc most) (b ∷ bs) p e = elim (cases_lt b 128) [
  | inl low ↦ absurd (let clash : many 1 ≡ no_run (Short p) = sym (run_length-ends place most b bs low) ∙ e in cc)
  | inr high ↦
      let rest = run_ends place most bs p (longer_fault (run_length place most bs) (Short p) (sym (run_length-goes_on place most b bs high) ∙ e)) in
      let within : length bs < most = rest.1 in
      (run_length-goes_on place most b (with_zero bs) high ∙ ap longer rest.0, omega (arith, within))
]

run_of_none : (place : ℕ) (bytes : List ℕ) → bytes ≡ [] → run_length place 10 bytes ≡ no_run (Short place)
unfolding run_length
run_of_none place bytes h = ap (run_length place 10) h

-- ---- LEB128 numbers
abbrev number_upto : {X : Type 0} → (List ℕ → Bool) → (List ℕ → X) → Cursor → ℕ → Read X
number_upto fits value at n = cond (fits (take n at.left)) (Ok (value (take n at.left), past n at)) (Err (Leb at.place))

abbrev leb_at : {X : Type 0} → (List ℕ → Bool) → (List ℕ → X) → Cursor → Read X
leb_at fits value at = run_length at.place 10 at.left >>= number_upto fits value at

module _ {X : Type 0} (fits : List ℕ → Bool) (value : List ℕ → X) where
  upto_more : (at : Cursor) (more : List ℕ) (n : ℕ) (b : Bool) → n ≤ length at.left → fits (take n at.left) ≡ b
      → number_upto fits value (with_more at more) n ≡ cond b (got (value (take n at.left)) (with_more (past n at) more)) (stopped (Leb at.place))
  upto_more at more n b le t =
      ap (λ (l : List ℕ). cond (fits l) (got (value l) (past n (with_more at more))) (stopped (Leb at.place))) (take-append-le n at.left more le)
      ∙ ap (λ (c : Bool). cond c (got (value (take n at.left)) (past n (with_more at more))) (stopped (Leb at.place))) t
      ∙ ap (λ (l : List ℕ). cond b (got (value (take n at.left)) (record { place = at.place + n; left = l })) (stopped (Leb at.place))) (drop-append-le n at.left more le)

  at_run : (at : Cursor) (r : Result ℕ ByteFault) (y : Read X) → run_length at.place 10 at.left ≡ r → leb_at fits value at ≡ y → (r >>= number_upto fits value at) ≡ y
  at_run at r y h e = sym (ap (λ (x : Result ℕ ByteFault). x >>= number_upto fits value at) h) ∙ e

  by_run : (at : Cursor) (more : List ℕ) (r : Result ℕ ByteFault) → run_length at.place 10 (at.left ++ more) ≡ r → leb_at fits value (with_more at more) ≡ (r >>= number_upto fits value (with_more at more))
  by_run at more r h = ap (λ (x : Result ℕ ByteFault). x >>= number_upto fits value (with_more at more)) h

  leb_stays : (at : Cursor) (more : List ℕ) (r : Result ℕ ByteFault) (x : X) (to : Cursor) → run_length at.place 10 at.left ≡ r → leb_at fits value at ≡ got x to → leb_at fits value (with_more at more) ≡ got x (with_more to more)
  leb_stays at more (Err d) x to h e = absurd (not_stopped x to d (sym (at_run at (Err d) (got x to) h e)))
  leb_stays at more (Ok n) x to h e =
      let g = unless_ok (fits (take n at.left)) (Leb at.place) (value (take n at.left), past n at) (x, to) (at_run at (Ok n) (got x to) h e) in
      by_run at more (Ok n) (run_more at.place 10 at.left more n h)
      ∙ upto_more at more n true (run_takes at.place 10 at.left n h).within g.0
      ∙ ap (λ (t : X × Cursor). got t.0 (with_more t.1 more)) g.1

  refused_by : (at : Cursor) (more : List ℕ) (n p : ℕ) (b : Bool) → fits (take n at.left) ≡ b → run_length at.place 10 at.left ≡ many n → number_upto fits value at n ≡ stopped (Leb p) → leb_at fits value (with_more at more) ≡ stopped (Leb p)
  refused_by at more n p true t h e =
      absurd (not_stopped (value (take n at.left)) (past n at) (Leb p) (sym (ap (λ (c : Bool). cond c (got (value (take n at.left)) (past n at)) (stopped (Leb at.place))) t) ∙ e))
  refused_by at more n p false t h e =
      by_run at more (Ok n) (run_more at.place 10 at.left more n h)
      ∙ upto_more at more n false (run_takes at.place 10 at.left n h).within t
      ∙ sym (ap (λ (c : Bool). cond c (got (value (take n at.left)) (past n at)) (stopped (Leb at.place))) t) ∙ e

  leb_lasts : (at : Cursor) (more : List ℕ) (r : Result ℕ ByteFault) (p : ℕ) → run_length at.place 10 at.left ≡ r → leb_at fits value at ≡ stopped (Leb p) → leb_at fits value (with_more at more) ≡ stopped (Leb p)
  leb_lasts at more (Ok n) p h e = refused_by at more n p (fits (take n at.left)) refl h (at_run at (Ok n) (stopped (Leb p)) h e)
  leb_lasts at more (Err d) p h e =
      let same : d ≡ Leb p = fault_is {X = X} _ _ (at_run at (Err d) (stopped (Leb p)) h e) in
      by_run at more (no_run (Leb p)) (run_lasts at.place 10 at.left more p (h ∙ ap no_run same))

  not_short : (at : Cursor) (n p : ℕ) (b : Bool) → fits (take n at.left) ≡ b → number_upto fits value at n ≡ stopped (Short p) → ⊥
  not_short at n p true t e = not_stopped (value (take n at.left)) (past n at) (Short p) (sym (ap (λ (c : Bool). cond c (got (value (take n at.left)) (past n at)) (stopped (Leb at.place))) t) ∙ e)
  not_short at n p false t e =
      let clash : Leb at.place ≡ Short p = fault_is {X = X} _ _ (sym (ap (λ (c : Bool). cond c (got (value (take n at.left)) (past n at)) (stopped (Leb at.place))) t) ∙ e) in cc

  module _ (small : (bytes : List ℕ) → length bytes < 10 → fits (with_zero bytes) ≡ true) where
    zero_ends : (at : Cursor) → run_length at.place 10 (with_zero at.left) ≡ many (suc (length at.left)) → length at.left < 10 → Ended (leb_at fits value) at
    zero_ends at run lt =
        let n = suc (length at.left) in
        let count : length (with_zero at.left) ≡ length at.left + 1 = length-append at.left (0 ∷ []) in
        let all : take n (with_zero at.left) ≡ with_zero at.left = take_all n (with_zero at.left) (omega (arith, count)) in
        record {
          more = 0 ∷ [];
          value = value (with_zero at.left);
          to = past n (with_more at (0 ∷ []));
          is = by_run at (0 ∷ []) (Ok n) run
              ∙ ap (λ (l : List ℕ). cond (fits l) (got (value l) (past n (with_more at (0 ∷ [])))) (stopped (Leb at.place))) all
              ∙ ap (λ (c : Bool). cond c (got (value (with_zero at.left)) (past n (with_more at (0 ∷ [])))) (stopped (Leb at.place))) (small at.left lt);
          empty = drop_all n (with_zero at.left) (omega (arith, count));
        }

    leb_ends : (at : Cursor) (r : Result ℕ ByteFault) (p : ℕ) → run_length at.place 10 at.left ≡ r → leb_at fits value at ≡ stopped (Short p) → Ended (leb_at fits value) at
    leb_ends at (Ok n) p h e = absurd (not_short at n p (fits (take n at.left)) refl (at_run at (Ok n) (stopped (Short p)) h e))
    leb_ends at (Err d) p h e =
        let same : d ≡ Short p = fault_is {X = X} _ _ (at_run at (Err d) (stopped (Short p)) h e) in
        let run = run_ends at.place 10 at.left p (h ∙ ap no_run same) in
        zero_ends at run.0 run.1

    leb_reads : Reader (leb_at fits value)
    leb_reads = record {
      stays = λ at more x to e. leb_stays at more (run_length at.place 10 at.left) x to refl e;
      lasts = λ at more p e. leb_lasts at more (run_length at.place 10 at.left) p refl e;
      ends = λ at p e. leb_ends at (run_length at.place 10 at.left) p refl e;
      none = λ at empty. ended at.place (ap (λ (r : Result ℕ ByteFault). r >>= number_upto fits value at) (run_of_none at.place at.left empty));
    }

-- the sum of fewer than ten bytes is below 2^63
power_positive : (n : ℕ) → 0 < 128 ^ n
power_positive zero = omega arith
power_positive (suc n) = let h = power_positive n in grind (arith, h)

one_byte_more : (n b s : ℕ) → s < 128 ^ n → b % 128 + 128 * s < 128 ^ suc n
one_byte_more n b s h = rw (pow-suc 128 n) (omega arith)

sum_below : (n : ℕ) (bytes : List ℕ) → length bytes ≤ n → leb_sum bytes < 128 ^ n
sum_below n [] h = rw leb_sum-nil (power_positive n)
sum_below zero (b ∷ bs) h = absurd (omega arith)
sum_below (suc n) (b ∷ bs) h = let below : leb_sum bs < 128 ^ n = sum_below n bs (omega arith) in rw (leb_sum-cons b bs) (one_byte_more n b (leb_sum bs) below)

sum_with_zero : (bytes : List ℕ) → leb_sum (with_zero bytes) ≡ leb_sum bytes
unfolding leb_sum
sum_with_zero [] = refl
sum_with_zero (b ∷ bs) = ap (λ (s : ℕ). b % 128 + 128 * s) (sum_with_zero bs)

small_sum : (bytes : List ℕ) → length bytes < 10 → leb_sum (with_zero bytes) < 2 ^ 63
small_sum bytes lt =
    let below : leb_sum bytes < 128 ^ 9 = sum_below 9 bytes (omega (arith, lt)) in
    let same = sum_with_zero bytes in
    omega (arith, below, same)

not_negative : (bytes : List ℕ) → is_negative (with_zero bytes) ≡ false
unfolding is_negative
not_negative [] = refl
not_negative (b ∷ []) = refl
not_negative (b ∷ c ∷ bs) = not_negative (c ∷ bs)

signed_with_zero : (bytes : List ℕ) → leb_signed (with_zero bytes) ≡ pos (leb_sum (with_zero bytes))
unfolding leb_signed
signed_with_zero bytes = ap (λ (b : Bool). if b then pos (leb_sum (with_zero bytes)) -ℤ pos (128 ^ length (with_zero bytes)) else pos (leb_sum (with_zero bytes))) (not_negative bytes)

above : (n : ℕ) (b : Bool) → int_lt (pos 0 -ℤ pos (2 ^ 63 + 1)) (pos n) ≡ b → b ≡ true
above n true e = refl
above n false e = absurd (omega (arith, ints))

below : (n : ℕ) (b : Bool) → n < 2 ^ 63 → int_lt (pos n) (pos (2 ^ 63)) ≡ b → b ≡ true
below n true lt e = refl
below n false lt e = absurd (omega (arith, ints))

small_fits : (n : ℕ) → n < 2 ^ 63 → fits_i64 (pos n) ≡ true
small_fits n lt = rw (above n _ refl, below n _ lt refl) refl

pub uleb_reads : Reader uleb_at
unfolding uleb_at
uleb_reads = leb_reads (λ run. nat_lt (leb_sum run) (2 ^ 64)) leb_sum (λ bytes lt. let small = small_sum bytes lt in lt-ltb (leb_sum (with_zero bytes)) (2 ^ 64) (omega (arith, small)))

pub sleb_reads : Reader sleb_at
unfolding sleb_at
sleb_reads = leb_reads (λ run. fits_i64 (leb_signed run)) leb_signed (λ bytes lt. ap fits_i64 (signed_with_zero bytes) ∙ small_fits (leb_sum (with_zero bytes)) (small_sum bytes lt))

-- ---- two consecutive readers
abbrev pub in_turn : {X Y : Type 0} → (Cursor → Read X) → (X → Cursor → Read Y) → Cursor → Read Y
in_turn first second at = first at >>= λ x. second x.0 x.1

module _ {X Y : Type 0} (first : Cursor → Read X) (second : X → Cursor → Read Y) (f : Reader first) (s : (x : X) → Reader (second x)) where
  abbrev on : Read X → Read Y
  on r = r >>= λ x. second x.0 x.1

  turn_stays : (at : Cursor) (more : List ℕ) (r : Read X) (y : Y) (to : Cursor) → first at ≡ r → on r ≡ got y to → on (first (with_more at more)) ≡ got y (with_more to more)
  turn_stays at more (Ok (x, between)) y to h e = ap on (f.stays at more x between h) ∙ (s x).stays between more y to e
  turn_stays at more (Err d) y to h e = absurd (not_stopped y to d (sym e))

  turn_lasts : (at : Cursor) (more : List ℕ) (r : Read X) (p : ℕ) → first at ≡ r → on r ≡ stopped (Leb p) → on (first (with_more at more)) ≡ stopped (Leb p)
  turn_lasts at more (Ok (x, between)) p h e = ap on (f.stays at more x between h) ∙ (s x).lasts between more p e
  turn_lasts at more (Err d) p h e = let same : d ≡ Leb p = fault_is {X = Y} _ _ e in ap on (f.lasts at more p (h ∙ ap (λ (c : ByteFault). stopped {X = X} c) same))

  -- the first value is there, and the second can be completed
  second_ends : (at : Cursor) (x : X) (between : Cursor) → first at ≡ got x between → Ended (second x) between → Ended (in_turn first second) at
  second_ends at x between h t = record {
    more = t.more;
    value = t.value;
    to = t.to;
    is = ap on (f.stays at t.more x between h) ∙ t.is;
    empty = t.empty;
  }

  -- the first value is completed by these bytes, and the second is there or can be completed
  both_end : (at : Cursor) (t : Ended first at) → OfNone (second t.value) t.to → Ended (in_turn first second) at
  both_end at t (there y to is empty) = record { more = t.more; value = y; to = to; is = ap on t.is ∙ is; empty = empty }
  both_end at t (ended p is) =
      let u = second_ends (with_more at t.more) t.value t.to t.is ((s t.value).ends t.to p is) in
      record {
        more = t.more ++ u.more;
        value = u.value;
        to = u.to;
        is = ap (λ (l : List ℕ). in_turn first second (record { place = at.place; left = l })) (sym (append_assoc at.left t.more u.more)) ∙ u.is;
        empty = u.empty;
      }

  turn_ends : (at : Cursor) (r : Read X) (p : ℕ) → first at ≡ r → on r ≡ stopped (Short p) → Ended (in_turn first second) at
  turn_ends at (Ok (x, between)) p h e = second_ends at x between h ((s x).ends between p e)
  turn_ends at (Err d) p h e =
      let same : d ≡ Short p = fault_is {X = Y} _ _ e in
      let t = f.ends at p (h ∙ ap (λ (c : ByteFault). stopped {X = X} c) same) in
      both_end at t ((s t.value).none t.to t.empty)

  turn_none : (at : Cursor) → OfNone first at → OfNone (in_turn first second) at
  turn_none at (there x to is empty) = elim ((s x).none to empty) [
    | there y end is_there nothing ↦ there y end (ap on is ∙ is_there) nothing
    | ended p short ↦ ended p (ap on is ∙ short)
  ]
  turn_none at (ended p is) = ended p (ap on is)

  pub turn_reads : Reader (in_turn first second)
  turn_reads = record {
    stays = λ at more y to e. turn_stays at more (first at) y to refl e;
    lasts = λ at more p e. turn_lasts at more (first at) p refl e;
    ends = λ at p e. turn_ends at (first at) p refl e;
    none = λ at empty. turn_none at (f.none at empty);
  }

-- ---- from no bytes
-- a reader gives something of some bytes
pub gives_some : {X : Type 0} (read : Cursor → Read X) → Reader read → Ended read (record { place = 0; left = [] })
gives_some read r = elim (r.none (record { place = 0; left = [] }) refl) [
  | there x to is empty ↦ record { more = []; value = x; to = to; is = is; empty = empty }
  | ended p is ↦ r.ends (record { place = 0; left = [] }) p is
]
