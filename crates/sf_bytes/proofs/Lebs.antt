-- LEB128 numbers: what a read gives is there, and what is there is read.
use Rattle.std.proofs.Common.{◌≡◌, ℕ, ℤ, pos, ◌-ℤ◌, ◌&&◌, zero, suc, ◌+◌, ◌<◌, ◌≤◌, ◌^◌, Bool, true, false, cond, ltb, List, [], ◌∷◌, ◌++◌, length, take, Result, Ok, Err, refl, sym, ap, subst, ◌∙◌, arith, inl, inr}
use Rattle.std.specs.Prelude.{int_lt, FitsSigned}
use Rattle.std.specs.Int.{w64}
use Rattle.std.proofs.lemmas.Int.{ints}
use Rattle.std.proofs.lemmas.Bool.{lt-ltb, ltb-true, cases_lt}
use Rattle.std.proofs.lemmas.List.{length-take-le}
use Rattle.sf_bytes.specs.declared.fault.ByteFault.{ByteFault}
use Rattle.sf_bytes.specs.declared.fault.ByteFault.TheVariants.{Leb}
use Rattle.sf_bytes.specs.Cursor.{Cursor, Read, past}
use Rattle.sf_bytes.specs.Standing.{Passes, Stands}
use Rattle.sf_bytes.specs.Leb.{leb_sum, leb_signed, IsRun, Uleb, Sleb, longer, run_length, fits_i64, uleb_at, sleb_at}
use Rattle.sf_bytes.proofs.Fields.{bind_ok, unless_ok, ok_is, past-passes, passes-take, passes-past}
use Rattle.sf_bytes.proofs.Run.{run_length-goes_on, run_length-ends}

-- the first n bytes are a run
pub record Begins (most n : ℕ) (bytes : List ℕ) : Type 0 where
  pub ends : IsRun (take n bytes)
  pub some : 0 < n
  pub most_is : n ≤ most
  pub within : n ≤ length bytes

IsRun-cons : (b : ℕ) (bs : List ℕ) → 128 ≤ b → IsRun bs → IsRun (b ∷ bs)
IsRun-cons b [] high r = absurd r
IsRun-cons b (c ∷ bs) high r = (high, r)

longer_ok : (r : Result ℕ ByteFault) (n : ℕ) → longer r ≡ Ok n → (k : ℕ) × (r ≡ Ok k) × (suc k ≡ n)
longer_ok (Ok k) n e = (k, refl, ok_is (suc k) n e)
longer_ok (Err d) n e = absurd cc

Begins-longer : (most k b : ℕ) (bs : List ℕ) → 128 ≤ b → Begins most k bs → Begins (suc most) (suc k) (b ∷ bs)
Begins-longer most k b bs high h = record {
  ends = IsRun-cons b (take k bs) high h.ends;
  some = omega arith;
  most_is = omega (arith, h.most_is);
  within = omega (arith, h.within);
}

one_byte : (most b : ℕ) (bs : List ℕ) → b < 128 → Begins (suc most) 1 (b ∷ bs)
one_byte most b bs low = record { ends = low; some = omega arith; most_is = omega arith; within = omega arith }

pub run_takes : (place most : ℕ) (bytes : List ℕ) (n : ℕ) → run_length place most bytes ≡ Ok n → Begins most n bytes
unfolding run_length
run_takes place zero bytes n e = absurd cc
run_takes place (suc most) [] n e = absurd cc
run_takes place (suc most) (b ∷ bs) n e =
    elim (cases_lt b 128) [
      | inl low ↦ let one : 1 ≡ n = ok_is 1 n (sym (run_length-ends place most b bs low) ∙ e) in
          subst (λ (k : ℕ). Begins (suc most) k (b ∷ bs)) one (one_byte most b bs low)
      | inr high ↦ let l = longer_ok (run_length place most bs) n (sym (run_length-goes_on place most b bs high) ∙ e) in
          subst (λ (k : ℕ). Begins (suc most) k (b ∷ bs)) l.2 (Begins-longer most l.0 b bs high (run_takes place most bs l.0 l.1))
    ]

pub run_again : (place most : ℕ) (run rest : List ℕ) → IsRun run → length run ≤ most → run_length place most (run ++ rest) ≡ Ok (length run)
run_again place most [] rest r h = absurd r
run_again place zero (b ∷ bs) rest r h = absurd (omega arith)
run_again place (suc most) (b ∷ []) rest r h = run_length-ends place most b rest r
run_again place (suc most) (b ∷ c ∷ bs) rest r h =
    run_length-goes_on place most b ((c ∷ bs) ++ rest) r.0 ∙ ap longer (run_again place most (c ∷ bs) rest r.1 (omega arith))

-- ---- unsigned

-- a value, if its run is a number
abbrev number_upto : Bool → {X : Type 0} → X → ℕ → Cursor → Read X
number_upto fits x n at = cond fits (Ok (x, past n at)) (Err (Leb at.place))

pub uleb_takes : (at : Cursor) (v : ℕ) (after : Cursor) → uleb_at at ≡ Ok (v, after) → Stands Uleb v at after
unfolding uleb_at
uleb_takes at v after e =
    let a = bind_ok (run_length at.place 10 at.left) (λ n. number_upto (ltb (leb_sum (take n at.left)) (2 ^ 64)) (leb_sum (take n at.left)) n at) (v, after) e in
    let n = a.0 in
    let b = run_takes at.place 10 at.left n a.1 in
    let g = unless_ok (ltb (leb_sum (take n at.left)) (2 ^ 64)) (Leb at.place) (leb_sum (take n at.left), past n at) (v, after) a.2 in
    let v-is : leb_sum (take n at.left) ≡ v = ap (λ (p : ℕ × Cursor). p.0) g.1 in
    let after-is : past n at ≡ after = ap (λ (p : ℕ × Cursor). p.1) g.1 in
    record {
      run = take n at.left;
      kind = record {
        ends = b.ends;
        within = rw (length-take-le n at.left b.within) b.most_is;
        value = sym v-is;
        fits = rw (← v-is) (ltb-true _ _ g.0);
      };
      passes = subst (λ (c : Cursor). Passes (take n at.left) at c) after-is (past-passes n at b.within);
    }

run-standing : (most : ℕ) (run : List ℕ) (at after : Cursor) → IsRun run → length run ≤ most → Passes run at after → run_length at.place most at.left ≡ Ok (length run)
run-standing most run at after r h p = rw p.bytes (run_again at.place most run after.left r h)

pub uleb_again : (at : Cursor) (v : ℕ) (after : Cursor) → Stands Uleb v at after → uleb_at at ≡ Ok (v, after)
unfolding uleb_at
uleb_again at v after s =
    let fits : leb_sum s.run < 2 ^ 64 = rw (← s.kind.value) s.kind.fits in
    rw (run-standing 10 s.run at after s.kind.ends s.kind.within s.passes, passes-take s.run at after s.passes, passes-past s.run at after s.passes, lt-ltb _ _ fits, s.kind.value) refl

-- ---- signed

both : (a b : Bool) → (a && b) ≡ true → (a ≡ true) × (b ≡ true)
both true true e = (refl, refl)
both true false e = absurd cc
both false b e = absurd cc

fits-signed : (z : ℤ) → fits_i64 z ≡ true → FitsSigned w64 z
fits-signed z e =
    let p = both (int_lt (pos 0 -ℤ pos (2 ^ 63 + 1)) z) (int_lt z (pos (2 ^ 63))) e in
    let low = p.0 in
    let high = p.1 in
    omega (arith, ints)

above : (z : ℤ) → FitsSigned w64 z → int_lt (pos 0 -ℤ pos (2 ^ 63 + 1)) z ≡ true
above z h = by (int_lt (pos 0 -ℤ pos (2 ^ 63 + 1)) z) refl
  where
    by : (t : Bool) → int_lt (pos 0 -ℤ pos (2 ^ 63 + 1)) z ≡ t → t ≡ true
    by true e = refl
    by false e = absurd (omega (arith, ints))

below : (z : ℤ) → FitsSigned w64 z → int_lt z (pos (2 ^ 63)) ≡ true
below z h = by (int_lt z (pos (2 ^ 63))) refl
  where
    by : (t : Bool) → int_lt z (pos (2 ^ 63)) ≡ t → t ≡ true
    by true e = refl
    by false e = absurd (omega (arith, ints))

signed-fits : (z : ℤ) → FitsSigned w64 z → fits_i64 z ≡ true
signed-fits z h = rw (above z h, below z h) refl

pub sleb_takes : (at : Cursor) (z : ℤ) (after : Cursor) → sleb_at at ≡ Ok (z, after) → Stands Sleb z at after
unfolding sleb_at
sleb_takes at z after e =
    let a = bind_ok (run_length at.place 10 at.left) (λ n. number_upto (fits_i64 (leb_signed (take n at.left))) (leb_signed (take n at.left)) n at) (z, after) e in
    let n = a.0 in
    let b = run_takes at.place 10 at.left n a.1 in
    let g = unless_ok (fits_i64 (leb_signed (take n at.left))) (Leb at.place) (leb_signed (take n at.left), past n at) (z, after) a.2 in
    let z-is : leb_signed (take n at.left) ≡ z = ap (λ (p : ℤ × Cursor). p.0) g.1 in
    let after-is : past n at ≡ after = ap (λ (p : ℤ × Cursor). p.1) g.1 in
    record {
      run = take n at.left;
      kind = record {
        ends = b.ends;
        within = rw (length-take-le n at.left b.within) b.most_is;
        value = sym z-is;
        fits = rw (← z-is) (fits-signed (leb_signed (take n at.left)) g.0);
      };
      passes = subst (λ (c : Cursor). Passes (take n at.left) at c) after-is (past-passes n at b.within);
    }

abbrev chosen : Bool → ℤ → Cursor → ℕ → Read ℤ
chosen fits z after place = cond fits (Ok (z, after)) (Err (Leb place))

pub sleb_again : (at : Cursor) (z : ℤ) (after : Cursor) → Stands Sleb z at after → sleb_at at ≡ Ok (z, after)
unfolding sleb_at
sleb_again at z after s =
    let fits : FitsSigned w64 (leb_signed s.run) = rw (← s.kind.value) s.kind.fits in
    let tested : fits_i64 (leb_signed s.run) ≡ true = signed-fits (leb_signed s.run) fits in
    rw (run-standing 10 s.run at after s.kind.ends s.kind.within s.passes, passes-take s.run at after s.passes, passes-past s.run at after s.passes) (ap (λ (t : Bool). chosen t (leb_signed s.run) after at.place) tested ∙ ap (λ (x : ℤ). chosen true x after at.place) (sym s.kind.value))
