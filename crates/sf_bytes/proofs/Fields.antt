-- Fields of fixed width: what a read gives is there, and what is there is read.
use Rattle.std.proofs.Common.{◌≡◌, ℕ, ℤ, ◌+◌, ◌≤◌, Bool, true, false, cond, ltb, List, length, take, drop, Result, Ok, Err, refl, sym, ap, subst, ◌∙◌, arith}
use Rattle.std.proofs.lemmas.Bool.{ltb-false, le-ltb}
use Rattle.std.proofs.lemmas.List.{take_at, drop_at, take-append-drop, length-append, length-take-le}
use Rattle.byteorder.specs.Endian.{little_number, twos_complement}
use Rattle.sf_bytes.specs.declared.fault.ByteFault.{ByteFault}
use Rattle.sf_bytes.specs.declared.fault.ByteFault.TheVariants.{Short}
use Rattle.sf_bytes.specs.Cursor.{Cursor, Read, past, ◌>>=◌, part_at, number_at, signed_at}
use Rattle.sf_bytes.specs.Standing.{Passes, Stands, Number, Signed, Bytes}

-- the value of a step that did not fail
pub bind_ok : {A B : Type 0} (r : Result A ByteFault) (f : A → Result B ByteFault) (y : B) → (r >>= f) ≡ Ok y → (x : A) × (r ≡ Ok x) × (f x ≡ Ok y)
bind_ok (Ok x) f y e = (x, refl, e)
bind_ok (Err d) f y e = absurd cc

-- a test that did not fail
pub guard_ok : {A : Type 0} (b : Bool) (d : ByteFault) (x y : A) → cond b (Err d) (Ok x) ≡ Ok y → (b ≡ false) × (x ≡ y)
guard_ok true d x y e = absurd cc
guard_ok false d x y e = (refl, cc)

pub unless_ok : {A : Type 0} (b : Bool) (d : ByteFault) (x y : A) → cond b (Ok x) (Err d) ≡ Ok y → (b ≡ true) × (x ≡ y)
unless_ok true d x y e = (refl, cc)
unless_ok false d x y e = absurd cc

abbrev fine : {A : Type 0} → A → Result A ByteFault
fine x = Ok x

pub ok_is : {A : Type 0} (x y : A) → fine x ≡ fine y → x ≡ y
ok_is x y e = cc

pub past-passes : (n : ℕ) (at : Cursor) → n ≤ length at.left → Passes (take n at.left) at (past n at)
past-passes n at within = record {
  bytes = sym (take-append-drop n at.left);
  moved = ap (λ (k : ℕ). at.place + k) (sym (length-take-le n at.left within));
}

pub passes-take : (run : List ℕ) (from to : Cursor) → Passes run from to → take (length run) from.left ≡ run
passes-take run from to p = rw p.bytes (take_at run to.left (length run) refl)

pub passes-past : (run : List ℕ) (from to : Cursor) → Passes run from to → past (length run) from ≡ to
passes-past run from to p =
    let place : from.place + length run ≡ to.place = sym p.moved in
    let left : drop (length run) from.left ≡ to.left = rw p.bytes (drop_at run to.left (length run) refl) in
    ap (λ (k : ℕ). record { place = k; left = drop (length run) from.left }) place ∙ ap (λ (xs : List ℕ). record { place = to.place; left = xs }) left

pub passes-within : (run : List ℕ) (from to : Cursor) → Passes run from to → length run ≤ length from.left
passes-within run from to p = rw p.bytes (omega (arith, length-append run to.left))

-- a field of n bytes: its value is a function of them
abbrev pub field_at : {X : Type 0} → (List ℕ → X) → ℕ → Cursor → Read X
field_at value n at = cond (ltb (length at.left) n) (Err (Short at.place)) (Ok (value (take n at.left), past n at))

pub record Found {X : Type 0} (value : List ℕ → X) (n : ℕ) (x : X) (from to : Cursor) : Type 0 where
  pub within : n ≤ length from.left
  pub value_is : value (take n from.left) ≡ x
  pub past_is : past n from ≡ to

pub field-found : {X : Type 0} (value : List ℕ → X) (n : ℕ) (at : Cursor) (x : X) (after : Cursor) → field_at value n at ≡ Ok (x, after) → Found value n x at after
field-found {X = X} value n at x after e =
    let g = guard_ok (ltb (length at.left) n) (Short at.place) (value (take n at.left), past n at) (x, after) e in
    record {
      within = ltb-false _ _ g.0;
      value_is = ap (λ (p : X × Cursor). p.0) g.1;
      past_is = ap (λ (p : X × Cursor). p.1) g.1;
    }

pub found-passes : {X : Type 0} (value : List ℕ → X) (n : ℕ) (x : X) (from to : Cursor) → Found value n x from to → Passes (take n from.left) from to
found-passes value n x from to f = subst (λ (c : Cursor). Passes (take n from.left) from c) f.past_is (past-passes n from f.within)

pub field-again : {X : Type 0} (value : List ℕ → X) (run : List ℕ) (at after : Cursor) → Passes run at after → field_at value (length run) at ≡ Ok (value run, after)
field-again value run at after p =
    let enough : ltb (length at.left) (length run) ≡ false = le-ltb _ _ (passes-within run at after p) in
    rw (enough, passes-take run at after p, passes-past run at after p) refl

-- ---- numbers

pub number_takes : (n : ℕ) (at : Cursor) (x : ℕ) (after : Cursor) → number_at n at ≡ Ok (x, after) → Stands (Number n) x at after
unfolding number_at
number_takes n at x after e =
    let f = field-found (little_number n) n at x after e in
    record {
      run = take n at.left;
      kind = record { width = length-take-le n at.left f.within; value = sym f.value_is };
      passes = found-passes (little_number n) n x at after f;
    }

pub number_again : (n : ℕ) (at : Cursor) (x : ℕ) (after : Cursor) → Stands (Number n) x at after → number_at n at ≡ Ok (x, after)
unfolding number_at
number_again n at x after s =
    rw (s.kind.value, ← s.kind.width) (field-again (little_number (length s.run)) s.run at after s.passes)

pub signed_takes : (n : ℕ) (at : Cursor) (z : ℤ) (after : Cursor) → signed_at n at ≡ Ok (z, after) → Stands (Signed n) z at after
unfolding signed_at
signed_takes n at z after e =
    let value = λ (bytes : List ℕ). twos_complement n (little_number n bytes) in
    let f = field-found value n at z after e in
    record {
      run = take n at.left;
      kind = record { width = length-take-le n at.left f.within; value = sym f.value_is };
      passes = found-passes value n z at after f;
    }

pub signed_again : (n : ℕ) (at : Cursor) (z : ℤ) (after : Cursor) → Stands (Signed n) z at after → signed_at n at ≡ Ok (z, after)
unfolding signed_at
signed_again n at z after s =
    let value = λ (bytes : List ℕ). twos_complement (length s.run) (little_number (length s.run) bytes) in
    rw (s.kind.value, ← s.kind.width) (field-again value s.run at after s.passes)

-- ---- parts

abbrev pub cursor_at : ℕ → List ℕ → Cursor
cursor_at place bytes = record { place = place; left = bytes }

pub part_takes : (n : ℕ) (at part after : Cursor) → part_at n at ≡ Ok (part, after) → Stands (Bytes n) part.left at after × (part.place ≡ at.place)
unfolding part_at
part_takes n at part after e =
    let value = cursor_at at.place in
    let f = field-found value n at part after e in (
      record {
        run = take n at.left;
        kind = record { width = length-take-le n at.left f.within; value = sym (ap (λ (c : Cursor). c.left) f.value_is) };
        passes = found-passes value n part at after f;
      },
      sym (ap (λ (c : Cursor). c.place) f.value_is),
    )

pub part_again : (n : ℕ) (at : Cursor) (bytes : List ℕ) (after : Cursor) → Stands (Bytes n) bytes at after → part_at n at ≡ Ok (record { place = at.place; left = bytes }, after)
unfolding part_at
part_again n at bytes after s =
    let value = cursor_at at.place in
    rw (s.kind.value, ← s.kind.width) (field-again value s.run at after s.passes)
