-- Tests that hold and checks that pass.
use Rattle.std.proofs.Common.{◌≡◌, ◌≢◌, ◌<◌, ◌≤◌, ℕ, Bool, true, false, IsTrue, Ok, Err, refl, ap, ◌∙◌, arith, nat_lt, nat_le}
use Rattle.std.specs.Prelude.{◌&&◌, ◌||◌, is_ok, ◌==◌}
use Rattle.sf_decode.specs.declared.fault.DecodeFault.{DecodeFault}
use Rattle.sf_decode.specs.Checking.{Check, unless, where_so, ◌>>◌}

pub not_true : IsTrue false → ⊥
not_true e = absurd (let no : false ≡ true = e in cc)

-- a check that found nothing
pub nothing_wrong : (c : Check) → IsTrue (is_ok c) → c ≡ Ok tt
nothing_wrong (Ok x) e = refl
nothing_wrong (Err f) e = absurd (not_true e)

-- both of two checks
pub both_pass : (a b : Check) → (a >> b) ≡ Ok tt → (a ≡ Ok tt) × (b ≡ Ok tt)
both_pass (Ok x) b e = (refl, e)
both_pass (Err f) b e = absurd (let no : Err f ≡ Ok tt = e in cc)

pub behind : (a b : Check) → a ≡ Ok tt → b ≡ Ok tt → (a >> b) ≡ Ok tt
behind a b p q = ap (λ (c : Check). c >> b) p ∙ q

-- a test that holds
pub unless_holds : (t : Bool) (e : DecodeFault) → unless t e ≡ Ok tt → IsTrue t
unless_holds true e p = refl
unless_holds false e p = absurd (let no : Err e ≡ Ok tt = p in cc)

pub holds : (t : Bool) (e : DecodeFault) → IsTrue t → unless t e ≡ Ok tt
holds true e p = refl
holds false e p = absurd (not_true p)

pub where_holds : (t : Bool) (c : Check) → where_so t c ≡ Ok tt → IsTrue t → c ≡ Ok tt
where_holds true c e p = e
where_holds false c e p = absurd (not_true p)

pub where_passes : (t : Bool) (c : Check) → (IsTrue t → c ≡ Ok tt) → where_so t c ≡ Ok tt
where_passes true c f = f refl
where_passes false c f = refl

-- both parts of a test
pub first_of : (a b : Bool) → IsTrue (a && b) → IsTrue a
first_of true b e = refl
first_of false b e = absurd (not_true e)

pub second_of : (a b : Bool) → IsTrue (a && b) → IsTrue b
second_of true b e = e
second_of false b e = absurd (not_true e)

pub both_of : (a b : Bool) → IsTrue a → IsTrue b → IsTrue (a && b)
both_of true b p q = q
both_of false b p q = p

-- tests of numbers
pub le_if : (m n : ℕ) → IsTrue (nat_le m n) → m ≤ n
le_if m n e = search arith

pub lt_if : (m n : ℕ) → IsTrue (nat_lt m n) → m < n
lt_if m n e = search arith

pub eq_if : (m n : ℕ) → IsTrue (m == n) → m ≡ n
eq_if m n e = search arith

pub if_le : (m n : ℕ) → m ≤ n → IsTrue (nat_le m n)
if_le m n e = search arith

pub if_lt : (m n : ℕ) → m < n → IsTrue (nat_lt m n)
if_lt m n e = search arith

pub if_eq : (m n : ℕ) → m ≡ n → IsTrue (m == n)
if_eq m n e = search arith

pub ge_if_not : (m n : ℕ) → nat_lt m n ≡ false → n ≤ m
ge_if_not m n e = search arith

pub gt_if_not : (m n : ℕ) → nat_le m n ≡ false → n < m
gt_if_not m n e = search arith

pub ne_if : (m n : ℕ) → (m == n) ≡ false → m ≢ n
ne_if m n e = search arith

pub not_le : (m n : ℕ) → n < m → nat_le m n ≡ false
not_le m n lt = search arith

pub not_eq : (m n : ℕ) → m ≢ n → (m == n) ≡ false
not_eq m n ne = search arith

pub or_right : (a b : Bool) → IsTrue b → IsTrue (a || b)
or_right true b e = refl
or_right false b e = e
