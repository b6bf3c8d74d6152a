-- Lists made for each number of a range.
use Rattle.std.proofs.Common.{◌≡◌, ℕ, zero, suc, ◌+◌, ◌*◌, List, [], ◌++◌, length, ap, sym, subst, ◌∙◌, arith, append_assoc, append-nil, length-append}
use Rattle.std.specs.List.{flat_map, range_with_len}

more_from : (f : ℕ → List ℕ) (a n : ℕ) → flat_map f (range_with_len a (suc n)) ≡ flat_map f (range_with_len a n) ++ f (a + n)
more_from f a zero = append-nil (f a) ∙ ap f (omega arith)
more_from f a (suc n) =
    ap (λ bytes. f a ++ bytes) (more_from f (a + 1) n)
    ∙ (sym (append_assoc (f a) (flat_map f (range_with_len (a + 1) n)) (f (a + 1 + n)))
    ∙ ap (λ i. (f a ++ flat_map f (range_with_len (a + 1) n)) ++ f i) (omega arith))

-- one more number
pub range_more : (f : ℕ → List ℕ) (n : ℕ) → flat_map f (range_with_len 0 (n + 1)) ≡ flat_map f (range_with_len 0 n) ++ f n
range_more f n =
    let more : n + 1 ≡ suc n = omega arith in
    let last : 0 + n ≡ n = omega arith in
    rw more (subst (λ (i : ℕ). flat_map f (range_with_len 0 (suc n)) ≡ flat_map f (range_with_len 0 n) ++ f i) last (more_from f 0 n))

-- a list that was appended to twice
pub appended : (old before one now new all : List ℕ) → now ≡ old ++ before → new ≡ now ++ one → all ≡ before ++ one → new ≡ old ++ all
appended old before one now new all p q r =
    q ∙ (ap (λ bytes. bytes ++ one) p ∙ (append_assoc old before one ∙ ap (λ bytes. old ++ bytes) (sym r)))

-- each list has `len` elements
pub length-range : (f : ℕ → List ℕ) (len a n : ℕ) → ((i : ℕ) → length (f i) ≡ len) → length (flat_map f (range_with_len a n)) ≡ len * n
length-range f len a zero each = omega arith
length-range f len a (suc n) each =
    length-append (f a) (flat_map f (range_with_len (a + 1) n)) ∙ omega (arith, each a, length-range f len (a + 1) n each)

-- seven lists, each appended to those before
pub seven_appended : (old a b c d e f g : List ℕ) (b1 b2 b3 b4 b5 b6 b7 : List ℕ)
    → b1 ≡ old ++ a → b2 ≡ b1 ++ b → b3 ≡ b2 ++ c → b4 ≡ b3 ++ d → b5 ≡ b4 ++ e → b6 ≡ b5 ++ f → b7 ≡ b6 ++ g
    → b7 ≡ old ++ (a ++ (b ++ (c ++ (d ++ (e ++ (f ++ (g ++ [])))))))
seven_appended old a b c d e f g b1 b2 b3 b4 b5 b6 b7 p q r s t u v =
    rw (v, u, t, s, r, q, p) (simp (append_assoc, append-nil))
