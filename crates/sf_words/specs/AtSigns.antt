-- Inside the crate. Where a word is cut: at its last `@`, since an address has none.
use Rattle.std.proofs.Common.{◌≡◌, ◌≢◌, ℕ, suc, ◌<◌, eqb, List, [], ◌∷◌, ◌++◌, length, map, get_or, take, drop, refl, sym, ap, subst, ◌∙◌, arith}
use Rattle.std.specs.Str.{NoCharPasses}
use Rattle.std.specs.Str.Pattern.{HasCharAt}
use Rattle.std.proofs.lemmas.Bool.Decides.{nat_tests}
use Rattle.std.proofs.lemmas.List.{take-append-drop}
use Rattle.std.proofs.lemmas.Str.Pattern.{NoCharPasses-char, drop_at_char}
use Rattle.sf_base.specs.Word.{SpellsHexadecimal, AllBelow, digit_character}

-- no byte is an `@`
abbrev pub HasNoAt : List ℕ → Type 0
HasNoAt [] = Unit {0}
HasNoAt (b ∷ bs) = (b ≢ 64) × HasNoAt bs

no_at_with_at : (a b : List ℕ) → HasNoAt (a ++ 64 ∷ b) → ⊥
no_at_with_at [] b h = h.0 refl
no_at_with_at (x ∷ a) b h = no_at_with_at a b h.1

HasNoAt-from_places : (bs : List ℕ) → ((i : ℕ) → i < length bs → get_or bs i 0 ≢ 64) → HasNoAt bs
HasNoAt-from_places [] h = tt
HasNoAt-from_places (b ∷ bs) h = (h 0 (omega arith), HasNoAt-from_places bs (λ i lt. h (suc i) (omega arith)))

-- there is one cut with no `@` behind it
pub cut_once : (a b c d : List ℕ) → a ++ 64 ∷ b ≡ c ++ 64 ∷ d → HasNoAt b → HasNoAt d → (a ≡ c) × (b ≡ d)
cut_once [] b [] d e p q = (refl, cc)
cut_once [] b (y ∷ c) d e p q = let f : b ≡ c ++ 64 ∷ d = cc in absurd (no_at_with_at c d (subst HasNoAt f p))
cut_once (x ∷ a) b [] d e p q = let f : d ≡ a ++ 64 ∷ b = cc in absurd (no_at_with_at a b (subst HasNoAt f q))
cut_once (x ∷ a) b (y ∷ c) d e p q =
    let heads : x ≡ y = cc in
    let tails : a ++ 64 ∷ b ≡ c ++ 64 ∷ d = cc in
    let rest = cut_once a b c d tails p q in
    (cc, rest.1)

digit_is_no_at : (d : ℕ) → d < 16 → digit_character d ≢ 64
digit_is_no_at d lt = grind (arith, nat_tests)

digits_have_no_at : (ds : List ℕ) → AllBelow 16 ds → HasNoAt (map digit_character ds)
digits_have_no_at [] h = tt
digits_have_no_at (d ∷ ds) h = (digit_is_no_at d h.0, digits_have_no_at ds h.1)

-- an address has no `@`
pub HasNoAt-address : (text : List ℕ) (n : ℕ) → SpellsHexadecimal text n → HasNoAt text
HasNoAt-address text n h =
    subst HasNoAt (sym h.1.text_is) (omega arith, (omega arith, digits_have_no_at h.0 h.1.below))

-- what `rsplit_once` gives is the cut of a word with an address
pub cut_is_last : (s name digits : List ℕ) (i j : ℕ) → NoCharPasses (λ d. eqb d 64) (drop j s) → HasCharAt 64 s i j → s ≡ name ++ 64 ∷ digits → HasNoAt digits
    → (take i s ≡ name) × (drop j s ≡ digits)
cut_is_last s name digits i j none at e free =
    let behind = HasNoAt-from_places (drop j s) (λ k lt. NoCharPasses-char 64 (drop j s) k none (omega arith) lt) in
    let cut : drop i s ≡ 64 ∷ drop j s = drop_at_char 64 s i j at (omega arith) in
    let whole : take i s ++ 64 ∷ drop j s ≡ s = ap (λ (x : List ℕ). take i s ++ x) (sym cut) ∙ take-append-drop i s in
    cut_once (take i s) (drop j s) name digits (whole ∙ e) behind free

-- a word with an address has an `@`
pub has_at : (s name digits : List ℕ) → s ≡ name ++ 64 ∷ digits → NoCharPasses (λ d. eqb d 64) s → ⊥
has_at s name digits e none =
    no_at_with_at name digits (subst HasNoAt e (HasNoAt-from_places s (λ k lt. NoCharPasses-char 64 s k none (omega arith) lt)))
