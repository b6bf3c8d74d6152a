-- Texts that are put together piece by piece.
use Rattle.std.proofs.Common.{◌≡◌, ◌<◌, ℕ, suc, ◌+◌, List, [], ◌∷◌, ◌++◌, length, get_or, take, drop, ap, sym, ◌∙◌, append_assoc, arith}
use Rattle.std.specs.List.{flat_map}
use Rattle.std.proofs.lemmas.List.{flat_map_more, take-append-drop, take_more}
use Rattle.std.proofs.lemmas.List.Concat.{flat_map-append}
use Rattle.std.proofs.Math.Seq.{drop-cons}
use Rattle.sf_text.proofs.Appended.{append_nil}

-- an item's text comes after those of the items so far
pub texts_with : {X : Type 0} (text : X → List ℕ) (xs : List X) (x : X) → flat_map text xs ++ text x ≡ flat_map text (xs ++ x ∷ [])
texts_with text xs x = flat_map_more text [] xs x

-- the next item's text, in front of those of the items that are left
pub next_text : {X : Type 0} (text : X → List ℕ) (xs left rest : List X) (x : X) (all : List ℕ) → rest ≡ x ∷ left → flat_map text xs ++ flat_map text rest ≡ all
    → flat_map text xs ++ (text x ++ flat_map text left) ≡ all
next_text {X = X} text xs left rest x all are so_far = ap (λ (ys : List X). flat_map text xs ++ flat_map text ys) (sym are) ∙ so_far

-- the items so far have one more, after the next item's text
pub one_more_text : {X : Type 0} (text : X → List ℕ) (xs left rest : List X) (x : X) (all : List ℕ) → rest ≡ x ∷ left → flat_map text xs ++ flat_map text rest ≡ all
    → flat_map text (xs ++ x ∷ []) ++ flat_map text left ≡ all
one_more_text text xs left rest x all are so_far =
    ap (λ (t : List ℕ). t ++ flat_map text left) (sym (texts_with text xs x)) ∙ append_assoc (flat_map text xs) (text x) (flat_map text left) ∙ next_text text xs left rest x all are so_far

-- no item is left
pub all_texts : {X : Type 0} (text : X → List ℕ) (xs rest : List X) (all : List ℕ) → rest ≡ [] → flat_map text xs ++ flat_map text rest ≡ all → flat_map text xs ≡ all
all_texts {X = X} text xs rest all none so_far = sym (append_nil (flat_map text xs)) ∙ ap (λ (ys : List X). flat_map text xs ++ flat_map text ys) (sym none) ∙ so_far

-- the items from a place on begin with the one at the place
pub item_in_front : {X : Type 0} (xs : List X) (i : ℕ) (x : X) → i < length xs → get_or xs i x ≡ x → drop i xs ≡ x ∷ drop (i + 1) xs
item_in_front xs i x within here =
    let next : i + 1 ≡ suc i = omega arith in
    drop-cons xs i x within ∙ (ap (λ y. y ∷ drop (suc i) xs) here ∙ ap (λ n. x ∷ drop n xs) (sym next))

-- the items up to a place and the one at the place are those up to the next
pub items_with : {X : Type 0} (xs : List X) (i : ℕ) (x : X) → i < length xs → get_or xs i x ≡ x → take i xs ++ x ∷ [] ≡ take (i + 1) xs
items_with {X = X} xs i x within here = ap (λ (y : X). take i xs ++ y ∷ []) (sym here) ∙ sym (take_more xs i x within)

-- the texts before a place, the text at the place and those after it
pub texts_around : {X : Type 0} (text : X → List ℕ) (xs : List X) (i : ℕ) (x : X) → i < length xs → get_or xs i x ≡ x
    → flat_map text (take i xs) ++ (text x ++ flat_map text (drop (i + 1) xs)) ≡ flat_map text xs
texts_around {X = X} text xs i x within here =
    ap (λ (ys : List X). flat_map text (take i xs) ++ flat_map text ys) (sym (item_in_front xs i x within here))
    ∙ sym (flat_map-append text (take i xs) (drop i xs)) ∙ ap (λ (ys : List X). flat_map text ys) (take-append-drop i xs)
