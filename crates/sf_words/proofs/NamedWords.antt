-- Words that name things, one after the other.
use Rattle.std.proofs.Common.{◌≡◌, ℕ, zero, suc, ◌<◌, List, [], ◌∷◌, map, length, get_or, refl, ap, sym, subst, ◌∙◌, Option, Some, None, true, false, arith}
use Rattle.std.specs.Prelude.{IfSome, IsSomeAnd}
use Rattle.std.specs.Option.{is_some}
use Rattle.std.proofs.lemmas.List.{length-map}
use Rattle.std.specs.Coded.{Coded, Coded-set, coded_ℕ}
use mathlib.Core.Logic.{∥∥₁_elim}
use Rattle.std.specs.List.{All, AllZip}
use Rattle.sf_words.specs.Naming.{FilesNamed}
use Rattle.sf_words.specs.OneReading.{the_list}
use Rattle.std.proofs.lemmas.List.Elements.{All-nil, All-cons, All-head, All-tail}

-- a word among words that name things names one
pub named_at : {A X : Type 0} (text : A → List ℕ) (Is : List ℕ → X → Type 0) (words : List A) (things : List X) (k : ℕ) (d : A)
    → AllZip Is (map text words) things → k < length words → (thing : X) × Is (text (get_or words k d)) thing
named_at text Is [] things k d h lt = let none : ⊥ = omega arith in absurd none
named_at text Is (w ∷ ws) [] k d h lt = absurd h
named_at text Is (w ∷ ws) (x ∷ xs) zero d h lt = (x, h.0)
named_at text Is (w ∷ ws) (x ∷ xs) (suc k) d h lt = named_at text Is ws xs k d h.1 (omega arith)

-- words each of which names a thing name things
pub all_named : {A X : Type 0} (text : A → List ℕ) (Is : List ℕ → X → Type 0) (words : List A) → All (λ (w : A). (thing : X) × Is (text w) thing) words
    → (things : List X) × AllZip Is (map text words) things
all_named text Is [] h = ([], tt)
all_named {A} {X} text Is (w ∷ ws) h =
    let first = All-head (λ (v : A). (thing : X) × Is (text v) thing) w ws h in
    let rest = all_named text Is ws (All-tail (λ (v : A). (thing : X) × Is (text v) thing) w ws h) in
    (first.0 ∷ rest.0, (first.1, rest.1))

pub are_named : {A X : Type 0} (text : A → List ℕ) (Is : List ℕ → X → Type 0) (words : List A) → All (λ (w : A). (thing : X) × Is (text w) thing) words → FilesNamed Is (map text words)
are_named text Is words h = let named = all_named text Is words h in (named.0, ∣ named.1 ∣₁)

-- the things that are known to be named are those that such words name
pub known_named : {A X : Type 0} → Coded X → (text : A → List ℕ) (Is : List ℕ → X → Type 0) → ((word : List ℕ) (one other : X) → Is word one → Is word other → one ≡ other)
    → (words : List A) → All (λ (w : A). (thing : X) × Is (text w) thing) words → (said : FilesNamed Is (map text words)) → AllZip Is (map text words) said.0
known_named {A} {X} code text Is one words h said =
    let named = all_named text Is words h in
    subst (λ (things : List X). AllZip Is (map text words) things) (sym (the_list code Is one (map text words) said named.0 named.1)) named.1

-- what holds of the text of each word, as a list of texts or as a list of words
pub all_seen : {A X : Type 0} (text : A → X) (P : X → Type 0) (words : List A) → All P (map text words) → All (λ (w : A). P (text w)) words
all_seen text P [] h = All-nil (λ w. P (text w))
all_seen {A} text P (w ∷ ws) h = All-cons (λ (v : A). P (text v)) w ws (All-head P (text w) (map text ws) h) (all_seen text P ws (All-tail P (text w) (map text ws) h))

-- two lists that are joined item by item are as long
pub as_long : {A B : Type 0} (R : A → B → Type 0) (xs : List A) (ys : List B) → AllZip R xs ys → length xs ≡ length ys
as_long R [] [] h = refl
as_long R [] (y ∷ ys) h = absurd h
as_long R (x ∷ xs) [] h = absurd h
as_long R (x ∷ xs) (y ∷ ys) h = ap (λ (n : ℕ). suc n) (as_long R xs ys h.1)

-- there are as many things as words that name them
pub named_count : {A X : Type 0} (text : A → List ℕ) (Is : List ℕ → X → Type 0) (words : List A) (said : FilesNamed Is (map text words)) → length words ≡ length said.0
named_count text Is words said = ∥∥₁_elim said.1 (Coded-set coded_ℕ _ _) (λ h. sym (length-map words text) ∙ as_long Is (map text words) said.0 h)

-- the word at a place names the thing at that place
pub thing_at : {A X : Type 0} (text : A → List ℕ) (Is : List ℕ → X → Type 0) (words : List A) (things : List X) (k : ℕ) (d : A) (e : X)
    → AllZip Is (map text words) things → k < length words → Is (text (get_or words k d)) (get_or things k e)
thing_at text Is [] things k d e h lt = let none : ⊥ = omega arith in absurd none
thing_at text Is (w ∷ ws) [] k d e h lt = absurd h
thing_at text Is (w ∷ ws) (x ∷ xs) zero d e h lt = h.0
thing_at text Is (w ∷ ws) (x ∷ xs) (suc k) d e h lt = thing_at text Is ws xs k d e h.1 (omega arith)

-- a word of which something was found names a thing
pub found_thing : {T X : Type 0} (text : List ℕ) (Is : List ℕ → X → Type 0) (view : T → X) (found : Option T) → is_some found ≡ true → IfSome found (λ t. Is text (view t))
    → (thing : X) × Is text thing
found_thing text Is view None e h = let none : ⊥ = cc in absurd none
found_thing text Is view (Some t) e h = (view t, h)

-- a word that names a thing is one of which something was found
pub must_find : {T : Type 0} (P : T → Type 0) (found : Option T) → is_some found ≡ false → IsSomeAnd found P → ⊥
must_find P None e h = absurd h
must_find P (Some t) e h = cc
