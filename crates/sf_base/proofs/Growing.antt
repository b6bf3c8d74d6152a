-- Consecutive calls: what the outside held before the first is related to what it holds after the last.
use Rattle.std.proofs.Common.{◌≡◌, ◌++◌, ◌∷◌, ◌+◌, ◌-◌, ◌∙◌, ℕ, List, [], Option, Some, None, take, drop, length, refl, sym, ap, subst, append_assoc}
use Rattle.std.proofs.lemmas.List.{take_rest}
use Rattle.std.proofs.Math.Seq.{take-add}
use Rattle.sf_base.specs.Known.{OnKnown}
use Rattle.sf_base.specs.Contents.{contents_of, Changes, Unchanged, Holds, HoldsPrefix, Grows, GrowsByPrefix}
use Rattle.sf_base.specs.Written.{Appends, AppendsPrefix, Kept}

-- before the first call
pub told_same : {A : Type 0} (told : Option A) (P : A → A → Type 0) → ((a : A) → P a a) → OnKnown told told P
told_same None P same = tt
told_same (Some a) P same = same a

-- two consecutive calls
pub told_then : {A : Type 0} (before mid after : Option A) (P Q R : A → A → Type 0) → OnKnown before mid P → OnKnown mid after Q
    → ((a b c : A) → P a b → Q b c → R a c) → OnKnown before after R
told_then before mid None P Q R first second step = tt
told_then before None (Some c) P Q R first second step = absurd second
told_then None (Some b) (Some c) P Q R first second step = absurd first
told_then (Some a) (Some b) (Some c) P Q R first second step = step a b c first second

-- a claim that follows from another
pub told_weaker : {A : Type 0} (before after : Option A) (P Q : A → A → Type 0) → OnKnown before after P → ((a b : A) → P a b → Q a b) → OnKnown before after Q
told_weaker before None P Q told step = tt
told_weaker None (Some b) P Q told step = absurd told
told_weaker (Some a) (Some b) P Q told step = step a b told

append_nil : (xs : List ℕ) → xs ++ [] ≡ xs
append_nil [] = refl
append_nil (x ∷ xs) = ap (λ ys. x ∷ ys) (append_nil xs)

-- nothing grew yet
pub appends_none : (told : Option (List ℕ)) → Appends told told []
appends_none told = told_same told _ (λ a. sym (append_nil a))

pub appends_then : (before mid after : Option (List ℕ)) (xs ys : List ℕ) → Appends before mid xs → Appends mid after ys → Appends before after (xs ++ ys)
appends_then before mid after xs ys first second = told_then before mid after _ _ _ first second (λ a b c p q. q ∙ ap (λ zs. zs ++ ys) p ∙ append_assoc a xs ys)

pub kept_then : (before mid after : Option (List ℕ)) (xs : List ℕ) → Appends before mid xs → Kept mid after → Appends before after xs
kept_then before mid after xs first second = told_then before mid after _ _ _ first second (λ a b c p q. q ∙ p)

pub some_appended : (before after : Option (List ℕ)) (n : ℕ) (bytes : List ℕ) → Appends before after (take n bytes) → AppendsPrefix before after bytes
some_appended before after n bytes told = told_weaker before after _ _ told (λ a b p. (n, p))

-- the name holds these bytes, and then it grows
pub changes_then : (name xs ys : List ℕ) (a b c : List (List ℕ × List ℕ)) → Changes name xs a b → Changes name (contents_of b name ++ ys) b c → Changes name (xs ++ ys) a c
changes_then name xs ys a b c first second = record {
  named = second.named ∙ ap (λ zs. zs ++ ys) first.named;
  others = λ other apart. second.others other apart ∙ first.others other apart;
}

pub holds_then : (before mid after : Option (List (List ℕ × List ℕ))) (name xs ys : List ℕ) → Holds before mid name xs → Grows mid after name ys → Holds before after name (xs ++ ys)
holds_then before mid after name xs ys first second = told_then before mid after _ _ _ first second (changes_then name xs ys)

-- the created file is filled: with all the bytes
pub filled : (before mid after : Option (List (List ℕ × List ℕ))) (name bytes : List ℕ) → Holds before mid name [] → Grows mid after name bytes → Holds before after name bytes
filled before mid after name bytes first second = holds_then before mid after name [] bytes first second

-- or with some of them
pub filled_in_part : (before mid after : Option (List (List ℕ × List ℕ))) (name bytes : List ℕ) → Holds before mid name [] → GrowsByPrefix mid after name bytes → HoldsPrefix before after name bytes
filled_in_part before mid after name bytes first second = told_then before mid after _ _ _ first second (λ a b c p q. (q.0, changes_then name [] (take q.0 bytes) a b c p q.1))

pub grows_none : (told : Option (List (List ℕ × List ℕ))) (name : List ℕ) → Grows told told name []
grows_none told name = told_same told _ (λ a. record { named = sym (append_nil (contents_of a name)); others = λ other apart. refl })

pub grows_then : (before mid after : Option (List (List ℕ × List ℕ))) (name xs ys : List ℕ) → Grows before mid name xs → Grows mid after name ys → Grows before after name (xs ++ ys)
grows_then before mid after name xs ys first second = told_then before mid after _ _ _ first second (λ a b c p q.
    let all = changes_then name (contents_of a name ++ xs) ys a b c p q in
    record { named = all.named ∙ append_assoc (contents_of a name) xs ys; others = all.others })

pub grown_unchanged : (before mid after : Option (List (List ℕ × List ℕ))) (name xs : List ℕ) → Grows before mid name xs → Unchanged mid after → Grows before after name xs
grown_unchanged before mid after name xs first second = told_then before mid after _ _ _ first second (λ a b c p q. record {
  named = q name ∙ p.named;
  others = λ other apart. q other ∙ p.others other apart;
})

pub some_grown : (before after : Option (List (List ℕ × List ℕ))) (n : ℕ) (name bytes : List ℕ) → Grows before after name (take n bytes) → GrowsByPrefix before after name bytes
some_grown before after n name bytes told = told_weaker before after _ _ told (λ a b p. (n, p))

pub unchanged_same : (told : Option (List (List ℕ × List ℕ))) → Unchanged told told
unchanged_same told = told_same told _ (λ a name. refl)

pub unchanged_then : (before mid after : Option (List (List ℕ × List ℕ))) → Unchanged before mid → Unchanged mid after → Unchanged before after
unchanged_then before mid after first second = told_then before mid after _ _ _ first second (λ a b c p q name. q name ∙ p name)

-- the first n of what follows the first i
next_piece : (bytes : List ℕ) (i n : ℕ) → take i bytes ++ take n (take (length bytes - i) (drop i bytes)) ≡ take (i + n) bytes
next_piece bytes i n = ap (λ xs. take i bytes ++ take n xs) (take_rest bytes i) ∙ sym (take-add i n bytes)

pub more_appended : (before mid after : Option (List ℕ)) (bytes : List ℕ) (i n : ℕ) → Appends before mid (take i bytes)
    → Appends mid after (take n (take (length bytes - i) (drop i bytes))) → Appends before after (take (i + n) bytes)
more_appended before mid after bytes i n first second =
    let P : List ℕ → Type 0 = λ xs. Appends before after xs in
    subst P (next_piece bytes i n) (appends_then before mid after _ _ first second)

pub more_grown : (before mid after : Option (List (List ℕ × List ℕ))) (name other bytes : List ℕ) (i n : ℕ) → other ≡ name → Grows before mid name (take i bytes)
    → Grows mid after other (take n (take (length bytes - i) (drop i bytes))) → Grows before after name (take (i + n) bytes)
more_grown before mid after name other bytes i n same first second =
    let P : List ℕ → Type 0 = λ xs. Grows before after name xs in
    let Q : List ℕ → Type 0 = λ file. Grows mid after file (take n (take (length bytes - i) (drop i bytes))) in
    subst P (next_piece bytes i n) (grows_then before mid after name _ _ first (subst Q same second))
