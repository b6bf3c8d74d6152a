-- Testing letters in their order.
use Rattle.std.proofs.Common.{◌≡◌, ℕ, suc, ◌+◌, ◌<◌, ◌≤◌, Bool, true, false, ◌==◌, ◌&&◌, not, List, [], ◌∷◌, ◌++◌, length, get_or, take, drop, refl, sym, ap, ◌∙◌, arith, drop-cons}
use Rattle.std.specs.List.{list_any}
use Rattle.std.proofs.lemmas.Grind.{take_at_read}
use Rattle.std.proofs.lemmas.List.{drop_all}
use Rattle.sf_model.specs.declared.machine.Arch.{Arch}
use Rattle.eh_records.specs.Augmentation.{is_letter, are_letters}

-- a letter that is known and isn't among those before
abbrev pub is_new : Arch → List ℕ → ℕ → Bool
is_new arch before b = is_letter arch b && not (list_any (λ a. a == b) before)

are_letters-cons : (arch : Arch) (before : List ℕ) (b : ℕ) (bs : List ℕ) → are_letters arch before (b ∷ bs) ≡ (is_new arch before b && are_letters arch (before ++ b ∷ []) bs)
unfolding are_letters
are_letters-cons arch before b bs = refl

are_letters-nil : (arch : Arch) (before : List ℕ) → are_letters arch before [] ≡ true
unfolding are_letters
are_letters-nil arch before = refl

opened : (arch : Arch) (letters : List ℕ) (i : ℕ) → i < length letters
    → are_letters arch (take i letters) (drop i letters) ≡ (is_new arch (take i letters) (get_or letters i 0) && are_letters arch (take (i + 1) letters) (drop (i + 1) letters))
opened arch letters i within =
    let next : suc i ≡ i + 1 = omega arith in
    let front : take i letters ++ get_or letters i 0 ∷ [] ≡ take (i + 1) letters = sym (take_at_read letters i 0 within).1 in
    let rest : drop i letters ≡ get_or letters i 0 ∷ drop (i + 1) letters = drop-cons letters i 0 within ∙ ap (λ (k : ℕ). get_or letters i 0 ∷ drop k letters) next in
    ap (are_letters arch (take i letters)) rest
    ∙ are_letters-cons arch (take i letters) (get_or letters i 0) (drop (i + 1) letters)
    ∙ ap (λ (xs : List ℕ). is_new arch (take i letters) (get_or letters i 0) && are_letters arch xs (drop (i + 1) letters)) front

pub goes_on : (arch : Arch) (letters : List ℕ) (i : ℕ) → i < length letters → is_new arch (take i letters) (get_or letters i 0) ≡ true
    → are_letters arch (take i letters) (drop i letters) ≡ are_letters arch (take (i + 1) letters) (drop (i + 1) letters)
goes_on arch letters i within h = opened arch letters i within ∙ ap (λ (b : Bool). b && are_letters arch (take (i + 1) letters) (drop (i + 1) letters)) h

pub stops : (arch : Arch) (letters : List ℕ) (i : ℕ) → i < length letters → is_new arch (take i letters) (get_or letters i 0) ≡ false
    → are_letters arch (take i letters) (drop i letters) ≡ false
stops arch letters i within h = opened arch letters i within ∙ ap (λ (b : Bool). b && are_letters arch (take (i + 1) letters) (drop (i + 1) letters)) h

pub ends : (arch : Arch) (letters : List ℕ) (i : ℕ) → length letters ≤ i → are_letters arch (take i letters) (drop i letters) ≡ true
ends arch letters i past = ap (are_letters arch (take i letters)) (drop_all i letters past) ∙ are_letters-nil arch (take i letters)
