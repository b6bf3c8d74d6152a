-- Reading what the letters give, in their order.
use Rattle.std.proofs.Common.{◌≡◌, ℕ, suc, ◌+◌, ◌<◌, ◌≤◌, List, [], ◌∷◌, length, get_or, drop, Ok, Err, refl, ap, ◌∙◌, arith, drop-cons}
use Rattle.std.proofs.lemmas.List.{drop_all}
use Rattle.sf_bytes.specs.Cursor.{Cursor}
use Rattle.eh_records.specs.declared.fault.RecordFault.{RecordFault}
use Rattle.eh_records.specs.Augmentation.{AugmentationView, letter_at, augmentation_by}
use Rattle.eh_records.specs.Step.{Step, ◌>>=◌}

augmentation_by-cons : (b : ℕ) (bs : List ℕ) (augmentation : AugmentationView) (at : Cursor) → augmentation_by (b ∷ bs) augmentation at ≡ (letter_at b augmentation at >>= λ next. augmentation_by bs next.0 next.1)
unfolding augmentation_by
augmentation_by-cons b bs augmentation at = refl

augmentation_by-nil : (augmentation : AugmentationView) (at : Cursor) → augmentation_by [] augmentation at ≡ Ok augmentation
unfolding augmentation_by
augmentation_by-nil augmentation at = refl

opened : (letters : List ℕ) (i : ℕ) (augmentation : AugmentationView) (at : Cursor) → i < length letters
    → augmentation_by (drop i letters) augmentation at ≡ (letter_at (get_or letters i 0) augmentation at >>= λ next. augmentation_by (drop (i + 1) letters) next.0 next.1)
opened letters i augmentation at within =
    let next : suc i ≡ i + 1 = omega arith in
    ap (λ (xs : List ℕ). augmentation_by xs augmentation at) (drop-cons letters i 0 within ∙ ap (λ (k : ℕ). get_or letters i 0 ∷ drop k letters) next)
    ∙ augmentation_by-cons (get_or letters i 0) (drop (i + 1) letters) augmentation at

pub goes_on : (letters : List ℕ) (i : ℕ) (augmentation : AugmentationView) (at : Cursor) (next : AugmentationView) (after : Cursor) → i < length letters → letter_at (get_or letters i 0) augmentation at ≡ Ok (next, after)
    → augmentation_by (drop i letters) augmentation at ≡ augmentation_by (drop (i + 1) letters) next after
goes_on letters i augmentation at next after within h =
    opened letters i augmentation at within ∙ ap (λ (r : Step AugmentationView). r >>= λ n. augmentation_by (drop (i + 1) letters) n.0 n.1) h

pub stops : (letters : List ℕ) (i : ℕ) (augmentation : AugmentationView) (at : Cursor) (e : RecordFault) → i < length letters → letter_at (get_or letters i 0) augmentation at ≡ Err e
    → augmentation_by (drop i letters) augmentation at ≡ Err e
stops letters i augmentation at e within h =
    opened letters i augmentation at within ∙ ap (λ (r : Step AugmentationView). r >>= λ n. augmentation_by (drop (i + 1) letters) n.0 n.1) h

pub ends : (letters : List ℕ) (i : ℕ) (augmentation : AugmentationView) (at : Cursor) → length letters ≤ i → augmentation_by (drop i letters) augmentation at ≡ Ok augmentation
ends letters i augmentation at past = ap (λ (xs : List ℕ). augmentation_by xs augmentation at) (drop_all i letters past) ∙ augmentation_by-nil augmentation at
