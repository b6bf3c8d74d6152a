-- Lines of items that are numbered, one after the other.
use Rattle.std.proofs.Common.{◌≡◌, ℕ, ◌+◌, ◌++◌, List, [], ◌∷◌, refl, ap, sym, ◌∙◌, append_assoc}
use Rattle.sf_text.specs.Frames.{numbered_lines}

pub no_line : {X : Type 0} (line : ℕ → X → List ℕ) (number : ℕ) → numbered_lines line number [] ≡ []
unfolding numbered_lines
no_line line number = refl

first_line : {X : Type 0} (line : ℕ → X → List ℕ) (number : ℕ) (x : X) (later : List X) → numbered_lines line number (x ∷ later) ≡ line number x ++ numbered_lines line (number + 1) later
unfolding numbered_lines
first_line line number x later = refl

-- one line more
pub next_line : {X : Type 0} (line : ℕ → X → List ℕ) (before after text : List ℕ) (number : ℕ) (x : X) (left later : List X) (all : List ℕ)
    → left ≡ x ∷ later → text ≡ line number x → after ≡ before ++ text → before ++ numbered_lines line number left ≡ all → after ++ numbered_lines line (number + 1) later ≡ all
next_line {X} line before after text number x left later all are is grown h =
    ap (λ (t : List ℕ). t ++ numbered_lines line (number + 1) later) (grown ∙ ap (λ (p : List ℕ). before ++ p) is)
    ∙ append_assoc before (line number x) (numbered_lines line (number + 1) later)
    ∙ ap (λ (t : List ℕ). before ++ t) (sym (first_line line number x later)) ∙ ap (λ (xs : List X). before ++ numbered_lines line number xs) (sym are) ∙ h

-- lines that are the same
pub same_lines : {X : Type 0} (line other : ℕ → X → List ℕ) → ((number : ℕ) (x : X) → line number x ≡ other number x) → (number : ℕ) (xs : List X) → numbered_lines line number xs ≡ numbered_lines other number xs
same_lines line other same number [] = no_line line number ∙ sym (no_line other number)
same_lines line other same number (x ∷ xs) =
    first_line line number x xs ∙ ap (λ (t : List ℕ). t ++ numbered_lines line (number + 1) xs) (same number x)
    ∙ ap (λ (t : List ℕ). other number x ++ t) (same_lines line other same (number + 1) xs) ∙ sym (first_line other number x xs)
