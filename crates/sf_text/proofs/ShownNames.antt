-- A name that is shown character by character.
use Rattle.std.proofs.Common.{◌≡◌, ◌++◌, ℕ, List, [], ◌∷◌, length, refl, sym, ap, ◌∙◌, append_assoc, append-nil, arith}
use Rattle.std.specs.List.{flat_map}
use Rattle.std.specs.Str.{chars}
use Rattle.std.proofs.lemmas.Str.{chars-nil}
use Rattle.sf_text.specs.ShownName.{shown_character, shown_name}

pub shown_is : (name : List ℕ) → flat_map shown_character (chars name) ≡ shown_name name
unfolding shown_name
shown_is name = refl

-- no character is left where no byte is
pub no_characters : (rest : List ℕ) → length rest ≡ 0 → chars rest ≡ []
no_characters [] none = chars-nil
no_characters (b ∷ bs) none = let no : ⊥ = omega (arith, none) in absurd no

-- what is there and the characters that are left are all that is to be there
pub next_character : (before after rest left : List ℕ) (character : ℕ) (whole : List ℕ) → chars rest ≡ character ∷ chars left → after ≡ before ++ shown_character character
    → before ++ flat_map shown_character (chars rest) ≡ whole → after ++ flat_map shown_character (chars left) ≡ whole
next_character before after rest left character whole are e so_far =
    let later = flat_map shown_character (chars left) in
    ap (λ (text : List ℕ). text ++ later) e ∙ append_assoc before (shown_character character) later
    ∙ ap (λ (cs : List ℕ). before ++ flat_map shown_character cs) (sym are) ∙ so_far

pub no_character : (before rest whole : List ℕ) → length rest ≡ 0 → before ++ flat_map shown_character (chars rest) ≡ whole → before ≡ whole
no_character before rest whole none so_far =
    sym (append-nil before) ∙ ap (λ (cs : List ℕ). before ++ flat_map shown_character cs) (sym (no_characters rest none)) ∙ so_far
