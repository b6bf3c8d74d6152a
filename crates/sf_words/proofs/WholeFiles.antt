-- Files that were loaded, and what is known of their items, by their places.
use Rattle.std.proofs.Common.{◌≡◌, Bool, List, [], ◌∷◌, get_or, false, ap, ◌∙◌}
use Rattle.sf_words.specs.declared.loaded.Loaded.{Loaded}
use Rattle.sf_words.specs.Items.{ItemWords, item_of, may_be_by_parts}
use Rattle.sf_words.specs.Loading.{loaded_items}

-- the item of a file is that at its place
tested : (test : ItemWords → Bool) (answer : Bool) (file at : Loaded) (item : ItemWords) → file ≡ at → item_of at.item ≡ item → test item ≡ answer → test (item_of file.item) ≡ answer
tested test answer file at item is named h = ap (λ (l : Loaded). test (item_of l.item)) is ∙ ap test named ∙ h

-- a test of the first item, or of the second, as of the item of the file that was loaded at its place
pub first_tested : (test : ItemWords → Bool) (answer : Bool) (loaded : List Loaded) (first : ItemWords) (later : List ItemWords) (file d : Loaded) → loaded_items loaded ≡ first ∷ later → file ≡ get_or loaded 0 d
    → test first ≡ answer → test (item_of file.item) ≡ answer
first_tested test answer [] first later file d are is h = let none : ⊥ = cc in absurd none
first_tested test answer (l ∷ ls) first later file d are is h = let named : item_of l.item ≡ first = cc in tested test answer file l first is named h

pub second_tested : (test : ItemWords → Bool) (answer : Bool) (loaded : List Loaded) (first second : ItemWords) (later : List ItemWords) (file d : Loaded) → loaded_items loaded ≡ first ∷ second ∷ later
    → file ≡ get_or loaded 1 d → test second ≡ answer → test (item_of file.item) ≡ answer
second_tested test answer [] first second later file d are is h = let none : ⊥ = cc in absurd none
second_tested test answer (l ∷ []) first second later file d are is h = let none : ⊥ = cc in absurd none
second_tested test answer (l ∷ m ∷ ls) first second later file d are is h = let named : item_of m.item ≡ second = cc in tested test answer file m second is named h

-- files that are read whole
pub first_whole : (loaded : List Loaded) (first : ItemWords) (later : List ItemWords) (file d : Loaded) → loaded_items loaded ≡ first ∷ later → file ≡ get_or loaded 0 d → may_be_by_parts first ≡ false
    → may_be_by_parts (item_of file.item) ≡ false
first_whole = first_tested may_be_by_parts false

pub second_whole : (loaded : List Loaded) (first second : ItemWords) (later : List ItemWords) (file d : Loaded) → loaded_items loaded ≡ first ∷ second ∷ later → file ≡ get_or loaded 1 d → may_be_by_parts second ≡ false
    → may_be_by_parts (item_of file.item) ≡ false
second_whole = second_tested may_be_by_parts false
