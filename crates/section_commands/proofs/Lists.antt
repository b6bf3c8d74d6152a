-- Files that were loaded, one after the other, of a list whose words each name one.
use Rattle.std.specs.List.{zip}
use Rattle.std.proofs.Common.{Bor, ◌≡◌, ℕ, zero, suc, ◌+◌, ◌-◌, ◌<◌, ◌≤◌, List, [], ◌∷◌, map, length, take, drop, get_or, refl, ap, sym, ◌∙◌, arith}
use Rattle.std.proofs.lemmas.List.{length-map, take_all}
use Rattle.sf_words.specs.ItemRead.{read_bytes}
use Rattle.sf_words.specs.declared.loaded.Loaded.{Loaded}
use Rattle.sf_words.specs.declared.item.Item.{Item}
use Rattle.sf_words.specs.declared.item.Item.TheVariants as item
use Rattle.sf_words.specs.declared.words.SectionFile.{SectionFile}
use Rattle.sf_words.specs.Items.{ItemWords, Mapped, Section, item_of}
use Rattle.sf_words.specs.Loading.{loaded_bytes, loaded_items}
use Rattle.sf_words.specs.Words.{SectionWords, words_of_section}

-- what the words say, with the bytes of their files, from this place on
abbrev pub left : {A : Type 0} (words : List A) (loaded : List Loaded) (k : ℕ) → List (A × List ℕ)
left words loaded k = zip (drop k words) (loaded_bytes (drop k loaded))

-- the file at this place is of what its word says, and the others come after it
pub record Turn {A : Type 0} (view : A → ItemWords) (words : List A) (loaded : List Loaded) (k : ℕ) (d : Loaded) : Type 0 where
  pub word : A
  pub is : item_of (get_or loaded k d).item ≡ view word
  pub are : left words loaded k ≡ (word, read_bytes (get_or loaded k d).read) ∷ left words loaded (k + 1)

pub turn : {A : Type 0} (view : A → ItemWords) (words : List A) (loaded : List Loaded) (k : ℕ) (d : Loaded) → loaded_items loaded ≡ map view words → k < length loaded → Turn view words loaded k d
turn view [] [] k d h lt = let none : ⊥ = omega (arith, lt) in absurd none
turn view [] (l ∷ ls) k d h lt = let none : ⊥ = cc in absurd none
turn view (w ∷ ws) [] k d h lt = let none : ⊥ = omega (arith, lt) in absurd none
turn view (w ∷ ws) (l ∷ ls) zero d h lt = record { word = w; is = cc; are = refl }
turn {A} view (w ∷ ws) (l ∷ ls) (suc k) d h lt =
    let later : loaded_items ls ≡ map view ws = cc in
    let t = turn view ws ls k d later (omega (arith, lt)) in
    let on : suc k + 1 ≡ suc (k + 1) = omega arith in
    record {
      word = t.word;
      is = t.is;
      are = t.are ∙ ap (λ (m : ℕ). (t.word, read_bytes (get_or ls k d).read) ∷ left (w ∷ ws) (l ∷ ls) m) (sym on);
    }

-- none is left
pub none_left : {A : Type 0} (words : List A) (loaded : List Loaded) (k : ℕ) → length loaded ≤ k → left words loaded k ≡ []
none_left {A} words loaded k h = ap (λ (ls : List Loaded). zip (drop k words) (loaded_bytes ls)) (all_dropped loaded k h) ∙ none_named (drop k words)
  where
    all_dropped : (loaded : List Loaded) (k : ℕ) → length loaded ≤ k → drop k loaded ≡ []
    all_dropped [] zero h = refl
    all_dropped [] (suc k) h = refl
    all_dropped (l ∷ ls) zero h = let none : ⊥ = omega (arith, h) in absurd none
    all_dropped (l ∷ ls) (suc k) h = all_dropped ls k (omega (arith, h))

    none_named : (words : List A) → zip words (loaded_bytes []) ≡ []
    none_named [] = refl
    none_named (w ∷ ws) = refl

-- ---- the bytes of files at their places
pub bytes_at : (loaded : List Loaded) (k : ℕ) (d : Loaded) → k < length loaded → get_or (loaded_bytes loaded) k [] ≡ read_bytes (get_or loaded k d).read
bytes_at [] k d lt = let none : ⊥ = omega (arith, lt) in absurd none
bytes_at (l ∷ ls) zero d lt = refl
bytes_at (l ∷ ls) (suc k) d lt = bytes_at ls k d (omega (arith, lt))

-- as many files as items
pub as_many : (loaded : List Loaded) (items : List ItemWords) → loaded_items loaded ≡ items → length loaded ≡ length items
as_many loaded items h = sym (length-map loaded (λ (l : Loaded). item_of l.item)) ∙ ap length h

-- ---- the first file, and those after it
pub later_items : (loaded : List Loaded) (first : ItemWords) (items : List ItemWords) → loaded_items loaded ≡ first ∷ items → loaded_items (drop 1 loaded) ≡ items
later_items [] first items h = let none : ⊥ = cc in absurd none
later_items (l ∷ ls) first items h = cc

pub later_bytes : (loaded : List Loaded) → loaded_bytes (drop 1 loaded) ≡ drop 1 (loaded_bytes loaded)
later_bytes [] = refl
later_bytes (l ∷ ls) = refl

pub later_files : (loaded : List Loaded) → take (length loaded - 1) (drop 1 loaded) ≡ drop 1 loaded
later_files [] = refl
later_files (l ∷ ls) = take_all (length (l ∷ ls) - 1) ls (omega arith)

-- ---- sections and mapped files, as the code has them
section_is : (found : Item) (word : SectionWords) → item_of found ≡ Section word → (section : SectionFile) × (found ≡ item.Section section)
section_is (item.Input input) word h = let none : ⊥ = cc in absurd none
section_is (item.Section section) word h = (section, refl)
section_is (item.Core name) word h = let none : ⊥ = cc in absurd none
section_is (item.Mapped name) word h = let none : ⊥ = cc in absurd none

mapped_is : (found : Item) (word : List ℕ) → item_of found ≡ Mapped word → (name : Bor (List ℕ)) × (found ≡ item.Mapped name)
mapped_is (item.Input input) word h = let none : ⊥ = cc in absurd none
mapped_is (item.Section section) word h = let none : ⊥ = cc in absurd none
mapped_is (item.Core name) word h = let none : ⊥ = cc in absurd none
mapped_is (item.Mapped name) word h = (name, refl)

pub a_section : (sections : List SectionWords) (loaded : List Loaded) (k : ℕ) (d : Loaded) → loaded_items loaded ≡ map Section sections → k < length loaded → (section : SectionFile) × ((get_or loaded k d).item ≡ item.Section section)
a_section sections loaded k d h lt = let t = turn Section sections loaded k d h lt in section_is (get_or loaded k d).item t.word t.is

pub a_mapped_file : (names : List (List ℕ)) (loaded : List Loaded) (k : ℕ) (d : Loaded) → loaded_items loaded ≡ map Mapped names → k < length loaded → (name : Bor (List ℕ)) × ((get_or loaded k d).item ≡ item.Mapped name)
a_mapped_file names loaded k d h lt = let t = turn Mapped names loaded k d h lt in mapped_is (get_or loaded k d).item t.word t.is

pub section_turn : (sections : List SectionWords) (loaded : List Loaded) (k : ℕ) (d : Loaded) (section : SectionFile) → loaded_items loaded ≡ map Section sections → k < length loaded → (get_or loaded k d).item ≡ item.Section section
    → left sections loaded k ≡ (words_of_section section, read_bytes (get_or loaded k d).read) ∷ left sections loaded (k + 1)
section_turn sections loaded k d section h lt is =
    let t = turn Section sections loaded k d h lt in
    let same : Section (words_of_section section) ≡ Section t.word = sym (ap item_of is) ∙ t.is in
    let word : t.word ≡ words_of_section section = cc in
    t.are ∙ ap (λ (w : SectionWords). (w, read_bytes (get_or loaded k d).read) ∷ left sections loaded (k + 1)) word

pub mapped_turn : (names : List (List ℕ)) (loaded : List Loaded) (k : ℕ) (d : Loaded) (name : Bor (List ℕ)) → loaded_items loaded ≡ map Mapped names → k < length loaded → (get_or loaded k d).item ≡ item.Mapped name
    → left names loaded k ≡ (name.now, read_bytes (get_or loaded k d).read) ∷ left names loaded (k + 1)
mapped_turn names loaded k d name h lt is =
    let t = turn Mapped names loaded k d h lt in
    let same : Mapped name.now ≡ Mapped t.word = sym (ap item_of is) ∙ t.is in
    let word : t.word ≡ name.now = cc in
    t.are ∙ ap (λ (w : List ℕ). (w, read_bytes (get_or loaded k d).read) ∷ left names loaded (k + 1)) word
