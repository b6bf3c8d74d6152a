-- Inside the crate. A word names one file at most.
use Rattle.std.proofs.Common.{◌≡◌, ℕ, zero, suc, List, [], ◌∷◌, ◌++◌, drop, get_or, refl, ap, sym, subst, ◌∙◌, Some, arith}
use Rattle.std.specs.List.{AllZip}
use Rattle.std.specs.Coded.{Coded, Coded-set, code_by, coded_ℕ, coded_list, coded×}
use Rattle.sf_base.specs.Word.{SpellsHexadecimal, hexadecimal}
use Rattle.sf_base.proofs.WordLaws.{hexadecimal_read}
use Rattle.sf_model.specs.declared.machine.Arch.{Arch}
use Rattle.sf_model.specs.declared.machine.Arch.TheVariants.{Amd64, Aarch64}
use Rattle.sf_model.specs.declared.form.Form.{Form}
use Rattle.sf_model.specs.declared.form.Form.TheVariants.{Elf, Bare}
use Rattle.sf_words.specs.Naming.{FilesNamed}
use Rattle.sf_words.specs.Words.{InputWords, IsInputWord, IsPlaced, IsSectionWord, SectionWords, Spells, prefix_of}
use Rattle.sf_words.specs.AtSigns.{HasNoAt-address, cut_once}
use mathlib.Core.HLevel.{Σ_prop_path}
use mathlib.Core.Logic.{∥∥₁_elim, ∥∥₁_prop}

-- a text spells one address at most
one_address : (text : List ℕ) (m n : ℕ) → SpellsHexadecimal text m → SpellsHexadecimal text n → m ≡ n
one_address text m n h i =
    let read_m : hexadecimal text ≡ Some m = hexadecimal_read text m h in
    let read_n : hexadecimal text ≡ Some n = hexadecimal_read text n i in
    cc

one_place : (word name other : List ℕ) (m n : ℕ) → IsPlaced word name m → IsPlaced word other n → (name ≡ other) × (m ≡ n)
one_place word name other m n h i =
    let cut = cut_once name h.digits other i.digits (sym h.parts ∙ i.parts) (HasNoAt-address h.digits m h.value) (HasNoAt-address i.digits n i.value) in
    (cut.0, one_address i.digits m n (subst (λ (digits : List ℕ). SpellsHexadecimal digits m) cut.1 h.value) i.value)

one_prefix : (one other : Arch) (name next : List ℕ) → prefix_of one ++ name ≡ prefix_of other ++ next → (one ≡ other) × (name ≡ next)
one_prefix Amd64 Amd64 name next h = (refl, ap (λ (text : List ℕ). drop 9 text) h)
one_prefix Amd64 Aarch64 name next h = let other : 109 ≡ 97 = ap (λ (text : List ℕ). get_or text 4 0) h in let none : ⊥ = omega (arith, other) in absurd none
one_prefix Aarch64 Amd64 name next h = let other : 97 ≡ 109 = ap (λ (text : List ℕ). get_or text 4 0) h in let none : ⊥ = omega (arith, other) in absurd none
one_prefix Aarch64 Aarch64 name next h = (refl, ap (λ (text : List ℕ). drop 11 text) h)

one_spelling : (form other : Form) (text name next : List ℕ) → Spells form text name → Spells other text next → (form ≡ other) × (name ≡ next)
one_spelling Elf Elf text name next h i = (refl, sym h.0 ∙ i.0)
one_spelling Elf (Bare arch) text name next h i = absurd (h.1 arch next i)
one_spelling (Bare arch) Elf text name next h i = absurd (i.1 arch name h)
one_spelling (Bare arch) (Bare other) text name next h i =
    let both = one_prefix arch other name next (sym h ∙ i) in
    (ap (λ (a : Arch). Bare a) both.0, both.1)

-- a word names one input at most
pub one_input : (word : List ℕ) (one other : InputWords) → IsInputWord word one → IsInputWord word other → one ≡ other
one_input word one other h i =
    let placed = one_place word h.text i.text one.base other.base h.placed i.placed in
    let spelled = one_spelling one.form other.form i.text one.name other.name (subst (λ (text : List ℕ). Spells one.form text one.name) placed.0 h.spelled) i.spelled in
    let made : Form → List ℕ → ℕ → InputWords = λ f n b. record { form = f; name = n; base = b } in
    ap (λ (f : Form). made f one.name one.base) spelled.0 ∙ ap (λ (n : List ℕ). made other.form n one.base) spelled.1 ∙ ap (made other.form other.name) placed.1

-- a word names one section at most
pub one_section : (word : List ℕ) (one other : SectionWords) → IsSectionWord word one → IsSectionWord word other → one ≡ other
one_section word one other h i =
    let placed = one_place word one.name other.name one.at other.at h.placed i.placed in
    let made : List ℕ → ℕ → SectionWords = λ n a. record { name = n; at = a } in
    ap (λ (n : List ℕ). made n one.at) placed.0 ∙ ap (made other.name) placed.1

-- words of which each names one thing at most name one list of things at most
pub one_list : {X : Type 0} (Is : List ℕ → X → Type 0) → ((word : List ℕ) (one other : X) → Is word one → Is word other → one ≡ other)
    → (words : List (List ℕ)) (ones others : List X) → AllZip Is words ones → AllZip Is words others → ones ≡ others
one_list Is one [] [] [] h i = refl
one_list Is one [] [] (y ∷ ys) h i = absurd i
one_list Is one [] (x ∷ xs) ys h i = absurd h
one_list Is one (w ∷ ws) [] ys h i = absurd h
one_list Is one (w ∷ ws) (x ∷ xs) [] h i = absurd i
one_list {X} Is one (w ∷ ws) (x ∷ xs) (y ∷ ys) h i =
    ap (λ (z : X). z ∷ xs) (one w x y h.0 i.0) ∙ ap (λ (zs : List X). y ∷ zs) (one_list Is one ws xs ys h.1 i.1)

-- the list that words name is the one that is known to be named
pub the_list : {X : Type 0} → Coded X → (Is : List ℕ → X → Type 0) → ((word : List ℕ) (one other : X) → Is word one → Is word other → one ≡ other)
    → (words : List (List ℕ)) (said : (things : List X) × ∥ AllZip Is words things ∥₁) (things : List X) → AllZip Is words things → said.0 ≡ things
the_list code Is one words said things h = ∥∥₁_elim said.1 (Coded-set (coded_list code) said.0 things) (λ i. one_list Is one words said.0 things i h)

-- words name one list of files at most
pub one_naming : {X : Type 0} → Coded X → (Is : List ℕ → X → Type 0) → ((word : List ℕ) (one other : X) → Is word one → Is word other → one ≡ other)
    → (words : List (List ℕ)) → IsProp (FilesNamed Is words)
one_naming code Is one words s t =
    Σ_prop_path (λ things. ∥∥₁_prop)
    (∥∥₁_elim t.1 (Coded-set (coded_list code) s.0 t.0) (λ h. the_list code Is one words s t.0 h))

-- ---- inputs and sections are coded as numbers and lists
abbrev form_number : Form → ℕ
form_number Elf = 0
form_number (Bare Amd64) = 1
form_number (Bare Aarch64) = 2

abbrev number_form : ℕ → Form
number_form zero = Elf
number_form (suc zero) = Bare Amd64
number_form (suc (suc n)) = Bare Aarch64

form_again : (form : Form) → number_form (form_number form) ≡ form
form_again Elf = refl
form_again (Bare Amd64) = refl
form_again (Bare Aarch64) = refl

pub input_code : Coded InputWords
input_code =
    code_by (ℕ × (List ℕ × ℕ)) (coded× coded_ℕ (coded× (coded_list coded_ℕ) coded_ℕ)) (λ i. (form_number i.form, (i.name, i.base))) (λ c. record { form = number_form c.0; name = c.1.0; base = c.1.1 })
    (λ i. ap (λ (f : Form). record { form = f; name = i.name; base = i.base }) (form_again i.form))

pub section_code : Coded SectionWords
section_code = code_by (List ℕ × ℕ) (coded× (coded_list coded_ℕ) coded_ℕ) (λ s. (s.name, s.at)) (λ c. record { name = c.0; at = c.1 }) (λ s. refl)
