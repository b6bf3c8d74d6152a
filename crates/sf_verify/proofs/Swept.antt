-- The functions of a section, compared one after the other.
use Rattle.std.specs.Prelude.{is_some}
use Rattle.std.specs.List.{find}
use Rattle.std.specs.Option.{option_and_then, option_map}
use Rattle.std.proofs.Common.{◌≡◌, ℕ, zero, suc, ◌+◌, ◌-◌, ◌<◌, ◌≤◌, Bool, true, false, cond, List, [], ◌∷◌, get_or, length, Option, Some, None, refl, sym, ap, subst, ◌∙◌, arith, inl, inr}
use Rattle.std.proofs.lemmas.Bool.{cases_lt, le-leb, lt-ltb}
use Rattle.std.proofs.lemmas.List.{get_or_default}
use Rattle.sf_model.specs.declared.function.Func.{Func}
use Rattle.sf_model.specs.declared.function.Shape.{Shape}
use Rattle.sf_model.specs.declared.function.Shape.TheVariants.{Plain, Repeat}
use Rattle.sf_model.specs.declared.rows.Row.{Row}
use Rattle.sf_model.specs.Lookup.{contains, found_at, offset_in_block, row_at, row_in_first}
use Rattle.sf_model.proofs.Unions.{within}
use Rattle.sf_merge.specs.declared.located.Located.{Located}
use Rattle.frame_functions.specs.declared.keyed_content.KeyedContent.{KeyedContent}
use Rattle.sf_verify.specs.declared.sweep.Difference.{Difference}
use Rattle.sf_verify.specs.Agreement.{Agree, DifferFirst, is_plain, is_plain_shape}
use Rattle.sf_merge.specs.Located.{located_functions}
use Rattle.sf_verify.specs.Comparing.{Compares, ComparesAll, DifferWithin, function_content}
use Rattle.frame_functions.specs.ContentAt.{Answers}
use Rattle.sf_verify.specs.SectionContent.{by_row, section_at}
use Rattle.sf_verify.proofs.Compared.{compare_alike}

-- they agree at each address of a function
abbrev pub AgreeOver : (section dwarf : Answers) → Func → Type 0
AgreeOver section dwarf f = (pc : ℕ) → f.start ≤ pc → pc < f.start + f.size → Agree (section pc) (dwarf pc)

is_contained : (pc : ℕ) (f : Func) → f.start ≤ pc → pc < f.start + f.size → contains pc f ≡ true
is_contained pc f low high = rw (le-leb f.start pc low, lt-ltb pc (f.start + f.size) high) refl

-- the first function that has an address, by its place
record IsFirst (pc : ℕ) (functions : List Located) (found : Func) : Type 0 where
  place : ℕ
  within : place < length functions
  is : (d : Located) → (get_or functions place d).func ≡ found
  has : contains pc found ≡ true

found_first : (pc : ℕ) (functions : List Located) (f : Func) → find (contains pc) (located_functions functions) ≡ Some f → IsFirst pc functions f
found_first pc [] f e = cc
found_first pc (l ∷ functions) f e = at_test (contains pc l.func) refl e (found_first pc functions f)
  where
    at_test : (b : Bool) → contains pc l.func ≡ b → cond b (Some l.func) (find (contains pc) (located_functions functions)) ≡ Some f → (find (contains pc) (located_functions functions) ≡ Some f → IsFirst pc functions f) → IsFirst pc (l ∷ functions) f
    at_test true t e later = let is : l.func ≡ f = cc in record { place = 0; within = omega arith; is = λ d. is; has = ap (contains pc) (sym is) ∙ t }
    at_test false t e later =
        let h = later e in
        record { place = suc h.place; within = omega (arith, h.within); is = h.is; has = h.has }

-- the one that has it is found
find_at : (pc : ℕ) (functions : List Located) (place : ℕ) (d : Located) → place < length functions → contains pc (get_or functions place d).func ≡ true
    → ((i : ℕ) → i < place → contains pc (get_or functions i d).func ≡ false) → find (contains pc) (located_functions functions) ≡ Some (get_or functions place d).func
find_at pc [] place d lt t before = absurd (omega (arith, lt))
find_at pc (l ∷ functions) zero d lt t before = rw t refl
find_at pc (l ∷ functions) (suc place) d lt t before = rw (before 0 (omega arith)) (find_at pc functions place d (omega (arith, lt)) t (λ i less. before (suc i) (omega (arith, less))))

not_contained : (pc : ℕ) (f : Func) (b : Bool) → contains pc f ≡ b → ((f.start ≤ pc) → (pc < f.start + f.size) → ⊥) → b ≡ false
not_contained pc f true e never = let has = within pc f e in absurd (never has.from has.to)
not_contained pc f false e never = refl

-- what the section says at an address of a function
pub says_there : (functions : List Located) (place : ℕ) (d : Located) (pc : ℕ) → ((i j : ℕ) (d : Located) → i < j → j < length functions → (get_or functions i d).func.start + (get_or functions i d).func.size ≤ (get_or functions j d).func.start)
    → place < length functions → (get_or functions place d).func.start ≤ pc → pc < (get_or functions place d).func.start + (get_or functions place d).func.size → function_content (get_or functions place d).func pc ≡ section_at (located_functions functions) pc
unfolding section_at found_at
says_there functions place d pc apart lt low high =
    let has = is_contained pc (get_or functions place d).func low high in
    let found = find_at pc functions place d lt has (λ i less. not_contained pc (get_or functions i d).func (contains pc (get_or functions i d).func) refl (λ from to. let ends = apart i place d less lt in omega (arith, ends, low, to))) in
    sym (ap (λ (f : Option Func). option_and_then by_row (row_in_first pc f)) found)

-- where no function has an address the section says nothing there
pub says_nothing : (functions : List Located) (pc : ℕ) → find (contains pc) (located_functions functions) ≡ None → section_at (located_functions functions) pc ≡ None
unfolding section_at found_at
says_nothing functions pc e = ap (λ (f : Option Func). option_and_then by_row (row_in_first pc f)) e

-- where they agree over each of the first functions, they agree below the start of the next, and everywhere where there is none
agree_if : (section : Option KeyedContent) (dwarf : Option KeyedContent) → section ≡ None → Agree section dwarf
agree_if section dwarf e = subst (λ x. Agree x dwarf) (sym e) tt

pub agree_below : (functions : List Located) (dwarf : Answers) (place end : ℕ) → ((i : ℕ) (d : Located) → i < place → i < length functions → AgreeOver (section_at (located_functions functions)) dwarf (get_or functions i d).func)
    → ((i : ℕ) (d : Located) → place ≤ i → i < length functions → end ≤ (get_or functions i d).func.start) → (pc : ℕ) → pc < end → Agree (section_at (located_functions functions) pc) (dwarf pc)
agree_below functions dwarf place end over above pc lt = at_found (find (contains pc) (located_functions functions)) refl
  where
    at_found : (o : Option Func) → find (contains pc) (located_functions functions) ≡ o → Agree (section_at (located_functions functions) pc) (dwarf pc)
    at_found None e = agree_if (section_at (located_functions functions) pc) (dwarf pc) (says_nothing functions pc e)
    at_found (Some f) e =
        let first = found_first pc functions f e in
        let d : Located = record { func = f; item = 0; number = 0 } in
        let has = within pc f first.has in
        let is = first.is d in
        elim (cases_lt first.place place) [
          | inl before ↦ over first.place d before first.within pc (subst (λ (g : Func). g.start ≤ pc) (sym is) has.from) (subst (λ (g : Func). pc < g.start + g.size) (sym is) has.to)
          | inr not_before ↦
              let up = subst (λ (g : Func). end ≤ g.start) is (above first.place d (omega (arith, not_before)) first.within) in
              absurd (omega (arith, up, has.from, lt))
        ]

pub agree_everywhere : (functions : List Located) (dwarf : Answers) (place : ℕ) → length functions ≤ place → ((i : ℕ) (d : Located) → i < place → i < length functions → AgreeOver (section_at (located_functions functions)) dwarf (get_or functions i d).func)
    → (pc : ℕ) → Agree (section_at (located_functions functions) pc) (dwarf pc)
agree_everywhere functions dwarf place all over pc = agree_below functions dwarf place (pc + 1) over (λ i d low lt. absurd (omega (arith, all, low, lt))) pc (omega arith)

-- a function in which they differ
pub differ_at : (functions : List Located) (dwarf : Answers) (place : ℕ) (l : Located) (result : Option Difference) (d : Difference) → ((i j : ℕ) (d : Located) → i < j → j < length functions → (get_or functions i d).func.start + (get_or functions i d).func.size ≤ (get_or functions j d).func.start)
    → place < length functions → l ≡ get_or functions place l → ((i : ℕ) (d : Located) → i < place → i < length functions → AgreeOver (section_at (located_functions functions)) dwarf (get_or functions i d).func)
    → result ≡ Some d → Compares (function_content l.func) dwarf l.func.start (l.func.start + l.func.size) result → DifferFirst (section_at (located_functions functions)) dwarf d.pc d.section d.dwarf
differ_at functions dwarf place l result d apart lt is over result_is h =
    let here = subst (λ (r : Option Difference). Compares (function_content l.func) dwarf l.func.start (l.func.start + l.func.size) r) result_is h in
    let there : DifferWithin (section_at (located_functions functions)) dwarf l.func.start (l.func.start + l.func.size) d = compare_alike (function_content l.func) (section_at (located_functions functions)) dwarf l.func.start (l.func.start + l.func.size) (Some d)
    (λ pc low high. subst (λ (g : Located). g.func.start ≤ pc → pc < g.func.start + g.func.size → function_content g.func pc ≡ section_at (located_functions functions) pc) (sym is) (says_there functions place l pc apart lt) low high) here in
    record {
      section_content = there.section_content;
      dwarf_content = there.dwarf_content;
      differ = there.differ;
      before = λ pc less. elim (cases_lt pc l.func.start) [
        | inl earlier ↦ agree_below functions dwarf place l.func.start over (λ i e low within. by_place i e low within) pc earlier
        | inr not_earlier ↦ there.before pc (omega (arith, not_earlier)) less
      ];
    }
  where
    by_place : (i : ℕ) (e : Located) → place ≤ i → i < length functions → l.func.start ≤ (get_or functions i e).func.start
    by_place i e low within = elim (cases_lt place i) [
      | inl after ↦
          let ends = apart place i e after within in
          let mine : get_or functions place e ≡ l = get_or_default functions place e l lt ∙ sym is in
          let ends' = subst (λ (g : Located). g.func.start + g.func.size ≤ (get_or functions i e).func.start) mine ends in
          omega (arith, ends')
      | inr not_after ↦
          let same : i ≡ place = omega (arith, low, not_after) in
          let mine : get_or functions i e ≡ l = ap (λ (k : ℕ). get_or functions k e) same ∙ get_or_default functions place e l lt ∙ sym is in
          subst (λ (g : Located). l.func.start ≤ g.func.start) (sym mine) (omega arith)
    ]

-- a function over which they agree
pub agree_at : (functions : List Located) (dwarf : Answers) (place : ℕ) (l : Located) (result : Option Difference) → ((i j : ℕ) (d : Located) → i < j → j < length functions → (get_or functions i d).func.start + (get_or functions i d).func.size ≤ (get_or functions j d).func.start)
    → place < length functions → l ≡ get_or functions place l → result ≡ None → Compares (function_content l.func) dwarf l.func.start (l.func.start + l.func.size) result → AgreeOver (section_at (located_functions functions)) dwarf l.func
agree_at functions dwarf place l result apart lt is none h =
    let here = subst (λ (r : Option Difference). Compares (function_content l.func) dwarf l.func.start (l.func.start + l.func.size) r) none h in
    λ pc low high. subst (λ x. Agree x (dwarf pc)) (subst (λ (g : Located). g.func.start ≤ pc → pc < g.func.start + g.func.size → function_content g.func pc ≡ section_at (located_functions functions) pc) (sym is) (says_there functions place l pc apart lt) low high) (here pc low high)

-- a function of repeated blocks is not compared
repeated_says : (f : Func) (shape : Shape) (found : Option Row) → f.shape ≡ shape → is_plain_shape shape ≡ false → option_and_then by_row (option_map (λ (row : Row). record { func = f; row = row }) found) ≡ None
repeated_says f Plain found is h = cc
repeated_says f (Repeat size) None is h = refl
repeated_says f (Repeat size) (Some r) is h = rw is refl

pub repeated_over : (functions : List Located) (dwarf : Answers) (place : ℕ) (l : Located) → ((i j : ℕ) (d : Located) → i < j → j < length functions → (get_or functions i d).func.start + (get_or functions i d).func.size ≤ (get_or functions j d).func.start)
    → place < length functions → l ≡ get_or functions place l → is_plain l.func ≡ false → AgreeOver (section_at (located_functions functions)) dwarf l.func
repeated_over functions dwarf place l apart lt is repeated = λ pc low high.
    let same = subst (λ (g : Located). g.func.start ≤ pc → pc < g.func.start + g.func.size → function_content g.func pc ≡ section_at (located_functions functions) pc) (sym is) (says_there functions place l pc apart lt) low high in
    agree_if (section_at (located_functions functions) pc) (dwarf pc) (sym same ∙ repeated_says l.func l.func.shape (row_at (offset_in_block l.func.shape (pc - l.func.start)) l.func.rows) refl repeated)

-- ---- the loop
pub differ_found : (functions : List Located) (dwarf : Answers) (place : ℕ) (l : Located) (result : Option Difference) → is_some result ≡ true → ((i j : ℕ) (d : Located) → i < j → j < length functions → (get_or functions i d).func.start + (get_or functions i d).func.size ≤ (get_or functions j d).func.start)
    → place < length functions → l ≡ get_or functions place l → ((i : ℕ) (d : Located) → i < place → i < length functions → AgreeOver (section_at (located_functions functions)) dwarf (get_or functions i d).func)
    → Compares (function_content l.func) dwarf l.func.start (l.func.start + l.func.size) result → ComparesAll (section_at (located_functions functions)) dwarf result
differ_found functions dwarf place l None t apart lt is over h = cc
differ_found functions dwarf place l (Some d) t apart lt is over h = differ_at functions dwarf place l (Some d) d apart lt is over refl h

pub over_more : (section dwarf : Answers) (functions : List Located) (place : ℕ) (l : Located) → place < length functions → l ≡ get_or functions place l
    → ((i : ℕ) (d : Located) → i < place → i < length functions → AgreeOver section dwarf (get_or functions i d).func) → AgreeOver section dwarf l.func
    → (i : ℕ) (d : Located) → i < place + 1 → i < length functions → AgreeOver section dwarf (get_or functions i d).func
over_more section dwarf functions place l lt is over here i d less within = elim (cases_lt i place) [
  | inl before ↦ over i d before within
  | inr not_before ↦
      let same : i ≡ place = omega (arith, less, not_before) in
      let mine : get_or functions i d ≡ l = ap (λ (k : ℕ). get_or functions k d) same ∙ get_or_default functions place d l lt ∙ sym is in
      subst (λ (g : Located). AgreeOver section dwarf g.func) (sym mine) here
]

pub next_start : (functions : List Located) (place : ℕ) (l : Located) → ((i j : ℕ) (d : Located) → i < j → j < length functions → (get_or functions i d).func.start + (get_or functions i d).func.size ≤ (get_or functions j d).func.start)
    → place < length functions → l ≡ get_or functions place l → (d : Located) → place + 1 < length functions → l.func.start + l.func.size ≤ (get_or functions (place + 1) d).func.start
next_start functions place l apart lt is d more =
    let mine : get_or functions place d ≡ l = get_or_default functions place d l lt ∙ sym is in
    subst (λ (g : Located). g.func.start + g.func.size ≤ (get_or functions (place + 1) d).func.start) mine (apart place (place + 1) d (omega arith) more)
