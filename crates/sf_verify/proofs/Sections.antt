-- The functions of a section, in the order of their addresses.
use Rattle.std.specs.Prelude.{◌||◌}
use Rattle.std.specs.List.{All, filter, find, list_any}
use Rattle.std.specs.Option.{option_and_then}
use Rattle.std.proofs.Common.{◌≡◌, ℕ, suc, ◌+◌, ◌<◌, ◌≤◌, Bool, true, false, cond, List, [], ◌∷◌, get_or, length, Option, Some, None, refl, sym, ap, subst, ◌∙◌, arith, inl, inr}
use Rattle.std.proofs.lemmas.Bool.{cases_lt, ltb-true, lt-ltb}
use Rattle.std.proofs.lemmas.List.Elements.{filter_passes}
use Rattle.std.proofs.lemmas.List.Sorted.{All-permutation, IsPermutation-map, list_any-IsPermutation}
use Rattle.sf_model.specs.declared.function.Func.{Func}
use Rattle.sf_model.specs.Lookup.{contains, found_at, row_in_first}
use Rattle.sf_model.specs.Table.{Table}
use Rattle.sf_decode.specs.declared.view.View.{View}
use Rattle.sf_decode.specs.View.{section_bytes, table_of}
use Rattle.sf_functions.specs.Order.{IsInOrder}
use Rattle.sf_merge.specs.declared.located.Located.{Located}
use Rattle.sf_merge.specs.Located.{is_sized, located, located_functions, located_start}
use Rattle.sf_merge.specs.Merging.{shared_address_fault}
use Rattle.sf_merge.specs.Views.{IsViewOfSection}
use Rattle.sf_merge.proofs.Apart.{none_share}
use Rattle.sf_merge.proofs.OneSection as section
use Rattle.sf_merge.proofs.OneSection.{located_functions as located_are, ordered_sound}
use Rattle.sf_model.proofs.Unions.{IsWithin, OnePasses, within}
use Rattle.sf_asm.proofs.OneFound.{found_alike}
use Rattle.sf_verify.specs.declared.fault.VerifyFault.TheVariants.{Overlap}
use Rattle.sf_verify.specs.Comparing.{AreComparable}
use Rattle.sf_verify.specs.Counting.{StartsRise}
use Rattle.sf_verify.specs.SectionContent.{by_row, section_at}
use Rattle.sf_verify.specs.Verifying.{section_fault, sized_in}
use Rattle.sf_asm.proofs.ListMembers.{placed}
use Rattle.sf_verify.proofs.Gathered.{mapped}

-- ---- they have bytes
ordered_bytes : (table : Table) (ordered : List Located) → IsInOrder located_start (sized_in table) ordered → All (λ (l : Located). is_sized l ≡ true) ordered
ordered_bytes table ordered order = All-permutation (λ (l : Located). is_sized l ≡ true) (sized_in table) ordered order.moved (filter_passes is_sized (located 0 table))

-- ---- they share no address
none_shared : (bytes : List ℕ) (ls : List Located) → section_fault bytes ls ≡ None → shared_address_fault ls ≡ None
unfolding section_fault
none_shared bytes ls e = section.none_shared Overlap bytes ls e

apart : (bytes : List ℕ) (ls : List Located) → section_fault bytes ls ≡ None → (i j : ℕ) (d : Located) → i < j → j < length ls → (get_or ls i d).func.start + (get_or ls i d).func.size ≤ (get_or ls j d).func.start
apart bytes ls e = none_share ls (none_shared bytes ls e)

pub comparable : (view : View) (ordered : List Located) → IsViewOfSection view → IsInOrder located_start (sized_in (table_of view)) ordered → section_fault (section_bytes view) ordered ≡ None → AreComparable (table_of view).arch ordered
comparable view ordered read order e = record {
  each = λ k d lt. let s = ordered_sound view ordered read order k d lt in record { end = s.end; rise = s.rise; fits = s.fits };
  apart = apart (section_bytes view) ordered e;
}

pub starts_rise : (bytes : List ℕ) (table : Table) (ordered : List Located) → IsInOrder located_start (sized_in table) ordered → section_fault bytes ordered ≡ None → StartsRise ordered
starts_rise bytes table ordered order e i j d lt within =
    let ends = apart bytes ordered e i j d lt within in
    let some = ltb-true 0 (get_or ordered i d).func.size (ordered_bytes table ordered order i d (omega (arith, lt, within))) in
    omega (arith, ends, some)

-- ---- look-ups
one_contains : (pc : ℕ) (ls : List Located) → ((i j : ℕ) (d : Located) → i < j → j < length ls → (get_or ls i d).func.start + (get_or ls i d).func.size ≤ (get_or ls j d).func.start) → OnePasses (contains pc) (located_functions ls)
one_contains pc ls h = λ x y m n s t.
    let p = placed (located_functions ls) x m in
    let q = placed (located_functions ls) y n in
    let d : Located = record { func = x; item = 0; number = 0 } in
    let p_lt : p.place < length ls = subst (λ (k : ℕ). p.place < k) (length_in ls) p.within in
    let q_lt : q.place < length ls = subst (λ (k : ℕ). q.place < k) (length_in ls) q.within in
    let x_is : (get_or ls p.place d).func ≡ x = sym (mapped (λ (l : Located). l.func) ls p.place x d p_lt) ∙ p.is x in
    let y_is : (get_or ls q.place d).func ≡ y = sym (mapped (λ (l : Located). l.func) ls q.place x d q_lt) ∙ q.is x in
    by_places x y d p.place q.place p_lt q_lt x_is y_is (within pc x s) (within pc y t)
  where
    length_in : (ls : List Located) → length (located_functions ls) ≡ length ls
    length_in [] = refl
    length_in (l ∷ ls) = ap suc (length_in ls)

    never : (i j : ℕ) (d : Located) → i < j → j < length ls → pc < (get_or ls i d).func.start + (get_or ls i d).func.size → (get_or ls j d).func.start ≤ pc → ⊥
    never i j d lt within to from = let ends = h i j d lt within in omega (arith, ends, to, from)

    by_places : (x y : Func) (d : Located) (i j : ℕ) → i < length ls → j < length ls → (get_or ls i d).func ≡ x → (get_or ls j d).func ≡ y → IsWithin pc x → IsWithin pc y → x ≡ y
    by_places x y d i j i_lt j_lt x_is y_is a b = elim (cases_lt i j) [
      | inl lt ↦ absurd (never i j d lt j_lt (subst (λ (f : Func). pc < f.start + f.size) (sym x_is) a.to) (subst (λ (f : Func). f.start ≤ pc) (sym y_is) b.from))
      | inr not_lt ↦ elim (cases_lt j i) [
        | inl gt ↦ absurd (never j i d gt i_lt (subst (λ (f : Func). pc < f.start + f.size) (sym y_is) b.to) (subst (λ (f : Func). f.start ≤ pc) (sym x_is) a.from))
        | inr not_gt ↦ let same : i ≡ j = omega (arith, not_lt, not_gt) in sym x_is ∙ ap (λ (k : ℕ). (get_or ls k d).func) same ∙ y_is
      ]
    ]

-- functions without bytes have no address
find_sized : (pc : ℕ) (ls : List Located) → find (contains pc) (located_functions (filter is_sized ls)) ≡ find (contains pc) (located_functions ls)
find_sized pc [] = refl
find_sized pc (l ∷ ls) = at_size (is_sized l) refl (find_sized pc ls)
  where
    not_there : (b : Bool) → contains pc l.func ≡ b → is_sized l ≡ false → b ≡ false
    not_there true e none = let has = within pc l.func e in let some = lt-ltb 0 l.func.size (omega (arith, has.from, has.to)) in cc
    not_there false e none = refl

    at_size : (b : Bool) → is_sized l ≡ b → find (contains pc) (located_functions (filter is_sized ls)) ≡ find (contains pc) (located_functions ls)
        → find (contains pc) (located_functions (cond b (l ∷ filter is_sized ls) (filter is_sized ls))) ≡ find (contains pc) (located_functions (l ∷ ls))
    at_size true e others = ap (λ o. cond (contains pc l.func) (Some l.func) o) others
    at_size false e others = others ∙ sym (ap (λ (b : Bool). cond b (Some l.func) (find (contains pc) (located_functions ls))) (not_there (contains pc l.func) refl e))

-- what the section says, by its functions in order
pub section_content : (bytes : List ℕ) (table : Table) (ordered : List Located) → IsInOrder located_start (sized_in table) ordered → section_fault bytes ordered ≡ None → (pc : ℕ) → section_at (located_functions ordered) pc ≡ section_at table.functions pc
unfolding section_at found_at
section_content bytes table ordered order e pc =
    let found : find (contains pc) table.functions ≡ find (contains pc) (located_functions ordered) =
    ap (find (contains pc)) (sym (located_are table)) ∙ sym (find_sized pc (located 0 table))
    ∙ found_alike (contains pc) (located_functions (sized_in table)) (located_functions ordered) (IsPermutation-map (λ (l : Located). l.func) (sized_in table) ordered order.moved) (one_contains pc ordered (apart bytes ordered e)) in
    sym (ap (λ (f : Option Func). option_and_then by_row (row_in_first pc f)) found)

-- a test that only functions with bytes pass
pub any_sized : (p : Func → Bool) (table : Table) (ordered : List Located) → IsInOrder located_start (sized_in table) ordered → ((f : Func) → p f ≡ true → 0 < f.size) → list_any p (located_functions ordered) ≡ list_any p table.functions
any_sized p table ordered order some =
    sym (list_any-IsPermutation p (located_functions (sized_in table)) (located_functions ordered) (IsPermutation-map (λ (l : Located). l.func) (sized_in table) ordered order.moved))
    ∙ any_of (located 0 table) ∙ ap (list_any p) (located_are table)
  where
    not_there : (l : Located) (b : Bool) → p l.func ≡ b → is_sized l ≡ false → b ≡ false
    not_there l true e none = let there = lt-ltb 0 l.func.size (some l.func e) in cc
    not_there l false e none = refl

    any_of : (ls : List Located) → list_any p (located_functions (filter is_sized ls)) ≡ list_any p (located_functions ls)
    any_of [] = refl
    any_of (l ∷ ls) = at_size (is_sized l) refl (any_of ls)
      where
        at_size : (b : Bool) → is_sized l ≡ b → list_any p (located_functions (filter is_sized ls)) ≡ list_any p (located_functions ls)
            → list_any p (located_functions (cond b (l ∷ filter is_sized ls) (filter is_sized ls))) ≡ list_any p (located_functions (l ∷ ls))
        at_size true e others = ap (λ (b : Bool). p l.func || b) others
        at_size false e others = others ∙ sym (ap (λ (b : Bool). b || list_any p (located_functions ls)) (not_there l (p l.func) refl e))
