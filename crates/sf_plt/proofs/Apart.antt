-- What is written of functions that are apart is apart, and in one order.
use Rattle.std.specs.Ordering.{nat_cmp}
use Rattle.std.specs.List.{filter, flat_map}
use Rattle.std.specs.List.Sorted.{IsNonDecreasingBy, IsStableByKey}
use Rattle.std.proofs.Common.{◌≡◌, ℕ, zero, suc, ◌+◌, ◌-◌, ◌<◌, ◌≤◌, Bool, true, false, cond, ◌&&◌, eqb, leb, List, [], ◌∷◌, ◌++◌, length, get_or, map, Option, refl, sym, ap, subst, ◌∙◌, arith}
use Rattle.std.proofs.lemmas.Bool.{leb-true}
use Rattle.std.proofs.lemmas.Bool.Decides.{nat_tests}
use Rattle.std.proofs.lemmas.List.Elements.{filter-append}
use Rattle.sf_model.specs.declared.content.Content.{Content}
use Rattle.sf_model.specs.declared.function.Func.{Func}
use Rattle.frame_functions.specs.ReadFunction.{kept_of}
use Rattle.frame_functions.specs.Functions.{Function}
use Rattle.frame_functions.specs.Kept.{read_of}
use Rattle.frame_functions.specs.Order.{are_apart}
use Rattle.sf_model.proofs.StableOrder.{NoneBelow, tied, tied_means, one_order_of}
use Rattle.sf_plt.specs.Plt.{plt_functions}
use Rattle.sf_plt.specs.Sorting.{func_start}
use Rattle.sf_plt.specs.Written.{first_entry, later_entries, pair_by, plt_pair, written_functions}
use Rattle.sf_plt.proofs.Cases.{Case, IsTable, kept_case, table_case, other_case, case_of, expressed_of, kept_lists, table_lists, other_lists}
use Rattle.sf_plt.proofs.Form.{both, plt_form}

-- each function starts at the end of the one before it, or after it
abbrev pub ApartFrom : ℕ → List Func → Type 0
ApartFrom end [] = Unit {0}
ApartFrom end (g ∷ gs) = (end ≤ g.start) × ApartFrom (g.start + g.size) gs

earlier : (a b : ℕ) (gs : List Func) → a ≤ b → ApartFrom b gs → ApartFrom a gs
earlier a b [] le h = tt
earlier a b (g ∷ gs) le h = (omega (arith, le, h.0), h.1)

-- one function, and those after it
pub record Goes (end : ℕ) (f : Function) (fs : List Function) : Type 0 where
  pub from : end ≤ f.start
  pub on : are_apart (f.start + f.size) (map read_of fs) ≡ true

pub sized_goes : (end : ℕ) (f : Function) (fs : List Function) → 0 < f.size → are_apart end (map read_of (f ∷ fs)) ≡ true → Goes end f fs
sized_goes end f fs some h =
    let t : eqb f.size 0 ≡ false = grind (arith, nat_tests) in
    let rest : (leb end f.start && are_apart (f.start + f.size) (map read_of fs)) ≡ true = sym (ap (λ (b : Bool). cond b (are_apart end (map read_of fs)) (leb end f.start && are_apart (f.start + f.size) (map read_of fs))) t) ∙ h in
    let two = both (leb end f.start) (are_apart (f.start + f.size) (map read_of fs)) rest in
    record { from = leb-true end f.start two.0; on = two.1 }

-- whatever its size
pub record Later (end : ℕ) (fs : List Function) : Type 0 where
  pub least : ℕ
  pub above : end ≤ least
  pub apart : are_apart least (map read_of fs) ≡ true

pub later_of : (end : ℕ) (f : Function) (fs : List Function) → are_apart end (map read_of (f ∷ fs)) ≡ true → Later end fs
later_of end f fs h = at_size (eqb f.size 0) refl h
  where
    at_size : (b : Bool) → eqb f.size 0 ≡ b → cond b (are_apart end (map read_of fs)) (leb end f.start && are_apart (f.start + f.size) (map read_of fs)) ≡ true → Later end fs
    at_size true t h = record { least = end; above = omega arith; apart = h }
    at_size false t h =
        let two = both (leb end f.start) (are_apart (f.start + f.size) (map read_of fs)) h in
        let le = leb-true end f.start two.0 in
        record { least = f.start + f.size; above = omega (arith, le); apart = two.1 }

table_sized : (f : Function) → IsTable f → 16 < f.size
table_sized f h = (plt_form f h.table).above

-- ---- what is written
pub written_apart : (end : ℕ) (fs : List Function) → are_apart end (map read_of fs) ≡ true → ApartFrom end (written_functions fs)
written_apart end [] h = tt
written_apart end (f ∷ fs) h = at_case (case_of f) (λ least apart. written_apart least fs apart)
  where
    at_case : Case f → ((least : ℕ) → are_apart least (map read_of fs) ≡ true → ApartFrom least (written_functions fs)) → ApartFrom end (written_functions (f ∷ fs))
    at_case (kept_case k) others =
        let goes = sized_goes end f fs k.sized h in
        subst (ApartFrom end) (sym (kept_lists f fs k).written_is) (goes.from, others (f.start + f.size) goes.on)
    at_case (table_case t) others =
        let above = table_sized f t in
        let goes = sized_goes end f fs (omega (arith, above)) h in
        let ends : f.start + 16 + (f.size - 16) ≤ f.start + f.size = omega (arith, above) in
        subst (ApartFrom end) (sym (table_lists f fs t).written_is) (goes.from, (omega arith, earlier (f.start + 16 + (f.size - 16)) (f.start + f.size) (written_functions fs) ends (others (f.start + f.size) goes.on)))
    at_case (other_case o) others =
        let later = later_of end f fs h in
        subst (ApartFrom end) (sym (other_lists f fs o).written_is) (earlier end later.least (written_functions fs) later.above (others later.least later.apart))

pub kept_apart : (end : ℕ) (fs : List Function) → are_apart end (map read_of fs) ≡ true → ApartFrom end (kept_of (map read_of fs))
kept_apart end [] h = tt
kept_apart end (f ∷ fs) h = at_case (case_of f) (λ least apart. kept_apart least fs apart)
  where
    at_case : Case f → ((least : ℕ) → are_apart least (map read_of fs) ≡ true → ApartFrom least (kept_of (map read_of fs))) → ApartFrom end (kept_of (map read_of (f ∷ fs)))
    at_case (kept_case k) others =
        let goes = sized_goes end f fs k.sized h in
        subst (ApartFrom end) (sym (kept_lists f fs k).kept_is) (goes.from, others (f.start + f.size) goes.on)
    at_case (table_case t) others =
        let later = later_of end f fs h in
        subst (ApartFrom end) (sym (table_lists f fs t).kept_is) (earlier end later.least (kept_of (map read_of fs)) later.above (others later.least later.apart))
    at_case (other_case o) others =
        let later = later_of end f fs h in
        subst (ApartFrom end) (sym (other_lists f fs o).kept_is) (earlier end later.least (kept_of (map read_of fs)) later.above (others later.least later.apart))

-- by places
pub neighbours : (end : ℕ) (gs : List Func) (k : ℕ) (d : Func) → ApartFrom end gs → k + 1 < length gs → (get_or gs k d).start + (get_or gs k d).size ≤ (get_or gs (k + 1) d).start
neighbours end [] k d h lt = absurd (omega (arith, lt))
neighbours end (g ∷ []) k d h lt = absurd (omega (arith, lt))
neighbours end (g ∷ g' ∷ gs) zero d h lt = h.1.0
neighbours end (g ∷ g' ∷ gs) (suc k) d h lt =
    let e : suc k + 1 ≡ suc (k + 1) = omega arith in
    rw e (neighbours (g.start + g.size) (g' ∷ gs) k d h.1 (omega (arith, lt)))

-- ---- the order
none_below : (end : ℕ) (gs : List Func) → ApartFrom end gs → NoneBelow func_start end gs
none_below end [] h = tt
none_below end (g ∷ gs) h = (h.0, none_below end gs (earlier end (g.start + g.size) gs (omega (arith, h.0)) h.1))

at_place : (least : ℕ) (gs : List Func) (j : ℕ) (d : Func) → NoneBelow func_start least gs → j < length gs → least ≤ (get_or gs j d).start
at_place least [] j d h lt = absurd (omega (arith, lt))
at_place least (g ∷ gs) zero d h lt = h.0
at_place least (g ∷ gs) (suc j) d h lt = at_place least gs j d h.1 (omega (arith, lt))

at_places : (end : ℕ) (gs : List Func) (i j : ℕ) (d : Func) → ApartFrom end gs → i ≤ j → j < length gs → (get_or gs i d).start ≤ (get_or gs j d).start
at_places end [] i j d h le lt = absurd (omega (arith, lt))
at_places end (g ∷ gs) zero zero d h le lt = omega arith
at_places end (g ∷ gs) zero (suc j) d h le lt =
    let rest = at_place (g.start + g.size) gs j d (none_below (g.start + g.size) gs h.1) (omega (arith, lt)) in
    omega (arith, rest)
at_places end (g ∷ gs) (suc i) zero d h le lt = absurd (omega (arith, le))
at_places end (g ∷ gs) (suc i) (suc j) d h le lt = at_places (g.start + g.size) gs i j d h.1 (omega (arith, le)) (omega (arith, lt))

pub rising : (end : ℕ) (gs : List Func) → ApartFrom end gs → IsNonDecreasingBy func_start gs
rising end gs h = λ i j d le lt. at_places end gs i j d h le lt

-- the pairs of tables
abbrev pub pairs_of : List Function → List Func
pairs_of fs = flat_map plt_pair (plt_functions fs)

none_tied : (z : Func) (end : ℕ) (gs : List Func) → z.start < end → NoneBelow func_start end gs → filter (tied func_start z) gs ≡ []
none_tied z end [] lt h = refl
none_tied z end (g ∷ gs) lt h = at_test (tied func_start z g) refl (none_tied z end gs lt h.1)
  where
    at_test : (b : Bool) → tied func_start z g ≡ b → filter (tied func_start z) gs ≡ [] → cond b (g ∷ filter (tied func_start z) gs) (filter (tied func_start z) gs) ≡ []
    at_test true e rest = let same = tied_means func_start z g e in absurd (omega (arith, lt, same, h.0))
    at_test false e rest = rest

-- those of one start, among the kept functions and then the pairs
table_first : (z a b : Func) (kept pairs written : List Func) (least : ℕ) → NoneBelow func_start least kept → a.start < least → b.start < least → filter (tied func_start z) written ≡ filter (tied func_start z) (kept ++ pairs)
    → filter (tied func_start z) (a ∷ b ∷ written) ≡ filter (tied func_start z) (kept ++ (a ∷ b ∷ pairs))
table_first z a b kept pairs written least none below_a below_b h =
    at_tests (tied func_start z a) refl (tied func_start z b) refl ∙ sym (filter-append (tied func_start z) kept (a ∷ b ∷ pairs))
  where
    apart : filter (tied func_start z) kept ≡ [] → filter (tied func_start z) written ≡ filter (tied func_start z) pairs
    apart e = h ∙ filter-append (tied func_start z) kept pairs ∙ ap (λ (l : List Func). l ++ filter (tied func_start z) pairs) e

    with_none : (s t : Bool) → filter (tied func_start z) kept ≡ [] → cond s (a ∷ cond t (b ∷ filter (tied func_start z) written) (filter (tied func_start z) written)) (cond t (b ∷ filter (tied func_start z) written) (filter (tied func_start z) written))
        ≡ filter (tied func_start z) kept ++ cond s (a ∷ cond t (b ∷ filter (tied func_start z) pairs) (filter (tied func_start z) pairs)) (cond t (b ∷ filter (tied func_start z) pairs) (filter (tied func_start z) pairs))
    with_none s t e =
        ap (λ (l : List Func). cond s (a ∷ cond t (b ∷ l) l) (cond t (b ∷ l) l)) (apart e)
        ∙ ap (λ (l : List Func). l ++ cond s (a ∷ cond t (b ∷ filter (tied func_start z) pairs) (filter (tied func_start z) pairs)) (cond t (b ∷ filter (tied func_start z) pairs) (filter (tied func_start z) pairs))) (sym e)

    at_tests : (s : Bool) → tied func_start z a ≡ s → (t : Bool) → tied func_start z b ≡ t → cond s (a ∷ cond t (b ∷ filter (tied func_start z) written) (filter (tied func_start z) written)) (cond t (b ∷ filter (tied func_start z) written) (filter (tied func_start z) written))
        ≡ filter (tied func_start z) kept ++ cond s (a ∷ cond t (b ∷ filter (tied func_start z) pairs) (filter (tied func_start z) pairs)) (cond t (b ∷ filter (tied func_start z) pairs) (filter (tied func_start z) pairs))
    at_tests true e t f = let same = tied_means func_start z a e in with_none true t (none_tied z least kept (omega (arith, same, below_a)) none)
    at_tests false e true f = let same = tied_means func_start z b f in with_none false true (none_tied z least kept (omega (arith, same, below_b)) none)
    at_tests false e false f = h ∙ filter-append (tied func_start z) kept pairs

pub same_ties : (z : Func) (end : ℕ) (fs : List Function) → are_apart end (map read_of fs) ≡ true → filter (tied func_start z) (written_functions fs) ≡ filter (tied func_start z) (kept_of (map read_of fs) ++ pairs_of fs)
same_ties z end [] h = refl
same_ties z end (f ∷ fs) h = at_case (case_of f) (λ least apart. same_ties z least fs apart)
  where
    at_case : Case f → ((least : ℕ) → are_apart least (map read_of fs) ≡ true → filter (tied func_start z) (written_functions fs) ≡ filter (tied func_start z) (kept_of (map read_of fs) ++ pairs_of fs))
        → filter (tied func_start z) (written_functions (f ∷ fs)) ≡ filter (tied func_start z) (kept_of (map read_of (f ∷ fs)) ++ pairs_of (f ∷ fs))
    at_case (kept_case k) others =
        let lists = kept_lists f fs k in
        let goes = sized_goes end f fs k.sized h in
        ap (filter (tied func_start z)) lists.written_is ∙ ap (λ (l : List Func). cond (tied func_start z (expressed_of f)) (expressed_of f ∷ l) l) (others (f.start + f.size) goes.on)
        ∙ sym (ap (λ (l : List Func). filter (tied func_start z) (l ++ pairs_of (f ∷ fs))) lists.kept_is
        ∙ ap (λ (ts : List Function). filter (tied func_start z) ((expressed_of f ∷ kept_of (map read_of fs)) ++ flat_map plt_pair ts)) lists.tables_are)
    at_case (table_case t) others =
        let lists = table_lists f fs t in
        let above = table_sized f t in
        let goes = sized_goes end f fs (omega (arith, above)) h in
        let none = none_below (f.start + f.size) (kept_of (map read_of fs)) (kept_apart (f.start + f.size) fs goes.on) in
        ap (filter (tied func_start z)) lists.written_is
        ∙ table_first z (first_entry f t.content) (later_entries f t.content) (kept_of (map read_of fs)) (pairs_of fs) (written_functions fs) (f.start + f.size) none (omega (arith, above)) (omega (arith, above)) (others (f.start + f.size) goes.on)
        ∙ sym (ap (λ (l : List Func). filter (tied func_start z) (l ++ pairs_of (f ∷ fs))) lists.kept_is
        ∙ ap (λ (ts : List Function). filter (tied func_start z) (kept_of (map read_of fs) ++ flat_map plt_pair ts)) lists.tables_are
        ∙ ap (λ (x : Option Content). filter (tied func_start z) (kept_of (map read_of fs) ++ (pair_by f x ++ pairs_of fs))) t.content_is)
    at_case (other_case o) others =
        let lists = other_lists f fs o in
        let later = later_of end f fs h in
        ap (filter (tied func_start z)) lists.written_is ∙ others later.least later.apart
        ∙ sym (ap (λ (l : List Func). filter (tied func_start z) (l ++ pairs_of (f ∷ fs))) lists.kept_is ∙ ap (λ (ts : List Function). filter (tied func_start z) (kept_of (map read_of fs) ++ flat_map plt_pair ts)) lists.tables_are)

-- sorted by their starts, the kept functions and the pairs are what is written
pub sorted_written : (end : ℕ) (fs : List Function) (sorted : List Func) → are_apart end (map read_of fs) ≡ true → IsNonDecreasingBy func_start sorted → IsStableByKey func_start nat_cmp (kept_of (map read_of fs) ++ pairs_of fs) sorted
    → sorted ≡ written_functions fs
sorted_written end fs sorted h rises stable =
    one_order_of func_start sorted (written_functions fs) rises (rising end (written_functions fs) (written_apart end fs h)) (λ z. stable z ∙ sym (same_ties z end fs h))
