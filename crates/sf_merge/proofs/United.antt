-- The functions of sections that share no address are the union of their tables.
use Rattle.std.specs.Prelude.{nat_lt}
use Rattle.std.specs.List.{enumerate_from, filter, flat_map, AllPairs}
use Rattle.std.specs.List.Sorted.{IsPermutation}
use Rattle.std.proofs.Common.{◌≡◌, ℕ, ◌+◌, ◌<◌, Bool, true, false, cond, ◌&&◌, List, [], ◌∷◌, ◌++◌, All, length, map, None, refl, sym, ap, subst, ◌∙◌, arith, inl, inr}
use Rattle.std.proofs.lemmas.Bool.{ltb-false}
use Rattle.std.proofs.lemmas.List.{map-append}
use Rattle.std.proofs.lemmas.List.Elements.{All-nil, All-cons, All-head, All-tail, All-weaker, filter_passes}
use Rattle.std.proofs.lemmas.List.Kept.{AllPairs-cons}
use Rattle.std.proofs.lemmas.List.Sorted.{IsPermutation-sym, IsPermutation-map}
use Rattle.sf_model.specs.declared.machine.Arch.{Arch}
use Rattle.sf_model.specs.declared.function.Func.{Func}
use Rattle.sf_model.specs.Table.{Table}
use Rattle.sf_model.specs.Union.{is_of_use, all_functions, IsApart, IsUnion}
use Rattle.sf_functions.specs.Order.{IsInOrder}
use Rattle.sf_merge.specs.declared.located.Located.{Located}
use Rattle.sf_merge.specs.Located.{all_located, at_entry, is_sized, located, located_start, sized_in_all}
use Rattle.sf_merge.specs.Merging.{shared_address_fault, merged_functions}
use Rattle.sf_merge.proofs.Apart.{EndsBy, function_of, none_share, pairs_map, pairs_none, pairs_weaker, written_apart, adjacent, rises, turned, useful}
use Rattle.sf_merge.proofs.Permutations.{filter_permuted, pairs_permuted}
use Rattle.sf_model.proofs.Unions.{pairs_head, pairs_tail}

-- ---- the functions of all sections are those of all tables
entries_functions : (item number : ℕ) (fs : List Func) → map function_of (map (at_entry item) (enumerate_from number fs)) ≡ fs
entries_functions item number [] = refl
entries_functions item number (f ∷ fs) = ap (λ gs. f ∷ gs) (entries_functions item (number + 1) fs)

sections_functions : (item : ℕ) (tables : List Table) → map function_of (flat_map (λ (section : ℕ × Table). located section.0 section.1) (enumerate_from item tables)) ≡ all_functions tables
sections_functions item [] = refl
sections_functions item (t ∷ ts) =
    let rest = flat_map (λ (section : ℕ × Table). located section.0 section.1) (enumerate_from (item + 1) ts) in
    map-append function_of (located item t) rest ∙ ap (λ fs. fs ++ map function_of rest) (entries_functions item 0 t.functions) ∙ ap (λ fs. t.functions ++ fs) (sections_functions (item + 1) ts)

pub functions_are : (tables : List Table) → map function_of (all_located tables) ≡ all_functions tables
functions_are tables = sections_functions 0 tables

-- ---- those without bytes are of no use
use_sized : (ls : List Located) → filter is_of_use (map function_of (filter is_sized ls)) ≡ filter is_of_use (map function_of ls)
use_sized [] = refl
use_sized (l ∷ ls) = at_size (nat_lt 0 l.func.size) refl (use_sized ls)
  where
    rest : List Func
    rest = filter is_of_use (map function_of ls)

    at_size : (b : Bool) → nat_lt 0 l.func.size ≡ b → filter is_of_use (map function_of (filter is_sized ls)) ≡ rest
        → filter is_of_use (map function_of (cond b (l ∷ filter is_sized ls) (filter is_sized ls))) ≡ cond (is_of_use l.func) (l.func ∷ rest) rest
    at_size true e others = ap (λ fs. cond (is_of_use l.func) (l.func ∷ fs) fs) others
    at_size false e others = others ∙ sym (ap (λ (b : Bool). cond (b && nat_lt 0 (length l.func.rows)) (l.func ∷ rest) rest) e)

pub taken : (tables : List Table) (ordered : List Located) → IsInOrder located_start (sized_in_all tables) ordered → IsPermutation (filter is_of_use (all_functions tables)) (merged_functions ordered)
taken tables ordered order =
    subst (λ fs. IsPermutation fs (merged_functions ordered)) (use_sized (all_located tables) ∙ ap (filter is_of_use) (functions_are tables))
    (filter_permuted is_of_use (map function_of (sized_in_all tables)) (map function_of ordered) (IsPermutation-map function_of (sized_in_all tables) ordered order.moved))

-- ---- no two share an address, those without rows among them
abbrev AreApart : Located → Located → Type 0
AreApart l m = IsApart l.func m.func

no_bytes : (l : Located) → is_sized l ≡ false → l.func.size ≡ 0
no_bytes l e = let le = ltb-false 0 l.func.size e in omega (le, arith)

all_apart : (l : Located) (ls : List Located) → All (AreApart l) (filter is_sized ls) → All (AreApart l) ls
all_apart l [] h = All-nil (AreApart l)
all_apart l (m ∷ ls) h = at_size (is_sized m) refl h (all_apart l ls)
  where
    at_size : (b : Bool) → is_sized m ≡ b → All (AreApart l) (cond b (m ∷ filter is_sized ls) (filter is_sized ls)) → (All (AreApart l) (filter is_sized ls) → All (AreApart l) ls) → All (AreApart l) (m ∷ ls)
    at_size true e h others = All-cons (AreApart l) m ls (All-head (AreApart l) m (filter is_sized ls) h) (others (All-tail (AreApart l) m (filter is_sized ls) h))
    at_size false e h others = All-cons (AreApart l) m ls (inr (inl (no_bytes m e))) (others h)

pairs_apart : (ls : List Located) → AllPairs AreApart (filter is_sized ls) → AllPairs AreApart ls
pairs_apart [] h = pairs_none AreApart
pairs_apart (l ∷ ls) h = at_size (is_sized l) refl h (pairs_apart ls)
  where
    at_size : (b : Bool) → is_sized l ≡ b → AllPairs AreApart (cond b (l ∷ filter is_sized ls) (filter is_sized ls)) → (AllPairs AreApart (filter is_sized ls) → AllPairs AreApart ls) → AllPairs AreApart (l ∷ ls)
    at_size true e h others =
        AllPairs-cons AreApart l ls (all_apart l ls (pairs_head AreApart l (filter is_sized ls) h)) (others (pairs_tail AreApart l (filter is_sized ls) h))
    at_size false e h others = AllPairs-cons AreApart l ls (λ k d lt. inl (no_bytes l e)) (others h)

pub apart : (tables : List Table) (ordered : List Located) → IsInOrder located_start (sized_in_all tables) ordered → shared_address_fault ordered ≡ None → AllPairs IsApart (all_functions tables)
apart tables ordered order e =
    let in_order = pairs_weaker (λ (l : Located) (m : Located). EndsBy l.func m.func) AreApart (λ l m h. inr (inr (inl h))) ordered (none_share ordered e) in
    let of_sized = pairs_permuted AreApart (λ l m h. turned l.func m.func h) ordered (sized_in_all tables) (IsPermutation-sym (sized_in_all tables) ordered order.moved) in_order in
    subst (AllPairs IsApart) (functions_are tables) (pairs_map IsApart function_of (all_located tables) (pairs_apart (all_located tables) of_sized))

-- ---- the union
pub written_sizes : (ls : List Located) → All (λ (f : Func). 0 < f.size) (merged_functions ls)
written_sizes ls = All-weaker (λ (f : Func). is_of_use f ≡ true) (λ (f : Func). 0 < f.size) (λ f e. (useful f e).size) (merged_functions ls) (filter_passes is_of_use (map function_of ls))

pub united : (arch : Arch) (tables : List Table) (ordered : List Located) → All (λ (table : Table). table.arch ≡ arch) tables → IsInOrder located_start (sized_in_all tables) ordered → shared_address_fault ordered ≡ None
    → IsUnion arch tables (merged_functions ordered)
united arch tables ordered machines order e = record {
  one_machine = machines;
  apart = apart tables ordered order e;
  taken = taken tables ordered order;
  rising = rises (merged_functions ordered) (written_sizes ordered) (adjacent EndsBy (merged_functions ordered) (written_apart ordered e));
}
