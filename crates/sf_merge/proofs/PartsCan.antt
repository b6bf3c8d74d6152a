-- Where sections can be merged at once, those that remain after merging some can be merged as well, unless a function
-- is too far.
use Rattle.std.specs.List.{AllPairs, enumerate_from, filter, find}
use Rattle.std.specs.List.Sorted.{IsPermutation, IsNonDecreasingBy}
use Rattle.std.specs.Option.{option_map}
use Rattle.std.specs.Prelude.{not}
use Rattle.std.proofs.Common.{◌≡◌, ◌<◌, ◌≤◌, ◌+◌, ◌^◌, ℕ, Bool, true, false, cond, List, [], ◌∷◌, ◌++◌, All, length, map, Option, Some, None, Ok, Err, refl, sym, ap, subst, ◌∙◌, arith}
use Rattle.std.proofs.lemmas.Bool.{le-ltb, ltb-true}
use Rattle.std.proofs.lemmas.List.{length-map, map-append}
use Rattle.std.proofs.lemmas.List.Concat.{flat_map-append, length-flat_map}
use Rattle.std.proofs.lemmas.List.Elements.{All-nil, All-cons, All-head, All-tail, All-append, All-filter, filter_passes}
use Rattle.std.proofs.lemmas.List.Kept.{AllPairs-cons, AllPairs-filter}
use Rattle.std.proofs.lemmas.List.Sorted.{All-permutation, IsPermutation-sym, IsPermutation-trans, IsPermutation-map, IsPermutation-refl, IsPermutation-append_left, length_permutation, sum_by-IsPermutation}
use Rattle.std.proofs.lemmas.List.Sums.{sum_by-append, sum_by-cons}
use Rattle.sf_model.specs.declared.machine.Arch.{Arch}
use Rattle.sf_model.specs.declared.machine.Arch.TheVariants.{Amd64, Aarch64}
use Rattle.sf_model.specs.declared.function.Func.{Func}
use Rattle.sf_model.specs.Table.{Table, row_count}
use Rattle.sf_model.specs.Union.{IsApart, all_functions, is_of_use}
use Rattle.sf_model.proofs.StableOrder.{tail_rises}
use Rattle.sf_model.proofs.Unions.{pairs_head, pairs_tail}
use Rattle.sf_write.specs.Reach.{first_out_of_reach}
use Rattle.sf_write.specs.Section.{table_of}
use Rattle.sf_functions.specs.Order.{IsInOrder}
use Rattle.sf_merge.specs.declared.fault.MergeFault.{MergeFault}
use Rattle.sf_merge.specs.declared.fault.MergeFault.TheVariants.{OutOfReach}
use Rattle.sf_merge.specs.declared.located.Located.{Located}
use Rattle.sf_merge.specs.Located.{all_located, is_sized, located_start, sized_in_all}
use Rattle.sf_merge.specs.Merging.{Merges, MergesUnless, ordered_fault, functions_in_all, is_other, limits_fault_in_all, other_machine_fault, mixed_with_first, or_later, shared_address_fault, reach_fault, rows_in_all, same_arch, sections_fault, unless_fault, merged_functions}
use Rattle.sf_merge.specs.Parts.{AreMerged, AreMergedInParts, IsTooFar, Part, SomeAreMerged, part_tables}
use Rattle.sf_merge.proofs.Apart.{all_back, function_of, pairs_none, turned}
use Rattle.sf_merge.proofs.Checks.{few_functions, few_rows, none_at_all, one_alone, overlap_goes_on, within_limits}
use Rattle.sf_merge.proofs.InParts.{chosen, merged, next_tables, others, said, some, used, used_stay}
use Rattle.sf_merge.proofs.Joined.{apart_by}
use Rattle.sf_merge.proofs.Merged.{few_in_filter, few_rows_in_filter, rows_in_tables}
use Rattle.sf_merge.proofs.OneRising.{one_rising}
use Rattle.sf_merge.proofs.Permutations.{flat_map_permuted, pairs_permuted}
use Rattle.sf_merge.proofs.United.{functions_are, united}

-- ---- pairs
all_left : {X : Type 0} (P : X → Type 0) (xs ys : List X) → All P (xs ++ ys) → All P xs
all_left P [] ys h = All-nil P
all_left P (x ∷ xs) ys h = All-cons P x xs (All-head P x (xs ++ ys) h) (all_left P xs ys (All-tail P x (xs ++ ys) h))

all_right : {X : Type 0} (P : X → Type 0) (xs ys : List X) → All P (xs ++ ys) → All P ys
all_right P [] ys h = h
all_right P (x ∷ xs) ys h = all_right P xs ys (All-tail P x (xs ++ ys) h)

pairs_left : {X : Type 0} (R : X → X → Type 0) (xs ys : List X) → AllPairs R (xs ++ ys) → AllPairs R xs
pairs_left R [] ys h = pairs_none R
pairs_left R (x ∷ xs) ys h = AllPairs-cons R x xs (all_left (R x) xs ys (pairs_head R x (xs ++ ys) h)) (pairs_left R xs ys (pairs_tail R x (xs ++ ys) h))

pairs_filtered : {X : Type 0} (R : X → X → Type 0) (p : X → Bool) (xs ys : List X) → AllPairs R (xs ++ ys) → AllPairs R (filter p xs ++ ys)
pairs_filtered R p [] ys h = h
pairs_filtered R p (x ∷ xs) ys h = at_test (p x) (pairs_filtered R p xs ys (pairs_tail R x (xs ++ ys) h))
  where
    with_x : All (R x) (xs ++ ys)
    with_x = pairs_head R x (xs ++ ys) h

    at_test : (b : Bool) → AllPairs R (filter p xs ++ ys) → AllPairs R (cond b (x ∷ filter p xs) (filter p xs) ++ ys)
    at_test true rest =
        AllPairs-cons R x (filter p xs ++ ys) (All-append (R x) (filter p xs) ys (All-filter p (R x) xs (all_left (R x) xs ys with_x)) (all_right (R x) xs ys with_x)) rest
    at_test false rest = rest

pairs_back : {X Y : Type 0} (R : Y → Y → Type 0) (f : X → Y) (xs : List X) → AllPairs R (map f xs) → AllPairs (λ x y. R (f x) (f y)) xs
pairs_back R f [] h = pairs_none (λ x y. R (f x) (f y))
pairs_back R f (x ∷ xs) h =
    AllPairs-cons (λ x y. R (f x) (f y)) x xs (all_back (R (f x)) f xs (pairs_head R (f x) (map f xs) h)) (pairs_back R f xs (pairs_tail R (f x) (map f xs) h))

-- ---- sections of one machine, within the limits, whose functions share no address
abbrev Has : Arch → Table → Type 0
Has arch table = table.arch ≡ arch

record CanBe (arch : Arch) (tables : List Table) : Type 0 where
  machines : All (Has arch) tables
  few : functions_in_all tables ≤ 2 ^ 21
  small : rows_in_all tables ≤ 2 ^ 24
  apart : AllPairs IsApart (all_functions tables)

both_none : (one other : Option MergeFault) → or_later one other ≡ None → (one ≡ None) × (other ≡ None)
both_none None other e = (refl, e)
both_none (Some fault) other e = cc

no_sections_fault : (fault : Option MergeFault) (tables : List Table) (at : ℕ) (functions : List Func) → MergesUnless fault tables at (Ok functions) → fault ≡ None
no_sections_fault None tables at functions h = refl
no_sections_fault (Some fault) tables at functions h = cc

at_once : (sections : List Part) (once : Part) → (h : AreMerged sections once) → CanBe h.is.arch (part_tables sections)
at_once sections once h =
    let tables = part_tables sections in
    let limits = (both_none (other_machine_fault tables) (limits_fault_in_all tables) (no_sections_fault (sections_fault tables) tables once.at h.is.functions h.is.are)).1 in
    record { machines = h.is.union.one_machine; few = few_functions tables limits; small = few_rows tables limits; apart = h.is.union.apart }

permuted : (arch : Arch) (xs ys : List Table) → IsPermutation xs ys → CanBe arch xs → CanBe arch ys
permuted arch xs ys moved h =
    let count = sum_by-IsPermutation (λ (table : Table). length table.functions) xs ys moved in
    let rows = sum_by-IsPermutation (λ (table : Table). row_count table.functions) xs ys moved in
    record {
      machines = All-permutation (Has arch) xs ys moved h.machines;
      few = omega (count, h.few, arith);
      small = omega (rows, h.small, arith);
      apart = pairs_permuted IsApart (λ f g. turned f g) (all_functions xs) (all_functions ys) (flat_map_permuted (λ (table : Table). table.functions) xs ys moved) h.apart;
    }

-- ---- some of them
functions_of_both : (xs ys : List Table) → all_functions (xs ++ ys) ≡ all_functions xs ++ all_functions ys
functions_of_both xs ys = flat_map-append (λ (table : Table). table.functions) xs ys

some_can : (arch : Arch) (xs ys : List Table) → CanBe arch (xs ++ ys) → CanBe arch xs
some_can arch xs ys h =
    let count = sum_by-append (λ (table : Table). length table.functions) xs ys in
    let rows = sum_by-append (λ (table : Table). row_count table.functions) xs ys in
    record {
      machines = all_left (Has arch) xs ys h.machines;
      few = omega (count, h.few, arith);
      small = omega (rows, h.small, arith);
      apart = pairs_left IsApart (all_functions xs) (all_functions ys) (subst (AllPairs IsApart) (functions_of_both xs ys) h.apart);
    }

-- ---- after a step
same_machine : (a b : Arch) (tables : List Table) → 0 < length tables → All (Has a) tables → All (Has b) tables → a ≡ b
same_machine a b [] some h k = absurd (omega (some, arith))
same_machine a b (table ∷ tables) some h k = sym (All-head (Has a) table tables h) ∙ All-head (Has b) table tables k

one_for_some : (arch made : Arch) (fs : List Func) (xs ys : List Table) → made ≡ arch → IsPermutation (used xs) fs → CanBe arch (xs ++ ys) → CanBe arch (table_of made fs ∷ ys)
one_for_some arch made fs xs ys is taken h =
    let long = length_permutation (used xs) fs taken in
    let fewer = few_in_filter is_of_use (all_functions xs) in
    let all = length-flat_map (λ (table : Table). table.functions) xs in
    let count = sum_by-append (λ (table : Table). length table.functions) xs ys in
    let new_count = sum_by-cons (λ (table : Table). length table.functions) (table_of made fs) ys in
    let sum = sum_by-IsPermutation (λ (f : Func). length f.rows) (used xs) fs taken in
    let fewer_rows = few_rows_in_filter is_of_use (all_functions xs) in
    let all_rows = rows_in_tables xs in
    let rows = sum_by-append (λ (table : Table). row_count table.functions) xs ys in
    let new_rows = sum_by-cons (λ (table : Table). row_count table.functions) (table_of made fs) ys in
    let apart = pairs_filtered IsApart is_of_use (all_functions xs) (all_functions ys) (subst (AllPairs IsApart) (functions_of_both xs ys) h.apart) in
    record {
      machines = All-cons (Has arch) (table_of made fs) ys is (all_right (Has arch) xs ys h.machines);
      few = omega (long, fewer, all, count, new_count, h.few, arith);
      small = omega (sum, fewer_rows, all_rows, rows, new_rows, h.small, arith);
      apart = pairs_permuted IsApart (λ f g. turned f g) (used xs ++ all_functions ys) (fs ++ all_functions ys) (IsPermutation-append_left (all_functions ys) (used xs) fs taken) apart;
    }

after_step : (arch : Arch) (sections next : List Part) → SomeAreMerged sections next → CanBe arch (part_tables sections) → CanBe arch (part_tables next)
after_step arch sections next step h =
    let xs = some sections next step in
    let ys = others sections next step in
    let made = merged sections next step in
    let there = permuted arch (part_tables sections) (xs ++ ys) (chosen sections next step) h in
    let count : length xs ≡ length step.some = length-map step.some (λ (part : Part). part.table) in
    let any : 0 < length xs = omega (count, step.any, arith) in
    let machine : made.arch ≡ arch = same_machine made.arch arch xs any made.union.one_machine (all_left (Has arch) xs ys there.machines) in
    let new = one_for_some arch made.arch made.functions xs ys machine made.union.taken there in
    subst (CanBe arch) (sym (next_tables sections next step ∙ ap (λ (t : Table). t ∷ ys) (said sections next step))) new

after_steps : (arch : Arch) (steps : List (List Part)) (sections left : List Part) → AreMergedInParts steps sections left → CanBe arch (part_tables sections) → CanBe arch (part_tables left)
after_steps arch [] sections left is h = subst (λ (ps : List Part). CanBe arch (part_tables ps)) is h
after_steps arch (next ∷ later) sections left (step, steps) h = after_steps arch later next left steps (after_step arch sections next step h)

used_left : (steps : List (List Part)) (sections left : List Part) → AreMergedInParts steps sections left → IsPermutation (used (part_tables sections)) (used (part_tables left))
used_left [] sections left is = subst (λ (ps : List Part). IsPermutation (used (part_tables sections)) (used (part_tables ps))) is (IsPermutation-refl (used (part_tables sections)))
used_left (next ∷ later) sections left (step, steps) =
    IsPermutation-trans (used (part_tables sections)) (used (part_tables next)) (used (part_tables left)) (used_stay sections next step) (used_left later next left steps)

-- ---- the result of merging them
one_arch : (a b : Arch) → b ≡ a → same_arch a b ≡ true
one_arch Amd64 Amd64 e = refl
one_arch Amd64 Aarch64 e = cc
one_arch Aarch64 Amd64 e = cc
one_arch Aarch64 Aarch64 e = refl

none_mixed : (arch first : Arch) (item : ℕ) (tables : List Table) → first ≡ arch → All (Has arch) tables → option_map mixed_with_first (find (is_other first) (enumerate_from item tables)) ≡ None
none_mixed arch first item [] is h = refl
none_mixed arch first item (t ∷ ts) is h =
    let same : same_arch first t.arch ≡ true = one_arch first t.arch (All-head (Has arch) t ts h ∙ sym is) in
    ap (λ (b : Bool). option_map mixed_with_first (cond (not b) (Some (item, t)) (find (is_other first) (enumerate_from (item + 1) ts)))) same
    ∙ none_mixed arch first (item + 1) ts is (All-tail (Has arch) t ts h)

no_mixed : (arch : Arch) (tables : List Table) → All (Has arch) tables → other_machine_fault tables ≡ None
no_mixed arch [] h = refl
no_mixed arch (t ∷ ts) h = none_mixed arch t.arch 0 (t ∷ ts) (All-head (Has arch) t ts h) h

abbrev Holds : Located → Type 0
Holds l = is_sized l ≡ true

abbrev AreApart : Located → Located → Type 0
AreApart l m = IsApart l.func m.func

no_overlap : (ordered : List Located) → IsNonDecreasingBy located_start ordered → All Holds ordered → AllPairs AreApart ordered → shared_address_fault ordered ≡ None
no_overlap [] up sizes apart = none_at_all
no_overlap (l ∷ []) up sizes apart = one_alone l
no_overlap (l ∷ m ∷ ls) up sizes apart =
    let rest = All-tail Holds l (m ∷ ls) sizes in
    let le : l.func.start ≤ m.func.start = up 0 1 l (omega arith) (omega arith) in
    let ends = apart_by l.func m.func (ltb-true 0 l.func.size (All-head Holds l (m ∷ ls) sizes)) (ltb-true 0 m.func.size (All-head Holds m ls rest)) le
    (All-head (AreApart l) m ls (pairs_head AreApart l (m ∷ ls) apart)) in
    overlap_goes_on l m ls (le-ltb m.func.start (l.func.start + l.func.size) ends) ∙ no_overlap (m ∷ ls) (tail_rises located_start l (m ∷ ls) up) rest (pairs_tail AreApart l (m ∷ ls) apart)

none_overlap : (arch : Arch) (tables : List Table) (ordered : List Located) → CanBe arch tables → IsInOrder located_start (sized_in_all tables) ordered → shared_address_fault ordered ≡ None
none_overlap arch tables ordered h order =
    let of_all : AllPairs AreApart (all_located tables) = pairs_back IsApart function_of (all_located tables) (subst (AllPairs IsApart) (sym (functions_are tables)) h.apart) in
    let of_sized = AllPairs-filter AreApart is_sized (all_located tables) of_all in
    no_overlap ordered order.rising (All-permutation Holds (sized_in_all tables) ordered order.moved (filter_passes is_sized (all_located tables)))
    (pairs_permuted AreApart (λ l m apart. turned l.func m.func apart) (sized_in_all tables) ordered order.moved of_sized)

-- their fault is a function that is too far
record IsReach (tables : List Table) (at : ℕ) (fault : MergeFault) : Type 0 where
  ordered : List Located
  order : IsInOrder located_start (sized_in_all tables) ordered
  clear : shared_address_fault ordered ≡ None
  start : ℕ
  far : first_out_of_reach at 0 (merged_functions ordered) ≡ Some start
  is : fault ≡ OutOfReach start

by_reach : (tables : List Table) (at : ℕ) (ordered : List Located) (fault : MergeFault) (far : Option ℕ) → IsInOrder located_start (sized_in_all tables) ordered → shared_address_fault ordered ≡ None → first_out_of_reach at 0 (merged_functions ordered) ≡ far
    → Err fault ≡ unless_fault (option_map OutOfReach far) (merged_functions ordered) → IsReach tables at fault
by_reach tables at ordered fault None order clear e h = cc
by_reach tables at ordered fault (Some start) order clear e h = record { ordered = ordered; order = order; clear = clear; start = start; far = e; is = cc }

reach_alone : (arch : Arch) (tables : List Table) (at : ℕ) (fault : MergeFault) → CanBe arch tables → Merges tables at (Err fault) → IsReach tables at fault
reach_alone arch tables at fault h merges =
    let none : sections_fault tables ≡ None =
    ap (λ (o : Option MergeFault). or_later o (limits_fault_in_all tables)) (no_mixed arch tables h.machines) ∙ within_limits tables h.few h.small in
    from_order (subst (λ (o : Option MergeFault). MergesUnless o tables at (Err fault)) none merges)
  where
    from_order : MergesUnless None tables at (Err fault) → IsReach tables at fault
    from_order (ordered, order, e) =
        let clear = none_overlap arch tables ordered h order in
        by_reach tables at ordered fault (first_out_of_reach at 0 (merged_functions ordered)) order clear refl
        (e ∙ ap (λ (o : Option MergeFault). unless_fault (or_later o (reach_fault at (merged_functions ordered))) (merged_functions ordered)) clear)

pub only_too_far : (sections left chosen others : List Part) (steps : List (List Part)) (once : Part) → AreMerged sections once → AreMergedInParts steps sections left → IsPermutation left (chosen ++ others)
    → (at : ℕ) (fault : MergeFault) → Merges (part_tables chosen) at (Err fault) → IsTooFar fault
only_too_far sections left chosen others steps once h parts moved at fault merges =
    let arch = h.is.arch in
    let can = after_steps arch steps sections left parts (at_once sections once h) in
    let both = subst (IsPermutation (part_tables left)) (map-append (λ (part : Part). part.table) chosen others) (IsPermutation-map (λ (part : Part). part.table) left (chosen ++ others) moved) in
    let of_some = some_can arch (part_tables chosen) (part_tables others) (permuted arch (part_tables left) (part_tables chosen ++ part_tables others) both can) in
    let reach = reach_alone arch (part_tables chosen) at fault of_some merges in
    (reach.start, reach.is)

-- ---- the whole
none_far : (at : ℕ) (functions : List Func) (far : Option ℕ) → option_map OutOfReach far ≡ None → far ≡ None
none_far at functions None e = refl
none_far at functions (Some start) e = cc

accepted : (fault : Option MergeFault) (functions all : List Func) → Ok functions ≡ unless_fault fault all → (fault ≡ None) × (all ≡ functions)
accepted None functions all e = (refl, cc)
accepted (Some fault) functions all e = cc

near_from : (fault : Option MergeFault) (tables : List Table) (at : ℕ) (functions : List Func) → MergesUnless fault tables at (Ok functions) → first_out_of_reach at 0 functions ≡ None
near_from (Some fault) tables at functions h = cc
near_from None tables at functions (ordered, order, e) =
    let two = accepted (ordered_fault at ordered) functions (merged_functions ordered) e in
    let reach = (both_none (shared_address_fault ordered) (reach_fault at (merged_functions ordered)) two.0).1 in
    subst (λ (fs : List Func). first_out_of_reach at 0 fs ≡ None) two.1 (none_far at (merged_functions ordered) (first_out_of_reach at 0 (merged_functions ordered)) reach)

pub none_for_the_whole : (sections left : List Part) (steps : List (List Part)) (once : Part) → AreMerged sections once → AreMergedInParts steps sections left → (fault : MergeFault) → Merges (part_tables left) once.at (Err fault) → ⊥
none_for_the_whole sections left steps once h parts fault merges =
    let arch = h.is.arch in
    let can = after_steps arch steps sections left parts (at_once sections once h) in
    let reach = reach_alone arch (part_tables left) once.at fault can merges in
    let union = united arch (part_tables left) reach.ordered can.machines reach.order reach.clear in
    let moved = IsPermutation-trans (merged_functions reach.ordered) (used (part_tables left)) h.is.functions (IsPermutation-sym (used (part_tables left)) (merged_functions reach.ordered) union.taken)
    (IsPermutation-trans (used (part_tables left)) (used (part_tables sections)) h.is.functions (IsPermutation-sym (used (part_tables sections)) (used (part_tables left)) (used_left steps sections left parts)) h.is.union.taken) in
    let same : merged_functions reach.ordered ≡ h.is.functions = one_rising (merged_functions reach.ordered) h.is.functions moved union.rising h.is.union.rising in
    let near = near_from (sections_fault (part_tables sections)) (part_tables sections) once.at h.is.functions h.is.are in
    let far : first_out_of_reach once.at 0 h.is.functions ≡ Some reach.start = subst (λ (fs : List Func). first_out_of_reach once.at 0 fs ≡ Some reach.start) same reach.far in
    cc
