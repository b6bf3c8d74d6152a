-- What is written is the result of merging.
use Rattle.std.specs.Prelude.{not}
use Rattle.std.specs.List.{filter}
use Rattle.std.specs.Option.{option_map}
use Rattle.std.proofs.Common.{◌≡◌, ℕ, ◌≤◌, Bool, true, List, [], ◌∷◌, All, length, Option, Some, None, Ok, refl, sym, ap, subst, ◌∙◌, arith}
use Rattle.std.proofs.lemmas.List.Concat.{length-flat_map}
use Rattle.std.proofs.lemmas.List.Elements.{All-filter, filter_passes}
use Rattle.std.proofs.lemmas.List.Filters.{length-filter_both, sum_by-filter_both}
use Rattle.std.proofs.lemmas.List.Sorted.{All-permutation, length_permutation, sum_by-IsPermutation}
use Rattle.std.proofs.lemmas.List.Sums.{sum_by-append, sum_by-cons}
use Rattle.sf_model.specs.declared.machine.Arch.{Arch}
use Rattle.sf_model.specs.declared.function.Func.{Func}
use Rattle.sf_model.specs.Function.{AreWritable, IsWritable}
use Rattle.sf_model.specs.Section.{AreBytes}
use Rattle.sf_model.specs.Table.{Table, row_count}
use Rattle.sf_model.specs.Tight.{Narrow, Tight}
use Rattle.sf_model.specs.Union.{IsUnion, all_functions, is_of_use}
use Rattle.sf_model.proofs.Unions.{answered, unanswered}
use Rattle.sf_write.specs.Reach.{first_out_of_reach}
use Rattle.sf_write.specs.Section.{table_of}
use Rattle.sf_functions.specs.Order.{IsInOrder}
use Rattle.sf_merge.specs.declared.fault.MergeFault.{MergeFault}
use Rattle.sf_merge.specs.declared.fault.MergeFault.TheVariants as merge
use Rattle.sf_merge.specs.declared.located.Located.{Located}
use Rattle.sf_merge.specs.Answers.{FindAlike, IsMerged}
use Rattle.sf_merge.specs.Located.{located_start, sized_in_all}
use Rattle.sf_merge.specs.Merging.{rows_in_all, other_machine_fault, limits_fault_in_all, shared_address_fault, reach_fault, or_later, unless, unless_fault, merged_functions, Merges, MergesUnless}
use Rattle.sf_merge.proofs.Apart.{EndsBy, adjacent, useful, written_apart}
use Rattle.sf_merge.proofs.Checks.{few_functions, few_rows}
use Rattle.sf_merge.proofs.Sound.{IsSound}
use Rattle.sf_merge.proofs.United.{taken, united}

-- ---- functions that one section can hold
writable : (arch : Arch) (f : Func) → IsSound arch f → is_of_use f ≡ true → IsWritable arch f
writable arch f sound e =
    let used = useful f e in
    record { size = used.size; end = sound.end; has_rows = used.rows; rows_rise = sound.rise; contents = sound.fits; key = sound.key; shape = sound.shape }

all_writable : (arch : Arch) (functions : List Func) → All (IsSound arch) functions → All (IsWritable arch) (filter is_of_use functions)
all_writable arch functions sound =
    let passed = filter_passes is_of_use functions in
    let kept = All-filter is_of_use (IsSound arch) functions sound in
    λ k d lt. writable arch _ (kept k d lt) (passed k d lt)

rows_of : Func → ℕ
rows_of f = length f.rows

pub few_in_filter : (p : Func → Bool) (functions : List Func) → length (filter p functions) ≤ length functions
few_in_filter p functions = let sum = length-filter_both p (λ f. not (p f)) (λ f. refl) functions in omega (sum, arith)

pub few_rows_in_filter : (p : Func → Bool) (functions : List Func) → row_count (filter p functions) ≤ row_count functions
few_rows_in_filter p functions = let sum = sum_by-filter_both p (λ f. not (p f)) (λ f. refl) (λ (f : Func). length f.rows) functions in omega (sum, arith)

pub rows_in_tables : (tables : List Table) → row_count (all_functions tables) ≡ rows_in_all tables
rows_in_tables [] = refl
rows_in_tables (t ∷ ts) =
    let split = sum_by-append (λ (f : Func). length f.rows) t.functions (all_functions ts) in
    let here = sum_by-cons (λ (table : Table). row_count table.functions) t ts in
    let rest = rows_in_tables ts in
    split ∙ omega (here, rest, arith)

pub are_writable : (arch : Arch) (tables : List Table) (ordered : List Located) → All (IsSound arch) (all_functions tables) → IsInOrder located_start (sized_in_all tables) ordered → shared_address_fault ordered ≡ None → limits_fault_in_all tables ≡ None
    → AreWritable arch (merged_functions ordered)
are_writable arch tables ordered sound order e limits =
    let moved = taken tables ordered order in
    let used = filter is_of_use (all_functions tables) in
    let long = length_permutation used (merged_functions ordered) moved in
    let fewer = few_in_filter is_of_use (all_functions tables) in
    let all = length-flat_map (λ (table : Table). table.functions) tables in
    let rows = sum_by-IsPermutation (λ (f : Func). length f.rows) used (merged_functions ordered) moved in
    let fewer_rows = few_rows_in_filter is_of_use (all_functions tables) in
    let all_rows = rows_in_tables tables in
    record {
      each = All-permutation (IsWritable arch) used (merged_functions ordered) moved (all_writable arch (all_functions tables) sound);
      apart = adjacent EndsBy (merged_functions ordered) (written_apart ordered e);
      count = omega (long, fewer, all, few_functions tables limits, arith);
      row_count = omega (rows, fewer_rows, all_rows, few_rows tables limits, arith);
    }

-- ---- no fault
pub no_fault : (x : Unit {0}) (o : Option MergeFault) → Ok x ≡ unless o → o ≡ None
no_fault x None e = refl
no_fault x (Some fault) e = cc

none_later : (one other : Option MergeFault) → one ≡ None → other ≡ None → or_later one other ≡ None
none_later one other e f = ap (λ o. or_later o other) e ∙ f

pub comes_to : (tables : List Table) (at : ℕ) (ordered : List Located) → other_machine_fault tables ≡ None → limits_fault_in_all tables ≡ None → IsInOrder located_start (sized_in_all tables) ordered → shared_address_fault ordered ≡ None
    → first_out_of_reach at 0 (merged_functions ordered) ≡ None → Merges tables at (Ok (merged_functions ordered))
comes_to tables at ordered mixed limits order overlaps reach =
    let none = none_later (shared_address_fault ordered) (reach_fault at (merged_functions ordered)) overlaps (ap (option_map merge.OutOfReach) reach) in
    subst (λ (o : Option MergeFault). MergesUnless o tables at (Ok (merged_functions ordered))) (sym (none_later (other_machine_fault tables) (limits_fault_in_all tables) mixed limits))
    (ordered, order, sym (ap (λ (o : Option MergeFault). unless_fault o (merged_functions ordered)) none))

find_alike : (arch : Arch) (tables : List Table) (functions : List Func) → IsUnion arch tables functions → FindAlike tables functions
find_alike arch tables functions union = record { found = answered arch tables functions union; none = unanswered arch tables functions union }

pub merged : (arch : Arch) (tables : List Table) (at : ℕ) (section : List ℕ) (ordered : List Located) → All (λ (table : Table). table.arch ≡ arch) tables → other_machine_fault tables ≡ None → limits_fault_in_all tables ≡ None
    → IsInOrder located_start (sized_in_all tables) ordered → shared_address_fault ordered ≡ None → first_out_of_reach at 0 (merged_functions ordered) ≡ None → Tight section at (table_of arch (merged_functions ordered)) → Narrow section (table_of arch (merged_functions ordered))
    → AreBytes section → IsMerged tables at section (length (merged_functions ordered)) (row_count (merged_functions ordered))
merged arch tables at section ordered machines mixed limits order overlaps reach tight narrow bytes = record {
  arch = arch;
  functions = merged_functions ordered;
  are = comes_to tables at ordered mixed limits order overlaps reach;
  union = united arch tables ordered machines order overlaps;
  finds = find_alike arch tables (merged_functions ordered) (united arch tables ordered machines order overlaps);
  tight = tight;
  narrow = narrow;
  are_bytes = bytes;
  count_is = refl;
  rows_are = refl;
}
