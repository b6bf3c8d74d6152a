-- What is written is the result of upgrading.
use Rattle.std.specs.List.{filter}
use Rattle.std.specs.Option.{option_map}
use Rattle.std.proofs.Common.{◌≡◌, ◌<◌, ℕ, List, All, [], ◌∷◌, length, map, Option, Some, None, Result, Ok, Err, refl, sym, ap, subst, ◌∙◌, arith}
use Rattle.std.proofs.lemmas.List.{append-nil}
use Rattle.std.proofs.lemmas.List.Elements.{All-cons, All-nil, All-weaker}
use Rattle.std.proofs.lemmas.List.Sums.{sum_by-cons}
use Rattle.sf_model.specs.declared.machine.Arch.{Arch}
use Rattle.sf_model.specs.declared.function.Func.{Func}
use Rattle.sf_model.specs.declared.recovery.Regs.{Regs}
use Rattle.sf_model.specs.Firsts.{or_later, unless_fault}
use Rattle.sf_model.specs.Function.{AreWritable, IsWritable}
use Rattle.sf_model.specs.Lookup as version_2
use Rattle.sf_model.specs.Lookup.{FoundRow}
use Rattle.sf_model.specs.Memory.{Region}
use Rattle.sf_model.specs.Recovery.{recovery}
use Rattle.sf_model.specs.Section.{AreBytes, Section}
use Rattle.sf_model.specs.Table.{Table, row_count}
use Rattle.sf_model.specs.Union.{IsUnion}
use Rattle.sf_model.specs.Walk.{recover_by_rows}
use Rattle.sf_model.proofs.Unions.{answered, unanswered}
use Rattle.sf_functions.specs.Order.{IsInOrder}
use Rattle.sf_functions.proofs.ByStart.{one_order}
use Rattle.sf_merge.specs.declared.located.Located.{Located}
use Rattle.sf_merge.specs.Located.{is_sized, located, located_start, sized_in_all}
use Rattle.sf_merge.specs.Merging.{limits_fault_in_all, merged_functions}
use Rattle.sf_merge.specs.OneSection.{sized_in}
use Rattle.sf_merge.proofs.Checks.{within_limits}
use Rattle.sf_merge.proofs.Merged.{are_writable}
use Rattle.sf_merge.proofs.OneSection.{in_tables, none_shared}
use Rattle.sf_merge.proofs.Sound.{IsSound}
use Rattle.sf_merge.proofs.United.{united}
use Rattle.sf3_model.specs.Described.{ordinary}
use Rattle.sf3_model.specs.Lookup.{found_alike, step_alike}
use Rattle.sf3_model.proofs.Alike.{alike_found, alike_recovered}
use Rattle.sf3_write.specs.Rows.{first_with_too_many_rows}
use Rattle.sf3_write.specs.Section.{table_of}
use Rattle.sf3_write.specs.Tight.{Tight}
use Rattle.sf3_write.proofs.TightOne.{tight_one}
use Rattle.sf3_upgrade.specs.declared.fault.UpgradeFault.{UpgradeFault}
use Rattle.sf3_upgrade.specs.declared.fault.UpgradeFault.TheVariants.{Overlap, TooManyRows}
use Rattle.sf3_upgrade.specs.Answers.{FindAlike, IsUpgraded}
use Rattle.sf3_upgrade.specs.Upgrading.{Upgrades, overlap_fault, rows_fault}

-- ---- one section as the one of a list
pub in_table : (table : Table) (ordered : List Located) → IsInOrder located_start (sized_in_all (table ∷ [])) ordered → IsInOrder located_start (sized_in table) ordered
in_table table ordered order = subst (λ (ls : List Located). IsInOrder located_start (filter is_sized ls) ordered) (append-nil (located 0 table)) order

pub limits : (bytes : List ℕ) (from : ℕ) (table : Table) → Section bytes from table → limits_fault_in_all (table ∷ []) ≡ None
limits bytes from table section =
    let functions = sum_by-cons (λ (t : Table). length t.functions) table [] in
    let rows = sum_by-cons (λ (t : Table). row_count t.functions) table [] in
    let few = section.header.function_limit in
    let small = section.header.row_limit in
    within_limits (table ∷ []) (omega (functions, few, arith)) (omega (rows, small, arith))

abbrev HasMachine : Arch → Table → Type 0
HasMachine arch table = table.arch ≡ arch

pub own_machine : (table : Table) → All (λ (t : Table). t.arch ≡ table.arch) (table ∷ [])
own_machine table = All-cons (HasMachine table.arch) table [] refl (All-nil (HasMachine table.arch))

-- ---- faults
result_is : (bytes : List ℕ) (table : Table) (ordered : List Located) (overlap rows : Option UpgradeFault) → IsInOrder located_start (sized_in table) ordered → overlap_fault bytes ordered ≡ overlap → rows_fault (merged_functions ordered) ≡ rows
    → Upgrades bytes table (unless_fault (or_later overlap rows) (merged_functions ordered))
result_is bytes table ordered overlap rows order e f = (
  ordered,
  order,
  sym (ap (λ (o : Option UpgradeFault). unless_fault (or_later o (rows_fault (merged_functions ordered))) (merged_functions ordered)) e
      ∙ ap (λ (o : Option UpgradeFault). unless_fault (or_later overlap o) (merged_functions ordered)) f),
)

-- two functions share an address
pub is_shared : (bytes : List ℕ) (table : Table) (ordered : List Located) (fault : UpgradeFault) → IsInOrder located_start (sized_in table) ordered → overlap_fault bytes ordered ≡ Some fault → Upgrades bytes table (Err fault)
is_shared bytes table ordered fault order e = result_is bytes table ordered (Some fault) (rows_fault (merged_functions ordered)) order e refl

-- a function has too many rows
pub is_too_long : (bytes : List ℕ) (table : Table) (ordered : List Located) (start : ℕ) → IsInOrder located_start (sized_in table) ordered → overlap_fault bytes ordered ≡ None → first_with_too_many_rows (merged_functions ordered) ≡ Some start
    → Upgrades bytes table (Err (TooManyRows start))
is_too_long bytes table ordered start order apart e = result_is bytes table ordered None (Some (TooManyRows start)) order apart (ap (option_map TooManyRows) e)

-- ---- no fault
abbrev HasRows : Func → Type 0
HasRows f = 0 < length f.rows

same_found : (table : Table) (functions : List Func) → IsUnion table.arch (table ∷ []) functions → (pc : ℕ) → version_2.found_at functions pc ≡ version_2.found_at table.functions pc
same_found table functions union pc = by_found (version_2.found_at table.functions pc) refl
  where
    by_found : (o : Option FoundRow) → version_2.found_at table.functions pc ≡ o → version_2.found_at functions pc ≡ version_2.found_at table.functions pc
    by_found None e = unanswered table.arch (table ∷ []) functions union pc (All-cons (λ (t : Table). version_2.found_at t.functions pc ≡ None) table [] e (All-nil (λ (t : Table). version_2.found_at t.functions pc ≡ None))) ∙ sym e
    by_found (Some row) e = answered table.arch (table ∷ []) functions union pc table row (0, omega arith, refl) e ∙ sym e

same_recovered : (table : Table) (functions : List Func) → IsUnion table.arch (table ∷ []) functions → (pc : ℕ) (regs : Regs) (memory : List Region) → recover_by_rows functions memory pc regs ≡ recover_by_rows table.functions memory pc regs
unfolding recover_by_rows
same_recovered table functions union pc regs memory = ap (option_map (λ (f : FoundRow). recovery f.row.content f.func.key regs memory)) (same_found table functions union pc)

find_alike : (table : Table) (functions : List Func) → IsUnion table.arch (table ∷ []) functions → All HasRows functions → FindAlike table (map ordinary functions)
find_alike table functions union have = record {
  found = λ pc. alike_found functions have pc ∙ ap found_alike (same_found table functions union pc);
  recovered = λ pc regs memory. alike_recovered functions have pc regs memory ∙ ap step_alike (same_recovered table functions union pc regs memory);
}

-- the functions that are written, in order
pub writable : (bytes : List ℕ) (from : ℕ) (table : Table) (ordered : List Located) → Section bytes from table → All (IsSound table.arch) table.functions → IsInOrder located_start (sized_in table) ordered → overlap_fault bytes ordered ≡ None
    → AreWritable table.arch (merged_functions ordered)
writable bytes from table ordered section sound order apart =
    are_writable table.arch (table ∷ []) ordered (subst (All (IsSound table.arch)) (sym (append-nil table.functions)) sound) (in_tables table ordered order) (none_shared Overlap bytes ordered apart) (limits bytes from table section)

pub upgraded : (bytes : List ℕ) (table : Table) (at : ℕ) (section : List ℕ) (count rows : ℕ) (ordered : List Located) → IsInOrder located_start (sized_in table) ordered → overlap_fault bytes ordered ≡ None
    → first_with_too_many_rows (merged_functions ordered) ≡ None → AreWritable table.arch (merged_functions ordered) → Tight section at (table_of table.arch (merged_functions ordered)) → AreBytes section
    → count ≡ length (merged_functions ordered) → rows ≡ row_count (merged_functions ordered) → IsUpgraded bytes table at section count rows
upgraded bytes table at section count rows ordered order apart few writable tight are_bytes count_is rows_are =
    let union = united table.arch (table ∷ []) ordered (own_machine table) (in_tables table ordered order) (none_shared Overlap bytes ordered apart) in
    record {
      functions = merged_functions ordered;
      are = result_is bytes table ordered None None order apart (ap (option_map TooManyRows) few);
      union = union;
      finds = find_alike table (merged_functions ordered) union (All-weaker (IsWritable table.arch) HasRows (λ f w. w.has_rows) (merged_functions ordered) writable.each);
      tight = tight;
      are_bytes = are_bytes;
      count_is = count_is;
      rows_are = rows_are;
    }

-- ---- one result
pub one_result : (bytes : List ℕ) (table : Table) (one other : Result (List Func) UpgradeFault) → Upgrades bytes table one → Upgrades bytes table other → one ≡ other
one_result bytes table one other (es, order, e) (fs, order', e') =
    e ∙ ap (λ (ls : List Located). unless_fault (or_later (overlap_fault bytes ls) (rows_fault (merged_functions ls))) (merged_functions ls)) (one_order located_start (sized_in table) es fs order order') ∙ sym e'

pub one_list : (bytes : List ℕ) (table : Table) (at : ℕ) (section other : List ℕ) (n m n' m' : ℕ) (p : IsUpgraded bytes table at section n m) (q : IsUpgraded bytes table at other n' m') → p.functions ≡ q.functions
one_list bytes table at section other n m n' m' p q = let same = one_result bytes table (Ok p.functions) (Ok q.functions) p.are q.are in cc

pub one_section : (bytes : List ℕ) (table : Table) (at : ℕ) (section other : List ℕ) (n m n' m' : ℕ) → IsUpgraded bytes table at section n m → IsUpgraded bytes table at other n' m' → section ≡ other
one_section bytes table at section other n m n' m' p q =
    let whole = ap (table_of table.arch) (one_list bytes table at section other n m n' m' p q) in
    tight_one section other at (table_of table.arch q.functions) p.are_bytes q.are_bytes (subst (Tight section at) whole p.tight) q.tight
