-- The checks of sections, in order.
use Rattle.std.specs.List.{enumerate_from, find}
use Rattle.std.specs.Option.{option_map}
use Rattle.std.proofs.Common.{◌≡◌, ℕ, ◌+◌, ◌^◌, ◌<◌, ◌≤◌, true, false, List, [], ◌∷◌, ◌++◌, length, map, take, drop, get_or, Option, Some, None, refl, sym, ap, ◌∙◌, arith}
use Rattle.std.proofs.lemmas.List.{map-append, drop_more, take_more, take_all, drop_all}
use Rattle.std.proofs.lemmas.List.Sums.{sum_by_push}
use Rattle.sf_model.specs.declared.machine.Arch.{Arch}
use Rattle.sf_model.specs.declared.machine.Arch.TheVariants.{Amd64, Aarch64}
use Rattle.sf_model.specs.Table.{Table, row_count}
use Rattle.sf_decode.specs.declared.view.View.{View}
use Rattle.sf_decode.specs.View.{table_of}
use Rattle.sf_functions.specs.declared.limits.Limit.{Limit}
use Rattle.sf_functions.specs.Limits.{exceeded}
use Rattle.sf_functions.specs.Neighbours.{overlap_by}
use Rattle.sf_functions.proofs.LimitsHeld as limits
use Rattle.sf_functions.proofs.LimitsHeld.{none_exceeded, none_over}
use Rattle.sf_merge.specs.declared.fault.MergeFault.{MergeFault}
use Rattle.sf_merge.specs.declared.fault.MergeFault.TheVariants as merge
use Rattle.sf_merge.specs.declared.located.Located.{Located}
use Rattle.sf_merge.specs.Located.{located_size, located_start}
use Rattle.sf_merge.specs.Merging.{same_arch, is_other, mixed_with_first, other_machine_fault, fault_of_limit, functions_in_all, rows_in_all, limits_fault_in_all, shared_address_fault}

-- the tables of the sections from a number on
pub tables_more : (views : List View) (i : ℕ) (v : View) → i < length views → v ≡ get_or views i v → map table_of (drop i views) ≡ table_of v ∷ map table_of (drop (i + 1) views)
tables_more views i v lt is = ap (map table_of) (drop_more views i v lt) ∙ ap (λ w. table_of w ∷ map table_of (drop (i + 1) views)) (sym is)

-- the tables of the sections up to a number
pub tables_so_far : (views : List View) (i : ℕ) (v : View) → i < length views → v ≡ get_or views i v → map table_of (take (i + 1) views) ≡ map table_of (take i views) ++ table_of v ∷ []
tables_so_far views i v lt is =
    ap (map table_of) (take_more views i v lt) ∙ map-append table_of (take i views) (get_or views i v ∷ []) ∙ ap (λ w. map table_of (take i views) ++ table_of w ∷ []) (sym is)

-- ---- machines
abbrev pub mixed_from : Arch → (item : ℕ) → List Table → Option MergeFault
mixed_from arch item tables = option_map mixed_with_first (find (is_other arch) (enumerate_from item tables))

pub mixed_begins : (views : List View) (d : View) → 0 < length views → other_machine_fault (map table_of views) ≡ mixed_from (table_of (get_or views 0 d)).arch 0 (map table_of views)
mixed_begins [] d lt = absurd (omega (lt, arith))
mixed_begins (v ∷ views) d lt = refl

pub mixed_stops : (arch : Arch) (item : ℕ) (table : Table) (tables : List Table) → same_arch arch table.arch ≡ false → mixed_from arch item (table ∷ tables) ≡ Some (merge.MixedArch 0 item)
mixed_stops arch item table tables e = rw e refl

pub mixed_goes_on : (arch : Arch) (item : ℕ) (table : Table) (tables : List Table) → same_arch arch table.arch ≡ true → mixed_from arch item (table ∷ tables) ≡ mixed_from arch (item + 1) tables
mixed_goes_on arch item table tables e = rw e refl

pub one_machine : (a b : Arch) → same_arch a b ≡ true → b ≡ a
one_machine Amd64 Amd64 e = refl
one_machine Amd64 Aarch64 e = cc
one_machine Aarch64 Amd64 e = cc
one_machine Aarch64 Aarch64 e = refl

-- ---- limits
abbrev limit_of : List Table → Option Limit
limit_of tables = exceeded (functions_in_all tables) (rows_in_all tables)

pub within_limits : (tables : List Table) → functions_in_all tables ≤ 2 ^ 21 → rows_in_all tables ≤ 2 ^ 24 → limits_fault_in_all tables ≡ None
within_limits tables few small = ap (option_map fault_of_limit) (none_exceeded (functions_in_all tables) (rows_in_all tables) few small)

pub few_functions : (tables : List Table) → limits_fault_in_all tables ≡ None → functions_in_all tables ≤ 2 ^ 21
few_functions tables h = limits.few_functions (functions_in_all tables) (rows_in_all tables) (none_over fault_of_limit (limit_of tables) h)

pub few_rows : (tables : List Table) → limits_fault_in_all tables ≡ None → rows_in_all tables ≤ 2 ^ 24
few_rows tables h = limits.few_rows (functions_in_all tables) (rows_in_all tables) (none_over fault_of_limit (limit_of tables) h)

-- the sums so far
pub functions_more : (views : List View) (i : ℕ) (v : View) → i < length views → v ≡ get_or views i v
    → functions_in_all (map table_of (take (i + 1) views)) ≡ functions_in_all (map table_of (take i views)) + length (table_of v).functions
functions_more views i v lt is =
    ap functions_in_all (tables_so_far views i v lt is) ∙ sum_by_push (λ (table : Table). length table.functions) (map table_of (take i views)) (table_of v)

pub rows_more : (views : List View) (i : ℕ) (v : View) → i < length views → v ≡ get_or views i v
    → rows_in_all (map table_of (take (i + 1) views)) ≡ rows_in_all (map table_of (take i views)) + row_count (table_of v).functions
rows_more views i v lt is =
    ap rows_in_all (tables_so_far views i v lt is) ∙ sum_by_push (λ (table : Table). row_count table.functions) (map table_of (take i views)) (table_of v)

pub tables_all : (views : List View) (i : ℕ) → length views ≤ i → map table_of (take i views) ≡ map table_of views
tables_all views i le = ap (map table_of) (take_all i views le)

pub no_tables_left : (views : List View) (i : ℕ) → length views ≤ i → map table_of (drop i views) ≡ []
no_tables_left views i le = ap (map table_of) (drop_all i views le)

-- ---- overlaps
pub overlap_goes_on : (before l : Located) (later : List Located) → overlap_by located_start located_size (before, l) ≡ false → shared_address_fault (before ∷ l ∷ later) ≡ shared_address_fault (l ∷ later)
unfolding shared_address_fault
overlap_goes_on before l later e = rw e refl

pub one_alone : (l : Located) → shared_address_fault (l ∷ []) ≡ None
unfolding shared_address_fault
one_alone l = refl

pub none_at_all : shared_address_fault [] ≡ None
unfolding shared_address_fault
none_at_all = refl
