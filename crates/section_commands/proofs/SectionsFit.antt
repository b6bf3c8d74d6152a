-- The numbers of functions that a section says fit the fields of sections, and so what merging and slimming come to has a section.
use Rattle.std.specs.Option.{option_map}
use Rattle.std.specs.Prelude.{is_ok}
use Rattle.std.specs.List.{enumerate_from, filter, find}
use Rattle.std.proofs.Common.{◌≡◌, ◌<◌, ◌≤◌, ◌+◌, ◌^◌, ℕ, zero, suc, Bool, true, false, cond, IsTrue, List, [], ◌∷◌, All, length, map, Option, Some, None, Ok, refl, sym, ap, subst, ◌∙◌, arith}
use Rattle.std.proofs.lemmas.Bool.{ltb-true}
use Rattle.std.proofs.lemmas.List.Elements.{All-nil, All-cons, All-head, All-tail, All-append, All-filter, All-map, All-weaker}
use Rattle.std.proofs.lemmas.List.Sorted.{All-permutation}
use Rattle.byteorder.specs.Numbers.{little_from-lt}
use Rattle.sf_model.specs.declared.machine.Arch.{Arch}
use Rattle.sf_model.specs.declared.machine.Arch.TheVariants.{Amd64}
use Rattle.sf_model.specs.declared.content.Content.{Content}
use Rattle.sf_model.specs.declared.function.Func.{Func}
use Rattle.sf_model.specs.declared.function.Shape.{Shape}
use Rattle.sf_model.specs.declared.function.Shape.TheVariants.{Plain, Repeat}
use Rattle.sf_model.specs.declared.rows.Row.{Row}
use Rattle.sf_model.specs.Content.{OffsetsInRange}
use Rattle.sf_model.specs.RowBytes.{spelled_row}
use Rattle.sf_model.specs.Section.{AnyWidth, AreBytes, EntryStands, FunctionRowsStand, FunctionsStand, IsRepeatSize, RowsStand, Section, functions_place}
use Rattle.sf_model.specs.Table.{Table, row_count}
use Rattle.sf_model.specs.Union.{all_functions, is_of_use}
use Rattle.sf_model.specs.Width.{holds_unsigned}
use Rattle.sf_write.specs.Entry.{repeat_size}
use Rattle.sf_write.specs.Numbers.{NumbersFit}
use Rattle.sf_write.specs.Reach.{first_out_of_reach}
use Rattle.sf_write.specs.Section.{section_bytes}
use Rattle.sf_write.proofs.Lengths.{length-section}
use Rattle.sf_write.proofs.NumbersFit.{some_section}
use Rattle.sf_decode.specs.declared.view.View.{View}
use Rattle.sf_decode.specs.Decoding.{section_check, table_in}
use Rattle.sf_decode.proofs.EntriesRead.{section_stands}
use Rattle.sf_functions.specs.Order.{IsInOrder}
use Rattle.sf_merge.specs.declared.fault.MergeFault.{MergeFault}
use Rattle.sf_merge.specs.declared.fault.MergeFault.TheVariants.{OutOfReach}
use Rattle.sf_merge.specs.declared.located.Located.{Located}
use Rattle.sf_merge.specs.Answers.{IsMerged}
use Rattle.sf_merge.specs.Located.{at_entry, is_sized, located, sized_in_all, located_start}
use Rattle.sf_merge.specs.Merging.{Merges, MergesUnless, ordered_fault, is_other, limits_fault_in_all, other_machine_fault, mixed_with_first, or_later, shared_address_fault, reach_fault, same_arch, sections_fault, unless_fault, merged_functions}
use Rattle.sf_merge.proofs.Apart.{function_of}
use Rattle.sf_merge.proofs.Checks.{one_machine}
use Rattle.sf_merge.proofs.Merged.{are_writable, merged}
use Rattle.sf_merge.proofs.Sound.{IsSound, functions_sound}
use Rattle.sf_merge.proofs.United.{taken}
use Rattle.sf_slim.specs.declared.fault.SlimFault.{SlimFault}
use Rattle.sf_slim.specs.declared.fault.SlimFault.TheVariants as slim_fault
use Rattle.sf_slim.specs.Answers.{IsSlimmed}
use Rattle.sf_slim.specs.Pass.{has_row, is_needed, kept, kept_function, needed_rows}
use Rattle.sf_slim.specs.Slimming as slim
use Rattle.sf_slim.specs.Slimming.{Slims}
use Rattle.sf_slim.proofs.Needed.{needed, ordered_sound, slimmed_is}
use Rattle.sf_slim.proofs.Needed.{are_writable as needed_writable}
use Rattle.sf_slim.proofs.Ranges.{IsGood, rows_good}
use Rattle.sf_slim.proofs.Slims.{is_slimmed}

-- ---- the functions of a section
abbrev StartFits : Row → Type 0
StartFits r = r.start < 2 ^ 32

start_small : (n width : ℕ) → width ≤ 2 → IsTrue (holds_unsigned n width) → n < 2 ^ 32
start_small n zero le h = let lt : n < 2 ^ 8 = ltb-true n (2 ^ 8) h in omega (lt, arith)
start_small n (suc zero) le h = let lt : n < 2 ^ 16 = ltb-true n (2 ^ 16) h in omega (lt, arith)
start_small n (suc (suc zero)) le h = ltb-true n (2 ^ 32) h
start_small n (suc (suc (suc width))) le h = absurd (omega (le, arith))

starts_fit : (arch : Arch) (bytes : List ℕ) (width place end : ℕ) (rows : List Row) → RowsStand AnyWidth arch bytes width place end rows → All StartFits rows
starts_fit arch bytes width place end [] h = All-nil StartFits
starts_fit arch bytes width place end (r ∷ rows) (own, may, stands, later) =
    All-cons StartFits r rows (start_small r.start width stands.start_width_fits.there_is stands.start_width_fits.held)
    (starts_fit arch bytes width (place + length (spelled_row width own r)) end rows later)

repeat_fits : (shape : Shape) (byte : ℕ) → byte < 256 → IsRepeatSize shape byte → repeat_size shape < 256
repeat_fits Plain byte lt h = omega arith
repeat_fits (Repeat size) byte lt h = omega (lt, h.0, arith)

function_fits : (arch : Arch) (bytes : List ℕ) (origin place : ℕ) (f : Func) → AreBytes bytes → EntryStands arch bytes origin place f → FunctionRowsStand arch bytes place f → NumbersFit f
function_fits arch bytes origin place f all entry (end, rows) = record {
  size = subst (λ (n : ℕ). n < 2 ^ 32) entry.size (little_from-lt (place + 4) 4 bytes all);
  starts = starts_fit arch _ _ _ end f.rows rows;
  offsets = All-weaker (IsGood arch) (λ (r : Row). OffsetsInRange r.content) (λ r good. good.range) f.rows (rows_good arch _ _ _ end f.rows rows);
  repeats = repeat_fits f.shape _ (all (place + 17)) entry.repeat_size;
}

functions_fit : (arch : Arch) (bytes : List ℕ) (flags at place : ℕ) (functions : List Func) → AreBytes bytes → FunctionsStand arch bytes flags at place functions → All NumbersFit functions
functions_fit arch bytes flags at place [] all h = All-nil NumbersFit
functions_fit arch bytes flags at place (f ∷ functions) all (entry, rows, later) =
    All-cons NumbersFit f functions (function_fits arch bytes _ place f all entry rows) (functions_fit arch bytes flags at (place + 20) functions all later)

-- ---- merging
-- bytes at an address are a section of the table
pub record IsSaid (table : Table) : Type 0 where
  pub bytes : List ℕ
  pub from : ℕ
  pub are_bytes : AreBytes bytes
  pub is : Section bytes from table

all_fit : (tables : List Table) → All IsSaid tables → All NumbersFit (all_functions tables)
all_fit [] h = All-nil NumbersFit
all_fit (t ∷ ts) h =
    let said = All-head IsSaid t ts h in
    All-append NumbersFit t.functions (all_functions ts) (functions_fit t.arch said.bytes t.flags said.from (functions_place said.bytes) t.functions said.are_bytes said.is.functions)
    (all_fit ts (All-tail IsSaid t ts h))

abbrev Has : Arch → Table → Type 0
Has arch table = table.arch ≡ arch

all_sound : (arch : Arch) (tables : List Table) → All IsSaid tables → All (Has arch) tables → All (IsSound arch) (all_functions tables)
all_sound arch [] h machines = All-nil (IsSound arch)
all_sound arch (t ∷ ts) h machines =
    let said = All-head IsSaid t ts h in
    let sound = functions_sound t.arch said.bytes t.flags said.from (functions_place said.bytes) t.functions said.is.functions in
    All-append (IsSound arch) t.functions (all_functions ts) (subst (λ (a : Arch). All (IsSound a) t.functions) (All-head (Has arch) t ts machines) sound)
    (all_sound arch ts (All-tail IsSaid t ts h) (All-tail (Has arch) t ts machines))

-- the machine of all
none_other : (arch : Arch) (item : ℕ) (tables : List Table) → option_map mixed_with_first (find (is_other arch) (enumerate_from item tables)) ≡ None → All (Has arch) tables
none_other arch item [] e = All-nil (Has arch)
none_other arch item (t ∷ ts) e = at_test (same_arch arch t.arch) refl e (none_other arch (item + 1) ts)
  where
    later : Option (ℕ × Table)
    later = find (is_other arch) (enumerate_from (item + 1) ts)

    at_test : (b : Bool) → same_arch arch t.arch ≡ b → option_map mixed_with_first (cond (is_other arch (item, t)) (Some (item, t)) later) ≡ None
        → (option_map mixed_with_first later ≡ None → All (Has arch) ts) → All (Has arch) (t ∷ ts)
    at_test true s e others = All-cons (Has arch) t ts (one_machine arch t.arch s) (others (rw s at e))
    at_test false s e others = let no = rw s at e in cc

one_arch : (tables : List Table) → other_machine_fault tables ≡ None → (arch : Arch) × All (Has arch) tables
one_arch [] e = (Amd64, All-nil (Has Amd64))
one_arch (t ∷ ts) e = (t.arch, none_other t.arch 0 (t ∷ ts) e)

-- neither fault is there
both_none : (one other : Option MergeFault) → or_later one other ≡ None → (one ≡ None) × (other ≡ None)
both_none None other e = (refl, e)
both_none (Some fault) other e = cc

none_far : (far : Option ℕ) → option_map OutOfReach far ≡ None → far ≡ None
none_far None e = refl
none_far (Some start) e = cc

-- what was merged without a fault
accepted : (fault : Option MergeFault) (functions all : List Func) → Ok functions ≡ unless_fault fault all → fault ≡ None
accepted None functions all e = refl
accepted (Some fault) functions all e = cc

-- the section of functions in order
from_order : (tables : List Table) (at : ℕ) (ordered : List Located) → All IsSaid tables → sections_fault tables ≡ None → IsInOrder located_start (sized_in_all tables) ordered → ordered_fault at ordered ≡ None
    → (section : List ℕ) × (count : ℕ) × (rows : ℕ) × IsMerged tables at section count rows
from_order tables at ordered said none order clear =
    let sections = both_none (other_machine_fault tables) (limits_fault_in_all tables) none in
    let functions = both_none (shared_address_fault ordered) (reach_fault at (merged_functions ordered)) clear in
    let near : first_out_of_reach at 0 (merged_functions ordered) ≡ None = none_far (first_out_of_reach at 0 (merged_functions ordered)) functions.1 in
    let machine = one_arch tables sections.0 in
    let writable = are_writable machine.0 tables ordered (all_sound machine.0 tables said machine.1) order functions.0 sections.1 in
    let fit = All-permutation NumbersFit (filter is_of_use (all_functions tables)) (merged_functions ordered) (taken tables ordered order)
    (All-filter is_of_use NumbersFit (all_functions tables) (all_fit tables said)) in
    let is = some_section machine.0 at (merged_functions ordered) writable fit near in (
      section_bytes machine.0 at (merged_functions ordered),
      length (merged_functions ordered),
      row_count (merged_functions ordered),
      merged machine.0 tables at (section_bytes machine.0 at (merged_functions ordered)) ordered machine.1 sections.0 sections.1 order functions.0 near is.1 is.2 is.0,
    )

from_result : (tables : List Table) (at : ℕ) (functions : List Func) → All IsSaid tables → (fault : Option MergeFault) → sections_fault tables ≡ fault → MergesUnless fault tables at (Ok functions)
    → (section : List ℕ) × (count : ℕ) × (rows : ℕ) × IsMerged tables at section count rows
from_result tables at functions said (Some fault) e h = cc
from_result tables at functions said None e (ordered, order, is) = from_order tables at ordered said e order (accepted (ordered_fault at ordered) functions (merged_functions ordered) is)

-- sections that can be merged have a merged section
pub some_merged : (tables : List Table) (at : ℕ) (functions : List Func) → All IsSaid tables → Merges tables at (Ok functions) → (section : List ℕ) × (count : ℕ) × (rows : ℕ) × IsMerged tables at section count rows
some_merged tables at functions said h = from_result tables at functions said (sections_fault tables) refl h

-- ---- slimming
kept_all : (P : Row → Type 0) (last : Option Content) (size : ℕ) (rows : List Row) → All P rows → All P (kept last size rows)
kept_all P last size [] h = h
kept_all P last size (r ∷ rows) h =
    let rest = All-tail P r rows h in
    at_test (is_needed last size r) (All-cons P r (kept (Some r.content) size rows) (All-head P r rows h) (kept_all P (Some r.content) size rows rest)) (kept_all P last size rows rest)
  where
    at_test : (b : Bool) → All P (r ∷ kept (Some r.content) size rows) → All P (kept last size rows) → All P (cond b (r ∷ kept (Some r.content) size rows) (kept last size rows))
    at_test true new old = new
    at_test false new old = old

kept_of_all : (P : Row → Type 0) (shape : Shape) (size : ℕ) (rows : List Row) → All P rows → All P (needed_rows shape size rows)
kept_of_all P Plain size rows h = kept_all P None size rows h
kept_of_all P (Repeat block) size rows h = h

kept_fits : (f : Func) → NumbersFit f → NumbersFit (kept_function f)
kept_fits f h = record {
  size = h.size;
  starts = kept_of_all StartFits f.shape f.size f.rows h.starts;
  offsets = kept_of_all (λ (r : Row). OffsetsInRange r.content) f.shape f.size f.rows h.offsets;
  repeats = h.repeats;
}

needed_fit : (functions : List Func) → All NumbersFit functions → All NumbersFit (needed functions)
needed_fit functions h =
    All-map NumbersFit kept_function (filter has_row functions) (All-weaker NumbersFit (λ (f : Func). NumbersFit (kept_function f)) kept_fits (filter has_row functions) (All-filter has_row NumbersFit functions h))

-- a section that was checked, as a view of it
abbrev view_of : (bytes : List ℕ) → (from : ℕ) → section_check bytes from ≡ Ok tt → View
view_of bytes from e = record { bytes = record { ref_ptr = (0, 0); now = bytes }; at = from; checked = ap is_ok e }

no_slim_fault : (one other : Option SlimFault) (functions all : List Func) → Ok functions ≡ slim.unless_fault (slim.or_later one other) all → (one ≡ None) × (other ≡ None) × (functions ≡ all)
no_slim_fault None None functions all e = (refl, refl, cc)
no_slim_fault None (Some fault) functions all e = cc
no_slim_fault (Some fault) other functions all e = cc

none_far_of : (far : Option ℕ) → option_map slim_fault.OutOfReach far ≡ None → far ≡ None
none_far_of None e = refl
none_far_of (Some start) e = cc

entries_all : (P : Func → Type 0) (item number : ℕ) (functions : List Func) → All P functions → All (λ (l : Located). P (function_of l)) (map (at_entry item) (enumerate_from number functions))
entries_all P item number [] h = All-nil (λ (l : Located). P (function_of l))
entries_all P item number (f ∷ functions) h =
    All-cons (λ (l : Located). P (function_of l)) (at_entry item (number, f)) (map (at_entry item) (enumerate_from (number + 1) functions)) (All-head P f functions h)
    (entries_all P item (number + 1) functions (All-tail P f functions h))

ordered_fit : (table : Table) (ordered : List Located) → IsInOrder located_start (slim.sized_in table) ordered → All NumbersFit table.functions → All NumbersFit (map function_of ordered)
ordered_fit table ordered order h =
    All-map NumbersFit function_of ordered (All-permutation (λ (l : Located). NumbersFit (function_of l)) (slim.sized_in table) ordered order.moved
    (All-filter is_sized (λ (l : Located). NumbersFit (function_of l)) (located 0 table) (entries_all NumbersFit 0 0 table.functions h)))

-- a section that can be slimmed has a slimmed section
pub some_slimmed : (bytes : List ℕ) (from at : ℕ) (functions : List Func) → AreBytes bytes → section_check bytes from ≡ Ok tt → Slims bytes (table_in bytes from) at (Ok functions)
    → (section : List ℕ) × (count : ℕ) × (rows : ℕ) × IsSlimmed bytes (table_in bytes from) at section count rows
some_slimmed bytes from at functions all passed (ordered, order, result) =
    let view = view_of bytes from passed in
    let is : Section bytes from (table_in bytes from) = section_stands bytes from all passed in
    let table = table_in bytes from in
    let clear = no_slim_fault (slim.slim_overlap_fault bytes ordered) (slim.slim_reach_fault at (slim.slimmed ordered)) functions (slim.slimmed ordered) result in
    let taken = needed (map function_of ordered) in
    let same : slim.slimmed ordered ≡ taken = slimmed_is table.arch ordered (ordered_sound view ordered is order) in
    let near : first_out_of_reach at 0 taken ≡ None = none_far_of (first_out_of_reach at 0 taken) (sym (ap (slim.slim_reach_fault at) same) ∙ clear.1) in
    let writable = needed_writable view ordered is order clear.0 in
    let of_table = functions_fit table.arch bytes table.flags from (functions_place bytes) table.functions all is.functions in
    let fit = needed_fit (map function_of ordered) (ordered_fit table ordered order of_table) in
    let made = some_section table.arch at taken writable fit near in (
      section_bytes table.arch at taken,
      length taken,
      row_count taken,
      is_slimmed view at (section_bytes table.arch at taken) (length taken) (row_count taken) ordered is order clear.0 near made.1 made.2 (length-section table.arch at taken) refl refl made.0,
    )
