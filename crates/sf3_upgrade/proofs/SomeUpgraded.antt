-- A section that has no fault of upgrading has an upgraded section: what it says fits the fields.
use Rattle.std.specs.List.{filter, list_all}
use Rattle.std.specs.Option.{option_map}
use Rattle.std.proofs.Common.{◌≡◌, ◌<◌, ◌≤◌, ◌+◌, ◌&&◌, ℕ, zero, suc, Bool, true, false, IsTrue, List, All, [], ◌∷◌, length, Option, Some, None, Ok, refl, sym, subst, arith, nat_lt}
use Rattle.std.specs.Prelude.{if◌then◌else◌}
use Rattle.std.proofs.lemmas.Bool.{lt-ltb}
use Rattle.std.proofs.lemmas.List.{append-nil}
use Rattle.std.proofs.lemmas.List.Elements.{All-cons, All-filter, All-head, All-nil, All-tail, All-weaker}
use Rattle.std.proofs.lemmas.List.Sorted.{All-permutation}
use Rattle.byteorder.specs.Numbers.{little_from-lt}
use Rattle.sf_model.specs.declared.machine.Arch.{Arch}
use Rattle.sf_model.specs.declared.function.Func.{Func}
use Rattle.sf_model.specs.declared.function.Shape.{Shape}
use Rattle.sf_model.specs.declared.function.Shape.TheVariants.{Plain, Repeat}
use Rattle.sf_model.specs.declared.rows.Row.{Row}
use Rattle.sf_model.specs.RowBytes.{holds_row_offsets, spelled_row}
use Rattle.sf_model.specs.Section.{AnyWidth, AreBytes, EntryStands, FunctionRowsStand, FunctionsStand, IsRepeatSize, RowsStand, Section, functions_place, start_width_at}
use Rattle.sf_model.specs.Firsts.{or_later, unless_fault}
use Rattle.sf_model.specs.Table.{Table, row_count}
use Rattle.sf_model.specs.Tight.{last_start}
use Rattle.sf_model.specs.Union.{all_functions, is_of_use}
use Rattle.sf_model.specs.Width.{IsWidth, holds_unsigned}
use Rattle.sf_model.proofs.TightOne.{zero_held}
use Rattle.sf_sizes.specs.Width.{least_width}
use Rattle.sf_decode.specs.Decoding.{section_check, table_in}
use Rattle.sf_decode.proofs.EntriesRead.{section_stands}
use Rattle.sf_write.specs.Entry.{repeat_size}
use Rattle.sf_write.specs.Room.{entry_fits, head_fits, offsets_fit, rows_fit}
use Rattle.sf_write.specs.Row.{start_width}
use Rattle.sf_write.specs.Section.{row_section_len}
use Rattle.sf_write.proofs.NumbersFit.{short_functions}
use Rattle.sf_functions.specs.Order.{IsInOrder}
use Rattle.sf_merge.specs.declared.located.Located.{Located}
use Rattle.sf_merge.specs.Located.{located_start}
use Rattle.sf_merge.specs.Merging.{merged_functions}
use Rattle.sf_merge.specs.OneSection.{sized_in}
use Rattle.sf_merge.proofs.OneSection.{in_tables}
use Rattle.sf_merge.proofs.Sound.{functions_sound}
use Rattle.sf_merge.proofs.United.{taken}
use Rattle.sf3_write.specs.Rows.{first_with_too_many_rows}
use Rattle.sf3_write.specs.Section.{section_bytes, table_of}
use Rattle.sf3_write.specs.Tight.{Tight}
use Rattle.sf3_write.proofs.BytesWritten.{section_is_bytes}
use Rattle.sf3_write.proofs.SectionWritten.{section_written}
use Rattle.sf3_upgrade.specs.declared.fault.UpgradeFault.{UpgradeFault}
use Rattle.sf3_upgrade.specs.declared.fault.UpgradeFault.TheVariants.{TooManyRows}
use Rattle.sf3_upgrade.specs.Answers.{IsUpgraded}
use Rattle.sf3_upgrade.specs.Upgrading.{Upgrades, overlap_fault, rows_fault}
use Rattle.sf3_upgrade.proofs.Written.{upgraded, writable}

both : (a b : Bool) → a ≡ true → b ≡ true → (a && b) ≡ true
both true b e f = f
both false b e f = e

-- ---- the least width holds what another width holds
by_tests : (holds : ℕ → Bool) (at_0 at_1 : Bool) → holds 0 ≡ at_0 → holds 1 ≡ at_1 → (own : ℕ) → own ≤ 2 → holds own ≡ true → holds (if at_0 then 0 else (if at_1 then 1 else 2)) ≡ true
by_tests holds true at_1 e f own le h = e
by_tests holds false true e f own le h = f
by_tests holds false false e f zero le h = cc
by_tests holds false false e f (suc zero) le h = cc
by_tests holds false false e f (suc (suc zero)) le h = h
by_tests holds false false e f (suc (suc (suc own))) le h = absurd (omega (le, arith))

least_held : (holds : ℕ → Bool) (own : ℕ) → IsWidth holds own → IsTrue (holds (least_width holds))
least_held holds own h = by_tests holds (holds 0) (holds 1) refl refl own h.there_is h.held

-- ---- the rows of a function
row_fits : (row : Row) (own : ℕ) → IsWidth (holds_row_offsets row.content) own → IsTrue (offsets_fit row)
unfolding offsets_fit
row_fits row own h = least_held (holds_row_offsets row.content) own h

all_offsets_fit : (arch : Arch) (bytes : List ℕ) (width place end : ℕ) (rows : List Row) → RowsStand AnyWidth arch bytes width place end rows → IsTrue (list_all offsets_fit rows)
all_offsets_fit arch bytes width place end [] h = refl
all_offsets_fit arch bytes width place end (row ∷ rows) (own, may, stands, later) =
    both (offsets_fit row) (list_all offsets_fit rows) (row_fits row own stands.offset_width_fits) (all_offsets_fit arch bytes width (place + length (spelled_row width own row)) end rows later)

last_held : (arch : Arch) (bytes : List ℕ) (width place end : ℕ) (rows : List Row) → width ≤ 2 → RowsStand AnyWidth arch bytes width place end rows → IsTrue (holds_unsigned (last_start rows) width)
last_held arch bytes width place end [] le h = zero_held width le
last_held arch bytes width place end (row ∷ []) le (own, may, stands, later) = stands.start_width_fits.held
last_held arch bytes width place end (row ∷ next ∷ rows) le (own, may, stands, later) = last_held arch bytes width (place + length (spelled_row width own row)) end (next ∷ rows) le later

-- ---- a function of a section
record Fits (f : Func) : Type 0 where
  entry : IsTrue (entry_fits f)
  rows : IsTrue (rows_fit f)

repeat_fits : (shape : Shape) (byte : ℕ) → byte < 256 → IsRepeatSize shape byte → repeat_size shape < 256
repeat_fits Plain byte lt h = omega arith
repeat_fits (Repeat size) byte lt h = omega (lt, h.0, arith)

function_fits : (arch : Arch) (bytes : List ℕ) (origin place : ℕ) (f : Func) → AreBytes bytes → EntryStands arch bytes origin place f → FunctionRowsStand arch bytes place f → Fits f
unfolding entry_fits head_fits rows_fit
function_fits arch bytes origin place f all entry (end, rows) =
    let size : f.size < 4294967296 = subst (λ (n : ℕ). n < 4294967296) entry.size (little_from-lt (place + 4) 4 bytes all) in
    let repeat : repeat_size f.shape < 256 = repeat_fits f.shape _ (all (place + 17)) entry.repeat_size in
    let starts = least_held (holds_unsigned (last_start f.rows)) (start_width_at bytes place) (record {
      there_is = entry.start_width;
      held = last_held arch _ (start_width_at bytes place) _ end f.rows entry.start_width rows;
    }) in
    record {
      entry = both (nat_lt f.size 4294967296 && nat_lt (repeat_size f.shape) 256) (holds_unsigned (last_start f.rows) (start_width f.rows))
          (both (nat_lt f.size 4294967296) (nat_lt (repeat_size f.shape) 256) (lt-ltb f.size 4294967296 size) (lt-ltb (repeat_size f.shape) 256 repeat)) starts;
      rows = all_offsets_fit arch _ _ _ end f.rows rows;
    }

functions_fit : (arch : Arch) (bytes : List ℕ) (flags at place : ℕ) (functions : List Func) → AreBytes bytes → FunctionsStand arch bytes flags at place functions → All Fits functions
functions_fit arch bytes flags at place [] all h = All-nil Fits
functions_fit arch bytes flags at place (f ∷ functions) all (entry, rows, later) =
    All-cons Fits f functions (function_fits arch bytes _ place f all entry rows) (functions_fit arch bytes flags at (place + 20) functions all later)

-- ---- all that are written
all_true : (test : Func → Bool) (functions : List Func) → All (λ (f : Func). test f ≡ true) functions → list_all test functions ≡ true
all_true test [] h = refl
all_true test (f ∷ functions) h =
    both (test f) (list_all test functions) (All-head (λ (g : Func). test g ≡ true) f functions h) (all_true test functions (All-tail (λ (g : Func). test g ≡ true) f functions h))

no_faults : (one other : Option UpgradeFault) (functions all : List Func) → Ok functions ≡ unless_fault (or_later one other) all → (one ≡ None) × (other ≡ None)
no_faults None None functions all e = (refl, refl)
no_faults None (Some fault) functions all e = cc
no_faults (Some fault) other functions all e = cc

none_long : (o : Option ℕ) → option_map TooManyRows o ≡ None → o ≡ None
none_long None e = refl
none_long (Some start) e = cc

written_fit : (bytes : List ℕ) (from : ℕ) (table : Table) (ordered : List Located) → AreBytes bytes → Section bytes from table → IsInOrder located_start (sized_in table) ordered → All Fits (merged_functions ordered)
written_fit bytes from table ordered all section order =
    let fit = functions_fit table.arch bytes table.flags from (functions_place bytes) table.functions all section.functions in
    let fit_of_all : All Fits (all_functions (table ∷ [])) = subst (All Fits) (sym (append-nil table.functions)) fit in
    All-permutation Fits (filter is_of_use (all_functions (table ∷ []))) (merged_functions ordered) (taken (table ∷ []) ordered (in_tables table ordered order)) (All-filter is_of_use Fits (all_functions (table ∷ [])) fit_of_all)

pub some_upgraded : (bytes : List ℕ) (from at : ℕ) (functions : List Func) → AreBytes bytes → section_check bytes from ≡ Ok tt → Upgrades bytes (table_in bytes from) (Ok functions)
    → (section : List ℕ) × (count : ℕ) × (rows : ℕ) × IsUpgraded bytes (table_in bytes from) at section count rows
some_upgraded bytes from at functions all passed (ordered, order, result) =
    let table = table_in bytes from in
    let taken : List Func = merged_functions ordered in
    let given : Section bytes from table = section_stands bytes from all passed in
    let clear = no_faults (overlap_fault bytes ordered) (rows_fault taken) functions taken result in
    let few : first_with_too_many_rows taken ≡ None = none_long (first_with_too_many_rows taken) clear.1 in
    let can = writable bytes from table ordered given (functions_sound table.arch bytes table.flags from (functions_place bytes) table.functions given.functions) order clear.0 in
    let fit = written_fit bytes from table ordered all given order in
    let entries : IsTrue (list_all entry_fits taken) = all_true entry_fits taken (All-weaker Fits (λ (f : Func). entry_fits f ≡ true) (λ f h. h.entry) taken fit) in
    let rows : IsTrue (list_all rows_fit taken) = all_true rows_fit taken (All-weaker Fits (λ (f : Func). rows_fit f ≡ true) (λ f h. h.rows) taken fit) in
    let section : List ℕ = section_bytes table.arch at taken in
    let short = short_functions taken in
    let some = can.row_count in
    let most : row_section_len taken ≤ 285212672 = omega (short, some, arith) in
    let tight : Tight section at (table_of table.arch taken) = section_written table.arch section at taken can entries rows few most refl in (
      section,
      length taken,
      row_count taken,
      upgraded bytes table at section (length taken) (row_count taken) ordered order clear.0 few can tight (section_is_bytes table.arch at taken entries) refl refl,
    )
