-- Functions that one section can hold, whose numbers fit and whose starts are in reach, have a section.
use Rattle.std.proofs.Common.{◌≡◌, ◌≤◌, ◌<◌, ℕ, ℤ, zero, suc, pos, ◌*◌, ◌^◌, ◌&&◌, Bool, true, false, IsTrue, Option, Some, None, List, [], ◌∷◌, ◌++◌, length, refl, arith}
use Rattle.std.specs.Int.{w32}
use Rattle.std.specs.Prelude.{All, FitsSigned, negsuc, nat_lt, sum_by, option_to_list, if◌then◌else◌}
use Rattle.std.specs.List.{list_all}
use Rattle.std.proofs.lemmas.Bool.{lt-ltb}
use Rattle.std.proofs.lemmas.List.Elements.{All-head, All-tail}
use Rattle.std.proofs.lemmas.List.Sums.{sum_by-cons}
use Rattle.sf_model.specs.declared.machine.Arch.{Arch}
use Rattle.sf_model.specs.declared.content.Content.{Content}
use Rattle.sf_model.specs.declared.content.Ra.{Ra}
use Rattle.sf_model.specs.declared.content.Ra.TheVariants.{Fixed, Link, At}
use Rattle.sf_model.specs.declared.rows.Row.{Row}
use Rattle.sf_model.specs.declared.function.Func.{Func}
use Rattle.sf_model.specs.Content.{OffsetsInRange, PointerInRange, ReturnInRange}
use Rattle.sf_model.specs.Function.{AreWritable}
use Rattle.sf_model.specs.RowBytes.{holds_row_offsets, return_offset, row_offsets}
use Rattle.sf_model.specs.Section.{AreBytes}
use Rattle.sf_model.specs.Table.{row_count}
use Rattle.sf_model.specs.Tight.{Narrow, Tight, last_start}
use Rattle.sf_model.specs.Width.{holds_signed, holds_unsigned, width_len}
use Rattle.sf_sizes.specs.RowLength.{offset_width, row_len}
use Rattle.sf_sizes.specs.Width.{least_width}
use Rattle.sf_write.specs.Entry.{repeat_size}
use Rattle.sf_write.specs.Numbers.{NumbersFit}
use Rattle.sf_write.specs.Reach.{first_out_of_reach}
use Rattle.sf_write.specs.Room.{entry_fits, head_fits, offsets_fit, rows_fit}
use Rattle.sf_write.specs.Row.{rows_len, start_width}
use Rattle.sf_write.specs.Section.{row_section_len, section_bytes, table_of}
use Rattle.sf_write.proofs.BytesWritten.{section_is_bytes}
use Rattle.sf_write.proofs.RowsWritten.{least_is_there}
use Rattle.sf_write.proofs.SectionWritten.{section_written}

both : (a b : Bool) → a ≡ true → b ≡ true → (a && b) ≡ true
both true b e f = f
both false b e f = e

-- ---- the least width holds where the greatest one does
held_by : (holds : ℕ → Bool) (zero_holds one_holds : Bool) → holds 0 ≡ zero_holds → holds 1 ≡ one_holds → holds 2 ≡ true → holds (if zero_holds then 0 else (if one_holds then 1 else 2)) ≡ true
held_by holds true one_holds e f g = e
held_by holds false true e f g = f
held_by holds false false e f g = g

least_holds : (holds : ℕ → Bool) → holds 2 ≡ true → holds (least_width holds) ≡ true
least_holds holds g = held_by holds (holds 0) (holds 1) refl refl g

-- ---- a row's offsets
offset_held : (z : ℤ) → FitsSigned w32 z → holds_signed z 2 ≡ true
offset_held (pos n) h = lt-ltb n (2 ^ 31) (omega (h.sfits, arith))
offset_held (negsuc n) h = lt-ltb n (2 ^ 31) (omega (h.sfits, arith))

pointer_held : (fp : Option ℤ) → PointerInRange fp → list_all (λ z. holds_signed z 2) (option_to_list fp) ≡ true
pointer_held None h = refl
pointer_held (Some z) h = both (holds_signed z 2) true (offset_held z h) refl

saved_held : (ra : Ra) (fp : Option ℤ) → ReturnInRange ra → PointerInRange fp → list_all (λ z. holds_signed z 2) (return_offset ra ++ option_to_list fp) ≡ true
saved_held Fixed fp h g = pointer_held fp g
saved_held Link fp h g = pointer_held fp g
saved_held (At z) fp h g = both (holds_signed z 2) (list_all (λ z. holds_signed z 2) (option_to_list fp)) (offset_held z h) (pointer_held fp g)

offsets_held : (c : Content) → OffsetsInRange c → holds_row_offsets c 2 ≡ true
offsets_held c h =
    both (holds_signed c.cfa 2) (list_all (λ z. holds_signed z 2) (return_offset c.ra ++ option_to_list c.fp)) (offset_held c.cfa h.frame_address)
    (saved_held c.ra c.fp h.return_address h.frame_pointer)

row_fits : (r : Row) → OffsetsInRange r.content → offsets_fit r ≡ true
unfolding offsets_fit
row_fits r h = least_holds (holds_row_offsets r.content) (offsets_held r.content h)

rows_all_fit : (rows : List Row) → All (λ (r : Row). OffsetsInRange r.content) rows → list_all offsets_fit rows ≡ true
rows_all_fit [] h = refl
rows_all_fit (r ∷ rows) h =
    both (offsets_fit r) (list_all offsets_fit rows) (row_fits r (All-head (λ (r : Row). OffsetsInRange r.content) r rows h))
    (rows_all_fit rows (All-tail (λ (r : Row). OffsetsInRange r.content) r rows h))

function_rows_fit : (f : Func) → NumbersFit f → rows_fit f ≡ true
unfolding rows_fit
function_rows_fit f h = rows_all_fit f.rows h.offsets

-- ---- an entry
last_small : (rows : List Row) → All (λ (r : Row). r.start < 2 ^ 32) rows → last_start rows < 2 ^ 32
last_small [] h = omega arith
last_small (r ∷ []) h = All-head (λ (r : Row). r.start < 2 ^ 32) r [] h
last_small (r ∷ next ∷ rows) h = last_small (next ∷ rows) (All-tail (λ (r : Row). r.start < 2 ^ 32) r (next ∷ rows) h)

function_entry_fits : (f : Func) → NumbersFit f → entry_fits f ≡ true
unfolding entry_fits head_fits
function_entry_fits f h =
    let starts : holds_unsigned (last_start f.rows) (start_width f.rows) ≡ true =
    least_holds (holds_unsigned (last_start f.rows)) (lt-ltb (last_start f.rows) (2 ^ 32) (last_small f.rows h.starts)) in
    both (nat_lt f.size (2 ^ 32) && nat_lt (repeat_size f.shape) 256) (holds_unsigned (last_start f.rows) (start_width f.rows))
    (both (nat_lt f.size (2 ^ 32)) (nat_lt (repeat_size f.shape) 256) (lt-ltb f.size (2 ^ 32) h.size) (lt-ltb (repeat_size f.shape) 256 h.repeats)) starts

all_by : (test : Func → Bool) → ((f : Func) → NumbersFit f → test f ≡ true) → (functions : List Func) → All NumbersFit functions → list_all test functions ≡ true
all_by test each [] h = refl
all_by test each (f ∷ functions) h =
    both (test f) (list_all test functions) (each f (All-head NumbersFit f functions h)) (all_by test each functions (All-tail NumbersFit f functions h))

-- ---- a row has at most 17 bytes
few_bytes : (width : ℕ) → width ≤ 2 → width_len width ≤ 4
few_bytes zero le = omega arith
few_bytes (suc zero) le = omega arith
few_bytes (suc (suc zero)) le = omega arith
few_bytes (suc (suc (suc width))) le = absurd (omega (le, arith))

three_at_most : (z : ℤ) (ra : Ra) (fp : Option ℤ) → length (z ∷ (return_offset ra ++ option_to_list fp)) ≤ 3
three_at_most z Fixed None = omega arith
three_at_most z Fixed (Some y) = omega arith
three_at_most z Link None = omega arith
three_at_most z Link (Some y) = omega arith
three_at_most z (At x) None = omega arith
three_at_most z (At x) (Some y) = omega arith

twelve_at_most : (n w : ℕ) → n ≤ 3 → w ≤ 4 → n * w ≤ 12
twelve_at_most zero w le few = omega arith
twelve_at_most (suc zero) w le few = omega (few, arith)
twelve_at_most (suc (suc zero)) w le few = omega (few, arith)
twelve_at_most (suc (suc (suc zero))) w le few = omega (few, arith)
twelve_at_most (suc (suc (suc (suc n)))) w le few = absurd (omega (le, arith))

short_row : (width : ℕ) (c : Content) → width ≤ 2 → row_len width c ≤ 17
short_row width c le =
    let start = few_bytes width le in
    let offsets = twelve_at_most (length (row_offsets c)) (width_len (offset_width c)) (three_at_most c.cfa c.ra c.fp) (few_bytes (offset_width c) (least_is_there (holds_row_offsets c))) in
    omega (start, offsets, arith)

short_rows_at : (width : ℕ) (rows : List Row) → width ≤ 2 → sum_by (λ (row : Row). row_len width row.content) rows ≤ 17 * length rows
short_rows_at width [] le = omega arith
short_rows_at width (r ∷ rows) le =
    let more = sum_by-cons (λ (row : Row). row_len width row.content) r rows in
    let here = short_row width r.content le in
    let later = short_rows_at width rows le in omega (more, here, later, arith)

short_rows : (rows : List Row) → rows_len rows ≤ 17 * length rows
unfolding rows_len
short_rows rows = short_rows_at (start_width rows) rows (least_is_there (holds_unsigned (last_start rows)))

pub short_functions : (functions : List Func) → row_section_len functions ≤ 17 * row_count functions
short_functions [] = omega arith
short_functions (f ∷ functions) =
    let bytes = sum_by-cons (λ (g : Func). rows_len g.rows) f functions in
    let counts = sum_by-cons (λ (g : Func). length g.rows) f functions in
    let here = short_rows f.rows in
    let later = short_functions functions in omega (bytes, counts, here, later, arith)

-- ---- the section
pub some_section : (arch : Arch) (at : ℕ) (functions : List Func) → AreWritable arch functions → All NumbersFit functions → first_out_of_reach at 0 functions ≡ None
    → AreBytes (section_bytes arch at functions) × Tight (section_bytes arch at functions) at (table_of arch functions) × Narrow (section_bytes arch at functions) (table_of arch functions)
some_section arch at functions writable fit near =
    let entries : IsTrue (list_all entry_fits functions) = all_by entry_fits function_entry_fits functions fit in
    let rows : IsTrue (list_all rows_fit functions) = all_by rows_fit function_rows_fit functions fit in
    let short = short_functions functions in
    let written = section_written arch (section_bytes arch at functions) at functions writable entries rows near (omega (short, writable.row_count, arith)) refl in
    (section_is_bytes arch at functions entries, written.tight, written.narrow)
