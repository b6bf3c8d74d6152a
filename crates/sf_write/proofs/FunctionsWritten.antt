-- The functions that are written are functions by the standard, without gaps and with the least
-- widths.
use Rattle.std.proofs.Common.{◌≡◌, ◌≤◌, ◌<◌, ℕ, ◌+◌, ◌*◌, Bool, true, false, IsTrue, Option, Some, None, List, [], ◌∷◌, ◌++◌, length, drop, refl, ap, sym, subst, ◌∙◌, arith}
use Rattle.std.specs.Prelude.{All, if◌then◌else◌}
use Rattle.std.specs.List.{flat_map, list_all}
use Rattle.std.proofs.lemmas.List.{append_assoc}
use Rattle.std.proofs.lemmas.List.Concat.{flat_map-cons}
use Rattle.std.proofs.lemmas.List.Elements.{All-tail}
use Rattle.std.proofs.lemmas.List.Sums.{sum_by-cons}
use Rattle.sf_model.specs.declared.machine.Arch.{Arch}
use Rattle.sf_model.specs.declared.content.Content.{Content}
use Rattle.sf_model.specs.declared.function.Func.{Func}
use Rattle.sf_model.specs.Function.{IsWritable}
use Rattle.sf_model.specs.Table.{row_count}
use Rattle.sf_model.specs.Width.{holds_unsigned, NoneLess}
use Rattle.sf_model.specs.Section.{rows_len, row_bytes_of, start_width_at, AnyWidth, RowsStand, FunctionsStand}
use Rattle.sf_model.specs.Tight.{last_start, LeastWidth, WithoutGaps, LeastWidths}
use Rattle.sf_decode.specs.View.{head_of}
use Rattle.sf_sizes.specs.RowLength.{offset_width}
use Rattle.sf_write.specs.Row.{start_width, rows_bytes, rows_len as function_rows_len}
use Rattle.sf_write.specs.Room.{rows_fit, entry_fits}
use Rattle.sf_write.specs.Reach.{is_in_reach, first_out_of_reach}
use Rattle.sf_write.specs.Entry.{entry_bytes, entries_bytes}
use Rattle.sf_write.specs.Section.{row_section_len}
use Rattle.sf_write.proofs.Lengths.{length-entry, length-rows}
use Rattle.sf_write.proofs.Places.{after}
use Rattle.sf_write.proofs.RowsWritten.{first_of, second_of, least_is_there, least_is_least, rows_stand, least_may}
use Rattle.sf_write.proofs.EntryWritten.{EntryWritten, entry_written, last_start_fits}

-- the rows of one function
pub function_rows : (MayHave : Content → ℕ → Type 0) → ((content : Content) → MayHave content (offset_width content)) → (arch : Arch) (rows : List ℕ) (place : ℕ) (f : Func) (tail : List ℕ)
    → IsWritable arch f → IsTrue (entry_fits f) → IsTrue (rows_fit f) → drop place rows ≡ rows_bytes f.rows ++ tail
    → RowsStand MayHave arch rows (start_width f.rows) place (place + length (rows_bytes f.rows)) f.rows
unfolding rows_bytes rows_fit
function_rows MayHave may arch rows place f tail writable fits room h =
    rows_stand MayHave may arch rows (start_width f.rows) place f.rows tail (least_is_there (holds_unsigned (last_start f.rows))) (last_start_fits f fits)
    writable.rows_rise writable.contents room h

-- a start that is in reach, and those after it
pub reach_by : (near : Bool) (later : Option ℕ) (start : ℕ) → (if near then later else Some start) ≡ None → (near ≡ true) × (later ≡ None)
reach_by true later start e = (refl, e)
reach_by false later start e = absurd (cc)

-- what the entries from a place on and the rows from an offset on hold
pub record FunctionsWritten (arch : Arch) (bytes : List ℕ) (at place offset : ℕ) (functions : List Func) : Type 0 where
  pub stand : FunctionsStand arch bytes 5 at place functions
  pub without_gaps : WithoutGaps arch bytes place offset functions
  pub least : LeastWidths arch bytes place functions

pub functions_written : (arch : Arch) (bytes : List ℕ) (at number place offset : ℕ) (functions : List Func) (tail : List ℕ)
    → All (IsWritable arch) functions → IsTrue (list_all entry_fits functions) → IsTrue (list_all rows_fit functions) → first_out_of_reach at number functions ≡ None
    → place ≡ 28 + 20 * number → row_count functions ≤ 16777216 → rows_len bytes < 4294967296 → offset + row_section_len functions ≡ rows_len bytes
    → drop place bytes ≡ entries_bytes at number offset functions ++ tail → drop offset (row_bytes_of bytes) ≡ flat_map (λ (f : Func). rows_bytes f.rows) functions
    → FunctionsWritten arch bytes at place offset functions
functions_written arch bytes at number place offset [] tail writable fits room near e few small sum h g =
    record { stand = tt; without_gaps = omega (sum, arith); least = tt }
functions_written arch bytes at number place offset (f ∷ functions) tail writable fits room near e few small sum h g =
    let here : IsWritable arch f = writable 0 f (omega arith) in
    let fit : IsTrue (entry_fits f) = first_of (entry_fits f) (list_all entry_fits functions) fits in
    let reach : (is_in_reach at number f.start ≡ true) × (first_out_of_reach at (number + 1) functions ≡ None) =
    reach_by (is_in_reach at number f.start) (first_out_of_reach at (number + 1) functions) f.start near in
    let counts : row_count (f ∷ functions) ≡ length f.rows + row_count functions = sum_by-cons (λ (x : Func). length x.rows) f functions in
    let sums : row_section_len (f ∷ functions) ≡ function_rows_len f.rows + row_section_len functions = sum_by-cons (λ (x : Func). function_rows_len x.rows) f functions in
    let len : length (rows_bytes f.rows) ≡ function_rows_len f.rows = length-rows f.rows in
    let all : List ℕ = flat_map (λ (x : Func). rows_bytes x.rows) functions in
    let entries : List ℕ = entries_bytes at (number + 1) (offset + function_rows_len f.rows) functions in
    let entry : EntryWritten arch bytes at place offset f =
    entry_written arch bytes at number place offset f (entries ++ tail) here fit (omega (sum, small, arith)) (omega (counts, few, arith)) e reach.0
    (h ∙ append_assoc (entry_bytes at number offset (start_width f.rows) (head_of f)) entries tail) in
    let front : drop offset (row_bytes_of bytes) ≡ rows_bytes f.rows ++ all = g ∙ flat_map-cons (λ (x : Func). rows_bytes x.rows) f functions in
    let end : ℕ = offset + length (rows_bytes f.rows) in
    let any : RowsStand AnyWidth arch (row_bytes_of bytes) (start_width f.rows) offset end f.rows =
    function_rows AnyWidth (λ content. tt) arch (row_bytes_of bytes) offset f all here fit (first_of (rows_fit f) (list_all rows_fit functions) room) front in
    let narrow : RowsStand LeastWidth arch (row_bytes_of bytes) (start_width f.rows) offset end f.rows =
    function_rows LeastWidth least_may arch (row_bytes_of bytes) offset f all here fit (first_of (rows_fit f) (list_all rows_fit functions) room) front in
    let later : FunctionsWritten arch bytes at (place + 20) (offset + function_rows_len f.rows) functions =
    functions_written arch bytes at (number + 1) (place + 20) (offset + function_rows_len f.rows) functions tail (All-tail (IsWritable arch) f functions writable)
    (second_of (entry_fits f) (list_all entry_fits functions) fits) (second_of (rows_fit f) (list_all rows_fit functions) room) reach.1
    (omega (e, arith)) (omega (counts, few, arith)) small (omega (sums, sum, arith))
    (after bytes place 20 (entry_bytes at number offset (start_width f.rows) (head_of f)) (entries ++ tail) (h ∙ append_assoc (entry_bytes at number offset (start_width f.rows) (head_of f)) entries tail) (length-entry at number offset (start_width f.rows) (head_of f)))
    (after (row_bytes_of bytes) offset (function_rows_len f.rows) (rows_bytes f.rows) all front len) in
    let here_any : RowsStand AnyWidth arch (row_bytes_of bytes) (start_width_at bytes place) offset end f.rows =
    subst (λ w. RowsStand AnyWidth arch (row_bytes_of bytes) w offset end f.rows) (sym entry.width) any in
    let here_narrow : RowsStand LeastWidth arch (row_bytes_of bytes) (start_width_at bytes place) offset end f.rows =
    subst (λ w. RowsStand LeastWidth arch (row_bytes_of bytes) w offset end f.rows) (sym entry.width) narrow in
    let ends : offset + function_rows_len f.rows ≡ end = ap (λ k. offset + k) (sym len) in
    record {
      stand = (entry.stands, (end, subst (λ o. RowsStand AnyWidth arch (row_bytes_of bytes) (start_width_at bytes place) o end f.rows) (sym entry.row_offset) here_any), later.stand);
      without_gaps = (entry.row_offset, entry.padding, entry.repeat, (end, here_any, subst (λ o. WithoutGaps arch bytes (place + 20) o functions) ends later.without_gaps));
      least = (
        subst (λ w. NoneLess (holds_unsigned (last_start f.rows)) w) (sym entry.width) (least_is_least (holds_unsigned (last_start f.rows))),
        (end, subst (λ o. RowsStand LeastWidth arch (row_bytes_of bytes) (start_width_at bytes place) o end f.rows) (sym entry.row_offset) here_narrow),
        later.least,
      );
    }
