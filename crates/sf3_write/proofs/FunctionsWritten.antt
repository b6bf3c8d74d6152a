-- The functions that are written are functions by the standard, without gaps and with the least widths.
use Rattle.std.proofs.Common.{◌≡◌, ◌≤◌, ◌<◌, ℕ, ◌+◌, ◌*◌, IsTrue, None, List, [], ◌∷◌, ◌++◌, length, map, drop, sym, subst, ◌∙◌, arith}
use Rattle.std.specs.Prelude.{All}
use Rattle.std.specs.List.{flat_map, list_all}
use Rattle.std.proofs.lemmas.List.{append_assoc}
use Rattle.std.proofs.lemmas.List.Concat.{flat_map-cons}
use Rattle.std.proofs.lemmas.List.Elements.{All-tail}
use Rattle.std.proofs.lemmas.List.Sums.{sum_by-cons}
use Rattle.sf_model.specs.declared.machine.Arch.{Arch}
use Rattle.sf_model.specs.declared.function.Func.{Func}
use Rattle.sf_model.specs.Function.{IsWritable}
use Rattle.sf_model.specs.Section.{rows_len, row_bytes_of, AnyWidth, RowsStand}
use Rattle.sf_model.proofs.RowNumbers.{below_if}
use Rattle.sf_decode.specs.View.{head_of}
use Rattle.sf_write.specs.Room.{rows_fit, entry_fits}
use Rattle.sf_write.specs.Row.{start_width, rows_bytes, rows_len as function_rows_len}
use Rattle.sf_write.proofs.EntryWritten.{size_fits}
use Rattle.sf_write.proofs.FunctionsWritten.{function_rows, reach_by}
use Rattle.sf_write.proofs.Places.{after}
use Rattle.sf_write.proofs.RowsWritten.{first_of, second_of, stands}
use Rattle.sf3_model.specs.Described.{ordinary}
use Rattle.sf3_model.specs.Section.{AttributesStand, FunctionsStand, start_width_in}
use Rattle.sf3_write.specs.Attributes.{attributes_bytes, data_bytes}
use Rattle.sf3_write.specs.Entry.{data_len, entries_bytes, entry_bytes}
use Rattle.sf3_write.specs.Rows.{are_few, first_with_too_many_rows}
use Rattle.sf3_write.specs.Section.{data_section_len}
use Rattle.sf3_write.specs.Tight.{WithoutGaps}
use Rattle.sf3_write.proofs.Lengths.{length-data, length-entry}
use Rattle.sf3_write.proofs.DataWritten.{AttributesWritten, EntryWritten, attributes_written, entry_written}

-- a function's data: its attributes, and then its rows
data_apart : (f : Func) (all : List ℕ) → data_bytes f ++ all ≡ attributes_bytes (start_width f.rows) (head_of f) ++ (rows_bytes f.rows ++ all)
unfolding data_bytes
data_apart f all = append_assoc (attributes_bytes (start_width f.rows) (head_of f)) (rows_bytes f.rows) all

-- what the entries from a place on and the data from an offset on hold
pub record FunctionsWritten (arch : Arch) (bytes : List ℕ) (at place offset : ℕ) (functions : List Func) : Type 0 where
  pub stand : FunctionsStand arch bytes 5 at place (map ordinary functions)
  pub without_gaps : WithoutGaps bytes place offset (map ordinary functions)

pub functions_written : (arch : Arch) (bytes : List ℕ) (at number place offset : ℕ) (functions : List Func) (tail : List ℕ)
    → All (IsWritable arch) functions → IsTrue (list_all entry_fits functions) → IsTrue (list_all rows_fit functions) → first_with_too_many_rows functions ≡ None
    → place ≡ 28 + 16 * number → rows_len bytes < 4294967296 → offset + data_section_len functions ≡ rows_len bytes
    → drop place bytes ≡ entries_bytes at number offset functions ++ tail → drop offset (row_bytes_of bytes) ≡ flat_map data_bytes functions
    → FunctionsWritten arch bytes at place offset functions
functions_written arch bytes at number place offset [] tail writable fits room few e small sum h g =
    record { stand = tt; without_gaps = omega (sum, arith) }
functions_written arch bytes at number place offset (f ∷ functions) tail writable fits room few e small sum h g =
    let here : IsWritable arch f = writable 0 f (omega arith) in
    let fit : IsTrue (entry_fits f) = first_of (entry_fits f) (list_all entry_fits functions) fits in
    let rows : List ℕ = row_bytes_of bytes in
    let count = reach_by (are_few (length f.rows)) (first_with_too_many_rows functions) f.start few in
    let less : length f.rows < 65536 = below_if (length f.rows) 65536 count.0 in
    let sums : data_section_len (f ∷ functions) ≡ data_len f + data_section_len functions = omega (sum_by-cons (λ (x : Func). function_rows_len x.rows) f functions, arith) in
    let all : List ℕ = flat_map data_bytes functions in
    let entries : List ℕ = entries_bytes at (number + 1) (offset + data_len f) functions in
    let front : drop place bytes ≡ entry_bytes at number offset f.start f.size ++ (entries ++ tail) = h ∙ append_assoc (entry_bytes at number offset f.start f.size) entries tail in
    let end_in : f.start + f.size ≤ 18446744073709551616 = here.end in
    let some : 0 < f.size = here.size in
    let entry : EntryWritten bytes at place offset f =
    entry_written bytes at number place offset f (entries ++ tail) (omega (end_in, some, arith)) end_in (size_fits f fit) (omega (sum, sums, small, arith)) e front in
    let cut : drop offset rows ≡ data_bytes f ++ all = g ∙ flat_map-cons data_bytes f functions in
    let attributes : AttributesWritten arch rows offset f (rows_bytes f.rows ++ all) = attributes_written arch rows offset f (rows_bytes f.rows ++ all) here less (cut ∙ data_apart f all) in
    let end : ℕ = offset + 5 + length (rows_bytes f.rows) in
    let any : RowsStand AnyWidth arch rows (start_width f.rows) (offset + 5) end f.rows =
    function_rows AnyWidth (λ content. tt) arch rows (offset + 5) f all here fit (first_of (rows_fit f) (list_all rows_fit functions) room) attributes.behind in
    let later : FunctionsWritten arch bytes at (place + 16) (offset + data_len f) functions =
    functions_written arch bytes at (number + 1) (place + 16) (offset + data_len f) functions tail (All-tail (IsWritable arch) f functions writable)
    (second_of (entry_fits f) (list_all entry_fits functions) fits) (second_of (rows_fit f) (list_all rows_fit functions) room) count.1
    (omega (e, arith)) small (omega (sums, sum, arith))
    (after bytes place 16 (entry_bytes at number offset f.start f.size) (entries ++ tail) front (length-entry at number offset f.start f.size))
    (after rows offset (data_len f) (data_bytes f) all cut (length-data f)) in
    let here_any : RowsStand AnyWidth arch rows (start_width_in rows offset) (offset + 5) end f.rows =
    subst (λ w. RowsStand AnyWidth arch rows w (offset + 5) end f.rows) (sym attributes.width) any in
    record {
      stand = (
        record {
          entry = entry.stands;
          attributes = subst (λ o. AttributesStand arch rows o (ordinary f)) (sym entry.offset_is) attributes.stand;
          rows = (end, subst (λ o. RowsStand AnyWidth arch rows (start_width_in rows o) (o + 5) end f.rows) (sym entry.offset_is) here_any);
        },
        later.stand,
      );
      without_gaps = (
        record { offset_is = entry.offset_is; start_width = attributes.width; repeat_size = attributes.repeat; rows = stands rows (offset + 5) (rows_bytes f.rows) all attributes.behind },
        later.without_gaps,
      );
    }
