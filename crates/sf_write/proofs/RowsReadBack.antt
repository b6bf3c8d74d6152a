-- The rows of a function are read back from the bytes in which they are spelled.
use Rattle.std.proofs.Common.{◌≡◌, ◌≤◌, ◌+◌, ℕ, IsTrue, List, [], ◌∷◌, ◌++◌, drop, length, refl, sym, ap, ◌∙◌, arith, append-nil}
use Rattle.std.proofs.lemmas.List.{take-append-drop}
use Rattle.std.specs.Prelude.{All, Ok}
use Rattle.std.specs.List.{flat_map, list_all}
use Rattle.sf_model.specs.declared.machine.Arch.{Arch}
use Rattle.sf_model.specs.declared.rows.Row.{Row}
use Rattle.sf_model.specs.Content.{content_fits}
use Rattle.sf_model.specs.Function.{RowsRise}
use Rattle.sf_model.specs.RowBytes.{StandsAt}
use Rattle.sf_model.specs.Section.{AnyWidth, AreBytes, RowsStand}
use Rattle.sf_model.specs.Tight.{last_start}
use Rattle.sf_model.specs.Width.{holds_unsigned}
use Rattle.sf_model.proofs.RowsSame.{rows_same}
use Rattle.sf_decode.specs.Row.{rows_check, rows_in}
use Rattle.sf_decode.proofs.Checked.{rows_length}
use Rattle.sf_decode.proofs.RowsFound.{BeginsFrom, rows_pass}
use Rattle.sf_decode.proofs.RowsRead.{rows_stand as rows_stand_read}
use Rattle.sf_write.specs.Room.{offsets_fit}
use Rattle.sf_write.specs.Row.{narrow_row, rows_bytes, start_width}
use Rattle.sf_write.proofs.BytesWritten.{rows_at}
use Rattle.sf_write.proofs.RowsWritten.{least_is_there, rows_stand}

from_zero : (rows : List Row) → BeginsFrom 0 rows
from_zero [] = tt
from_zero (row ∷ rows) = omega arith

-- the rows are where they are spelled, with any width that has room for their starts
spelled_stand : (arch : Arch) (width : ℕ) (rows : List Row) → width ≤ 2 → RowsRise rows → All (λ (row : Row). IsTrue (content_fits arch row.content)) rows
    → IsTrue (holds_unsigned (last_start rows) width) → IsTrue (list_all offsets_fit rows)
    → RowsStand AnyWidth arch (flat_map (narrow_row width) rows) width 0 (0 + length (flat_map (narrow_row width) rows)) rows
spelled_stand arch width rows valid rise fits held room =
    rows_stand AnyWidth (λ content. tt) arch (flat_map (narrow_row width) rows) width 0 rows [] valid held rise fits room (sym (append-nil (flat_map (narrow_row width) rows)))

pub read_back_at : (arch : Arch) (width : ℕ) (rows : List Row) → width ≤ 2 → RowsRise rows → All (λ (row : Row). IsTrue (content_fits arch row.content)) rows
    → IsTrue (holds_unsigned (last_start rows) width) → IsTrue (list_all offsets_fit rows)
    → rows_in arch (flat_map (narrow_row width) rows) width 0 (length rows) ≡ rows
read_back_at arch width rows valid rise fits held room =
    let bytes : List ℕ = flat_map (narrow_row width) rows in
    let stand : RowsStand AnyWidth arch bytes width 0 (0 + length bytes) rows = spelled_stand arch width rows valid rise fits held room in
    let passed : rows_check arch bytes 0 width 0 0 (length rows) ≡ Ok tt = rows_pass arch bytes 0 width 0 0 (0 + length bytes) rows stand rise (from_zero rows) in
    let read = rows_stand_read arch bytes 0 width 0 0 (length rows) (rows_at width rows) valid passed in
    rows_same arch bytes width 0 0 read.0 (0 + length bytes) (rows_in arch bytes width 0 (length rows)) rows refl (rows_length arch bytes width 0 (length rows)) read.1 stand

pub read_back : (arch : Arch) (rows : List Row) → RowsRise rows → All (λ (row : Row). IsTrue (content_fits arch row.content)) rows
    → IsTrue (holds_unsigned (last_start rows) (start_width rows)) → IsTrue (list_all offsets_fit rows)
    → rows_in arch (rows_bytes rows) (start_width rows) 0 (length rows) ≡ rows
unfolding rows_bytes
read_back arch rows rise fits held room = read_back_at arch (start_width rows) rows (least_is_there (holds_unsigned (last_start rows))) rise fits held room

-- rows that are spelled at a place of bytes are read from there
pub read_from : (arch : Arch) (bytes : List ℕ) (width place : ℕ) (rows : List Row) → AreBytes bytes → width ≤ 2 → RowsRise rows → All (λ (row : Row). IsTrue (content_fits arch row.content)) rows
    → IsTrue (holds_unsigned (last_start rows) width) → IsTrue (list_all offsets_fit rows) → StandsAt bytes place (flat_map (narrow_row width) rows)
    → rows_in arch bytes width place (length rows) ≡ rows
read_from arch bytes width place rows all valid rise fits held room stands =
    let run : List ℕ = flat_map (narrow_row width) rows in
    let tail : List ℕ = drop (length run) (drop place bytes) in
    let front : drop place bytes ≡ run ++ tail = sym (take-append-drop (length run) (drop place bytes)) ∙ ap (λ (l : List ℕ). l ++ tail) stands in
    let stand : RowsStand AnyWidth arch bytes width place (place + length run) rows = rows_stand AnyWidth (λ content. tt) arch bytes width place rows tail valid held rise fits room front in
    let passed : rows_check arch bytes 0 width place 0 (length rows) ≡ Ok tt = rows_pass arch bytes 0 width place 0 (place + length run) rows stand rise (from_zero rows) in
    let read = rows_stand_read arch bytes 0 width place 0 (length rows) all valid passed in
    rows_same arch bytes width place place read.0 (place + length run) (rows_in arch bytes width place (length rows)) rows refl (rows_length arch bytes width place (length rows)) read.1 stand
