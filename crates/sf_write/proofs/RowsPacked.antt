-- Rows that are packed are read back, and one more is packed after them.
use Rattle.std.proofs.Common.{◌≡◌, ◌+◌, ℕ, true, IsTrue, List, [], ◌∷◌, ◌++◌, length, refl, sym, ap, subst, ◌∙◌, arith, append-nil, length-append}
use Rattle.std.specs.List.{flat_map, list_all}
use Rattle.std.proofs.lemmas.List.Concat.{flat_map-cons}
use Rattle.std.proofs.lemmas.List.Folds.{list_all-append}
use Rattle.std.proofs.lemmas.Grind.{flat_map-append}
use Rattle.sf_model.specs.declared.machine.Arch.{Arch}
use Rattle.sf_model.specs.declared.rows.Row.{Row}
use Rattle.sf_model.specs.declared.function.Func.{Func}
use Rattle.sf_model.specs.declared.function.FuncHead.{FuncHead}
use Rattle.sf_model.specs.Tight.{last_start}
use Rattle.sf_model.specs.Width.{holds_unsigned, IsWidth}
use Rattle.sf_decode.specs.Row.{rows_in}
use Rattle.sf_decode.specs.View.{head_of}
use Rattle.sf_decode.proofs.Checked.{rows_length}
use Rattle.sf_sizes.specs.Width.{least_width}
use Rattle.sf_write.specs.declared.packed.PackedRows.{PackedRows}
use Rattle.sf_write.specs.Packed.{ArePacked, HasRoom, IsPacked, unpacked}
use Rattle.sf_write.specs.Room.{offsets_fit}
use Rattle.sf_write.specs.Row.{narrow_row, rows_bytes, start_width}
use Rattle.sf_write.proofs.RowsReadBack.{read_back_at}
use Rattle.sf_write.proofs.StoredFunctions.{both}

-- ---- one row more
last_of_more : (rows : List Row) (row : Row) → last_start (rows ++ row ∷ []) ≡ row.start
last_of_more [] row = refl
last_of_more (first ∷ []) row = refl
last_of_more (first ∷ next ∷ rows) row = last_of_more (next ∷ rows) row

one_row : (width : ℕ) (row : Row) → flat_map (narrow_row width) (row ∷ []) ≡ narrow_row width row
one_row width row = flat_map-cons (narrow_row width) row [] ∙ append-nil (narrow_row width row)

pub one_more_packed : (old : PackedRows) (bytes : List ℕ) (new : PackedRows) (rows : List Row) (row : Row) → ArePacked old rows → HasRoom old row.start → IsTrue (offsets_fit row)
    → bytes ≡ old.bytes.items ++ narrow_row old.width row → new.bytes.items ≡ bytes → new.width ≡ old.width → new.count ≡ old.count + 1 → new.last ≡ row.start → ArePacked new (rows ++ row ∷ [])
one_more_packed old bytes new rows row packed room fits grown is width count last =
    let w : ℕ = old.width in
    let all : bytes ≡ flat_map (narrow_row w) (rows ++ row ∷ []) =
    grown ∙ ap (λ (front : List ℕ). front ++ narrow_row w row) packed.bytes
    ∙ ap (λ (run : List ℕ). flat_map (narrow_row w) rows ++ run) (sym (one_row w row))
    ∙ sym (flat_map-append (narrow_row w) rows (row ∷ [])) in
    let more = length-append rows (row ∷ []) in
    let counted = packed.count in
    record {
      bytes = is ∙ all ∙ ap (λ (v : ℕ). flat_map (narrow_row v) (rows ++ row ∷ [])) (sym width);
      count = omega (count, counted, more, arith);
      last = last ∙ sym (last_of_more rows row);
      width = subst (λ (v : ℕ). IsWidth (holds_unsigned (last_start (rows ++ row ∷ []))) v) (sym width) (subst (λ (start : ℕ). IsWidth (holds_unsigned start) w) (sym (last_of_more rows row)) room);
      offsets_fit = list_all-append offsets_fit rows (row ∷ []) ∙ both (list_all offsets_fit rows) (list_all offsets_fit (row ∷ [])) packed.offsets_fit (both (offsets_fit row) true fits refl);
    }

-- ---- read back
pub unpacked_is : (arch : Arch) (head : FuncHead) (packed : PackedRows) (func : Func) → IsPacked arch head packed func → unpacked arch head packed ≡ func
unpacked_is arch head packed func is =
    ap (λ (h : FuncHead). unpacked arch h packed) is.head_is
    ∙ ap (λ (rows : List Row). record { start = func.start; size = func.size; shape = func.shape; key = func.key; rows = rows })
    (ap (λ (bytes : List ℕ). rows_in arch bytes packed.width 0 (length func.rows)) is.rows.bytes
    ∙ read_back_at arch packed.width func.rows is.rows.width.there_is is.rise is.contents is.rows.width.held is.rows.offsets_fit)

pub head_is : (arch : Arch) (head : FuncHead) (packed : PackedRows) → head ≡ head_of (unpacked arch head packed)
head_is arch head packed =
    ap (λ (n : ℕ). record { start = head.start; size = head.size; shape = head.shape; key = head.key; rows = n }) (sym (rows_length arch packed.bytes.items packed.width 0 head.rows))

-- ---- as a section holds them
pub narrow_bytes : (packed : PackedRows) (rows : List Row) (width : ℕ) → ArePacked packed rows → width ≡ least_width (holds_unsigned packed.last) → width ≡ packed.width → packed.bytes.items ≡ rows_bytes rows
unfolding rows_bytes
narrow_bytes packed rows width are least same =
    are.bytes ∙ ap (λ (w : ℕ). flat_map (narrow_row w) rows) (sym same ∙ least ∙ ap (λ (last : ℕ). least_width (holds_unsigned last)) are.last)

pub narrow_width : (packed : PackedRows) (rows : List Row) (width : ℕ) → ArePacked packed rows → width ≡ least_width (holds_unsigned packed.last) → width ≡ start_width rows
narrow_width packed rows width are least = least ∙ ap (λ (last : ℕ). least_width (holds_unsigned last)) are.last

pub narrow_starts : (packed : PackedRows) (rows : List Row) (width : ℕ) → ArePacked packed rows → width ≡ least_width (holds_unsigned packed.last) → IsTrue (holds_unsigned packed.last width) → IsTrue (holds_unsigned (last_start rows) (start_width rows))
narrow_starts packed rows width are least held =
    subst (λ (last : ℕ). IsTrue (holds_unsigned last (start_width rows))) are.last (subst (λ (w : ℕ). IsTrue (holds_unsigned packed.last w)) (narrow_width packed rows width are least) held)

pub narrow_rows : (rows : List Row) (width : ℕ) → width ≡ start_width rows → flat_map (narrow_row width) rows ≡ rows_bytes rows
unfolding rows_bytes
narrow_rows rows width is = ap (λ (w : ℕ). flat_map (narrow_row w) rows) is
