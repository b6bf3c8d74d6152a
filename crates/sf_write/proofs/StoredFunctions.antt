-- A function whose rows are spelled is read back, and what is stored gives its entry and its rows.
use Rattle.std.proofs.Common.{◌≡◌, ◌≤◌, ◌+◌, ◌&&◌, ℕ, Bool, true, false, IsTrue, List, [], ◌∷◌, ◌++◌, length, take, drop, refl, sym, ap, subst, ◌∙◌, arith, length-append}
use Rattle.std.proofs.Math.Seq.{drop-append_seam, take-length}
use Rattle.std.proofs.lemmas.List.Elements.{All-head, All-tail}
use Rattle.std.specs.Prelude.{All, map}
use Rattle.std.specs.List.{flat_map, list_all}
use Rattle.sf_model.specs.declared.machine.Arch.{Arch}
use Rattle.sf_model.specs.declared.rows.Row.{Row}
use Rattle.sf_model.specs.declared.function.Func.{Func}
use Rattle.sf_model.specs.declared.function.FuncHead.{FuncHead}
use Rattle.sf_model.specs.Content.{content_fits}
use Rattle.sf_model.specs.Function.{IsWritable, RowsRise}
use Rattle.sf_model.specs.RowBytes.{StandsAt}
use Rattle.sf_model.specs.Tight.{last_start}
use Rattle.sf_model.specs.Width.{holds_unsigned}
use Rattle.sf_decode.specs.Row.{rows_in}
use Rattle.sf_decode.specs.declared.iter.RowIter.{RowIter}
use Rattle.sf_decode.specs.View.{AreSpelled, head_of, rows_left}
use Rattle.sf_decode.proofs.Checked.{rows_length}
use Rattle.sf_write.specs.declared.stored.StoredRows.{StoredRows}
use Rattle.sf_write.specs.declared.stored.StoredFunction.{StoredFunction}
use Rattle.sf_write.specs.Room.{offsets_fit, rows_fit}
use Rattle.sf_write.specs.Row.{narrow_row, rows_bytes, rows_len, start_width}
use Rattle.sf_write.specs.Stored.{IsSpelled, IsStored, function_by, range_of, stored_in}
use Rattle.sf_write.proofs.Lengths.{length-rows}
use Rattle.sf_write.proofs.RowsReadBack.{read_back, read_from}
use Rattle.sf_write.proofs.RowsWritten.{least_is_there}

-- a function with other rows
abbrev with_rows : Func → List Row → Func
with_rows f rows = record { start = f.start; size = f.size; shape = f.shape; key = f.key; rows = rows }

-- the rows of a function, spelled
pub spelled_back : (arch : Arch) (func : Func) (f : StoredFunction) → IsWritable arch func → IsTrue (rows_fit func) → IsTrue (holds_unsigned (last_start func.rows) (start_width func.rows))
    → f.head ≡ head_of func → f.arch ≡ arch → f.width ≡ start_width func.rows → function_by f (rows_bytes func.rows) ≡ func
unfolding function_by rows_fit
spelled_back arch func f writable room held head machine width =
    ap (λ (h : FuncHead). record { start = h.start; size = h.size; shape = h.shape; key = h.key; rows = rows_in f.arch (rows_bytes func.rows) f.width 0 h.rows }) head
    ∙ (ap (λ (a : Arch). with_rows func (rows_in a (rows_bytes func.rows) f.width 0 (length func.rows))) machine
    ∙ (ap (λ (w : ℕ). with_rows func (rows_in arch (rows_bytes func.rows) w 0 (length func.rows))) width
    ∙ ap (with_rows func) (read_back arch func.rows writable.rows_rise writable.contents held room)))

pub is_spelled : (arch : Arch) (func : Func) (f : StoredFunction) → IsWritable arch func → f.arch ≡ arch → function_by f (rows_bytes func.rows) ≡ func → IsTrue (rows_fit func) → IsTrue (holds_unsigned (last_start func.rows) (start_width func.rows))
    → f.width ≡ start_width func.rows → IsSpelled f (rows_bytes func.rows)
is_spelled arch func f writable machine same room held width = record {
  rows = ap (λ (g : Func). rows_bytes g.rows) (sym same);
  width = width ∙ ap (λ (g : Func). start_width g.rows) (sym same);
  starts_fit = subst (λ (g : Func). IsTrue (holds_unsigned (last_start g.rows) f.width)) (sym same) (subst (λ (w : ℕ). IsTrue (holds_unsigned (last_start func.rows) w)) (sym width) held);
  offsets_fit = subst (λ (g : Func). IsTrue (rows_fit g)) (sym same) room;
  rise = subst (λ (g : Func). RowsRise g.rows) (sym same) writable.rows_rise;
  contents_fit = subst (λ (g : Func). All (λ (row : Row). IsTrue (content_fits f.arch row.content)) g.rows) (sym same) (subst (λ (a : Arch). All (λ (row : Row). IsTrue (content_fits a row.content)) func.rows) (sym machine) writable.contents);
}

-- rows that were appended for this function
pub record RowsPushed (rows : List Row) (old : List ℕ) (new : StoredRows) (f : StoredFunction) : Type 0 where
  pub bytes : new.bytes.items ≡ old ++ rows_bytes rows
  pub width : f.width ≡ start_width rows
  pub held : IsTrue (holds_unsigned (last_start rows) (start_width rows))
  pub room : IsTrue (list_all offsets_fit rows)
  pub count : f.head.rows ≡ length rows
  pub place : f.place ≡ length old
  pub end : f.place + f.len ≡ length new.bytes.items

-- the function of those rows is stored
pub stored_new : (arch : Arch) (func : Func) (old : List ℕ) (new : StoredRows) (f : StoredFunction) → IsWritable arch func → RowsPushed func.rows old new f
    → f.head ≡ record { start = func.start; size = func.size; shape = func.shape; key = func.key; rows = f.head.rows } → f.arch ≡ arch → IsStored new f × (stored_in new f ≡ func)
unfolding stored_in rows_fit
stored_new arch func old new f writable pushed same machine =
    let run : List ℕ = rows_bytes func.rows in
    let head : f.head ≡ head_of func = same ∙ ap (λ (n : ℕ). record { start = func.start; size = func.size; shape = func.shape; key = func.key; rows = n }) pushed.count in
    let whole : length new.bytes.items ≡ length old + length run = ap length pushed.bytes ∙ length-append old run in
    let len : f.len ≡ length run = omega (whole, pushed.place, pushed.end, arith) in
    let range : range_of new f ≡ run =
    ap (λ (l : List ℕ). take f.len (drop f.place l)) pushed.bytes
    ∙ (ap (λ (n : ℕ). take f.len (drop n (old ++ run))) pushed.place ∙ (ap (take f.len) (drop-append_seam old run) ∙ (ap (λ (n : ℕ). take n run) len ∙ take-length run))) in
    let back : function_by f run ≡ func = spelled_back arch func f writable pushed.room pushed.held head machine pushed.width in (
      record { within = omega (pushed.end, arith); spelled = subst (IsSpelled f) (sym range) (is_spelled arch func f writable machine back pushed.room pushed.held pushed.width) },
      ap (function_by f) range ∙ back,
    )

-- what is stored of a function
pub record StoredSays (f : StoredFunction) (func : Func) : Type 0 where
  pub head : f.head ≡ head_of func
  pub width : f.width ≡ start_width func.rows
  pub narrow : f.width ≤ 2
  pub held : IsTrue (holds_unsigned (last_start func.rows) (start_width func.rows))

pub stored_says : (rows : StoredRows) (f : StoredFunction) → IsStored rows f → StoredSays f (stored_in rows f)
unfolding stored_in function_by
stored_says rows f h =
    let width = h.spelled.width in
    let least = least_is_there (holds_unsigned (last_start (function_by f (range_of rows f)).rows)) in
    record {
      head = ap (λ (n : ℕ). record { start = f.head.start; size = f.head.size; shape = f.head.shape; key = f.head.key; rows = n }) (sym (rows_length f.arch (range_of rows f) f.width 0 f.head.rows));
      width = width;
      narrow = omega (width, least, arith);
      held = subst (λ (w : ℕ). IsTrue (holds_unsigned (last_start (function_by f (range_of rows f)).rows) w)) width h.spelled.starts_fit;
    }

-- rows that are spelled as those of the function are the same
pub spelled_rows : (rows : StoredRows) (f : StoredFunction) (it : RowIter) → IsStored rows f → AreSpelled it f.arch f.width f.head.rows (range_of rows f) → rows_left it ≡ (stored_in rows f).rows
unfolding stored_in function_by rows_bytes rows_fit
spelled_rows rows f it h s =
    let own : List Row = (function_by f (range_of rows f)).rows in
    let width : it.start_width ≡ start_width own = s.width_is ∙ h.spelled.width in
    let count : it.left ≡ length own = s.count_is ∙ sym (rows_length f.arch (range_of rows f) f.width 0 f.head.rows) in
    let held : IsTrue (holds_unsigned (last_start own) (start_width own)) = subst (λ (w : ℕ). IsTrue (holds_unsigned (last_start own) w)) h.spelled.width h.spelled.starts_fit in
    let stand : StandsAt it.rows.now it.place (flat_map (narrow_row (start_width own)) own) = subst (StandsAt it.rows.now it.place) h.spelled.rows s.stand in
    let same = read_from f.arch it.rows.now (start_width own) it.place own s.are_bytes (least_is_there (holds_unsigned (last_start own))) h.spelled.rise h.spelled.contents_fit held h.spelled.offsets_fit stand in
    ap (λ (a : Arch). rows_in a it.rows.now it.start_width it.place it.left) s.arch_is
    ∙ (ap (λ (w : ℕ). rows_in f.arch it.rows.now w it.place it.left) width ∙ (ap (rows_in f.arch it.rows.now (start_width own) it.place) count ∙ same))

-- the bytes of the function's range
pub range_spelled : (rows : StoredRows) (f : StoredFunction) → IsStored rows f → range_of rows f ≡ rows_bytes (stored_in rows f).rows
unfolding stored_in
range_spelled rows f h = h.spelled.rows

pub range_length : (rows : StoredRows) (f : StoredFunction) → IsStored rows f → length (range_of rows f) ≡ rows_len (stored_in rows f).rows
range_length rows f h = ap length (range_spelled rows f h) ∙ length-rows (stored_in rows f).rows

pub both : (a b : Bool) → IsTrue a → IsTrue b → IsTrue (a && b)
both true b e g = g
both false b e g = e

-- the numbers of all stored functions fit
pub all_rows_fit : (rows : StoredRows) (fs : List StoredFunction) → All (IsStored rows) fs → IsTrue (list_all rows_fit (map (stored_in rows) fs))
unfolding stored_in
all_rows_fit rows [] h = refl
all_rows_fit rows (f ∷ fs) h =
    both (rows_fit (stored_in rows f)) (list_all rows_fit (map (stored_in rows) fs)) (All-head (IsStored rows) f fs h).spelled.offsets_fit (all_rows_fit rows fs (All-tail (IsStored rows) f fs h))
