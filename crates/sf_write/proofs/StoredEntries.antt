-- What is written of stored functions is what is written of the functions.
use Rattle.std.proofs.Common.{◌≡◌, ◌≤◌, ◌+◌, ℕ, IsTrue, Option, Some, List, [], ◌∷◌, ◌++◌, length, drop, refl, sym, ap, subst, ◌∙◌, arith}
use Rattle.std.specs.Prelude.{All, map, if◌then◌else◌}
use Rattle.std.specs.List.{flat_map, list_all}
use Rattle.std.proofs.lemmas.List.{length-drop, length-map, length-take}
use Rattle.std.proofs.lemmas.List.Elements.{All-head, All-tail}
use Rattle.std.proofs.lemmas.List.Sums.{sum_by-cons}
use Rattle.sf_model.specs.declared.machine.Arch.{Arch}
use Rattle.sf_model.specs.declared.function.Func.{Func}
use Rattle.sf_model.specs.declared.function.FuncHead.{FuncHead}
use Rattle.sf_model.specs.Function.{AreWritable}
use Rattle.sf_model.specs.Table.{row_count}
use Rattle.sf_model.specs.Tight.{last_start}
use Rattle.sf_model.specs.Width.{holds_unsigned}
use Rattle.sf_decode.specs.View.{head_of}
use Rattle.sf_write.specs.declared.stored.StoredRows.{StoredRows}
use Rattle.sf_write.specs.declared.stored.StoredFunction.{StoredFunction}
use Rattle.sf_write.specs.Entry.{entries_bytes, entry_bytes}
use Rattle.sf_write.specs.Reach.{first_out_of_reach, is_in_reach}
use Rattle.sf_write.specs.Room.{entry_fits, head_fits}
use Rattle.sf_write.specs.Row.{rows_bytes, rows_len, start_width}
use Rattle.sf_write.specs.Section.{header_bytes, row_section_len, section_bytes}
use Rattle.sf_write.specs.Stored.{IsStored, HasWidth, first_stored_out_of_reach, range_of, stored_count, stored_entries, stored_fits, stored_in, stored_len}
use Rattle.sf_write.proofs.NumbersFit.{short_functions}
use Rattle.sf_write.proofs.RowsWritten.{first_of, second_of}
use Rattle.sf_write.proofs.StoredFunctions.{StoredSays, both, range_length, stored_says}

abbrev pub All_stored : StoredRows → List StoredFunction → Type 0
All_stored rows fs = All (IsStored rows) fs

pub here : (rows : StoredRows) (f : StoredFunction) (fs : List StoredFunction) → All_stored rows (f ∷ fs) → IsStored rows f
here rows f fs h = All-head (IsStored rows) f fs h

pub later : (rows : StoredRows) (f : StoredFunction) (fs : List StoredFunction) → All_stored rows (f ∷ fs) → All_stored rows fs
later rows f fs h = All-tail (IsStored rows) f fs h

-- the length of the range is that of the function's rows
pub len_is : (rows : StoredRows) (f : StoredFunction) → IsStored rows f → f.len ≡ rows_len (stored_in rows f).rows
len_is rows f h =
    let cut = length-take f.len (drop f.place rows.bytes.items) in
    let left = length-drop f.place rows.bytes.items in
    let within = h.within in
    let whole : f.len ≡ length (range_of rows f) = omega (cut, left, within, arith) in
    whole ∙ range_length rows f h

-- the number of rows in the head is that of the function's rows
pub count_is : (rows : StoredRows) (f : StoredFunction) → IsStored rows f → f.head.rows ≡ length (stored_in rows f).rows
count_is rows f h = ap (λ (x : FuncHead). x.rows) (stored_says rows f h).head

pub start_is : (rows : StoredRows) (f : StoredFunction) → IsStored rows f → f.head.start ≡ (stored_in rows f).start
start_is rows f h = ap (λ (x : FuncHead). x.start) (stored_says rows f h).head

pub counts : (rows : StoredRows) (fs : List StoredFunction) → All (IsStored rows) fs → stored_count fs ≡ row_count (map (stored_in rows) fs)
counts rows [] h = refl
counts rows (f ∷ fs) h =
    let first = count_is rows f (here rows f fs h) in
    let more = counts rows fs (later rows f fs h) in
    let left = sum_by-cons (λ (x : StoredFunction). x.head.rows) f fs in
    let right = sum_by-cons (λ (x : Func). length x.rows) (stored_in rows f) (map (stored_in rows) fs) in
    omega (first, more, left, right, arith)

pub lens : (rows : StoredRows) (fs : List StoredFunction) → All (IsStored rows) fs → stored_len fs ≡ row_section_len (map (stored_in rows) fs)
lens rows [] h = refl
lens rows (f ∷ fs) h =
    let first = len_is rows f (here rows f fs h) in
    let more = lens rows fs (later rows f fs h) in
    let left = sum_by-cons (λ (x : StoredFunction). x.len) f fs in
    let right = sum_by-cons (λ (x : Func). rows_len x.rows) (stored_in rows f) (map (stored_in rows) fs) in
    omega (first, more, left, right, arith)

pub entries : (rows : StoredRows) (at number place : ℕ) (fs : List StoredFunction) → All (IsStored rows) fs → stored_entries at number place fs ≡ entries_bytes at number place (map (stored_in rows) fs)
entries rows at number place [] h = refl
entries rows at number place (f ∷ fs) h =
    let says : StoredSays f (stored_in rows f) = stored_says rows f (here rows f fs h) in
    let one : entry_bytes at number place f.width f.head ≡ entry_bytes at number place (start_width (stored_in rows f).rows) (head_of (stored_in rows f)) =
    ap (λ (w : ℕ). entry_bytes at number place w f.head) says.width ∙ ap (entry_bytes at number place (start_width (stored_in rows f).rows)) says.head in
    let more : stored_entries at (number + 1) (place + f.len) fs ≡ entries_bytes at (number + 1) (place + rows_len (stored_in rows f).rows) (map (stored_in rows) fs) =
    ap (λ (n : ℕ). stored_entries at (number + 1) (place + n) fs) (len_is rows f (here rows f fs h))
    ∙ entries rows at (number + 1) (place + rows_len (stored_in rows f).rows) fs (later rows f fs h) in
    ap (λ (l : List ℕ). l ++ stored_entries at (number + 1) (place + f.len) fs) one
    ∙ ap (λ (l : List ℕ). entry_bytes at number place (start_width (stored_in rows f).rows) (head_of (stored_in rows f)) ++ l) more

pub reach : (rows : StoredRows) (at number : ℕ) (fs : List StoredFunction) → All (IsStored rows) fs → first_stored_out_of_reach at number fs ≡ first_out_of_reach at number (map (stored_in rows) fs)
reach rows at number [] h = refl
reach rows at number (f ∷ fs) h =
    let start = start_is rows f (here rows f fs h) in
    let more = reach rows at (number + 1) fs (later rows f fs h) in
    ap (λ (n : ℕ). if is_in_reach at number n then first_stored_out_of_reach at (number + 1) fs else Some n) start
    ∙ ap (λ (o : Option ℕ). if is_in_reach at number (stored_in rows f).start then o else Some (stored_in rows f).start) more

pub fits : (rows : StoredRows) (fs : List StoredFunction) → All (IsStored rows) fs → IsTrue (list_all stored_fits fs) → IsTrue (list_all entry_fits (map (stored_in rows) fs))
unfolding entry_fits
fits rows [] h e = refl
fits rows (f ∷ fs) h e =
    let says : StoredSays f (stored_in rows f) = stored_says rows f (here rows f fs h) in
    let one : IsTrue (head_fits (head_of (stored_in rows f))) = subst (λ (x : FuncHead). IsTrue (head_fits x)) says.head (first_of (stored_fits f) (list_all stored_fits fs) e) in
    both (entry_fits (stored_in rows f)) (list_all entry_fits (map (stored_in rows) fs))
    (both (head_fits (head_of (stored_in rows f))) (holds_unsigned (last_start (stored_in rows f).rows) (start_width (stored_in rows f).rows)) one says.held)
    (fits rows fs (later rows f fs h) (second_of (stored_fits f) (list_all stored_fits fs) e))

pub widths : (rows : StoredRows) (fs : List StoredFunction) → All (IsStored rows) fs → All HasWidth fs
widths rows fs h k d lt = (stored_says rows _ (h k d lt)).narrow

pub few_rows : (arch : Arch) (rows : StoredRows) (fs : List StoredFunction) → All (IsStored rows) fs → AreWritable arch (map (stored_in rows) fs) → stored_count fs ≤ 16777216
few_rows arch rows fs h writable = let same = counts rows fs h in let few = writable.row_count in omega (same, few, arith)

pub few_bytes : (arch : Arch) (rows : StoredRows) (fs : List StoredFunction) → All (IsStored rows) fs → AreWritable arch (map (stored_in rows) fs) → stored_len fs ≤ 285212672
few_bytes arch rows fs h writable =
    let same = lens rows fs h in
    let short = short_functions (map (stored_in rows) fs) in
    let few = writable.row_count in omega (same, short, few, arith)

pub few_functions : (arch : Arch) (rows : StoredRows) (fs : List StoredFunction) → AreWritable arch (map (stored_in rows) fs) → length fs ≤ 2097152
few_functions arch rows fs writable = let same = length-map fs (stored_in rows) in let few = writable.count in omega (same, few, arith)

-- the header, the entries and the rows of stored functions are a section of the functions
pub joined : (arch : Arch) (at : ℕ) (rows : StoredRows) (fs : List StoredFunction) (total len : ℕ) (empty header with_entries all : List ℕ) → All (IsStored rows) fs → total ≡ stored_count fs → len ≡ stored_len fs
    → empty ≡ [] → header ≡ empty ++ header_bytes arch (length fs) total len → with_entries ≡ header ++ stored_entries at 0 0 fs
    → all ≡ with_entries ++ flat_map (λ (f : Func). rows_bytes f.rows) (map (stored_in rows) fs) → all ≡ section_bytes arch at (map (stored_in rows) fs)
unfolding section_bytes
joined arch at rows fs total len empty header with_entries all h total_is len_is none header_is entries_are all_is =
    let functions : List Func = map (stored_in rows) fs in
    let front : List ℕ = header_bytes arch (length functions) (row_count functions) (row_section_len functions) in
    let count : length fs ≡ length functions = sym (length-map fs (stored_in rows)) in
    let first : header ≡ front =
    header_is
    ∙ (ap (λ (l : List ℕ). l ++ header_bytes arch (length fs) total len) none
    ∙ (ap (λ (n : ℕ). header_bytes arch n total len) count
    ∙ (ap (λ (n : ℕ). header_bytes arch (length functions) n len) (total_is ∙ counts rows fs h)
    ∙ ap (header_bytes arch (length functions) (row_count functions)) (len_is ∙ lens rows fs h)))) in
    let second : with_entries ≡ front ++ entries_bytes at 0 0 functions =
    entries_are ∙ (ap (λ (l : List ℕ). l ++ stored_entries at 0 0 fs) first ∙ ap (λ (l : List ℕ). front ++ l) (entries rows at 0 0 fs h)) in
    all_is ∙ ap (λ (l : List ℕ). l ++ flat_map (λ (f : Func). rows_bytes f.rows) functions) second
