-- What is written of stored functions is what is written of the functions.
use Rattle.std.proofs.Common.{◌≡◌, ◌+◌, ◌*◌, ℕ, Option, Some, List, [], ◌∷◌, ◌++◌, length, refl, sym, ap, ◌∙◌, arith}
use Rattle.std.specs.Prelude.{All, map, if◌then◌else◌}
use Rattle.std.specs.List.{flat_map}
use Rattle.std.proofs.lemmas.List.{length-map}
use Rattle.sf_model.specs.declared.machine.Arch.{Arch}
use Rattle.sf_model.specs.declared.function.Func.{Func}
use Rattle.sf_model.specs.declared.function.FuncHead.{FuncHead}
use Rattle.sf_model.specs.Table.{row_count}
use Rattle.sf_decode.specs.View.{head_of}
use Rattle.sf_write.specs.declared.stored.StoredRows.{StoredRows}
use Rattle.sf_write.specs.declared.stored.StoredFunction.{StoredFunction}
use Rattle.sf_write.specs.Row.{rows_bytes, start_width}
use Rattle.sf_write.specs.Stored.{IsStored, stored_count, stored_in, stored_len}
use Rattle.sf_write.proofs.StoredEntries.{count_is, counts, here, later, len_is, lens, start_is}
use Rattle.sf_write.proofs.StoredFunctions.{StoredSays, stored_says}
use Rattle.sf3_write.specs.Attributes.{attributes_bytes, data_bytes}
use Rattle.sf3_write.specs.Entry.{data_len, entries_bytes, entry_bytes}
use Rattle.sf3_write.specs.Rows.{are_few, first_with_too_many_rows}
use Rattle.sf3_write.specs.Section.{data_section_len, header_bytes, section_bytes}
use Rattle.sf3_write.specs.Stored.{first_stored_with_too_many_rows, stored_entries}

size_is : (rows : StoredRows) (f : StoredFunction) → IsStored rows f → f.head.size ≡ (stored_in rows f).size
size_is rows f h = ap (λ (x : FuncHead). x.size) (stored_says rows f h).head

pub entries : (rows : StoredRows) (at number place : ℕ) (fs : List StoredFunction) → All (IsStored rows) fs → stored_entries at number place fs ≡ entries_bytes at number place (map (stored_in rows) fs)
entries rows at number place [] h = refl
entries rows at number place (f ∷ fs) h =
    let func : Func = stored_in rows f in
    let own = here rows f fs h in
    let one : entry_bytes at number place f.head.start f.head.size ≡ entry_bytes at number place func.start func.size =
    ap (λ (n : ℕ). entry_bytes at number place n f.head.size) (start_is rows f own) ∙ ap (entry_bytes at number place func.start) (size_is rows f own) in
    let more : stored_entries at (number + 1) (place + (5 + f.len)) fs ≡ entries_bytes at (number + 1) (place + data_len func) (map (stored_in rows) fs) =
    ap (λ (n : ℕ). stored_entries at (number + 1) (place + (5 + n)) fs) (len_is rows f own)
    ∙ entries rows at (number + 1) (place + data_len func) fs (later rows f fs h) in
    ap (λ (l : List ℕ). l ++ stored_entries at (number + 1) (place + (5 + f.len)) fs) one
    ∙ ap (λ (l : List ℕ). entry_bytes at number place func.start func.size ++ l) more

pub too_many : (rows : StoredRows) (fs : List StoredFunction) → All (IsStored rows) fs → first_stored_with_too_many_rows fs ≡ first_with_too_many_rows (map (stored_in rows) fs)
too_many rows [] h = refl
too_many rows (f ∷ fs) h =
    let func : Func = stored_in rows f in
    let own = here rows f fs h in
    ap (λ (n : ℕ). if are_few n then first_stored_with_too_many_rows fs else Some f.head.start) (count_is rows f own)
    ∙ (ap (λ (n : ℕ). if are_few (length func.rows) then first_stored_with_too_many_rows fs else Some n) (start_is rows f own)
    ∙ ap (λ (o : Option ℕ). if are_few (length func.rows) then o else Some func.start) (too_many rows fs (later rows f fs h)))

-- the data of a function that is stored
pub data_of : (rows : StoredRows) (f : StoredFunction) (range : List ℕ) → IsStored rows f → range ≡ rows_bytes (stored_in rows f).rows → attributes_bytes f.width f.head ++ range ≡ data_bytes (stored_in rows f)
unfolding data_bytes
data_of rows f range h e =
    let says : StoredSays f (stored_in rows f) = stored_says rows f h in
    ap (λ (w : ℕ). attributes_bytes w f.head ++ range) says.width
    ∙ (ap (λ (x : FuncHead). attributes_bytes (start_width (stored_in rows f).rows) x ++ range) says.head
    ∙ ap (λ (l : List ℕ). attributes_bytes (start_width (stored_in rows f).rows) (head_of (stored_in rows f)) ++ l) e)

-- the header, the entries and the data of stored functions are a section of the functions
pub joined : (arch : Arch) (at : ℕ) (rows : StoredRows) (fs : List StoredFunction) (count total len : ℕ) (empty header with_entries all : List ℕ) → All (IsStored rows) fs → count ≡ length fs → total ≡ stored_count fs → len ≡ 5 * length fs + stored_len fs
    → empty ≡ [] → header ≡ empty ++ header_bytes arch count total len → with_entries ≡ header ++ stored_entries at 0 0 fs
    → all ≡ with_entries ++ flat_map data_bytes (map (stored_in rows) fs) → all ≡ section_bytes arch at (map (stored_in rows) fs)
unfolding section_bytes
joined arch at rows fs count total len empty header with_entries all h count_is total_is len_is none header_is entries_are all_is =
    let functions : List Func = map (stored_in rows) fs in
    let front : List ℕ = header_bytes arch (length functions) (row_count functions) (data_section_len functions) in
    let as_many : length functions ≡ length fs = length-map fs (stored_in rows) in
    let long : len ≡ data_section_len functions = omega (len_is, lens rows fs h, as_many, arith) in
    let first : header ≡ front =
    header_is
    ∙ (ap (λ (l : List ℕ). l ++ header_bytes arch count total len) none
    ∙ (ap (λ (n : ℕ). header_bytes arch n total len) (count_is ∙ sym as_many)
    ∙ (ap (λ (n : ℕ). header_bytes arch (length functions) n len) (total_is ∙ counts rows fs h)
    ∙ ap (header_bytes arch (length functions) (row_count functions)) long))) in
    let second : with_entries ≡ front ++ entries_bytes at 0 0 functions =
    entries_are ∙ (ap (λ (l : List ℕ). l ++ stored_entries at 0 0 fs) first ∙ ap (λ (l : List ℕ). front ++ l) (entries rows at 0 0 fs h)) in
    all_is ∙ ap (λ (l : List ℕ). l ++ flat_map data_bytes functions) second
