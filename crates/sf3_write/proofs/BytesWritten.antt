-- Each number that is written is a byte.
use Rattle.std.specs.Int.{byte_at, bytes_low_first}
use Rattle.std.specs.List.{flat_map, list_all}
use Rattle.std.proofs.Common.{◌≡◌, ◌<◌, ◌+◌, ◌*◌, ◌/◌, ◌%◌, ◌^◌, ℕ, zero, suc, Bool, true, false, IsTrue, List, [], ◌∷◌, ◌++◌, All, length, refl, sym, subst, arith, nat_lt, slice_index}
use Rattle.std.proofs.lemmas.Grind.{get_or_default_zero}
use Rattle.std.proofs.lemmas.List.{get_or_past}
use Rattle.std.proofs.lemmas.List.Concat.{flat_map-cons}
use Rattle.std.proofs.lemmas.List.Elements.{All-append, All-cons, All-nil}
use Rattle.byteorder.specs.Endian.{little_bytes}
use Rattle.sf_model.specs.declared.machine.Arch.{Arch}
use Rattle.sf_model.specs.declared.machine.Arch.TheVariants.{Amd64, Aarch64}
use Rattle.sf_model.specs.declared.function.Func.{Func}
use Rattle.sf_model.specs.Section.{AreBytes}
use Rattle.sf_model.specs.Table.{row_count}
use Rattle.sf_model.specs.Tight.{last_start}
use Rattle.sf_model.specs.Width.{holds_unsigned}
use Rattle.sf_model.proofs.BytesDetermined.{not_below}
use Rattle.sf_model.proofs.RowNumbers.{below_if}
use Rattle.sf_decode.specs.View.{head_of}
use Rattle.sf_write.specs.Entry.{entry_info, repeat_size}
use Rattle.sf_write.specs.Number.{word_bytes}
use Rattle.sf_write.specs.Room.{entry_fits, head_fits}
use Rattle.sf_write.specs.Row.{rows_bytes, start_width}
use Rattle.sf_write.proofs.BytesWritten.{rows_are_bytes}
use Rattle.sf_write.proofs.EntryWritten.{info_parts}
use Rattle.sf_write.proofs.RowsWritten.{first_of, second_of, least_is_there}
use Rattle.sf3_model.proofs.TableSame.{key_small, shape_small}
use Rattle.sf3_write.specs.Attributes.{attributes_bytes, data_bytes}
use Rattle.sf3_write.specs.Entry.{data_len, distance_from, entries_bytes, entry_bytes, field_address, long_bytes}
use Rattle.sf3_write.specs.Section.{data_section_len, header_bytes, preamble, section_bytes}

abbrev IsByte : ℕ → Type 0
IsByte n = n < 256

-- ---- element by element, or by index
at_index : (bytes : List ℕ) → All IsByte bytes → (k : ℕ) (t : Bool) → nat_lt k (length bytes) ≡ t → slice_index bytes k < 256
at_index bytes h k true e = h k 0 (below_if k (length bytes) e)
at_index bytes h k false e = let past = get_or_past bytes k 0 (not_below k (length bytes) e) in omega (past, arith)

by_index : (bytes : List ℕ) → All IsByte bytes → AreBytes bytes
by_index bytes h k = at_index bytes h k (nat_lt k (length bytes)) refl

by_element : (bytes : List ℕ) → AreBytes bytes → All IsByte bytes
by_element bytes h = λ k d lt. subst IsByte (sym (get_or_default_zero bytes k d lt)) (h k)

-- ---- numbers
left_over : (x : ℕ) → x % 256 < 256
left_over x = omega arith

byte_small : (i x : ℕ) → byte_at i x < 256
byte_small zero x = left_over x
byte_small (suc i) x = left_over (x / 256 ^ suc i)

low : (i n x : ℕ) → All IsByte (bytes_low_first i n x)
low i zero x = All-nil IsByte
low i (suc n) x = All-cons IsByte (byte_at i x) (bytes_low_first (suc i) n x) (byte_small i x) (low (suc i) n x)

word : (n : ℕ) → All IsByte (word_bytes n)
unfolding word_bytes
word n = low 0 4 n

long : (n : ℕ) → All IsByte (long_bytes n)
unfolding long_bytes
long n = low 0 8 n

-- ---- entries
entry : (at number place start size : ℕ) → All IsByte (entry_bytes at number place start size)
unfolding entry_bytes
entry at number place start size =
    let a : List ℕ = long_bytes (distance_from (field_address at number) start) in
    All-append IsByte (a ++ word_bytes size) (word_bytes place) (All-append IsByte a (word_bytes size) (long _) (word size)) (word place)

entries : (at number place : ℕ) (functions : List Func) → All IsByte (entries_bytes at number place functions)
entries at number place [] = All-nil IsByte
entries at number place (f ∷ functions) =
    All-append IsByte (entry_bytes at number place f.start f.size) (entries_bytes at (number + 1) (place + data_len f) functions) (entry at number place f.start f.size)
    (entries at (number + 1) (place + data_len f) functions)

-- ---- data
info_small : (f : Func) → entry_info (start_width f.rows) (head_of f) < 256
info_small f =
    let parts = info_parts f in
    let w = least_is_there (holds_unsigned (last_start f.rows)) in
    let s = shape_small f.shape in
    let k = key_small f.key in
    omega (parts, w, s, k, arith)

repeat_small : (f : Func) → IsTrue (entry_fits f) → repeat_size f.shape < 256
unfolding entry_fits head_fits
repeat_small f h =
    below_if (repeat_size f.shape) 256
    (second_of (nat_lt f.size 4294967296) (nat_lt (repeat_size f.shape) 256) (first_of (head_fits (head_of f)) (holds_unsigned (last_start f.rows) (start_width f.rows)) h))

attributes : (f : Func) → IsTrue (entry_fits f) → All IsByte (attributes_bytes (start_width f.rows) (head_of f))
unfolding attributes_bytes
attributes f h =
    let info : ℕ = entry_info (start_width f.rows) (head_of f) in
    let repeat : ℕ = repeat_size f.shape in
    All-append IsByte (little_bytes 2 (length f.rows)) (info ∷ 0 ∷ repeat ∷ []) (low 0 2 (length f.rows))
    (All-cons IsByte info (0 ∷ repeat ∷ []) (info_small f) (All-cons IsByte 0 (repeat ∷ []) (omega arith) (All-cons IsByte repeat [] (repeat_small f h) (All-nil IsByte))))

of_data : (f : Func) → IsTrue (entry_fits f) → All IsByte (data_bytes f)
unfolding data_bytes
of_data f h = All-append IsByte (attributes_bytes (start_width f.rows) (head_of f)) (rows_bytes f.rows) (attributes f h) (by_element (rows_bytes f.rows) (rows_are_bytes f.rows))

all_data : (functions : List Func) → IsTrue (list_all entry_fits functions) → All IsByte (flat_map data_bytes functions)
all_data [] h = All-nil IsByte
all_data (f ∷ functions) h =
    subst (All IsByte) (sym (flat_map-cons data_bytes f functions))
    (All-append IsByte (data_bytes f) (flat_map data_bytes functions) (of_data f (first_of (entry_fits f) (list_all entry_fits functions) h))
    (all_data functions (second_of (entry_fits f) (list_all entry_fits functions) h)))

-- ---- a section
small : (bytes : List ℕ) → IsTrue (list_all (λ n. nat_lt n 256) bytes) → All IsByte bytes
small [] h = All-nil IsByte
small (n ∷ bytes) h =
    All-cons IsByte n bytes (below_if n 256 (first_of (nat_lt n 256) (list_all (λ m. nat_lt m 256) bytes) h)) (small bytes (second_of (nat_lt n 256) (list_all (λ m. nat_lt m 256) bytes) h))

first_bytes : (arch : Arch) → All IsByte (preamble arch)
unfolding preamble
first_bytes Amd64 = small (preamble Amd64) refl
first_bytes Aarch64 = small (preamble Aarch64) refl

header : (arch : Arch) (functions rows len : ℕ) → All IsByte (header_bytes arch functions rows len)
unfolding header_bytes
header arch functions rows len =
    let a : List ℕ = preamble arch in
    let b : List ℕ = a ++ word_bytes functions in
    let c : List ℕ = b ++ word_bytes rows in
    let d : List ℕ = c ++ word_bytes len in
    let e : List ℕ = d ++ word_bytes 0 in
    All-append IsByte e (word_bytes (16 * functions))
    (All-append IsByte d (word_bytes 0) (All-append IsByte c (word_bytes len) (All-append IsByte b (word_bytes rows) (All-append IsByte a (word_bytes functions) (first_bytes arch) (word functions)) (word rows)) (word len)) (word 0)) (word (16 * functions))

pub section_is_bytes : (arch : Arch) (at : ℕ) (functions : List Func) → IsTrue (list_all entry_fits functions) → AreBytes (section_bytes arch at functions)
unfolding section_bytes
section_is_bytes arch at functions h =
    let front : List ℕ = header_bytes arch (length functions) (row_count functions) (data_section_len functions) in
    by_index (section_bytes arch at functions)
    (All-append IsByte (front ++ entries_bytes at 0 0 functions) (flat_map data_bytes functions) (All-append IsByte front (entries_bytes at 0 0 functions) (header arch _ _ _) (entries at 0 0 functions)) (all_data functions h))
