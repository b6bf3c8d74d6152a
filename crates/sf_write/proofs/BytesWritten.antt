-- Each number that is written is a byte.
use Rattle.std.proofs.Common.{◌≤◌, ◌<◌, ℕ, ℤ, zero, suc, ◌+◌, ◌*◌, ◌/◌, ◌%◌, ◌^◌, IsTrue, List, [], ◌∷◌, ◌++◌, length, refl, sym, subst, arith, nat_lt}
use Rattle.std.specs.Int.{byte_at, bytes_low_first}
use Rattle.std.specs.List.{flat_map, list_all}
use Rattle.std.proofs.lemmas.List.Concat.{flat_map-cons}
use Rattle.sf_model.specs.declared.machine.Arch.{Arch}
use Rattle.sf_model.specs.declared.machine.Arch.TheVariants.{Amd64, Aarch64}
use Rattle.sf_model.specs.declared.machine.Key.{Key}
use Rattle.sf_model.specs.declared.machine.Key.TheVariants.{A, B}
use Rattle.sf_model.specs.declared.rows.Row.{Row}
use Rattle.sf_model.specs.declared.function.Shape.{Shape}
use Rattle.sf_model.specs.declared.function.Shape.TheVariants.{Plain, Repeat}
use Rattle.sf_model.specs.declared.function.Func.{Func}
use Rattle.sf_model.specs.Table.{row_count}
use Rattle.sf_model.specs.Width.{width_len, signed_bytes, unsigned_bytes, holds_unsigned}
use Rattle.sf_model.specs.RowBytes.{base_number, signed_number, row_offsets, holds_row_offsets, row_info_byte, spelled_row}
use Rattle.sf_model.specs.Section.{AreBytes, shape_number, key_number}
use Rattle.sf_model.specs.Tight.{last_start}
use Rattle.sf_model.proofs.RowNumbers.{below_if}
use Rattle.sf_model.proofs.RowsSame.{base_small, sign_small, few_offsets}
use Rattle.sf_sizes.specs.RowLength.{offset_width}
use Rattle.sf_write.specs.Number.{word_bytes, signed_word_bytes}
use Rattle.sf_decode.specs.View.{head_of}
use Rattle.sf_write.specs.Room.{entry_fits, head_fits}
use Rattle.sf_write.specs.Row.{narrow_row, start_width, rows_bytes, rows_len}
use Rattle.sf_write.specs.Reach.{start_distance}
use Rattle.sf_write.specs.Entry.{entry_info, entry_bytes, entries_bytes, repeat_size}
use Rattle.sf_write.specs.Section.{preamble, header_bytes, section_bytes, row_section_len}
use Rattle.sf_write.proofs.RowsWritten.{first_of, second_of, least_is_there}

none : AreBytes []
none zero = omega arith
none (suc k) = omega arith

cons : (x : ℕ) (xs : List ℕ) → x < 256 → AreBytes xs → AreBytes (x ∷ xs)
cons x xs h hs zero = h
cons x xs h hs (suc k) = hs k

both : (xs ys : List ℕ) → AreBytes xs → AreBytes ys → AreBytes (xs ++ ys)
both [] ys a b = b
both (x ∷ xs) ys a b = cons x (xs ++ ys) (a 0) (both xs ys (λ k. a (suc k)) b)

below : (xs : List ℕ) → IsTrue (list_all (λ x. nat_lt x 256) xs) → AreBytes xs
below [] h = none
below (x ∷ xs) h =
    cons x xs (below_if x 256 (first_of (nat_lt x 256) (list_all (λ y. nat_lt y 256) xs) h)) (below xs (second_of (nat_lt x 256) (list_all (λ y. nat_lt y 256) xs) h))

left_over : (x : ℕ) → x % 256 < 256
left_over x = omega arith

byte_small : (i x : ℕ) → byte_at i x < 256
byte_small zero x = omega arith
byte_small (suc i) x = left_over (x / 256 ^ suc i)

low : (i n x : ℕ) → AreBytes (bytes_low_first i n x)
low i zero x = none
low i (suc n) x = cons (byte_at i x) (bytes_low_first (suc i) n x) (byte_small i x) (low (suc i) n x)

word : (n : ℕ) → AreBytes (word_bytes n)
unfolding word_bytes
word n = low 0 4 n

signed_word : (z : ℤ) → AreBytes (signed_word_bytes z)
unfolding signed_word_bytes
signed_word z = low 0 4 _

offsets : (width : ℕ) (zs : List ℤ) → AreBytes (flat_map (signed_bytes width) zs)
offsets width [] = none
offsets width (z ∷ zs) =
    subst AreBytes (sym (flat_map-cons (signed_bytes width) z zs)) (both (signed_bytes width z) (flat_map (signed_bytes width) zs) (low 0 (width_len width) _) (offsets width zs))

info_small : (b n z s : ℕ) → b ≤ 1 → n ≤ 15 → z ≤ 2 → s ≤ 1 → b + 2 * n + 32 * z + 128 * s < 256
info_small b n z s p q r t = omega (p, q, r, t, arith)

row : (width : ℕ) (r : Row) → AreBytes (narrow_row width r)
unfolding spelled_row
row width r =
    let z : ℕ = offset_width r.content in
    let small : row_info_byte z r.content < 256 =
    info_small (base_number r.content.base) (length (row_offsets r.content)) z (signed_number r.content.signed)
    (base_small r.content.base) (few_offsets r.content) (least_is_there (holds_row_offsets r.content)) (sign_small r.content.signed) in
    both (unsigned_bytes width r.start) (row_info_byte z r.content ∷ flat_map (signed_bytes z) (row_offsets r.content)) (low 0 (width_len width) r.start)
    (cons (row_info_byte z r.content) (flat_map (signed_bytes z) (row_offsets r.content)) small (offsets z (row_offsets r.content)))

pub rows_at : (width : ℕ) (rows : List Row) → AreBytes (flat_map (narrow_row width) rows)
rows_at width [] = none
rows_at width (r ∷ rows) =
    subst AreBytes (sym (flat_map-cons (narrow_row width) r rows)) (both (narrow_row width r) (flat_map (narrow_row width) rows) (row width r) (rows_at width rows))

pub rows_are_bytes : (rows : List Row) → AreBytes (rows_bytes rows)
unfolding rows_bytes
rows_are_bytes rows = rows_at (start_width rows) rows

all_rows : (functions : List Func) → AreBytes (flat_map (λ (f : Func). rows_bytes f.rows) functions)
all_rows [] = none
all_rows (f ∷ functions) =
    subst AreBytes (sym (flat_map-cons (λ (g : Func). rows_bytes g.rows) f functions))
    (both (rows_bytes f.rows) (flat_map (λ (g : Func). rows_bytes g.rows) functions) (rows_are_bytes f.rows) (all_rows functions))

shape_small : (shape : Shape) → shape_number shape ≤ 1
shape_small Plain = omega arith
shape_small (Repeat size) = omega arith

key_small : (key : Key) → key_number key ≤ 1
key_small A = omega arith
key_small B = omega arith

entry_info_small : (f : Func) → entry_info (start_width f.rows) (head_of f) < 256
unfolding entry_info
entry_info_small f =
    let w : start_width f.rows ≤ 2 = least_is_there (holds_unsigned (last_start f.rows)) in
    let s : shape_number f.shape ≤ 1 = shape_small f.shape in
    let k : key_number f.key ≤ 1 = key_small f.key in omega (w, s, k, arith)

repeat_small : (f : Func) → IsTrue (entry_fits f) → repeat_size f.shape < 256
unfolding entry_fits head_fits
repeat_small f h =
    below_if (repeat_size f.shape) 256
    (second_of (nat_lt f.size 4294967296) (nat_lt (repeat_size f.shape) 256) (first_of (head_fits (head_of f)) (holds_unsigned (last_start f.rows) (start_width f.rows)) h))

entry : (at number place : ℕ) (f : Func) → IsTrue (entry_fits f) → AreBytes (entry_bytes at number place (start_width f.rows) (head_of f))
unfolding entry_bytes
entry at number place f h =
    both _ (entry_info (start_width f.rows) (head_of f) ∷ repeat_size f.shape ∷ 0 ∷ 0 ∷ [])
    (both _ (word_bytes (length f.rows)) (both _ (word_bytes place) (both (signed_word_bytes (start_distance at number f.start)) (word_bytes f.size) (signed_word _) (word _)) (word _)) (word _))
    (cons (entry_info (start_width f.rows) (head_of f)) (repeat_size f.shape ∷ 0 ∷ 0 ∷ []) (entry_info_small f) (cons (repeat_size f.shape) (0 ∷ 0 ∷ []) (repeat_small f h) (below (0 ∷ 0 ∷ []) refl)))

entries : (at number place : ℕ) (functions : List Func) → IsTrue (list_all entry_fits functions) → AreBytes (entries_bytes at number place functions)
entries at number place [] h = none
entries at number place (f ∷ functions) h =
    both (entry_bytes at number place (start_width f.rows) (head_of f)) (entries_bytes at (number + 1) (place + rows_len f.rows) functions)
    (entry at number place f (first_of (entry_fits f) (list_all entry_fits functions) h))
    (entries at (number + 1) (place + rows_len f.rows) functions (second_of (entry_fits f) (list_all entry_fits functions) h))

first_bytes : (arch : Arch) → AreBytes (preamble arch)
unfolding preamble
first_bytes Amd64 = below (preamble Amd64) refl
first_bytes Aarch64 = below (preamble Aarch64) refl

header : (arch : Arch) (functions rows len : ℕ) → AreBytes (header_bytes arch functions rows len)
unfolding header_bytes
header arch functions rows len =
    both _ (word_bytes (20 * functions)) (both _ (word_bytes 0) (both _ (word_bytes len) (both _ (word_bytes rows) (both (preamble arch) (word_bytes functions) (first_bytes arch) (word _)) (word _)) (word _)) (word _)) (word _)

pub section_is_bytes : (arch : Arch) (at : ℕ) (functions : List Func) → IsTrue (list_all entry_fits functions) → AreBytes (section_bytes arch at functions)
unfolding section_bytes
section_is_bytes arch at functions h =
    both _ (flat_map (λ (f : Func). rows_bytes f.rows) functions)
    (both (header_bytes arch (length functions) (row_count functions) (row_section_len functions)) (entries_bytes at 0 0 functions) (header arch _ _ _) (entries at 0 0 functions h)) (all_rows functions)
