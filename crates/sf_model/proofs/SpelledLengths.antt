-- How long a spelled row is.
use Rattle.std.proofs.Common.{◌≡◌, ℕ, ◌+◌, ◌*◌, ℤ, List, [], ◌∷◌, ◌++◌, length, refl, arith, length-append}
use Rattle.std.specs.Int.{w32, cast_unsigned}
use Rattle.std.specs.List.{flat_map}
use Rattle.byteorder.specs.Numbers.{length-bytes_low_first}
use Rattle.sf_model.specs.declared.rows.Row.{Row}
use Rattle.sf_model.specs.Width.{width_len, unsigned_bytes, signed_bytes}
use Rattle.sf_model.specs.RowBytes.{row_offsets, row_info_byte, spelled_row}

pub length-unsigned : (width n : ℕ) → length (unsigned_bytes width n) ≡ width_len width
length-unsigned width n = length-bytes_low_first 0 (width_len width) n

pub length-signed : (width : ℕ) (z : ℤ) → length (signed_bytes width z) ≡ width_len width
length-signed width z = length-bytes_low_first 0 (width_len width) (cast_unsigned w32 z)

length-offsets : (width len : ℕ) (zs : List ℤ) → width_len width ≡ len → length (flat_map (signed_bytes width) zs) ≡ length zs * len
length-offsets width len [] e = search arith
length-offsets width len (z ∷ zs) e =
    grind (arith, length-append {A = ℕ}, length-signed width z, length-offsets width len zs e)

row-length : (a b c : ℕ) (xs ys : List ℕ) → length xs ≡ a → length ys ≡ b → length (xs ++ c ∷ ys) ≡ a + 1 + b
row-length a b c xs ys e f = grind (arith, length-append {A = ℕ})

-- the start, the info byte and the offsets
pub length-spelled_row : (start_width offset_width : ℕ) (row : Row) →
    length (spelled_row start_width offset_width row) ≡ width_len start_width + 1 + length (row_offsets row.content) * width_len offset_width
unfolding spelled_row
length-spelled_row start_width offset_width row =
    row-length (width_len start_width) (length (row_offsets row.content) * width_len offset_width) (row_info_byte offset_width row.content) _ _
    (length-unsigned start_width row.start) (length-offsets offset_width (width_len offset_width) (row_offsets row.content) refl)
