-- An entry that is written, and the data that it names, describe their function.
use Rattle.std.proofs.Common.{◌≡◌, ◌≤◌, ◌<◌, ℕ, ◌+◌, ◌-◌, ◌*◌, ◌/◌, ◌%◌, List, [], ◌∷◌, ◌++◌, length, drop, slice_index, refl, ap, sym, ◌∙◌, arith, length-append}
use Rattle.std.proofs.lemmas.List.{append_assoc, length-drop}
use Rattle.byteorder.specs.Endian.{little_bytes}
use Rattle.byteorder.specs.Numbers.{little_number-reads_back}
use Rattle.sf_model.specs.declared.machine.Arch.{Arch}
use Rattle.sf_model.specs.declared.function.Func.{Func}
use Rattle.sf_model.specs.Function.{IsWritable}
use Rattle.sf_model.specs.Section.{number_in, shape_number, key_number}
use Rattle.sf_model.specs.Tight.{IsZeroIfPlain, last_start}
use Rattle.sf_model.specs.Width.{holds_unsigned}
use Rattle.sf_decode.specs.View.{head_of}
use Rattle.sf_write.specs.Entry.{entry_info, repeat_size}
use Rattle.sf_write.specs.Number.{word_bytes}
use Rattle.sf_write.specs.Row.{start_width}
use Rattle.sf_write.proofs.EntryWritten.{after_word, byte_in, info_high, info_low, info_parts, repeat_stands, zero_if_plain}
use Rattle.sf_write.proofs.Lengths.{length-word}
use Rattle.sf_write.proofs.Places.{after, number_at, word_at}
use Rattle.sf_write.proofs.RowsWritten.{least_is_there}
use Rattle.sf3_model.specs.Described.{ordinary}
use Rattle.sf3_model.specs.Section.{AttributesStand, EntryStands, data_offset_at, start_width_in}
use Rattle.sf3_write.specs.Attributes.{attributes_bytes}
use Rattle.sf3_write.specs.Entry.{distance_from, entry_bytes, field_address, long_bytes}
use Rattle.sf3_write.proofs.Lengths.{length-long}

three_apart : (a b c t : List ℕ) → (a ++ b ++ c) ++ t ≡ a ++ (b ++ (c ++ t))
three_apart a b c t = append_assoc (a ++ b) c t ∙ append_assoc a b (c ++ t)

-- ---- numbers
long_at : (bytes : List ℕ) (place n : ℕ) (tail : List ℕ) → drop place bytes ≡ long_bytes n ++ tail → n < 18446744073709551616 → number_in 8 place bytes ≡ n
unfolding long_bytes
long_at bytes place n tail h lt = number_at 8 place bytes (little_bytes 8 n ++ tail) h ∙ little_number-reads_back 8 n tail lt

short_at : (bytes : List ℕ) (place n : ℕ) (tail : List ℕ) → drop place bytes ≡ little_bytes 2 n ++ tail → n < 65536 → number_in 2 place bytes ≡ n
short_at bytes place n tail h lt = number_at 2 place bytes (little_bytes 2 n ++ tail) h ∙ little_number-reads_back 2 n tail lt

-- ---- a start, counted from its field
small_distance : (origin start : ℕ) → distance_from origin start < 18446744073709551616
unfolding distance_from
small_distance origin start = omega arith

counted : (x start n : ℕ) → start < 18446744073709551616 → n ≡ (start + 18446744073709551616 - x % 18446744073709551616) % 18446744073709551616 → start ≡ (x + n) % 18446744073709551616
counted x start n lt e = omega (lt, e, arith)

counted_from : (at number place start n : ℕ) → start < 18446744073709551616 → place ≡ 28 + 16 * number → n ≡ distance_from (field_address at number) start → start ≡ (at + place + n) % 18446744073709551616
unfolding distance_from
counted_from at number place start n lt e f =
    let same : at + place ≡ at + (28 + 16 * number) = omega (e, arith) in
    counted (at + place) start n lt (f ∙ ap (λ (x : ℕ). (start + 18446744073709551616 - x % 18446744073709551616) % 18446744073709551616) (sym same))

-- ---- an entry
pub record EntryWritten (bytes : List ℕ) (at place offset : ℕ) (f : Func) : Type 0 where
  pub stands : EntryStands bytes (at + place) place f
  pub offset_is : data_offset_at bytes place ≡ offset

pub entry_written : (bytes : List ℕ) (at number place offset : ℕ) (f : Func) (tail : List ℕ) → f.start < 18446744073709551616 → f.start + f.size ≤ 18446744073709551616 → f.size < 4294967296 → offset < 4294967296
    → place ≡ 28 + 16 * number → drop place bytes ≡ entry_bytes at number offset f.start f.size ++ tail → EntryWritten bytes at place offset f
unfolding entry_bytes
entry_written bytes at number place offset f tail lt end small low e h =
    let n : ℕ = distance_from (field_address at number) f.start in
    let a : List ℕ = long_bytes n in
    let b : List ℕ = word_bytes f.size in
    let c : List ℕ = word_bytes offset in
    let at_0 : drop place bytes ≡ a ++ (b ++ (c ++ tail)) = h ∙ three_apart a b c tail in
    let at_8 : drop (place + 8) bytes ≡ b ++ (c ++ tail) = after bytes place 8 a (b ++ (c ++ tail)) at_0 (length-long n) in
    let at_12 : drop (place + 12) bytes ≡ c ++ tail = after_word bytes (place + 8) (place + 12) b (c ++ tail) at_8 (length-word f.size) (omega arith) in
    record {
      stands = record {
        start = counted_from at number place f.start (number_in 8 place bytes) lt e (long_at bytes place n (b ++ (c ++ tail)) at_0 (small_distance (field_address at number) f.start));
        end = end;
        size = word_at bytes (place + 8) f.size (c ++ tail) at_8 small;
      };
      offset_is = word_at bytes (place + 12) offset tail at_12 low;
    }

-- ---- attributes
pub record AttributesWritten (arch : Arch) (rows : List ℕ) (offset : ℕ) (f : Func) (tail : List ℕ) : Type 0 where
  pub stand : AttributesStand arch rows offset (ordinary f)
  pub width : start_width_in rows offset ≡ start_width f.rows
  pub repeat : IsZeroIfPlain f.shape (slice_index rows (offset + 4))
  pub behind : drop (offset + 5) rows ≡ tail

-- the bytes of the attributes
record AttributesRead (rows : List ℕ) (offset count info repeat : ℕ) (tail : List ℕ) : Type 0 where
  within : offset + 5 ≤ length rows
  count_is : number_in 2 offset rows ≡ count
  info_is : slice_index rows (offset + 2) ≡ info
  type_is : slice_index rows (offset + 3) ≡ 0
  repeat_is : slice_index rows (offset + 4) ≡ repeat
  behind : drop (offset + 5) rows ≡ tail

attributes_read : (rows : List ℕ) (offset count info repeat : ℕ) (tail : List ℕ) → count < 65536 → drop offset rows ≡ (little_bytes 2 count ++ (info ∷ 0 ∷ repeat ∷ [])) ++ tail → AttributesRead rows offset count info repeat tail
attributes_read rows offset count info repeat tail few h =
    let a : List ℕ = little_bytes 2 count in
    let b : List ℕ = info ∷ 0 ∷ repeat ∷ [] in
    let e : List ℕ = info ∷ 0 ∷ repeat ∷ tail in
    let at_0 : drop offset rows ≡ a ++ e = h ∙ append_assoc a b tail in
    let at_2 : drop (offset + 2) rows ≡ e = after rows offset 2 a e at_0 refl in
    let long : length (drop offset rows) ≡ 5 + length tail = ap length at_0 ∙ omega (arith, length-append a e) in
    let cut = length-drop offset rows in
    record {
      within = omega (long, cut, arith);
      count_is = short_at rows offset count e at_0 few;
      info_is = byte_in rows e (offset + 2) (offset + 2) 0 info at_2 refl (omega arith);
      type_is = byte_in rows e (offset + 2) (offset + 3) 1 0 at_2 refl (omega arith);
      repeat_is = byte_in rows e (offset + 2) (offset + 4) 2 repeat at_2 refl (omega arith);
      behind = after rows offset 5 (a ++ b) tail h refl;
    }

head_read : (rows : List ℕ) (offset : ℕ) (f : Func) (tail : List ℕ) → length f.rows < 65536 → drop offset rows ≡ attributes_bytes (start_width f.rows) (head_of f) ++ tail
    → AttributesRead rows offset (length f.rows) (entry_info (start_width f.rows) (head_of f)) (repeat_size f.shape) tail
unfolding attributes_bytes
head_read rows offset f tail few h = attributes_read rows offset (length f.rows) (entry_info (start_width f.rows) (head_of f)) (repeat_size f.shape) tail few h

pub attributes_written : (arch : Arch) (rows : List ℕ) (offset : ℕ) (f : Func) (tail : List ℕ) → IsWritable arch f → length f.rows < 65536 → drop offset rows ≡ attributes_bytes (start_width f.rows) (head_of f) ++ tail
    → AttributesWritten arch rows offset f tail
attributes_written arch rows offset f tail writable few h =
    let r = head_read rows offset f tail few h in
    let w : ℕ = start_width f.rows in
    let le : w ≤ 2 = least_is_there (holds_unsigned (last_start f.rows)) in
    let info : slice_index rows (offset + 2) ≡ w + 16 * shape_number f.shape + 32 * key_number f.key = r.info_is ∙ info_parts f in
    let width : start_width_in rows offset ≡ w = info_low (slice_index rows (offset + 2)) w (shape_number f.shape) (key_number f.key) info le in
    let high : slice_index rows (offset + 2) / 16 ≡ shape_number f.shape + 2 * key_number f.key = info_high (slice_index rows (offset + 2)) w (shape_number f.shape) (key_number f.key) info le in
    record {
      stand = record {
        within = r.within;
        row_count = r.count_is;
        start_width = omega (width, le, arith);
        info = omega (high, arith);
        default_type = r.type_is;
        repeat_size = repeat_stands f.shape (slice_index rows (offset + 4)) r.repeat_is writable.shape;
        key = writable.key;
        rows_rise = writable.rows_rise;
      };
      width = width;
      repeat = zero_if_plain f.shape (slice_index rows (offset + 4)) r.repeat_is;
      behind = r.behind;
    }
