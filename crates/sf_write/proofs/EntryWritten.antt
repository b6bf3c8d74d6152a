-- A function descriptor entry that is written describes its function.
use Rattle.std.proofs.Common.{◌≡◌, ◌≤◌, ◌<◌, ℕ, ℤ, zero, suc, pos, ◌+◌, ◌*◌, ◌/◌, ◌%◌, ◌-ℤ◌, true, IsTrue, List, [], ◌∷◌, ◌++◌, length, drop, slice_index, refl, ap, sym, ◌∙◌, arith, nat_lt}
use Rattle.std.proofs.lemmas.List.{append_assoc}
use Rattle.byteorder.specs.Endian.{twos_complement}
use Rattle.sf_model.specs.declared.machine.Arch.{Arch}
use Rattle.sf_model.specs.declared.function.Shape.{Shape}
use Rattle.sf_model.specs.declared.function.Shape.TheVariants.{Plain, Repeat}
use Rattle.sf_model.specs.declared.function.Func.{Func}
use Rattle.sf_model.specs.Function.{shape_fits, IsWritable}
use Rattle.sf_model.specs.Width.{holds_unsigned, holds_signed}
use Rattle.sf_model.specs.Section.{number_in, shape_number, key_number, start_width_at, row_offset_at, IsRepeatSize, EntryStands}
use Rattle.sf_model.specs.Tight.{last_start, IsZeroIfPlain}
use Rattle.sf_model.proofs.RowNumbers.{below_if}
use Rattle.sf_write.specs.Number.{word_bytes, signed_word_bytes}
use Rattle.sf_decode.specs.View.{head_of}
use Rattle.sf_write.specs.Room.{entry_fits, head_fits}
use Rattle.sf_write.specs.Row.{start_width}
use Rattle.sf_write.specs.Reach.{start_distance, is_in_reach}
use Rattle.sf_write.specs.Entry.{entry_info, entry_bytes, repeat_size}
use Rattle.sf_write.proofs.Lengths.{length-word, length-signed_word}
use Rattle.sf_write.proofs.Places.{after, byte_at, number_at, word_at, signed_word_at, counted_from}
use Rattle.sf_write.proofs.RowsWritten.{first_of, second_of, least_is_there}

apart : (a b c d e t : List ℕ) → (a ++ b ++ c ++ d ++ e) ++ t ≡ a ++ (b ++ (c ++ (d ++ (e ++ t))))
apart a b c d e t =
    append_assoc (a ++ b ++ c ++ d) e t ∙ (append_assoc (a ++ b ++ c) d (e ++ t) ∙ (append_assoc (a ++ b) c (d ++ (e ++ t)) ∙ append_assoc a b (c ++ (d ++ (e ++ t)))))

-- what follows a run of four bytes
pub after_word : (bytes : List ℕ) (place next : ℕ) (run tail : List ℕ) → drop place bytes ≡ run ++ tail → length run ≡ 4 → place + 4 ≡ next → drop next bytes ≡ tail
after_word bytes place next run tail h len e = ap (λ k. drop k bytes) (sym e) ∙ after bytes place 4 run tail h len

pub byte_in : (bytes tail : List ℕ) (place next k x : ℕ) → drop place bytes ≡ tail → slice_index tail k ≡ x → place + k ≡ next → slice_index bytes next ≡ x
byte_in bytes tail place next k x h s e = ap (slice_index bytes) (sym e) ∙ (byte_at bytes tail place k h ∙ s)

-- the numbers of an entry at a place
pub record EntryReads (bytes : List ℕ) (z : ℤ) (place size offset count info repeat : ℕ) : Type 0 where
  pub start : twos_complement 4 (number_in 4 place bytes) ≡ z
  pub size_is : number_in 4 (place + 4) bytes ≡ size
  pub offset_is : number_in 4 (place + 8) bytes ≡ offset
  pub count_is : number_in 4 (place + 12) bytes ≡ count
  pub info_is : slice_index bytes (place + 16) ≡ info
  pub repeat_is : slice_index bytes (place + 17) ≡ repeat
  pub padding : number_in 2 (place + 18) bytes ≡ 0

plus_two : (place : ℕ) → place + 18 ≡ place + 16 + 2
plus_two place = omega arith

zeros : (t : List ℕ) → number_in 2 0 (0 ∷ 0 ∷ t) ≡ 0
zeros t = refl

reads : (bytes : List ℕ) (z : ℤ) (place size offset count info repeat : ℕ) (tail : List ℕ) → IsTrue (holds_signed z 2) → size < 4294967296 → offset < 4294967296 → count < 4294967296
    → drop place bytes ≡ (signed_word_bytes z ++ word_bytes size ++ word_bytes offset ++ word_bytes count ++ (info ∷ repeat ∷ 0 ∷ 0 ∷ [])) ++ tail
    → EntryReads bytes z place size offset count info repeat
reads bytes z place size offset count info repeat tail held small low few h =
    let a : List ℕ = signed_word_bytes z in
    let b : List ℕ = word_bytes size in
    let c : List ℕ = word_bytes offset in
    let d : List ℕ = word_bytes count in
    let e : List ℕ = info ∷ repeat ∷ 0 ∷ 0 ∷ tail in
    let at_0 : drop place bytes ≡ a ++ (b ++ (c ++ (d ++ e))) = h ∙ apart a b c d (info ∷ repeat ∷ 0 ∷ 0 ∷ []) tail in
    let at_4 : drop (place + 4) bytes ≡ b ++ (c ++ (d ++ e)) = after bytes place 4 a (b ++ (c ++ (d ++ e))) at_0 (length-signed_word z) in
    let at_8 : drop (place + 8) bytes ≡ c ++ (d ++ e) = after_word bytes (place + 4) (place + 8) b (c ++ (d ++ e)) at_4 (length-word size) (omega arith) in
    let at_12 : drop (place + 12) bytes ≡ d ++ e = after_word bytes (place + 8) (place + 12) c (d ++ e) at_8 (length-word offset) (omega arith) in
    let at_16 : drop (place + 16) bytes ≡ e = after_word bytes (place + 12) (place + 16) d e at_12 (length-word count) (omega arith) in
    let at_18 : drop (place + 18) bytes ≡ 0 ∷ 0 ∷ tail =
    ap (λ k. drop k bytes) (plus_two place) ∙ after bytes (place + 16) 2 (info ∷ repeat ∷ []) (0 ∷ 0 ∷ tail) at_16 refl in
    record {
      start = signed_word_at bytes place z (b ++ (c ++ (d ++ e))) at_0 held;
      size_is = word_at bytes (place + 4) size (c ++ (d ++ e)) at_4 small;
      offset_is = word_at bytes (place + 8) offset (d ++ e) at_8 low;
      count_is = word_at bytes (place + 12) count e at_12 few;
      info_is = byte_in bytes e (place + 16) (place + 16) 0 info at_16 refl (omega arith);
      repeat_is = byte_in bytes e (place + 16) (place + 17) 1 repeat at_16 refl (omega arith);
      padding = number_at 2 (place + 18) bytes (0 ∷ 0 ∷ tail) at_18 ∙ zeros tail;
    }

-- the parts of an info byte
pub info_low : (x w s k : ℕ) → x ≡ w + 16 * s + 32 * k → w ≤ 2 → x % 16 ≡ w
info_low x w s k e le = omega (e, le, arith)

pub info_high : (x w s k : ℕ) → x ≡ w + 16 * s + 32 * k → w ≤ 2 → x / 16 ≡ s + 2 * k
info_high x w s k e le = omega (e, le, arith)

pub repeat_stands : (shape : Shape) (byte : ℕ) → byte ≡ repeat_size shape → IsTrue (shape_fits shape) → IsRepeatSize shape byte
repeat_stands Plain byte e h = tt
repeat_stands (Repeat zero) byte e h = absurd (cc)
repeat_stands (Repeat (suc n)) byte e h = (e, omega arith)

pub zero_if_plain : (shape : Shape) (byte : ℕ) → byte ≡ repeat_size shape → IsZeroIfPlain shape byte
zero_if_plain Plain byte e = e
zero_if_plain (Repeat size) byte e = tt

pub size_fits : (f : Func) → IsTrue (entry_fits f) → f.size < 4294967296
unfolding entry_fits head_fits
size_fits f h =
    below_if f.size 4294967296 (first_of (nat_lt f.size 4294967296) (nat_lt (repeat_size f.shape) 256) (first_of (head_fits (head_of f)) (holds_unsigned (last_start f.rows) (start_width f.rows)) h))

pub last_start_fits : (f : Func) → IsTrue (entry_fits f) → IsTrue (holds_unsigned (last_start f.rows) (start_width f.rows))
unfolding entry_fits
last_start_fits f h = second_of (head_fits (head_of f)) (holds_unsigned (last_start f.rows) (start_width f.rows)) h

-- what an entry holds, apart from its function
pub record EntryWritten (arch : Arch) (bytes : List ℕ) (at place offset : ℕ) (f : Func) : Type 0 where
  pub stands : EntryStands arch bytes (at + place) place f
  pub row_offset : row_offset_at bytes place ≡ offset
  pub width : start_width_at bytes place ≡ start_width f.rows
  pub padding : number_in 2 (place + 18) bytes ≡ 0
  pub repeat : IsZeroIfPlain f.shape (slice_index bytes (place + 17))

held_if : (at number start : ℕ) → is_in_reach at number start ≡ true → IsTrue (holds_signed (start_distance at number start) 2)
unfolding is_in_reach
held_if at number start h = h

distance_is : (at number place start : ℕ) → place ≡ 28 + 20 * number → start_distance at number start ≡ pos start -ℤ pos (at + place)
unfolding start_distance
distance_is at number place start e = ap (λ k. pos start -ℤ pos (at + k)) (sym e)

entry_reads : (bytes : List ℕ) (at number place offset : ℕ) (f : Func) (tail : List ℕ) → IsTrue (entry_fits f) → offset < 4294967296 → length f.rows < 4294967296
    → is_in_reach at number f.start ≡ true → drop place bytes ≡ entry_bytes at number offset (start_width f.rows) (head_of f) ++ tail
    → EntryReads bytes (start_distance at number f.start) place f.size offset (length f.rows) (entry_info (start_width f.rows) (head_of f)) (repeat_size f.shape)
unfolding entry_bytes
entry_reads bytes at number place offset f tail fits low few near h =
    reads bytes (start_distance at number f.start) place f.size offset (length f.rows) (entry_info (start_width f.rows) (head_of f)) (repeat_size f.shape) tail
    (held_if at number f.start near) (size_fits f fits) low few h

pub info_parts : (f : Func) → entry_info (start_width f.rows) (head_of f) ≡ start_width f.rows + 16 * shape_number f.shape + 32 * key_number f.key
unfolding entry_info
info_parts f = refl

pub entry_written : (arch : Arch) (bytes : List ℕ) (at number place offset : ℕ) (f : Func) (tail : List ℕ) → IsWritable arch f → IsTrue (entry_fits f) → offset < 4294967296
    → length f.rows < 4294967296 → place ≡ 28 + 20 * number → is_in_reach at number f.start ≡ true → drop place bytes ≡ entry_bytes at number offset (start_width f.rows) (head_of f) ++ tail
    → EntryWritten arch bytes at place offset f
entry_written arch bytes at number place offset f tail writable fits low few e near h =
    let r = entry_reads bytes at number place offset f tail fits low few near h in
    let w : ℕ = start_width f.rows in
    let le : w ≤ 2 = least_is_there (holds_unsigned (last_start f.rows)) in
    let info : slice_index bytes (place + 16) ≡ w + 16 * shape_number f.shape + 32 * key_number f.key = r.info_is ∙ info_parts f in
    let width : start_width_at bytes place ≡ w = info_low (slice_index bytes (place + 16)) w (shape_number f.shape) (key_number f.key) info le in
    let end : f.start + f.size ≤ 18446744073709551616 = writable.end in
    let some : 0 < f.size = writable.size in
    record {
      stands = record {
        start = counted_from f.start (at + place) (twos_complement 4 (number_in 4 place bytes)) (r.start ∙ distance_is at number place f.start e);
        end = end;
        start_below = omega (end, some, arith);
        size = r.size_is;
        row_count = r.count_is;
        start_width = omega (width, le, arith);
        info = info_high (slice_index bytes (place + 16)) w (shape_number f.shape) (key_number f.key) info le;
        repeat_size = repeat_stands f.shape (slice_index bytes (place + 17)) r.repeat_is writable.shape;
        key = writable.key;
        rows_rise = writable.rows_rise;
      };
      row_offset = r.offset_is;
      width = width;
      padding = r.padding;
      repeat = zero_if_plain f.shape (slice_index bytes (place + 17)) r.repeat_is;
    }
