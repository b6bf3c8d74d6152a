-- A section that is written is one of its table, without gaps and with the least widths.
use Rattle.std.proofs.Common.{◌≡◌, ◌≤◌, ◌<◌, ℕ, ◌+◌, ◌*◌, IsTrue, None, List, ◌++◌, length, take, drop, slice_index, refl, ap, sym, subst, ◌∙◌, arith}
use Rattle.std.specs.List.{flat_map, list_all}
use Rattle.std.proofs.lemmas.List.{append_assoc}
use Rattle.std.proofs.Math.Seq.{take-length}
use Rattle.sf_model.specs.declared.machine.Arch.{Arch}
use Rattle.sf_model.specs.declared.function.Func.{Func}
use Rattle.sf_model.specs.Function.{AreWritable}
use Rattle.sf_model.specs.Table.{row_count}
use Rattle.sf_model.specs.Section.{Section, number_in, auxiliary_len, rows_len, functions_offset, rows_offset, rows_place, functions_place, row_bytes_of, abi_number, fixed_return_byte, FunctionsStand}
use Rattle.sf_model.specs.Tight.{Tight, Narrow, WithoutGaps, LeastWidths}
use Rattle.sf_write.specs.Number.{word_bytes}
use Rattle.sf_write.specs.Room.{rows_fit, entry_fits}
use Rattle.sf_write.specs.Row.{rows_bytes}
use Rattle.sf_write.specs.Reach.{first_out_of_reach}
use Rattle.sf_write.specs.Entry.{entries_bytes}
use Rattle.sf_write.specs.Section.{table_of, preamble, header_bytes, section_bytes, row_section_len}
use Rattle.sf_write.proofs.Lengths.{length-word, length-header, length-entries, length-all_rows, length-section}
use Rattle.sf_write.proofs.Places.{after, word_at}
use Rattle.sf_write.proofs.FunctionsWritten.{FunctionsWritten, functions_written}

pub apart : (a b c d e f t : List ℕ) → (a ++ b ++ c ++ d ++ e ++ f) ++ t ≡ a ++ (b ++ (c ++ (d ++ (e ++ (f ++ t)))))
apart a b c d e f t =
    append_assoc (a ++ b ++ c ++ d ++ e) f t ∙ (append_assoc (a ++ b ++ c ++ d) e (f ++ t) ∙ (append_assoc (a ++ b ++ c) d (e ++ (f ++ t))
    ∙ (append_assoc (a ++ b) c (d ++ (e ++ (f ++ t))) ∙ append_assoc a b (c ++ (d ++ (e ++ (f ++ t)))))))

-- the first eight bytes
record PreambleReads (bytes : List ℕ) (arch : Arch) : Type 0 where
  magic : number_in 2 0 bytes ≡ 0xdee2
  version : slice_index bytes 2 ≡ 2
  flags : slice_index bytes 3 ≡ 5
  abi : slice_index bytes 4 ≡ abi_number arch
  fixed_frame_pointer : slice_index bytes 5 ≡ 0
  fixed_return : slice_index bytes 6 ≡ fixed_return_byte arch
  no_auxiliary_header : slice_index bytes 7 ≡ 0

preamble_reads : (bytes tail : List ℕ) (arch : Arch) → bytes ≡ preamble arch ++ tail → PreambleReads bytes arch
unfolding preamble
preamble_reads bytes tail arch h = record {
  magic = ap (number_in 2 0) h;
  version = ap (λ l. slice_index l 2) h;
  flags = ap (λ l. slice_index l 3) h;
  abi = ap (λ l. slice_index l 4) h;
  fixed_frame_pointer = ap (λ l. slice_index l 5) h;
  fixed_return = ap (λ l. slice_index l 6) h;
  no_auxiliary_header = ap (λ l. slice_index l 7) h;
}

-- the five words after them
record WordsRead (bytes : List ℕ) (functions rows len : ℕ) : Type 0 where
  functions_is : number_in 4 8 bytes ≡ functions
  rows_is : number_in 4 12 bytes ≡ rows
  len_is : number_in 4 16 bytes ≡ len
  functions_first : number_in 4 20 bytes ≡ 0
  rows_next : number_in 4 24 bytes ≡ 20 * functions

record HeaderReads (bytes : List ℕ) (arch : Arch) (functions rows len : ℕ) : Type 0 where
  first : PreambleReads bytes arch
  words : WordsRead bytes functions rows len

length-preamble : (arch : Arch) → length (preamble arch) ≡ 8
unfolding preamble
length-preamble arch = refl

header_reads : (bytes tail : List ℕ) (arch : Arch) (functions rows len : ℕ) → functions ≤ 2097152 → rows ≤ 16777216 → len < 4294967296
    → bytes ≡ header_bytes arch functions rows len ++ tail → HeaderReads bytes arch functions rows len
unfolding header_bytes
header_reads bytes tail arch functions rows len few some small h =
    let a : List ℕ = preamble arch in
    let b : List ℕ = word_bytes functions in
    let c : List ℕ = word_bytes rows in
    let d : List ℕ = word_bytes len in
    let e : List ℕ = word_bytes 0 in
    let f : List ℕ = word_bytes (20 * functions) in
    let at_0 : bytes ≡ a ++ (b ++ (c ++ (d ++ (e ++ (f ++ tail))))) = h ∙ apart a b c d e f tail in
    let at_8 : drop 8 bytes ≡ b ++ (c ++ (d ++ (e ++ (f ++ tail)))) = after bytes 0 8 a (b ++ (c ++ (d ++ (e ++ (f ++ tail))))) at_0 (length-preamble arch) in
    let at_12 : drop 12 bytes ≡ c ++ (d ++ (e ++ (f ++ tail))) = after bytes 8 4 b (c ++ (d ++ (e ++ (f ++ tail)))) at_8 (length-word functions) in
    let at_16 : drop 16 bytes ≡ d ++ (e ++ (f ++ tail)) = after bytes 12 4 c (d ++ (e ++ (f ++ tail))) at_12 (length-word rows) in
    let at_20 : drop 20 bytes ≡ e ++ (f ++ tail) = after bytes 16 4 d (e ++ (f ++ tail)) at_16 (length-word len) in
    let at_24 : drop 24 bytes ≡ f ++ tail = after bytes 20 4 e (f ++ tail) at_20 (length-word 0) in
    record {
      first = preamble_reads bytes (b ++ (c ++ (d ++ (e ++ (f ++ tail))))) arch at_0;
      words = record {
        functions_is = word_at bytes 8 functions (c ++ (d ++ (e ++ (f ++ tail)))) at_8 (omega (few, arith));
        rows_is = word_at bytes 12 rows (d ++ (e ++ (f ++ tail))) at_12 (omega (some, arith));
        len_is = word_at bytes 16 len (e ++ (f ++ tail)) at_16 small;
        functions_first = word_at bytes 20 0 (f ++ tail) at_20 (omega arith);
        rows_next = word_at bytes 24 (20 * functions) tail at_24 (omega (few, arith));
      };
    }

-- the parts of a section after its header
record PartsRead (bytes : List ℕ) (at : ℕ) (functions : List Func) : Type 0 where
  entries : drop 28 bytes ≡ entries_bytes at 0 0 functions ++ flat_map (λ (f : Func). rows_bytes f.rows) functions
  rows : drop (28 + 20 * length functions) bytes ≡ flat_map (λ (f : Func). rows_bytes f.rows) functions

pub three_apart : (a b c : List ℕ) → a ++ b ++ c ≡ a ++ (b ++ c)
three_apart a b c = append_assoc a b c

section_is : (arch : Arch) (at : ℕ) (functions : List Func) →
    section_bytes arch at functions ≡ header_bytes arch (length functions) (row_count functions) (row_section_len functions)
    ++ (entries_bytes at 0 0 functions ++ flat_map (λ (f : Func). rows_bytes f.rows) functions)
unfolding section_bytes
section_is arch at functions =
    three_apart (header_bytes arch (length functions) (row_count functions) (row_section_len functions)) (entries_bytes at 0 0 functions) (flat_map (λ (f : Func). rows_bytes f.rows) functions)

parts_read : (arch : Arch) (bytes : List ℕ) (at : ℕ) (functions : List Func) → bytes ≡ section_bytes arch at functions → PartsRead bytes at functions
parts_read arch bytes at functions h =
    let header : List ℕ = header_bytes arch (length functions) (row_count functions) (row_section_len functions) in
    let entries : List ℕ = entries_bytes at 0 0 functions in
    let rows : List ℕ = flat_map (λ (f : Func). rows_bytes f.rows) functions in
    let at_28 : drop 28 bytes ≡ entries ++ rows =
    after bytes 0 28 header (entries ++ rows) (h ∙ section_is arch at functions) (length-header arch (length functions) (row_count functions) (row_section_len functions)) in
    record { entries = at_28; rows = after bytes 28 (20 * length functions) entries rows at_28 (length-entries at 0 0 functions) }

-- the bytes of a section that holds such functions
pub record SectionWritten (arch : Arch) (bytes : List ℕ) (at : ℕ) (functions : List Func) : Type 0 where
  pub tight : Tight bytes at (table_of arch functions)
  pub narrow : Narrow bytes (table_of arch functions)

pub section_written : (arch : Arch) (bytes : List ℕ) (at : ℕ) (functions : List Func) → AreWritable arch functions → IsTrue (list_all entry_fits functions) → IsTrue (list_all rows_fit functions)
    → first_out_of_reach at 0 functions ≡ None → row_section_len functions ≤ 285212672 → bytes ≡ section_bytes arch at functions → SectionWritten arch bytes at functions
section_written arch bytes at functions writable fits room near most h =
    let n : ℕ = length functions in
    let len : ℕ = row_section_len functions in
    let few : n ≤ 2097152 = writable.count in
    let some : row_count functions ≤ 16777216 = writable.row_count in
    let rows : List ℕ = flat_map (λ (f : Func). rows_bytes f.rows) functions in
    let reads = header_reads bytes (entries_bytes at 0 0 functions ++ rows) arch n (row_count functions) len few some (omega (most, arith)) (h ∙ section_is arch at functions) in
    let parts : PartsRead bytes at functions = parts_read arch bytes at functions h in
    let whole : length bytes ≡ 28 + 20 * n + len = ap length h ∙ length-section arch at functions in
    let none : auxiliary_len bytes ≡ 0 = reads.first.no_auxiliary_header in
    let zero_offset : functions_offset bytes ≡ 0 = reads.words.functions_first in
    let row_offset : rows_offset bytes ≡ 20 * n = reads.words.rows_next in
    let rows_len_is : rows_len bytes ≡ len = reads.words.len_is in
    let first : functions_place bytes ≡ 28 = omega (none, zero_offset, arith) in
    let next : rows_place bytes ≡ 28 + 20 * n = omega (none, row_offset, arith) in
    let cut : row_bytes_of bytes ≡ rows =
    ap (λ k. take k (drop (rows_place bytes) bytes)) (rows_len_is ∙ sym (length-all_rows functions))
    ∙ (ap (λ k. take (length rows) (drop k bytes)) next ∙ (ap (take (length rows)) parts.rows ∙ take-length rows)) in
    let written : FunctionsWritten arch bytes at 28 0 functions =
    functions_written arch bytes at 0 28 0 functions rows writable.each fits room near (omega arith) some (omega (rows_len_is, most, arith)) (omega (rows_len_is, arith)) parts.entries cut in
    let section : Section bytes at (table_of arch functions) = record {
      header = record {
        magic = reads.first.magic;
        version = reads.first.version;
        flags = reads.first.flags;
        flags_known = omega arith;
        abi = reads.first.abi;
        fixed_frame_pointer = reads.first.fixed_frame_pointer;
        fixed_return = reads.first.fixed_return;
        function_count = reads.words.functions_is;
        function_limit = few;
        rows = reads.words.rows_is;
        row_limit = some;
        header_within = omega (none, whole, arith);
        functions_within = omega (first, whole, arith);
        rows_within = omega (next, rows_len_is, whole, arith);
      };
      functions = subst (λ k. FunctionsStand arch bytes 5 at k functions) (sym first) written.stand;
      sorted = λ sorted. writable.apart;
    } in
    record {
      tight = record {
        section = section;
        flags = refl;
        no_auxiliary_header = none;
        functions_first = zero_offset;
        rows_next = row_offset;
        without_gaps = subst (λ k. WithoutGaps arch bytes k 0 functions) (sym first) written.without_gaps;
        nothing_besides = whole ∙ ap (λ k. 28 + 20 * n + k) (sym rows_len_is);
      };
      narrow = subst (λ k. LeastWidths arch bytes k functions) (sym first) written.least;
    }
