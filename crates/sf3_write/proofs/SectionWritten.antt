-- A section that is written is one of its table, without gaps and with the least widths.
use Rattle.std.proofs.Common.{◌≡◌, ◌≤◌, ◌<◌, ℕ, ◌+◌, ◌*◌, IsTrue, None, List, [], ◌∷◌, ◌++◌, length, get_or, map, take, drop, slice_index, refl, ap, sym, subst, ◌∙◌, arith}
use Rattle.std.specs.List.{flat_map, list_all, AllAdjacentBelow}
use Rattle.std.proofs.lemmas.List.{get_or-map, length-map}
use Rattle.std.proofs.lemmas.List.Sums.{sum_by-cons}
use Rattle.std.proofs.Math.Seq.{take-length}
use Rattle.sf_model.specs.declared.machine.Arch.{Arch}
use Rattle.sf_model.specs.declared.function.Func.{Func}
use Rattle.sf_model.specs.Function.{AreWritable}
use Rattle.sf_model.specs.Table as version_2
use Rattle.sf_model.specs.Section.{number_in, auxiliary_len, rows_len, functions_offset, rows_offset, rows_place, functions_place, row_bytes_of, abi_number, fixed_return_byte}
use Rattle.sf_write.specs.Number.{word_bytes}
use Rattle.sf_write.specs.Room.{rows_fit, entry_fits}
use Rattle.sf_write.proofs.Lengths.{length-word}
use Rattle.sf_write.proofs.Places.{after, word_at}
use Rattle.sf_write.proofs.SectionWritten.{apart, three_apart}
use Rattle.sf_write.specs.Section.{row_section_len}
use Rattle.sf3_model.specs.Described.{Described, ordinary, row_count}
use Rattle.sf3_model.specs.Section.{EndsBy, FunctionsStand, Section}
use Rattle.sf3_write.specs.Attributes.{data_bytes}
use Rattle.sf3_write.specs.Entry.{entries_bytes}
use Rattle.sf3_write.specs.Rows.{first_with_too_many_rows}
use Rattle.sf3_write.specs.Section.{data_section_len, header_bytes, preamble, section_bytes, table_of}
use Rattle.sf3_write.specs.Tight.{Tight, WithoutGaps}
use Rattle.sf3_write.proofs.FunctionsWritten.{FunctionsWritten, functions_written}
use Rattle.sf3_write.proofs.Lengths.{length-all_data, length-entries, length-header, length-preamble, length-section}

-- the first eight bytes
record PreambleReads (bytes : List ℕ) (arch : Arch) : Type 0 where
  magic : number_in 2 0 bytes ≡ 0xdee2
  version : slice_index bytes 2 ≡ 3
  flags : slice_index bytes 3 ≡ 5
  abi : slice_index bytes 4 ≡ abi_number arch
  fixed_frame_pointer : slice_index bytes 5 ≡ 0
  fixed_return : slice_index bytes 6 ≡ fixed_return_byte arch
  no_auxiliary_header : slice_index bytes 7 ≡ 0

preamble_reads : (bytes tail : List ℕ) (arch : Arch) → bytes ≡ preamble arch ++ tail → PreambleReads bytes arch
unfolding preamble
preamble_reads bytes tail arch h = record {
  magic = ap (number_in 2 0) h;
  version = ap (λ l. slice_index l 2) h;
  flags = ap (λ l. slice_index l 3) h;
  abi = ap (λ l. slice_index l 4) h;
  fixed_frame_pointer = ap (λ l. slice_index l 5) h;
  fixed_return = ap (λ l. slice_index l 6) h;
  no_auxiliary_header = ap (λ l. slice_index l 7) h;
}

-- the five words after them
record WordsRead (bytes : List ℕ) (functions rows len : ℕ) : Type 0 where
  functions_is : number_in 4 8 bytes ≡ functions
  rows_is : number_in 4 12 bytes ≡ rows
  len_is : number_in 4 16 bytes ≡ len
  functions_first : number_in 4 20 bytes ≡ 0
  rows_next : number_in 4 24 bytes ≡ 16 * functions

record HeaderReads (bytes : List ℕ) (arch : Arch) (functions rows len : ℕ) : Type 0 where
  first : PreambleReads bytes arch
  words : WordsRead bytes functions rows len

header_reads : (bytes tail : List ℕ) (arch : Arch) (functions rows len : ℕ) → functions ≤ 2097152 → rows ≤ 16777216 → len < 4294967296
    → bytes ≡ header_bytes arch functions rows len ++ tail → HeaderReads bytes arch functions rows len
unfolding header_bytes
header_reads bytes tail arch functions rows len few some small h =
    let a : List ℕ = preamble arch in
    let b : List ℕ = word_bytes functions in
    let c : List ℕ = word_bytes rows in
    let d : List ℕ = word_bytes len in
    let e : List ℕ = word_bytes 0 in
    let f : List ℕ = word_bytes (16 * functions) in
    let at_0 : bytes ≡ a ++ (b ++ (c ++ (d ++ (e ++ (f ++ tail))))) = h ∙ apart a b c d e f tail in
    let at_8 : drop 8 bytes ≡ b ++ (c ++ (d ++ (e ++ (f ++ tail)))) = after bytes 0 8 a (b ++ (c ++ (d ++ (e ++ (f ++ tail))))) at_0 (length-preamble arch) in
    let at_12 : drop 12 bytes ≡ c ++ (d ++ (e ++ (f ++ tail))) = after bytes 8 4 b (c ++ (d ++ (e ++ (f ++ tail)))) at_8 (length-word functions) in
    let at_16 : drop 16 bytes ≡ d ++ (e ++ (f ++ tail)) = after bytes 12 4 c (d ++ (e ++ (f ++ tail))) at_12 (length-word rows) in
    let at_20 : drop 20 bytes ≡ e ++ (f ++ tail) = after bytes 16 4 d (e ++ (f ++ tail)) at_16 (length-word len) in
    let at_24 : drop 24 bytes ≡ f ++ tail = after bytes 20 4 e (f ++ tail) at_20 (length-word 0) in
    record {
      first = preamble_reads bytes (b ++ (c ++ (d ++ (e ++ (f ++ tail))))) arch at_0;
      words = record {
        functions_is = word_at bytes 8 functions (c ++ (d ++ (e ++ (f ++ tail)))) at_8 (omega (few, arith));
        rows_is = word_at bytes 12 rows (d ++ (e ++ (f ++ tail))) at_12 (omega (some, arith));
        len_is = word_at bytes 16 len (e ++ (f ++ tail)) at_16 small;
        functions_first = word_at bytes 20 0 (f ++ tail) at_20 (omega arith);
        rows_next = word_at bytes 24 (16 * functions) tail at_24 (omega (few, arith));
      };
    }

-- the parts of a section after its header
record PartsRead (bytes : List ℕ) (at : ℕ) (functions : List Func) : Type 0 where
  entries : drop 28 bytes ≡ entries_bytes at 0 0 functions ++ flat_map data_bytes functions
  data_are : drop (28 + 16 * length functions) bytes ≡ flat_map data_bytes functions

section_is : (arch : Arch) (at : ℕ) (functions : List Func) →
    section_bytes arch at functions ≡ header_bytes arch (length functions) (version_2.row_count functions) (data_section_len functions)
    ++ (entries_bytes at 0 0 functions ++ flat_map data_bytes functions)
unfolding section_bytes
section_is arch at functions =
    three_apart (header_bytes arch (length functions) (version_2.row_count functions) (data_section_len functions)) (entries_bytes at 0 0 functions) (flat_map data_bytes functions)

parts_read : (arch : Arch) (bytes : List ℕ) (at : ℕ) (functions : List Func) → bytes ≡ section_bytes arch at functions → PartsRead bytes at functions
parts_read arch bytes at functions h =
    let header : List ℕ = header_bytes arch (length functions) (version_2.row_count functions) (data_section_len functions) in
    let entries : List ℕ = entries_bytes at 0 0 functions in
    let rest : List ℕ = flat_map data_bytes functions in
    let at_28 : drop 28 bytes ≡ entries ++ rest =
    after bytes 0 28 header (entries ++ rest) (h ∙ section_is arch at functions) (length-header arch (length functions) (version_2.row_count functions) (data_section_len functions)) in
    record { entries = at_28; data_are = after bytes 28 (16 * length functions) entries rest at_28 (length-entries at 0 0 functions) }

-- the described functions have as many rows
rows_counted : (functions : List Func) → row_count (map ordinary functions) ≡ version_2.row_count functions
rows_counted [] = refl
rows_counted (f ∷ functions) =
    let left = sum_by-cons (λ (d : Described). length d.func.rows) (ordinary f) (map ordinary functions) in
    let right = sum_by-cons (λ (x : Func). length x.rows) f functions in
    let rest = rows_counted functions in
    omega (left, right, rest, arith)

-- the described functions come one after the other
ends_by : (functions : List Func) → AllAdjacentBelow (λ (f : Func) (g : Func). f.start + f.size ≤ g.start) functions (length functions) → AllAdjacentBelow EndsBy (map ordinary functions) (length (map ordinary functions))
ends_by functions apart = λ k d lt.
    let n : length (map ordinary functions) ≡ length functions = length-map functions ordinary in
    let here : get_or (map ordinary functions) k d ≡ ordinary (get_or functions k d.func) = get_or-map ordinary functions k d.func d (omega (n, lt, arith)) in
    let next : get_or (map ordinary functions) (k + 1) d ≡ ordinary (get_or functions (k + 1) d.func) = get_or-map ordinary functions (k + 1) d.func d (omega (n, lt, arith)) in
    let own = apart k d.func (omega (n, lt, arith)) in
    subst (λ x. EndsBy x (get_or (map ordinary functions) (k + 1) d)) (sym here) (subst (λ y. EndsBy (ordinary (get_or functions k d.func)) y) (sym next) own)

-- the bytes of a section that holds such functions
pub section_written : (arch : Arch) (bytes : List ℕ) (at : ℕ) (functions : List Func) → AreWritable arch functions → IsTrue (list_all entry_fits functions) → IsTrue (list_all rows_fit functions)
    → first_with_too_many_rows functions ≡ None → row_section_len functions ≤ 285212672 → bytes ≡ section_bytes arch at functions → Tight bytes at (table_of arch functions)
section_written arch bytes at functions writable fits room less most h =
    let n : ℕ = length functions in
    let len : ℕ = data_section_len functions in
    let few : n ≤ 2097152 = writable.count in
    let some : version_2.row_count functions ≤ 16777216 = writable.row_count in
    let small : len < 4294967296 = omega (few, most, arith) in
    let described : List Described = map ordinary functions in
    let as_many : length described ≡ n = length-map functions ordinary in
    let counted : row_count described ≡ version_2.row_count functions = rows_counted functions in
    let rest : List ℕ = flat_map data_bytes functions in
    let reads = header_reads bytes (entries_bytes at 0 0 functions ++ rest) arch n (version_2.row_count functions) len few some small (h ∙ section_is arch at functions) in
    let parts : PartsRead bytes at functions = parts_read arch bytes at functions h in
    let whole : length bytes ≡ 28 + 16 * n + len = ap length h ∙ length-section arch at functions in
    let none : auxiliary_len bytes ≡ 0 = reads.first.no_auxiliary_header in
    let zero_offset : functions_offset bytes ≡ 0 = reads.words.functions_first in
    let row_offset : rows_offset bytes ≡ 16 * n = reads.words.rows_next in
    let rows_len_is : rows_len bytes ≡ len = reads.words.len_is in
    let first : functions_place bytes ≡ 28 = omega (none, zero_offset, arith) in
    let next : rows_place bytes ≡ 28 + 16 * n = omega (none, row_offset, arith) in
    let cut : row_bytes_of bytes ≡ rest =
    ap (λ k. take k (drop (rows_place bytes) bytes)) (rows_len_is ∙ sym (length-all_data functions))
    ∙ (ap (λ k. take (length rest) (drop k bytes)) next ∙ (ap (take (length rest)) parts.data_are ∙ take-length rest)) in
    let written : FunctionsWritten arch bytes at 28 0 functions =
    functions_written arch bytes at 0 28 0 functions rest writable.each fits room less (omega arith) (omega (rows_len_is, small, arith)) (omega (rows_len_is, arith)) parts.entries cut in
    let section : Section bytes at (table_of arch functions) = record {
      header = record {
        magic = reads.first.magic;
        version = reads.first.version;
        flags = reads.first.flags;
        flags_known = record { below = omega arith; no_frame_pointer = refl };
        abi = reads.first.abi;
        fixed_frame_pointer = reads.first.fixed_frame_pointer;
        fixed_return = reads.first.fixed_return;
        function_count = reads.words.functions_is ∙ sym as_many;
        function_limit = omega (as_many, few, arith);
        rows = reads.words.rows_is ∙ sym counted;
        row_limit = omega (counted, some, arith);
        header_within = omega (none, whole, arith);
        functions_within = omega (first, whole, as_many, arith);
        rows_within = omega (next, rows_len_is, whole, arith);
      };
      functions = subst (λ k. FunctionsStand arch bytes 5 at k described) (sym first) written.stand;
      sorted = λ sorted. ends_by functions writable.apart;
    } in
    record {
      section = section;
      flags = refl;
      no_auxiliary_header = none;
      functions_first = zero_offset;
      rows_next = omega (row_offset, as_many, arith);
      without_gaps = subst (λ k. WithoutGaps bytes k 0 described) (sym first) written.without_gaps;
      nothing_besides = omega (whole, rows_len_is, as_many, arith);
    }
