-- At most one list of bytes is the tight section of a table.
use Rattle.std.proofs.Common.{◌≡◌, ℕ, suc, ◌+◌, ◌*◌, ◌≤◌, ◌<◌, ◌/◌, ◌%◌, List, [], ◌∷◌, length, take, drop, ap, sym, subst, ◌∙◌, arith, slice_index}
use Rattle.byteorder.specs.Endian.{little_from}
use Rattle.byteorder.specs.Numbers.{little_from-lt}
use Rattle.sf_model.specs.declared.machine.Arch.{Arch}
use Rattle.sf_model.specs.declared.function.Shape.{Shape}
use Rattle.sf_model.specs.declared.function.Shape.TheVariants.{Plain, Repeat}
use Rattle.sf_model.specs.declared.function.Func.{Func}
use Rattle.sf_model.specs.Section.{AreBytes, IsRepeatSize, number_in, rows_len, rows_place, functions_place, row_bytes_of, start_origin}
use Rattle.sf_model.specs.Tight.{IsZeroIfPlain}
use Rattle.sf_model.proofs.BytesDetermined.{SameWithin, join, at_one, number_told, run_told, list_told, part_told}
use Rattle.sf_decode.proofs.Standing.{part_are_bytes}
use Rattle.sf_write.specs.Row.{rows_bytes, rows_len as function_rows_len}
use Rattle.sf_write.proofs.Lengths.{length-rows}
use Rattle.sf3_model.specs.Described.{Described, Table}
use Rattle.sf3_model.specs.Section.{AttributesStand, EntryStands, FunctionsStand, Section, data_offset_at, start_width_in}
use Rattle.sf3_write.specs.Entry.{data_len}
use Rattle.sf3_write.specs.Tight.{Tight, WithoutGaps}

-- what is the same up to a place, and from it on, where the place is written in two ways
onward : (a b : List ℕ) (low mid mid' high : ℕ) → mid ≡ mid' → SameWithin a b low mid → SameWithin a b mid' high → SameWithin a b low high
onward a b low mid mid' high e x y = join a b low mid high x (λ k le lt. y k (omega (e, le, arith)) lt)

-- ---- an entry
distance_told : (origin x y : ℕ) → x < 18446744073709551616 → y < 18446744073709551616 → (origin + x) % 18446744073709551616 ≡ (origin + y) % 18446744073709551616 → x ≡ y
distance_told origin x y p q e = omega (p, q, e, arith)

entry_told : (a b : List ℕ) (origin place : ℕ) (f : Func) → AreBytes a → AreBytes b → EntryStands a origin place f → EntryStands b origin place f
    → data_offset_at a place ≡ data_offset_at b place → SameWithin a b place (place + 16)
entry_told a b origin place f p q s t offset =
    let x : ℕ = little_from place 8 a in
    let y : ℕ = little_from place 8 b in
    let number : x ≡ y = distance_told origin x y (little_from-lt place 8 a p) (little_from-lt place 8 b q) (sym s.start ∙ t.start) in
    let one = join a b place (place + 8) (place + 8 + 4) (number_told 8 place a b p q number) (number_told 4 (place + 8) a b p q (s.size ∙ sym t.size)) in
    let two = onward a b place (place + 8 + 4) (place + 12) (place + 12 + 4) (omega arith) one (number_told 4 (place + 12) a b p q offset) in
    λ k le lt. two k le (omega (lt, arith))

-- ---- a function's data
byte_told : (x y : ℕ) → x % 16 ≡ y % 16 → x / 16 ≡ y / 16 → x ≡ y
byte_told x y p q = omega (p, q, arith)

repeat_told : (shape : Shape) (x y : ℕ) → IsRepeatSize shape x → IsRepeatSize shape y → IsZeroIfPlain shape x → IsZeroIfPlain shape y → x ≡ y
repeat_told Plain x y p q r s = r ∙ sym s
repeat_told (Repeat size) x y p q r s = p.0 ∙ sym q.0

attributes_told : (arch : Arch) (a b : List ℕ) (offset : ℕ) (d : Described) → AreBytes a → AreBytes b → AttributesStand arch a offset d → AttributesStand arch b offset d → start_width_in a offset ≡ start_width_in b offset
    → IsZeroIfPlain d.func.shape (slice_index a (offset + 4)) → IsZeroIfPlain d.func.shape (slice_index b (offset + 4)) → SameWithin a b offset (offset + 5)
attributes_told arch a b offset d p q s t width r u =
    let info = byte_told (slice_index a (offset + 2)) (slice_index b (offset + 2)) width (s.info ∙ sym t.info) in
    let repeat = repeat_told d.func.shape (slice_index a (offset + 4)) (slice_index b (offset + 4)) s.repeat_size t.repeat_size r u in
    let one = join a b offset (offset + 2) (suc (offset + 2)) (number_told 2 offset a b p q (s.row_count ∙ sym t.row_count)) (at_one a b (offset + 2) info) in
    let two = onward a b offset (suc (offset + 2)) (offset + 3) (suc (offset + 3)) (omega arith) one (at_one a b (offset + 3) (s.default_type ∙ sym t.default_type)) in
    let three = onward a b offset (suc (offset + 3)) (offset + 4) (suc (offset + 4)) (omega arith) two (at_one a b (offset + 4) repeat) in
    λ k le lt. three k le (omega (lt, arith))

-- ---- all functions
record FunctionsTold (a b : List ℕ) (place count offset : ℕ) : Type 0 where
  entries : SameWithin a b place (place + 16 * count)
  lens : rows_len a ≡ rows_len b
  upward : offset ≤ rows_len a
  data_are : SameWithin (row_bytes_of a) (row_bytes_of b) offset (rows_len a)

functions_told : (arch : Arch) (a b : List ℕ) (flags at place offset : ℕ) (ds : List Described) → AreBytes a → AreBytes b → FunctionsStand arch a flags at place ds → FunctionsStand arch b flags at place ds
    → WithoutGaps a place offset ds → WithoutGaps b place offset ds → FunctionsTold a b place (length ds) offset
functions_told arch a b flags at place offset [] p q s t g h = record {
  entries = λ k le lt. absurd (omega (le, lt, arith));
  lens = sym g ∙ h;
  upward = omega (g, arith);
  data_are = λ k le lt. absurd (omega (g, le, lt, arith));
}
functions_told arch a b flags at place offset (d ∷ ds) p q s t g h =
    let x : List ℕ = row_bytes_of a in
    let y : List ℕ = row_bytes_of b in
    let run : List ℕ = rows_bytes d.func.rows in
    let end : ℕ = offset + data_len d.func in
    let long : length run ≡ function_rows_len d.func.rows = length-rows d.func.rows in
    let entry : SameWithin a b place (place + 16) = entry_told a b (start_origin flags at place) place d.func p q s.0.entry t.0.entry (g.0.offset_is ∙ sym h.0.offset_is) in
    let attributes : SameWithin x y offset (offset + 5) =
    attributes_told arch x y offset d (part_are_bytes a (rows_place a) (rows_len a) p) (part_are_bytes b (rows_place b) (rows_len b) q)
    (subst (λ o. AttributesStand arch x o d) g.0.offset_is s.0.attributes) (subst (λ o. AttributesStand arch y o d) h.0.offset_is t.0.attributes)
    (g.0.start_width ∙ sym h.0.start_width) g.0.repeat_size h.0.repeat_size in
    let here : SameWithin x y offset (offset + 5 + length run) = join x y offset (offset + 5) (offset + 5 + length run) attributes (run_told x y (offset + 5) run g.0.rows h.0.rows) in
    let later : FunctionsTold a b (place + 16) (length ds) end = functions_told arch a b flags at (place + 16) end ds p q s.1 t.1 g.1 h.1 in
    let entries : SameWithin a b place (place + 16 + 16 * length ds) = join a b place (place + 16) (place + 16 + 16 * length ds) entry later.entries in
    let low : end ≤ rows_len a = later.upward in
    record {
      entries = λ k le lt. entries k le (omega (lt, arith));
      lens = later.lens;
      upward = omega (low, arith);
      data_are = onward x y offset (offset + 5 + length run) end (rows_len a) (omega (long, arith)) here later.data_are;
    }

-- ---- a section
-- headers of one table that agree on their layout
header_told : (a b : List ℕ) (at : ℕ) (t : Table) → AreBytes a → AreBytes b → Tight a at t → Tight b at t → rows_len a ≡ rows_len b → SameWithin a b 0 28
header_told a b at t p q x y lens =
    let one = number_told 2 0 a b p q (x.section.header.magic ∙ sym y.section.header.magic) in
    let two = onward a b 0 (0 + 2) 2 3 (omega arith) one (at_one a b 2 (x.section.header.version ∙ sym y.section.header.version)) in
    let three = join a b 0 3 4 two (at_one a b 3 (x.section.header.flags ∙ sym y.section.header.flags)) in
    let four = join a b 0 4 5 three (at_one a b 4 (x.section.header.abi ∙ sym y.section.header.abi)) in
    let five = join a b 0 5 6 four (at_one a b 5 (x.section.header.fixed_frame_pointer ∙ sym y.section.header.fixed_frame_pointer)) in
    let six = join a b 0 6 7 five (at_one a b 6 (x.section.header.fixed_return ∙ sym y.section.header.fixed_return)) in
    let seven = join a b 0 7 8 six (at_one a b 7 (x.no_auxiliary_header ∙ sym y.no_auxiliary_header)) in
    let eight = join a b 0 8 12 seven (number_told 4 8 a b p q (x.section.header.function_count ∙ sym y.section.header.function_count)) in
    let nine = join a b 0 12 16 eight (number_told 4 12 a b p q (x.section.header.rows ∙ sym y.section.header.rows)) in
    let ten = join a b 0 16 20 nine (number_told 4 16 a b p q lens) in
    let eleven = join a b 0 20 24 ten (number_told 4 20 a b p q (x.functions_first ∙ sym y.functions_first)) in
    join a b 0 24 28 eleven (number_told 4 24 a b p q (x.rows_next ∙ sym y.rows_next))

functions_at : (a : List ℕ) (at : ℕ) (t : Table) → Tight a at t → functions_place a ≡ 28
functions_at a at t x = let none : slice_index a 7 ≡ 0 = x.no_auxiliary_header in let first : number_in 4 20 a ≡ 0 = x.functions_first in omega (none, first, arith)

data_at : (a : List ℕ) (at : ℕ) (t : Table) → Tight a at t → rows_place a ≡ 28 + 16 * length t.functions
data_at a at t x = let none : slice_index a 7 ≡ 0 = x.no_auxiliary_header in let next : number_in 4 24 a ≡ 16 * length t.functions = x.rows_next in omega (none, next, arith)

-- two lists of bytes that are tight sections of one table are equal
pub tight_one : (a b : List ℕ) (at : ℕ) (t : Table) → AreBytes a → AreBytes b → Tight a at t → Tight b at t → a ≡ b
tight_one a b at t p q x y =
    let i = functions_at a at t x in
    let j = functions_at b at t y in
    let told : FunctionsTold a b 28 (length t.functions) 0 = functions_told t.arch a b t.flags at 28 0 t.functions p q
    (subst (λ k. FunctionsStand t.arch a t.flags at k t.functions) i x.section.functions) (subst (λ k. FunctionsStand t.arch b t.flags at k t.functions) j y.section.functions)
    (subst (λ k. WithoutGaps a k 0 t.functions) i x.without_gaps) (subst (λ k. WithoutGaps b k 0 t.functions) j y.without_gaps) in
    let r : ℕ = 28 + 16 * length t.functions in
    let cut : SameWithin (take (rows_len a) (drop r a)) (take (rows_len b) (drop r b)) 0 (rows_len a) =
    subst (λ k. SameWithin (take (rows_len a) (drop r a)) (take (rows_len b) (drop k b)) 0 (rows_len a)) (data_at b at t y)
    (subst (λ k. SameWithin (take (rows_len a) (drop k a)) (row_bytes_of b) 0 (rows_len a)) (data_at a at t x) told.data_are) in
    let rest : SameWithin a b r (r + rows_len a) = part_told a b r (rows_len a) (rows_len b) told.lens cut in
    let front : SameWithin a b 0 r = join a b 0 28 r (header_told a b at t p q x y told.lens) told.entries in
    let all : SameWithin a b 0 (r + rows_len a) = join a b 0 r (r + rows_len a) front rest in
    let whole : length a ≡ r + rows_len a = x.nothing_besides in
    list_told a b (whole ∙ (ap (λ k. r + k) told.lens ∙ sym y.nothing_besides)) (λ k le lt. all k le (omega (whole, lt, arith)))

-- a tight section is a section
pub tight_section : (bytes : List ℕ) (at : ℕ) (t : Table) → Tight bytes at t → Section bytes at t
tight_section bytes at t x = x.section
