-- At most one list of bytes is a tight section of a table with the least widths.
use Rattle.std.proofs.Common.{◌≡◌, ℕ, ◌+◌, ◌*◌, ◌≤◌, ◌/◌, ◌%◌, pos, Bool, true, false, IsTrue, List, [], ◌∷◌, length, refl, ap, sym, subst, ◌∙◌, arith, nat_lt, slice_index}
use Rattle.std.specs.Prelude.{zero, suc, take, drop}
use Rattle.byteorder.specs.Endian.{little_from, twos_complement}
use Rattle.byteorder.specs.Numbers.{little_from-lt}
use Rattle.sf_model.specs.declared.machine.Arch.{Arch}
use Rattle.sf_model.specs.declared.content.Content.{Content}
use Rattle.sf_model.specs.declared.rows.Row.{Row}
use Rattle.sf_model.specs.declared.function.Shape.{Shape}
use Rattle.sf_model.specs.declared.function.Shape.TheVariants.{Plain, Repeat}
use Rattle.sf_model.specs.declared.function.Func.{Func}
use Rattle.sf_model.specs.Width.{holds_unsigned, NoneLess}
use Rattle.sf_model.specs.RowBytes.{holds_row_offsets, spelled_row, StandsAt}
use Rattle.sf_model.specs.Table.{Table}
use Rattle.sf_model.specs.Section.{AreBytes, Section, number_in, rows_len, rows_place, functions_place, row_bytes_of, start_origin, start_width_at, row_offset_at, AnyWidth, IsRepeatSize, RowsStand, EntryStands, FunctionsStand}
use Rattle.sf_model.specs.Tight.{Tight, Narrow, WithoutGaps, LeastWidth, LeastWidths, IsZeroIfPlain, last_start}
use Rattle.sf_model.proofs.RowNumbers.{below_if}
use Rattle.sf_model.proofs.RowsSame.{row_same}
use Rattle.sf_model.proofs.BytesDetermined.{SameWithin, join, at_one, number_told, run_told, list_told, part_told, signed_told, origin_cancels, not_below}

true_and_false : (b : Bool) → b ≡ true → b ≡ false → ⊥
true_and_false b p q = cc

-- two least widths of one thing
least_by : (holds : ℕ → Bool) (z v : ℕ) (s t : Bool) → nat_lt z v ≡ s → nat_lt v z ≡ t → IsTrue (holds z) → IsTrue (holds v) → NoneLess holds z → NoneLess holds v → z ≡ v
least_by holds z v true t e f p q l m = absurd (true_and_false (holds z) p (m z (below_if z v e)))
least_by holds z v false true e f p q l m = absurd (true_and_false (holds v) q (l v (below_if v z f)))
least_by holds z v false false e f p q l m = let a : v ≤ z = not_below z v e in let b : z ≤ v = not_below v z f in omega (a, b, arith)

least_same : (holds : ℕ → Bool) (z v : ℕ) → IsTrue (holds z) → IsTrue (holds v) → NoneLess holds z → NoneLess holds v → z ≡ v
least_same holds z v p q l m = least_by holds z v (nat_lt z v) (nat_lt v z) refl refl p q l m

-- each of the three widths holds 0
pub zero_held : (w : ℕ) → w ≤ 2 → IsTrue (holds_unsigned 0 w)
zero_held zero k = refl
zero_held (suc zero) k = refl
zero_held (suc (suc zero)) k = refl
zero_held (suc (suc (suc w))) k = absurd (omega (k, arith))

-- the start width of rows holds the start of the last one
last_held : (MayHave : Content → ℕ → Type 0) (arch : Arch) (rows : List ℕ) (w place end : ℕ) (xs : List Row) → w ≤ 2 → RowsStand MayHave arch rows w place end xs → IsTrue (holds_unsigned (last_start xs) w)
last_held MayHave arch rows w place end [] k a = zero_held w k
last_held MayHave arch rows w place end (x ∷ []) k a = a.2.start_width_fits.held
last_held MayHave arch rows w place end (x ∷ y ∷ ys) k a = last_held MayHave arch rows w (place + length (spelled_row w a.0 x)) end (y ∷ ys) k a.3

-- the same rows at one place end at one place
ends_same : (P Q : Content → ℕ → Type 0) (arch : Arch) (rows : List ℕ) (w p q k l : ℕ) (xs : List Row) → p ≡ q
    → RowsStand P arch rows w p k xs → RowsStand Q arch rows w q l xs → k ≡ l
ends_same P Q arch rows w p q k l [] place a b = sym a ∙ (place ∙ b)
ends_same P Q arch rows w p q k l (x ∷ xs) place a b =
    let same : a.0 ≡ b.0 = (row_same arch rows w a.0 b.0 p q x x place a.2 b.2).1 in
    let next : p + length (spelled_row w a.0 x) ≡ q + length (spelled_row w b.0 x) =
    ap (λ m. m + length (spelled_row w a.0 x)) place ∙ ap (λ z. q + length (spelled_row w z x)) same in
    ends_same P Q arch rows w (p + length (spelled_row w a.0 x)) (q + length (spelled_row w b.0 x)) k l xs next a.3 b.3

-- rows with the least widths determine their bytes
pub record RowsTold (a b : List ℕ) (low high high' : ℕ) : Type 0 where
  pub ends : high ≡ high'
  pub upward : low ≤ high
  pub same : SameWithin a b low high

rows_told : (arch : Arch) (a b : List ℕ) (w v p q k l : ℕ) (xs : List Row) → w ≡ v → p ≡ q
    → RowsStand LeastWidth arch a w p k xs → RowsStand LeastWidth arch b v q l xs → RowsTold a b p k l
rows_told arch a b w v p q k l [] width place s t =
    record { ends = sym s ∙ (place ∙ t); upward = omega (s, arith); same = λ i le lt. absurd (omega (s, le, lt, arith)) }
rows_told arch a b w v p q k l (x ∷ xs) width place s t =
    let z : s.0 ≡ t.0 = least_same (holds_row_offsets x.content) s.0 t.0 s.2.offset_width_fits.held t.2.offset_width_fits.held s.1 t.1 in
    let run : spelled_row w s.0 x ≡ spelled_row v t.0 x = ap (λ n. spelled_row n s.0 x) width ∙ ap (λ n. spelled_row v n x) z in
    let there : StandsAt b p (spelled_row w s.0 x) = subst (λ n. StandsAt b n (spelled_row w s.0 x)) (sym place) (subst (λ r. StandsAt b q r) (sym run) t.2.spelled) in
    let next : p + length (spelled_row w s.0 x) ≡ q + length (spelled_row v t.0 x) = ap (λ m. m + length (spelled_row w s.0 x)) place ∙ ap (λ r. q + length r) run in
    let later : RowsTold a b (p + length (spelled_row w s.0 x)) k l =
    rows_told arch a b w v (p + length (spelled_row w s.0 x)) (q + length (spelled_row v t.0 x)) k l xs width next s.3 t.3 in
    record {
      ends = later.ends;
      upward = let u : p + length (spelled_row w s.0 x) ≤ k = later.upward in omega (u, arith);
      same = join a b p (p + length (spelled_row w s.0 x)) k (run_told a b p (spelled_row w s.0 x) s.2.spelled there) later.same;
    }

-- the two parts of a byte determine it
byte_told : (x y : ℕ) → x % 16 ≡ y % 16 → x / 16 ≡ y / 16 → x ≡ y
byte_told x y p q = omega arith

repeat_told : (shape : Shape) (x y : ℕ) → IsRepeatSize shape x → IsRepeatSize shape y → IsZeroIfPlain shape x → IsZeroIfPlain shape y → x ≡ y
repeat_told Plain x y p q r s = r ∙ sym s
repeat_told (Repeat size) x y p q r s = p.0 ∙ sym q.0

-- what is the same up to a place, and from it on, where the place is written in two ways
onward : (a b : List ℕ) (low mid mid' high : ℕ) → mid ≡ mid' → SameWithin a b low mid → SameWithin a b mid' high → SameWithin a b low high
onward a b low mid mid' high e x y = join a b low mid high x (λ k le lt. y k (omega (e, le, arith)) lt)

entry_joined : (a b : List ℕ) (place : ℕ) → SameWithin a b place (place + 4) → SameWithin a b (place + 4) (place + 4 + 4) → SameWithin a b (place + 8) (place + 8 + 4)
    → SameWithin a b (place + 12) (place + 12 + 4) → SameWithin a b (place + 16) (suc (place + 16)) → SameWithin a b (place + 17) (suc (place + 17))
    → SameWithin a b (place + 18) (place + 18 + 2) → SameWithin a b place (place + 20)
entry_joined a b place s t u v w x y =
    let one = join a b place (place + 4) (place + 4 + 4) s t in
    let two = onward a b place (place + 4 + 4) (place + 8) (place + 8 + 4) (omega arith) one u in
    let three = onward a b place (place + 8 + 4) (place + 12) (place + 12 + 4) (omega arith) two v in
    let four = onward a b place (place + 12 + 4) (place + 16) (suc (place + 16)) (omega arith) three w in
    let five = onward a b place (suc (place + 16)) (place + 17) (suc (place + 17)) (omega arith) four x in
    let six = onward a b place (suc (place + 17)) (place + 18) (place + 18 + 2) (omega arith) five y in
    λ k le lt. six k le (omega (lt, arith))

-- an entry determines its bytes
entry_told : (arch : Arch) (a b : List ℕ) (origin place : ℕ) (f : Func) → AreBytes a → AreBytes b → EntryStands arch a origin place f → EntryStands arch b origin place f
    → row_offset_at a place ≡ row_offset_at b place → start_width_at a place ≡ start_width_at b place
    → IsZeroIfPlain f.shape (slice_index a (place + 17)) → IsZeroIfPlain f.shape (slice_index b (place + 17))
    → number_in 2 (place + 18) a ≡ number_in 2 (place + 18) b → SameWithin a b place (place + 20)
entry_told arch a b origin place f p q s t offset width r u padding =
    let number : little_from place 4 a ≡ little_from place 4 b = signed_told (little_from place 4 a) (little_from place 4 b) (little_from-lt place 4 a p) (little_from-lt place 4 b q)
    (origin_cancels (pos origin) (twos_complement 4 (little_from place 4 a)) (twos_complement 4 (little_from place 4 b)) (sym s.start ∙ t.start)) in
    let start : SameWithin a b place (place + 4) = number_told 4 place a b p q number in
    let size : SameWithin a b (place + 4) (place + 4 + 4) = number_told 4 (place + 4) a b p q (s.size ∙ sym t.size) in
    let rows : SameWithin a b (place + 8) (place + 8 + 4) = number_told 4 (place + 8) a b p q offset in
    let count : SameWithin a b (place + 12) (place + 12 + 4) = number_told 4 (place + 12) a b p q (s.row_count ∙ sym t.row_count) in
    let info : SameWithin a b (place + 16) (suc (place + 16)) = at_one a b (place + 16) (byte_told (slice_index a (place + 16)) (slice_index b (place + 16)) width (s.info ∙ sym t.info)) in
    let repeat : SameWithin a b (place + 17) (suc (place + 17)) = at_one a b (place + 17) (repeat_told f.shape (slice_index a (place + 17)) (slice_index b (place + 17)) s.repeat_size t.repeat_size r u) in
    let last : SameWithin a b (place + 18) (place + 18 + 2) = number_told 2 (place + 18) a b p q padding in
    entry_joined a b place start size rows count info repeat last

-- entries and rows without gaps, with the least widths, determine their bytes
record FunctionsTold (a b : List ℕ) (place count offset : ℕ) : Type 0 where
  entries : SameWithin a b place (place + 20 * count)
  lens : rows_len a ≡ rows_len b
  upward : offset ≤ rows_len a
  rows : SameWithin (row_bytes_of a) (row_bytes_of b) offset (rows_len a)

functions_told : (arch : Arch) (a b : List ℕ) (flags at place o u : ℕ) (fs : List Func) → AreBytes a → AreBytes b → o ≡ u
    → FunctionsStand arch a flags at place fs → FunctionsStand arch b flags at place fs → WithoutGaps arch a place o fs → WithoutGaps arch b place u fs
    → LeastWidths arch a place fs → LeastWidths arch b place fs → FunctionsTold a b place (length fs) o
functions_told arch a b flags at place o u [] p q e s t g h m n = record {
  entries = λ k le lt. absurd (omega (le, lt, arith));
  lens = sym g ∙ (e ∙ h);
  upward = omega (g, arith);
  rows = λ k le lt. absurd (omega (g, le, lt, arith));
}
functions_told arch a b flags at place o u (f ∷ fs) p q e s t g h m n =
    let width : start_width_at a place ≡ start_width_at b place = least_same (holds_unsigned (last_start f.rows)) (start_width_at a place) (start_width_at b place)
    (last_held AnyWidth arch (row_bytes_of a) (start_width_at a place) o g.3.0 f.rows s.0.start_width g.3.1)
    (last_held AnyWidth arch (row_bytes_of b) (start_width_at b place) u h.3.0 f.rows t.0.start_width h.3.1) m.0 n.0 in
    let offset : row_offset_at a place ≡ row_offset_at b place = g.0 ∙ (e ∙ sym h.0) in
    let rows : RowsTold (row_bytes_of a) (row_bytes_of b) (row_offset_at a place) m.1.0 n.1.0 =
    rows_told arch (row_bytes_of a) (row_bytes_of b) (start_width_at a place) (start_width_at b place) (row_offset_at a place) (row_offset_at b place) m.1.0 n.1.0 f.rows width offset m.1.1 n.1.1 in
    let end : g.3.0 ≡ m.1.0 = ends_same AnyWidth LeastWidth arch (row_bytes_of a) (start_width_at a place) o (row_offset_at a place) g.3.0 m.1.0 f.rows (sym g.0) g.3.1 m.1.1 in
    let end' : h.3.0 ≡ n.1.0 = ends_same AnyWidth LeastWidth arch (row_bytes_of b) (start_width_at b place) u (row_offset_at b place) h.3.0 n.1.0 f.rows (sym h.0) h.3.1 n.1.1 in
    let later : FunctionsTold a b (place + 20) (length fs) g.3.0 =
    functions_told arch a b flags at (place + 20) g.3.0 h.3.0 fs p q (end ∙ (rows.ends ∙ sym end')) s.2 t.2 g.3.2 h.3.2 m.2 n.2 in
    let entry : SameWithin a b place (place + 20) = entry_told arch a b (start_origin flags at place) place f p q s.0 t.0 offset width g.2 h.2 (g.1 ∙ sym h.1) in
    let entries : SameWithin a b place (place + 20 + 20 * length fs) = join a b place (place + 20) (place + 20 + 20 * length fs) entry later.entries in
    let first : row_offset_at a place ≡ o = g.0 in
    let low : row_offset_at a place ≤ m.1.0 = rows.upward in
    let high : g.3.0 ≤ rows_len a = later.upward in
    let all : SameWithin (row_bytes_of a) (row_bytes_of b) (row_offset_at a place) (rows_len a) =
    onward (row_bytes_of a) (row_bytes_of b) (row_offset_at a place) m.1.0 g.3.0 (rows_len a) (sym end) rows.same later.rows in
    record {
      entries = λ k le lt. entries k le (omega (lt, arith));
      lens = later.lens;
      upward = omega (first, low, end, high, arith);
      rows = λ k le lt. all k (omega (first, le, arith)) lt;
    }

-- headers of one table that agree on their layout
header_told : (a b : List ℕ) (at : ℕ) (t : Table) → AreBytes a → AreBytes b → Tight a at t → Tight b at t → rows_len a ≡ rows_len b → SameWithin a b 0 28
header_told a b at t p q x y lens =
    let one = number_told 2 0 a b p q (x.section.header.magic ∙ sym y.section.header.magic) in
    let two = onward a b 0 (0 + 2) 2 3 (omega arith) one (at_one a b 2 (x.section.header.version ∙ sym y.section.header.version)) in
    let three = join a b 0 3 4 two (at_one a b 3 (x.section.header.flags ∙ sym y.section.header.flags)) in
    let four = join a b 0 4 5 three (at_one a b 4 (x.section.header.abi ∙ sym y.section.header.abi)) in
    let five = join a b 0 5 6 four (at_one a b 5 (x.section.header.fixed_frame_pointer ∙ sym y.section.header.fixed_frame_pointer)) in
    let six = join a b 0 6 7 five (at_one a b 6 (x.section.header.fixed_return ∙ sym y.section.header.fixed_return)) in
    let seven = join a b 0 7 8 six (at_one a b 7 (x.no_auxiliary_header ∙ sym y.no_auxiliary_header)) in
    let eight = join a b 0 8 12 seven (number_told 4 8 a b p q (x.section.header.function_count ∙ sym y.section.header.function_count)) in
    let nine = join a b 0 12 16 eight (number_told 4 12 a b p q (x.section.header.rows ∙ sym y.section.header.rows)) in
    let ten = join a b 0 16 20 nine (number_told 4 16 a b p q lens) in
    let eleven = join a b 0 20 24 ten (number_told 4 20 a b p q (x.functions_first ∙ sym y.functions_first)) in
    join a b 0 24 28 eleven (number_told 4 24 a b p q (x.rows_next ∙ sym y.rows_next))

functions_at : (a : List ℕ) (at : ℕ) (t : Table) → Tight a at t → functions_place a ≡ 28
functions_at a at t x = let none : slice_index a 7 ≡ 0 = x.no_auxiliary_header in let first : number_in 4 20 a ≡ 0 = x.functions_first in omega (none, first, arith)

rows_at : (a : List ℕ) (at : ℕ) (t : Table) → Tight a at t → rows_place a ≡ 28 + 20 * length t.functions
rows_at a at t x = let none : slice_index a 7 ≡ 0 = x.no_auxiliary_header in let next : number_in 4 24 a ≡ 20 * length t.functions = x.rows_next in omega (none, next, arith)

-- two lists of bytes that are tight sections of one table with the least widths are equal
pub tight_one : (a b : List ℕ) (at : ℕ) (t : Table) → AreBytes a → AreBytes b → Tight a at t → Tight b at t → Narrow a t → Narrow b t → a ≡ b
tight_one a b at t p q x y m n =
    let i = functions_at a at t x in
    let j = functions_at b at t y in
    let told : FunctionsTold a b 28 (length t.functions) 0 = functions_told t.arch a b t.flags at 28 0 0 t.functions p q refl
    (subst (λ k. FunctionsStand t.arch a t.flags at k t.functions) i x.section.functions) (subst (λ k. FunctionsStand t.arch b t.flags at k t.functions) j y.section.functions)
    (subst (λ k. WithoutGaps t.arch a k 0 t.functions) i x.without_gaps) (subst (λ k. WithoutGaps t.arch b k 0 t.functions) j y.without_gaps)
    (subst (λ k. LeastWidths t.arch a k t.functions) i m) (subst (λ k. LeastWidths t.arch b k t.functions) j n) in
    let r : ℕ = 28 + 20 * length t.functions in
    let cut : SameWithin (take (rows_len a) (drop r a)) (take (rows_len b) (drop r b)) 0 (rows_len a) =
    subst (λ k. SameWithin (take (rows_len a) (drop r a)) (take (rows_len b) (drop k b)) 0 (rows_len a)) (rows_at b at t y)
    (subst (λ k. SameWithin (take (rows_len a) (drop k a)) (row_bytes_of b) 0 (rows_len a)) (rows_at a at t x) told.rows) in
    let rows : SameWithin a b r (r + rows_len a) = part_told a b r (rows_len a) (rows_len b) told.lens cut in
    let front : SameWithin a b 0 r = join a b 0 28 r (header_told a b at t p q x y told.lens) told.entries in
    let all : SameWithin a b 0 (r + rows_len a) = join a b 0 r (r + rows_len a) front rows in
    let whole : length a ≡ 28 + 20 * length t.functions + rows_len a = x.nothing_besides in
    list_told a b (whole ∙ (ap (λ k. 28 + 20 * length t.functions + k) told.lens ∙ sym y.nothing_besides)) (λ k le lt. all k le (omega (whole, lt, arith)))

-- a tight section is a section
pub tight_section : (bytes : List ℕ) (at : ℕ) (t : Table) → Tight bytes at t → Section bytes at t
tight_section bytes at t x = x.section
