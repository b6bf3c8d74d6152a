-- Rows at a place, by the standard, pass their checks.
use Rattle.std.proofs.Common.{◌≡◌, ◌<◌, ◌≤◌, ℕ, zero, suc, ◌+◌, ◌*◌, ℤ, Bool, true, false, IsTrue, List, [], ◌∷◌, ◌++◌, length, Ok, refl, ap, sym, subst, ◌∙◌, arith, nat_le}
use Rattle.std.specs.Prelude.{⊤, is_none, Option, Some, None, drop, slice_index, get_or, option_to_list}
use Rattle.std.specs.List.{flat_map}
use Rattle.std.proofs.Math.Seq.{get_or-append_seam}
use Rattle.std.proofs.lemmas.List.{append_assoc, length-append, length-take, length-drop, take-append-drop, get_or-drop}
use Rattle.std.proofs.lemmas.List.Concat.{flat_map-cons}
use Rattle.byteorder.specs.Endian.{little_from}
use Rattle.byteorder.specs.Numbers.{little_number-reads_back}
use Rattle.sf_model.specs.declared.machine.Arch.{Arch}
use Rattle.sf_model.specs.declared.machine.Arch.TheVariants.{Amd64, Aarch64}
use Rattle.sf_model.specs.declared.machine.Base.{Base}
use Rattle.sf_model.specs.declared.machine.Base.TheVariants.{Fp, Sp}
use Rattle.sf_model.specs.declared.content.Ra.{Ra}
use Rattle.sf_model.specs.declared.content.Ra.TheVariants.{Fixed, Link, At}
use Rattle.sf_model.specs.declared.content.Content.{Content}
use Rattle.sf_model.specs.declared.rows.Row.{Row}
use Rattle.sf_model.specs.Content.{return_fits}
use Rattle.sf_model.specs.Function.{RowsRise}
use Rattle.sf_model.specs.Width.{holds_unsigned, signed_bytes, unsigned_bytes, width_len}
use Rattle.sf_model.specs.RowBytes.{row_offsets, return_offset, base_number, signed_number, row_info_byte, spelled_row, StandsAt}
use Rattle.sf_model.specs.Section.{RowStands, RowsStand, AnyWidth}
use Rattle.sf_decode.specs.Row.{number_len, unsigned_in, offsets_place, row_info, row_end, offset_count_in, offset_width_in, is_signed_in, has_offset_count, may_be_signed, row_check, rows_check}
use Rattle.sf_decode.proofs.Holds.{not_true, behind, holds, if_le, lt_if, not_le}
use Rattle.sf_decode.proofs.Loops.{rows_check-suc, rows_check-none}
use Rattle.sf_decode.proofs.Standing.{len_of_width, length-unsigned, length-signed}

-- a number at a place is the first of the bytes from there on
number_in_front : (n p i : ℕ) (bytes : List ℕ) → little_from (p + i) n bytes ≡ little_from i n (drop p bytes)
number_in_front zero p i bytes = refl
number_in_front (suc n) p i bytes =
    let next : suc (p + i) ≡ p + suc i = omega arith in
    let here = get_or-drop p bytes i 0 in
    let later = ap (λ k. little_from k n bytes) next ∙ number_in_front n p (suc i) bytes in
    omega (here, later, arith)

number_at_front : (n p : ℕ) (bytes : List ℕ) → little_from p n bytes ≡ little_from 0 n (drop p bytes)
number_at_front n p bytes = let same : p ≡ p + 0 = omega arith in ap (λ k. little_from k n bytes) same ∙ number_in_front n p 0 bytes

-- a run at a place is in front of the bytes from there on, and within the bytes
in_front : (bytes : List ℕ) (p : ℕ) (run : List ℕ) → StandsAt bytes p run → drop p bytes ≡ run ++ drop (length run) (drop p bytes)
in_front bytes p run s = sym (take-append-drop (length run) (drop p bytes)) ∙ ap (λ l. l ++ drop (length run) (drop p bytes)) s

within_bytes : (bytes : List ℕ) (p : ℕ) (run : List ℕ) → StandsAt bytes p run → 0 < length run → p + length run ≤ length bytes
within_bytes bytes p run s some =
    let cut = ap length s in
    let short = length-take (length run) (drop p bytes) in
    let left = length-drop p bytes in
    omega (cut, short, left, some, arith)

-- an unsigned number at the front is read
unsigned_read : (bytes : List ℕ) (w p n : ℕ) (rest : List ℕ) → w ≤ 2 → IsTrue (holds_unsigned n w) → drop p bytes ≡ unsigned_bytes w n ++ rest → unsigned_in w p bytes ≡ n
unfolding unsigned_in
unsigned_read bytes zero p n rest k held e = number_at_front 1 p bytes ∙ (ap (little_from 0 1) e ∙ little_number-reads_back 1 n rest (lt_if n 256 held))
unsigned_read bytes (suc zero) p n rest k held e = number_at_front 2 p bytes ∙ (ap (little_from 0 2) e ∙ little_number-reads_back 2 n rest (lt_if n 65536 held))
unsigned_read bytes (suc (suc zero)) p n rest k held e = number_at_front 4 p bytes ∙ (ap (little_from 0 4) e ∙ little_number-reads_back 4 n rest (lt_if n 4294967296 held))
unsigned_read bytes (suc (suc (suc w))) p n rest k held e = absurd (omega arith)

-- the parts of an info byte
record InfoParts (info count width : ℕ) (signed : Bool) : Type 0 where
  count_of : offset_count_in info ≡ count
  width_of : offset_width_in info ≡ width
  sign_of : is_signed_in info ≡ signed

sign_of_info : (info : ℕ) (b c z : ℕ) (signed : Bool) → b ≤ 1 → c ≤ 15 → z ≤ 2 → b + 2 * c + 32 * z + 128 * signed_number signed ≡ info → nat_le 128 info ≡ signed
sign_of_info info b c z true p q r e = if_le 128 info (omega (e, arith))
sign_of_info info b c z false p q r e = not_le 128 info (omega (p, q, r, e, arith))

info_parts : (info b c z : ℕ) (signed : Bool) → b ≤ 1 → c ≤ 15 → z ≤ 2 → signed_number signed ≤ 1 → b + 2 * c + 32 * z + 128 * signed_number signed ≡ info → InfoParts info c z signed
info_parts info b c z signed p q r s e = record {
  count_of = omega (p, q, r, s, e, arith);
  width_of = omega (p, q, r, s, e, arith);
  sign_of = sign_of_info info b c z signed p q r e;
}

base_small : (b : Base) → base_number b ≤ 1
base_small Fp = omega arith
base_small Sp = omega arith

sign_small : (v : Bool) → signed_number v ≤ 1
sign_small false = omega arith
sign_small true = omega arith

few_saved : (r : Ra) (x : Option ℤ) → length (return_offset r ++ option_to_list x) ≤ 2
few_saved Fixed None = omega arith
few_saved Fixed (Some n) = omega arith
few_saved Link None = omega arith
few_saved Link (Some n) = omega arith
few_saved (At m) None = omega arith
few_saved (At m) (Some n) = omega arith

few_offsets : (c : Content) → length (row_offsets c) ≤ 15
few_offsets c = let few : length (return_offset c.ra ++ option_to_list c.fp) ≤ 2 = few_saved c.ra c.fp in omega (few, arith)

-- a content of the machine has a number of offsets that the machine's rows have
count_fits : (arch : Arch) (r : Ra) (x : Option ℤ) (signed : Bool) → IsTrue (return_fits arch r (is_none x) signed)
    → IsTrue (has_offset_count arch (suc (length (return_offset r ++ option_to_list x))))
count_fits Amd64 Fixed None signed e = refl
count_fits Amd64 Fixed (Some n) signed e = refl
count_fits Amd64 Link x signed e = absurd (not_true e)
count_fits Amd64 (At m) x signed e = absurd (not_true e)
count_fits Aarch64 Fixed x signed e = absurd (not_true e)
count_fits Aarch64 Link None signed e = refl
count_fits Aarch64 Link (Some n) signed e = absurd (not_true e)
count_fits Aarch64 (At m) None signed e = refl
count_fits Aarch64 (At m) (Some n) signed e = refl

sign_fits : (arch : Arch) (r : Ra) (x : Option ℤ) (signed : Bool) → IsTrue (return_fits arch r (is_none x) signed) → IsTrue (may_be_signed arch signed)
sign_fits Amd64 Fixed x signed e = e
sign_fits Amd64 Link x signed e = absurd (not_true e)
sign_fits Amd64 (At m) x signed e = absurd (not_true e)
sign_fits Aarch64 r x signed e = refl

-- the bytes of offsets of one width
offsets_length : (w : ℕ) (offsets : List ℤ) → length (flat_map (signed_bytes w) offsets) ≡ length offsets * width_len w
offsets_length w [] = omega arith
offsets_length w (z ∷ zs) =
    let first = length-signed w z in
    let later = offsets_length w zs in
    ap length (flat_map-cons (signed_bytes w) z zs) ∙ (length-append (signed_bytes w z) (flat_map (signed_bytes w) zs) ∙ omega (first, later, arith))

-- a row at a place
record RowFound (arch : Arch) (rows : List ℕ) (w z p : ℕ) (row : Row) : Type 0 where
  start : unsigned_in w p rows ≡ row.start
  parts : InfoParts (row_info rows w p) (length (row_offsets row.content)) z row.content.signed
  end : row_end w p (row_info rows w p) ≡ p + length (spelled_row w z row)
  head : offsets_place w p ≤ length rows
  within : row_end w p (row_info rows w p) ≤ length rows

row_found : (arch : Arch) (rows : List ℕ) (w z p : ℕ) (row : Row) → RowStands arch rows w z p row → RowFound arch rows w z p row
unfolding spelled_row
row_found arch rows w z p row s =
    let head : List ℕ = unsigned_bytes w row.start in
    let byte : ℕ = row_info_byte z row.content in
    let run : List ℕ = flat_map (signed_bytes z) (row_offsets row.content) in
    let rest : List ℕ = drop (length (head ++ (byte ∷ run))) (drop p rows) in
    let front : drop p rows ≡ head ++ (byte ∷ (run ++ rest)) = in_front rows p (head ++ (byte ∷ run)) s.spelled ∙ append_assoc head (byte ∷ run) rest in
    let start_len : number_len w ≡ width_len w = len_of_width w s.start_width_fits.there_is in
    let head_len : length head ≡ width_len w = length-unsigned w row.start in
    let info : row_info rows w p ≡ byte =
    sym (get_or-drop p rows (number_len w) 0) ∙ (ap (slice_index (drop p rows)) (start_len ∙ sym head_len) ∙ (ap (λ l. slice_index l (length head)) front ∙ get_or-append_seam head byte (run ++ rest) 0)) in
    let parts : InfoParts (row_info rows w p) (length (row_offsets row.content)) z row.content.signed =
    info_parts (row_info rows w p) (base_number row.content.base) (length (row_offsets row.content)) z row.content.signed
    (base_small row.content.base) (few_offsets row.content) s.offset_width_fits.there_is (sign_small row.content.signed) (sym info) in
    let run_len : length run ≡ length (row_offsets row.content) * width_len z = offsets_length z (row_offsets row.content) in
    let whole : length (head ++ (byte ∷ run)) ≡ length head + suc (length run) = length-append head (byte ∷ run) in
    let numbers : offset_count_in (row_info rows w p) * number_len (offset_width_in (row_info rows w p)) ≡ length (row_offsets row.content) * width_len z =
    ap (λ v. offset_count_in (row_info rows w p) * number_len v) parts.width_of
    ∙ (ap (λ n. n * number_len z) parts.count_of ∙ ap (λ l. length (row_offsets row.content) * l) (len_of_width z s.offset_width_fits.there_is)) in
    let end : row_end w p (row_info rows w p) ≡ p + length (head ++ (byte ∷ run)) = omega (whole, start_len, head_len, run_len, numbers, arith) in
    let bounds : p + length (head ++ (byte ∷ run)) ≤ length rows = within_bytes rows p (head ++ (byte ∷ run)) s.spelled (omega (whole, arith)) in
    record {
      start = unsigned_read rows w p row.start (byte ∷ (run ++ rest)) s.start_width_fits.there_is s.start_width_fits.held front;
      parts = parts;
      end = end;
      head = omega (bounds, whole, start_len, head_len, arith);
      within = omega (end, bounds, arith);
    }

-- such a row passes its checks
row_passes : (arch : Arch) (rows : List ℕ) (o w z p least : ℕ) (row : Row) → RowStands arch rows w z p row → least ≤ row.start → row_check arch rows o w p least ≡ Ok tt
unfolding row_check
row_passes arch rows o w z p least row s rising =
    let found : RowFound arch rows w z p row = row_found arch rows w z p row s in
    let content : Content = row.content in
    let width : offset_width_in (row_info rows w p) ≤ 2 = omega (found.parts.width_of, s.offset_width_fits.there_is, arith) in
    let count : IsTrue (has_offset_count arch (offset_count_in (row_info rows w p))) =
    subst (λ n. IsTrue (has_offset_count arch n)) (sym found.parts.count_of) (count_fits arch content.ra content.fp content.signed s.fits) in
    let sign : IsTrue (may_be_signed arch (is_signed_in (row_info rows w p))) =
    subst (λ v. IsTrue (may_be_signed arch v)) (sym found.parts.sign_of) (sign_fits arch content.ra content.fp content.signed s.fits) in
    let above : least ≤ unsigned_in w p rows = omega (found.start, rising, arith) in
    behind _ _ (behind _ _ (behind _ _ (behind _ _ (behind _ _ (holds _ _ (if_le _ _ found.head)) (holds _ _ (if_le _ _ width))) (holds _ _ count)) (holds _ _ (if_le _ _ found.within))) (holds _ _ sign))
    (holds _ _ (if_le _ _ above))

-- the first row's start, if there is a row
abbrev pub BeginsFrom : (least : ℕ) → List Row → Type 0
BeginsFrom least [] = ⊤
BeginsFrom least (row ∷ rows) = least ≤ row.start

rise_later : (row : Row) (rows : List Row) → RowsRise (row ∷ rows) → RowsRise rows
rise_later row rows rise k d lt =
    let next : suc k + 1 ≡ suc (k + 1) = omega arith in
    subst (λ n. (get_or (row ∷ rows) (suc k) d).start < (get_or (row ∷ rows) n d).start) next (rise (suc k) d (omega (lt, arith)))

begins_later : (row : Row) (rows : List Row) → RowsRise (row ∷ rows) → BeginsFrom (row.start + 1) rows
begins_later row [] rise = tt
begins_later row (next ∷ rows) rise = let above = rise 0 row (omega arith) in omega (above, arith)

-- rows that rise pass their checks
pub rows_pass : (arch : Arch) (rows : List ℕ) (o w p least end : ℕ) (rs : List Row) → RowsStand AnyWidth arch rows w p end rs → RowsRise rs → BeginsFrom least rs
    → rows_check arch rows o w p least (length rs) ≡ Ok tt
rows_pass arch rows o w p least end [] s rise from = rows_check-none arch rows o w p least
rows_pass arch rows o w p least end (row ∷ rs) s rise from =
    let found : RowFound arch rows w s.0 p row = row_found arch rows w s.0 p row s.2 in
    let here = row_passes arch rows o w s.0 p least row s.2 from in
    let moved : RowsStand AnyWidth arch rows w (row_end w p (row_info rows w p)) end rs = subst (λ q. RowsStand AnyWidth arch rows w q end rs) (sym found.end) s.3 in
    let risen : BeginsFrom (unsigned_in w p rows + 1) rs = subst (λ n. BeginsFrom (n + 1) rs) (sym found.start) (begins_later row rs rise) in
    let later = rows_pass arch rows o w (row_end w p (row_info rows w p)) (unsigned_in w p rows + 1) end rs moved (rise_later row rs rise) risen in
    rows_check-suc arch rows o w p least (length rs) ∙ behind _ _ here later
