-- Rows that pass their checks are rows by the standard where they are read.
use Rattle.std.proofs.Common.{◌≡◌, ◌≢◌, ◌<◌, ◌≤◌, ℕ, zero, suc, ◌+◌, ◌*◌, ◌/◌, ◌%◌, ℤ, Bool, true, false, IsTrue, List, [], ◌∷◌, ◌++◌, length, Ok, refl, ap, sym, subst, ◌∙◌, arith, nat_le}
use Rattle.std.specs.Prelude.{is_none, if◌then◌else◌, ◌==◌, get_or, option_to_list}
use Rattle.std.specs.List.{flat_map, list_all}
use Rattle.std.proofs.lemmas.List.{length-append}
use Rattle.std.proofs.lemmas.List.Concat.{flat_map-cons}
use Rattle.sf_model.specs.declared.machine.Arch.{Arch}
use Rattle.sf_model.specs.declared.machine.Arch.TheVariants.{Amd64, Aarch64}
use Rattle.sf_model.specs.declared.machine.Base.TheVariants.{Fp, Sp}
use Rattle.sf_model.specs.declared.rows.Row.{Row}
use Rattle.sf_model.specs.Content.{return_fits}
use Rattle.sf_model.specs.Function.{RowsRise}
use Rattle.sf_model.specs.Width.{holds_signed, signed_bytes, unsigned_bytes, width_len}
use Rattle.sf_model.specs.RowBytes.{row_offsets, return_offset, base_number, signed_number, row_info_byte, spelled_row, StandsAt}
use Rattle.sf_model.specs.Section.{AreBytes, RowStands, RowsStand, AnyWidth}
use Rattle.sf_decode.specs.Row.{number_len, unsigned_in, signed_in, info_place, offsets_place, row_info, row_end, offset_count_in, offset_width_in, is_signed_in, base_in, has_offset_count, may_be_signed, row_check, rows_check, ra_in, fp_in, content_in, row_in, rows_in}
use Rattle.sf_decode.proofs.Holds.{not_true, both_pass, unless_holds, both_of, second_of, le_if, eq_if, ne_if, gt_if_not}
use Rattle.sf_decode.proofs.Loops.{rows_check-suc}
use Rattle.sf_decode.proofs.Standing.{len_of_width, stands_cons, stands_append, unsigned_stands, unsigned_held, signed_stands, signed_held, length-unsigned, length-signed}

-- what the checks of a row give
pub record RowPassed (arch : Arch) (rows : List ℕ) (w p least info : ℕ) : Type 0 where
  pub head : offsets_place w p ≤ length rows
  pub width : offset_width_in info ≤ 2
  pub count : IsTrue (has_offset_count arch (offset_count_in info))
  pub end : row_end w p info ≤ length rows
  pub sign : IsTrue (may_be_signed arch (is_signed_in info))
  pub rising : least ≤ unsigned_in w p rows

pub row_passed : (arch : Arch) (rows : List ℕ) (o w p least : ℕ) → row_check arch rows o w p least ≡ Ok tt → RowPassed arch rows w p least (row_info rows w p)
unfolding row_check
row_passed arch rows o w p least e =
    let five = both_pass _ _ e in
    let four = both_pass _ _ five.0 in
    let three = both_pass _ _ four.0 in
    let two = both_pass _ _ three.0 in
    let one = both_pass _ _ two.0 in
    record {
      head = le_if _ _ (unless_holds _ _ one.0);
      width = le_if _ _ (unless_holds _ _ one.1);
      count = unless_holds _ _ two.1;
      end = le_if _ _ (unless_holds _ _ three.1);
      sign = unless_holds _ _ four.1;
      rising = le_if _ _ (unless_holds _ _ five.1);
    }

-- `count` consecutive signed numbers of a width
abbrev offsets_from : (w len p count : ℕ) → List ℕ → List ℤ
offsets_from w len p zero rows = []
offsets_from w len p (suc count) rows = signed_in w p rows ∷ offsets_from w len (p + len) count rows

-- the numbers of offsets that a machine's rows have
few : (arch : Arch) (count : ℕ) → IsTrue (has_offset_count arch count) → count ≤ 3
few Amd64 count e = let most = le_if count 2 (second_of (nat_le 1 count) (nat_le count 2) e) in omega (most, arith)
few Aarch64 count e = le_if count 3 (second_of (nat_le 1 count) (nat_le count 3) e)

-- a row's offsets, by their number
offsets_are : (arch : Arch) (w len p count : ℕ) (rows : List ℕ) → IsTrue (has_offset_count arch count)
    → signed_in w p rows ∷ (return_offset (ra_in arch count (signed_in w (p + len) rows)) ++ option_to_list (fp_in arch count (signed_in w (p + len) rows) (signed_in w (p + len + len) rows)))
    ≡ offsets_from w len p count rows
offsets_are Amd64 w len p zero rows e = absurd (not_true e)
offsets_are Amd64 w len p (suc zero) rows e = refl
offsets_are Amd64 w len p (suc (suc zero)) rows e = refl
offsets_are Amd64 w len p (suc (suc (suc zero))) rows e = absurd (not_true e)
offsets_are Amd64 w len p (suc (suc (suc (suc n)))) rows e = absurd (let most = few Amd64 (suc (suc (suc (suc n)))) e in omega (most, arith))
offsets_are Aarch64 w len p zero rows e = absurd (not_true e)
offsets_are Aarch64 w len p (suc zero) rows e = refl
offsets_are Aarch64 w len p (suc (suc zero)) rows e = refl
offsets_are Aarch64 w len p (suc (suc (suc zero))) rows e = refl
offsets_are Aarch64 w len p (suc (suc (suc (suc n)))) rows e = absurd (let most = few Aarch64 (suc (suc (suc (suc n)))) e in omega (most, arith))

-- a content with such offsets is one of the machine
fits : (arch : Arch) (count : ℕ) (y z : ℤ) (signed : Bool) → IsTrue (has_offset_count arch count) → IsTrue (may_be_signed arch signed)
    → IsTrue (return_fits arch (ra_in arch count y) (is_none (fp_in arch count y z)) signed)
fits Amd64 count y z signed e s = s
fits Aarch64 zero y z signed e s = absurd (not_true e)
fits Aarch64 (suc zero) y z signed e s = refl
fits Aarch64 (suc (suc zero)) y z signed e s = refl
fits Aarch64 (suc (suc (suc zero))) y z signed e s = refl
fits Aarch64 (suc (suc (suc (suc n)))) y z signed e s = absurd (let most = few Aarch64 (suc (suc (suc (suc n)))) e in omega (most, arith))

-- the bytes of `count` numbers
offsets_length : (w len p count : ℕ) (rows : List ℕ) → len ≡ width_len w → length (flat_map (signed_bytes w) (offsets_from w len p count rows)) ≡ count * len
offsets_length w len p zero rows same = omega arith
offsets_length w len p (suc count) rows same =
    let first = length-signed w (signed_in w p rows) in
    let later = offsets_length w len (p + len) count rows same in
    ap length (flat_map-cons (signed_bytes w) (signed_in w p rows) (offsets_from w len (p + len) count rows))
    ∙ (length-append (signed_bytes w (signed_in w p rows)) (flat_map (signed_bytes w) (offsets_from w len (p + len) count rows)) ∙ omega (first, later, same, arith))

offsets_stand : (w len p count : ℕ) (rows : List ℕ) → AreBytes rows → w ≤ 2 → len ≡ width_len w → p + count * len ≤ length rows
    → StandsAt rows p (flat_map (signed_bytes w) (offsets_from w len p count rows))
offsets_stand w len p zero rows all k same within = refl
offsets_stand w len p (suc count) rows all k same within =
    let run : List ℕ = signed_bytes w (signed_in w p rows) in
    let rest : List ℕ = flat_map (signed_bytes w) (offsets_from w len (p + len) count rows) in
    let here : StandsAt rows p run = signed_stands rows w p all k (omega (within, same, arith)) in
    let later : StandsAt rows (p + len) rest = offsets_stand w len (p + len) count rows all k same (omega (within, arith)) in
    let size : len ≡ length run = same ∙ sym (length-signed w (signed_in w p rows)) in
    let moved : StandsAt rows (p + length run) rest = subst (λ n. StandsAt rows (p + n) rest) size later in
    subst (StandsAt rows p) (sym (flat_map-cons (signed_bytes w) (signed_in w p rows) (offsets_from w len (p + len) count rows))) (stands_append rows p run rest here moved)

offsets_held : (w len p count : ℕ) (rows : List ℕ) → AreBytes rows → w ≤ 2 → IsTrue (list_all (λ z. holds_signed z w) (offsets_from w len p count rows))
offsets_held w len p zero rows all k = refl
offsets_held w len p (suc count) rows all k = both_of _ _ (signed_held rows w p all k) (offsets_held w len (p + len) count rows all k)

-- the parts of an info byte
base_by : (info : ℕ) (t : Bool) → (info % 2 == 0) ≡ t → base_number (if t then Fp else Sp) ≡ info % 2
base_by info true e = let none : info % 2 ≡ 0 = eq_if (info % 2) 0 e in sym none
base_by info false e = let some : info % 2 ≢ 0 = ne_if (info % 2) 0 e in omega (some, arith)

sign_by : (info : ℕ) (t : Bool) → nat_le 128 info ≡ t → info < 256 → signed_number t ≡ info / 128
sign_by info true e lt = let high = le_if 128 info e in omega (high, lt, arith)
sign_by info false e lt = let low = gt_if_not 128 info e in omega (low, arith)

info_whole : (info b c s : ℕ) → info < 256 → b ≡ info % 2 → c ≡ info / 2 % 16 → s ≡ info / 128 → b + 2 * c + 32 * (info / 32 % 4) + 128 * s ≡ info
info_whole info b c s lt p q r = omega (lt, p, q, r, arith)

offsets_count : (w len p count : ℕ) (rows : List ℕ) → length (offsets_from w len p count rows) ≡ count
offsets_count w len p zero rows = refl
offsets_count w len p (suc count) rows = let later = offsets_count w len (p + len) count rows in omega (later, arith)

-- a row that passes its checks
pub record RowReads (arch : Arch) (rows : List ℕ) (w p least : ℕ) : Type 0 where
  pub width : ℕ
  pub stands : RowStands arch rows w width p (row_in arch rows w p)
  pub end : p + length (spelled_row w width (row_in arch rows w p)) ≡ row_end w p (row_info rows w p)
  pub rising : least ≤ (row_in arch rows w p).start

pub row_reads : (arch : Arch) (rows : List ℕ) (o w p least : ℕ) → AreBytes rows → w ≤ 2 → row_check arch rows o w p least ≡ Ok tt → RowReads arch rows w p least
unfolding spelled_row row_in content_in
row_reads arch rows o w p least all k e =
    let info : ℕ = row_info rows w p in
    let ok : RowPassed arch rows w p least info = row_passed arch rows o w p least e in
    let v : ℕ = offset_width_in info in
    let len : ℕ = number_len v in
    let count : ℕ = offset_count_in info in
    let first : ℕ = offsets_place w p in
    let start_len : number_len w ≡ width_len w = len_of_width w k in
    let offset_len : len ≡ width_len v = len_of_width v ok.width in
    let offsets : List ℤ = offsets_from v len first count rows in
    let are : row_offsets (row_in arch rows w p).content ≡ offsets = offsets_are arch v len first count rows ok.count in
    let end : first + count * len ≤ length rows = ok.end in
    let byte : row_info_byte v (row_in arch rows w p).content ≡ info =
    info_whole info (base_number (base_in info)) (length (row_offsets (row_in arch rows w p).content)) (signed_number (is_signed_in info)) (all (info_place w p))
    (base_by info (info % 2 == 0) refl) (ap length are ∙ offsets_count v len first count rows) (sign_by info (nat_le 128 info) refl (all (info_place w p))) in
    let head : List ℕ = unsigned_bytes w (unsigned_in w p rows) in
    let run : List ℕ = flat_map (signed_bytes v) (row_offsets (row_in arch rows w p).content) in
    let start_stands : StandsAt rows p head = unsigned_stands rows w p all k (omega (start_len, ok.head, arith)) in
    let run_stands : StandsAt rows first run = subst (λ l. StandsAt rows first (flat_map (signed_bytes v) l)) (sym are) (offsets_stand v len first count rows all ok.width offset_len end) in
    let next : first ≡ suc (info_place w p) = omega arith in
    let behind : StandsAt rows (info_place w p) (row_info_byte v (row_in arch rows w p).content ∷ run) =
    stands_cons rows (info_place w p) (row_info_byte v (row_in arch rows w p).content) run (omega (ok.head, arith)) (sym byte) (subst (λ n. StandsAt rows n run) next run_stands) in
    let size : number_len w ≡ length head = start_len ∙ sym (length-unsigned w (unsigned_in w p rows)) in
    let moved : StandsAt rows (p + length head) (row_info_byte v (row_in arch rows w p).content ∷ run) =
    subst (λ n. StandsAt rows (p + n) (row_info_byte v (row_in arch rows w p).content ∷ run)) size behind in
    let run_len : length run ≡ count * len = ap (λ l. length (flat_map (signed_bytes v) l)) are ∙ offsets_length v len first count rows offset_len in
    let whole : length (head ++ (row_info_byte v (row_in arch rows w p).content ∷ run)) ≡ length head + suc (length run) = length-append head (row_info_byte v (row_in arch rows w p).content ∷ run) in
    record {
      width = v;
      stands = record {
        fits = fits arch count (signed_in v (first + len) rows) (signed_in v (first + len + len) rows) (is_signed_in info) ok.count ok.sign;
        start_width_fits = record { there_is = k; held = unsigned_held rows w p all k };
        offset_width_fits = record { there_is = ok.width; held = subst (λ l. IsTrue (list_all (λ z. holds_signed z v) l)) (sym are) (offsets_held v len first count rows all ok.width) };
        spelled = stands_append rows p head (row_info_byte v (row_in arch rows w p).content ∷ run) start_stands moved;
      };
      end = omega (whole, size, run_len, arith);
      rising = ok.rising;
    }

-- rows that pass their checks
pub rows_stand : (arch : Arch) (rows : List ℕ) (o w p least n : ℕ) → AreBytes rows → w ≤ 2 → rows_check arch rows o w p least n ≡ Ok tt
    → (end : ℕ) × RowsStand AnyWidth arch rows w p end (rows_in arch rows w p n)
unfolding rows_in
rows_stand arch rows o w p least zero all k e = (p, refl)
rows_stand arch rows o w p least (suc n) all k e =
    let both = both_pass (row_check arch rows o w p least) (rows_check arch rows o w (row_end w p (row_info rows w p)) (unsigned_in w p rows + 1) n) (sym (rows_check-suc arch rows o w p least n) ∙ e) in
    let here : RowReads arch rows w p least = row_reads arch rows o w p least all k both.0 in
    let later = rows_stand arch rows o w (row_end w p (row_info rows w p)) (unsigned_in w p rows + 1) n all k both.1 in (
      later.0,
      (
        here.width,
        tt,
        here.stands,
        subst (λ q. RowsStand AnyWidth arch rows w q later.0 (rows_in arch rows w (row_end w p (row_info rows w p)) n)) (sym here.end) later.1,
      ),
    )

-- a row in front of rows that rise
rise_by : (x y : Row) (rs : List Row) → x.start < y.start → RowsRise (y ∷ rs) → RowsRise (x ∷ y ∷ rs)
rise_by x y rs lt rise zero d within = lt
rise_by x y rs lt rise (suc k) d within =
    let next : suc (k + 1) ≡ suc k + 1 = omega arith in
    subst (λ n. (get_or (y ∷ rs) k d).start < (get_or (x ∷ y ∷ rs) n d).start) next (rise k d (omega (within, arith)))

start_of : (arch : Arch) (rows : List ℕ) (w p : ℕ) → (row_in arch rows w p).start ≡ unsigned_in w p rows
unfolding row_in
start_of arch rows w p = refl

pub rows_rise : (arch : Arch) (rows : List ℕ) (o w p least n : ℕ) → rows_check arch rows o w p least n ≡ Ok tt → RowsRise (rows_in arch rows w p n)
unfolding rows_in
rows_rise arch rows o w p least zero e = λ k d lt. absurd (omega (lt, arith))
rows_rise arch rows o w p least (suc zero) e = λ k d lt. absurd (omega (lt, arith))
rows_rise arch rows o w p least (suc (suc n)) e =
    let q : ℕ = row_end w p (row_info rows w p) in
    let both = both_pass (row_check arch rows o w p least) (rows_check arch rows o w q (unsigned_in w p rows + 1) (suc n)) (sym (rows_check-suc arch rows o w p least (suc n)) ∙ e) in
    let next = both_pass (row_check arch rows o w q (unsigned_in w p rows + 1)) (rows_check arch rows o w (row_end w q (row_info rows w q)) (unsigned_in w q rows + 1) n)
    (sym (rows_check-suc arch rows o w q (unsigned_in w p rows + 1) n) ∙ both.1) in
    let above = (row_passed arch rows o w q (unsigned_in w p rows + 1) next.0).rising in
    let first = start_of arch rows w p in
    let second = start_of arch rows w q in
    let later = rows_rise arch rows o w q (unsigned_in w p rows + 1) (suc n) both.1 in
    rise_by (row_in arch rows w p) (row_in arch rows w q) (rows_in arch rows w (row_end w q (row_info rows w q)) n) (omega (above, first, second, arith)) later
