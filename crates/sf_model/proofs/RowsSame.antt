-- The bytes of a function's rows determine the rows, if the start width and the number of rows are known.
use Rattle.std.proofs.Common.{◌≡◌, ℕ, ◌+◌, ◌≤◌, ℤ, Bool, true, false, IsTrue, List, [], ◌∷◌, ◌++◌, length, refl, ap, sym, ◌∙◌, arith}
use Rattle.std.specs.Prelude.{◌&&◌, Option, Some, None, drop, option_to_list, is_none}
use Rattle.std.specs.List.{flat_map, list_all}
use Rattle.std.proofs.lemmas.List.{append_assoc, append_cancel_left, take-append-drop}
use Rattle.std.proofs.lemmas.List.Concat.{flat_map-cons}
use Rattle.sf_model.specs.declared.machine.Arch.{Arch}
use Rattle.sf_model.specs.declared.machine.Arch.TheVariants.{Amd64, Aarch64}
use Rattle.sf_model.specs.declared.machine.Base.{Base}
use Rattle.sf_model.specs.declared.machine.Base.TheVariants.{Fp, Sp}
use Rattle.sf_model.specs.declared.content.Ra.{Ra}
use Rattle.sf_model.specs.declared.content.Ra.TheVariants.{Fixed, Link, At}
use Rattle.sf_model.specs.declared.content.Content.{Content}
use Rattle.sf_model.specs.declared.rows.Row.{Row}
use Rattle.sf_model.specs.Content.{content_fits, return_fits}
use Rattle.sf_model.specs.Width.{holds_unsigned, holds_signed, unsigned_bytes, signed_bytes, IsWidth}
use Rattle.sf_model.specs.RowBytes.{row_offsets, return_offset, holds_row_offsets, base_number, signed_number, row_info_byte, spelled_row, StandsAt}
use Rattle.sf_model.specs.Section.{RowStands, RowsStand, AnyWidth}
use Rattle.sf_model.proofs.RowNumbers.{unsigned_same, signed_same, info_base}
use Rattle.sf_model.proofs.Recoveries.{by_fields, not_true}

-- the parts of two lists that are equal
head_same : {A : Type 0} (x y : A) (xs ys : List A) → x ∷ xs ≡ y ∷ ys → x ≡ y
head_same x y xs ys e = cc

tail_same : {A : Type 0} (x y : A) (xs ys : List A) → x ∷ xs ≡ y ∷ ys → xs ≡ ys
tail_same x y xs ys e = cc

no_cons : {A : Type 0} (x : A) (xs : List A) → [] ≡ x ∷ xs → ⊥
no_cons x xs e = cc

-- both parts of a test
first_of : (a b : Bool) → IsTrue (a && b) → IsTrue a
first_of true b e = refl
first_of false b e = absurd (not_true e)

second_of : (a b : Bool) → IsTrue (a && b) → IsTrue b
second_of true b e = e
second_of false b e = absurd (not_true e)

-- equally many offsets of one width in front of the same bytes
offsets_same : (w : ℕ) (xs ys : List ℤ) (t u : List ℕ) → w ≤ 2 → IsTrue (list_all (λ z. holds_signed z w) xs) → IsTrue (list_all (λ z. holds_signed z w) ys)
    → length xs ≡ length ys → flat_map (signed_bytes w) xs ++ t ≡ flat_map (signed_bytes w) ys ++ u → xs ≡ ys
offsets_same w [] [] t u k p q n e = refl
offsets_same w [] (y ∷ ys) t u k p q n e = absurd (omega (n, arith))
offsets_same w (x ∷ xs) [] t u k p q n e = absurd (omega (n, arith))
offsets_same w (x ∷ xs) (y ∷ ys) t u k p q n e =
    let here : signed_bytes w x ++ (flat_map (signed_bytes w) xs ++ t) ≡ signed_bytes w y ++ (flat_map (signed_bytes w) ys ++ u) =
    sym (append_assoc (signed_bytes w x) (flat_map (signed_bytes w) xs) t)
    ∙ (ap (λ l. l ++ t) (sym (flat_map-cons (signed_bytes w) x xs)) ∙ (e ∙ (ap (λ l. l ++ u) (flat_map-cons (signed_bytes w) y ys)
    ∙ append_assoc (signed_bytes w y) (flat_map (signed_bytes w) ys) u))) in
    let same : x ≡ y = signed_same w x y (flat_map (signed_bytes w) xs ++ t) (flat_map (signed_bytes w) ys ++ u) k
    (first_of (holds_signed x w) (list_all (λ z. holds_signed z w) xs) p) (first_of (holds_signed y w) (list_all (λ z. holds_signed z w) ys) q) here in
    let later : flat_map (signed_bytes w) xs ++ t ≡ flat_map (signed_bytes w) ys ++ u =
    append_cancel_left (signed_bytes w x) (flat_map (signed_bytes w) xs ++ t) (flat_map (signed_bytes w) ys ++ u)
    (here ∙ ap (λ v. signed_bytes w v ++ (flat_map (signed_bytes w) ys ++ u)) (sym same)) in
    let n' : length xs ≡ length ys = omega (n, arith) in
    ap (λ v. v ∷ xs) same ∙ ap (λ l. y ∷ l) (offsets_same w xs ys t u k
    (second_of (holds_signed x w) (list_all (λ z. holds_signed z w) xs) p) (second_of (holds_signed y w) (list_all (λ z. holds_signed z w) ys) q) n' later)

-- the offsets of a machine's row determine where its return address and its frame pointer are
pointer_told : (x y : Option ℤ) → option_to_list x ≡ option_to_list y → x ≡ y
pointer_told None None e = refl
pointer_told None (Some n) e = absurd (no_cons n [] e)
pointer_told (Some m) None e = absurd (no_cons m [] (sym e))
pointer_told (Some m) (Some n) e = ap (λ z. Some z) (head_same m n [] [] e)

is_none_true : (x : Option ℤ) → IsTrue (is_none x) → x ≡ None
is_none_true None e = refl
is_none_true (Some n) e = absurd (not_true e)

nothing_but : (n : ℤ) (x : Option ℤ) (l : List ℤ) → IsTrue (is_none x) → option_to_list x ≡ n ∷ l → ⊥
nothing_but n None l h e = no_cons n l e
nothing_but n (Some m) l h e = not_true h

saved_told : (arch : Arch) (r s : Ra) (x y : Option ℤ) (v w : Bool) → IsTrue (return_fits arch r (is_none x) v) → IsTrue (return_fits arch s (is_none y) w)
    → return_offset r ++ option_to_list x ≡ return_offset s ++ option_to_list y → (r ≡ s) × (x ≡ y)
saved_told Amd64 Fixed Fixed x y v w a b e = (refl, pointer_told x y e)
saved_told Amd64 Fixed Link x y v w a b e = absurd (not_true b)
saved_told Amd64 Fixed (At n) x y v w a b e = absurd (not_true b)
saved_told Amd64 Link s x y v w a b e = absurd (not_true a)
saved_told Amd64 (At m) s x y v w a b e = absurd (not_true a)
saved_told Aarch64 Fixed s x y v w a b e = absurd (not_true a)
saved_told Aarch64 Link Fixed x y v w a b e = absurd (not_true b)
saved_told Aarch64 Link Link x y v w a b e = (refl, is_none_true x a ∙ sym (is_none_true y b))
saved_told Aarch64 Link (At n) x y v w a b e = absurd (nothing_but n x (option_to_list y) a e)
saved_told Aarch64 (At m) Fixed x y v w a b e = absurd (not_true b)
saved_told Aarch64 (At m) Link x y v w a b e = absurd (nothing_but m y (option_to_list x) b (sym e))
saved_told Aarch64 (At m) (At n) x y v w a b e = (ap At (head_same m n (option_to_list x) (option_to_list y) e), pointer_told x y (tail_same m n (option_to_list x) (option_to_list y) e))

base_told : (b c : Base) → base_number b ≡ base_number c → b ≡ c
base_told Fp Fp e = refl
base_told Fp Sp e = absurd (omega (e, arith))
base_told Sp Fp e = absurd (omega (e, arith))
base_told Sp Sp e = refl

sign_told : (v w : Bool) → signed_number v ≡ signed_number w → v ≡ w
sign_told false false e = refl
sign_told false true e = absurd (omega (e, arith))
sign_told true false e = absurd (omega (e, arith))
sign_told true true e = refl

pub base_small : (b : Base) → base_number b ≤ 1
base_small Fp = omega arith
base_small Sp = omega arith

pub sign_small : (v : Bool) → signed_number v ≤ 1
sign_small false = omega arith
sign_small true = omega arith

few_saved : (r : Ra) (x : Option ℤ) → length (return_offset r ++ option_to_list x) ≤ 2
few_saved Fixed None = omega arith
few_saved Fixed (Some n) = omega arith
few_saved Link None = omega arith
few_saved Link (Some n) = omega arith
few_saved (At m) None = omega arith
few_saved (At m) (Some n) = omega arith

pub few_offsets : (c : Content) → length (row_offsets c) ≤ 15
few_offsets c = let few : length (return_offset c.ra ++ option_to_list c.fp) ≤ 2 = few_saved c.ra c.fp in omega (few, arith)

abbrev row_of : ℕ → Content → Row
row_of start content = record { start = start; content = content }

row_by_fields : (x y : Row) → x.start ≡ y.start → x.content ≡ y.content → x ≡ y
row_by_fields x y p q = ap (λ s. row_of s x.content) p ∙ ap (λ c. row_of y.start c) q

-- a run at a place is in front of what follows the place
in_front : (bytes : List ℕ) (place : ℕ) (run : List ℕ) → StandsAt bytes place run → drop place bytes ≡ run ++ drop (length run) (drop place bytes)
in_front bytes place run s = sym (take-append-drop (length run) (drop place bytes)) ∙ ap (λ l. l ++ drop (length run) (drop place bytes)) s

-- two rows that are spelled in front of the same bytes
spelled_same : (arch : Arch) (w z v : ℕ) (x y : Row) (t u : List ℕ) → IsTrue (content_fits arch x.content) → IsTrue (content_fits arch y.content)
    → IsWidth (holds_unsigned x.start) w → IsWidth (holds_unsigned y.start) w → IsWidth (holds_row_offsets x.content) z → IsWidth (holds_row_offsets y.content) v
    → spelled_row w z x ++ t ≡ spelled_row w v y ++ u → (x ≡ y) × (z ≡ v)
unfolding spelled_row
spelled_same arch w z v x y t u f g p q r s e =
    let xs : List ℕ = flat_map (signed_bytes z) (row_offsets x.content) in
    let ys : List ℕ = flat_map (signed_bytes v) (row_offsets y.content) in
    let i : ℕ = row_info_byte z x.content in
    let j : ℕ = row_info_byte v y.content in
    let here : unsigned_bytes w x.start ++ (i ∷ (xs ++ t)) ≡ unsigned_bytes w y.start ++ (j ∷ (ys ++ u)) =
    sym (append_assoc (unsigned_bytes w x.start) (i ∷ xs) t) ∙ (e ∙ append_assoc (unsigned_bytes w y.start) (j ∷ ys) u) in
    let start : x.start ≡ y.start = unsigned_same w x.start y.start (i ∷ (xs ++ t)) (j ∷ (ys ++ u)) p.there_is p.held q.held here in
    let later : i ∷ (xs ++ t) ≡ j ∷ (ys ++ u) = append_cancel_left (unsigned_bytes w x.start) (i ∷ (xs ++ t)) (j ∷ (ys ++ u))
    (here ∙ ap (λ n. unsigned_bytes w n ++ (j ∷ (ys ++ u))) (sym start)) in
    let parts = info_base (base_number x.content.base) (length (row_offsets x.content)) z (signed_number x.content.signed)
    (base_number y.content.base) (length (row_offsets y.content)) v (signed_number y.content.signed)
    (base_small x.content.base) (few_offsets x.content) r.there_is (sign_small x.content.signed)
    (base_small y.content.base) (few_offsets y.content) s.there_is (sign_small y.content.signed) (head_same i j (xs ++ t) (ys ++ u) later) in
    let width : z ≡ v = parts.2 in
    let offsets : row_offsets x.content ≡ row_offsets y.content = offsets_same z (row_offsets x.content) (row_offsets y.content) t u r.there_is r.held
    (ap (holds_row_offsets y.content) width ∙ s.held) parts.1
    (tail_same i j (xs ++ t) (ys ++ u) later ∙ ap (λ n. flat_map (signed_bytes n) (row_offsets y.content) ++ u) (sym width)) in
    let saved : (x.content.ra ≡ y.content.ra) × (x.content.fp ≡ y.content.fp) = saved_told arch x.content.ra y.content.ra x.content.fp y.content.fp x.content.signed y.content.signed f g
    (tail_same x.content.cfa y.content.cfa (return_offset x.content.ra ++ option_to_list x.content.fp) (return_offset y.content.ra ++ option_to_list y.content.fp) offsets) in
    let cfa : x.content.cfa ≡ y.content.cfa = head_same x.content.cfa y.content.cfa (return_offset x.content.ra ++ option_to_list x.content.fp) (return_offset y.content.ra ++ option_to_list y.content.fp) offsets in
    let content : x.content ≡ y.content = by_fields x.content y.content (base_told x.content.base y.content.base parts.0) cfa saved.0 saved.1 (sign_told x.content.signed y.content.signed parts.3) in
    (row_by_fields x y start content, width)

pub row_same : (arch : Arch) (rows : List ℕ) (w z v p q : ℕ) (x y : Row) → p ≡ q → RowStands arch rows w z p x → RowStands arch rows w v q y → (x ≡ y) × (z ≡ v)
row_same arch rows w z v p q x y place a b =
    spelled_same arch w z v x y (drop (length (spelled_row w z x)) (drop p rows)) (drop (length (spelled_row w v y)) (drop q rows))
    a.fits b.fits a.start_width_fits b.start_width_fits a.offset_width_fits b.offset_width_fits
    (sym (in_front rows p (spelled_row w z x) a.spelled) ∙ (ap (λ n. drop n rows) place ∙ in_front rows q (spelled_row w v y) b.spelled))

-- equally many rows from one place on
pub rows_same : (arch : Arch) (rows : List ℕ) (w p q k l : ℕ) (xs ys : List Row) → p ≡ q → length xs ≡ length ys
    → RowsStand AnyWidth arch rows w p k xs → RowsStand AnyWidth arch rows w q l ys → xs ≡ ys
rows_same arch rows w p q k l [] [] place n a b = refl
rows_same arch rows w p q k l [] (y ∷ ys) place n a b = absurd (omega (n, arith))
rows_same arch rows w p q k l (x ∷ xs) [] place n a b = absurd (omega (n, arith))
rows_same arch rows w p q k l (x ∷ xs) (y ∷ ys) place n a b =
    let same : (x ≡ y) × (a.0 ≡ b.0) = row_same arch rows w a.0 b.0 p q x y place a.2 b.2 in
    let len : length (spelled_row w a.0 x) ≡ length (spelled_row w b.0 y) =
    ap (λ r. length (spelled_row w a.0 r)) same.0 ∙ ap (λ z. length (spelled_row w z y)) same.1 in
    let next : p + length (spelled_row w a.0 x) ≡ q + length (spelled_row w b.0 y) = ap (λ m. m + length (spelled_row w a.0 x)) place ∙ ap (λ m. q + m) len in
    let n' : length xs ≡ length ys = omega (n, arith) in
    ap (λ r. r ∷ xs) same.0 ∙ ap (λ rs. y ∷ rs) (rows_same arch rows w (p + length (spelled_row w a.0 x)) (q + length (spelled_row w b.0 y)) k l xs ys next n' a.3 b.3)
