-- The names of the note on mapped files: what is read is there, and what is there is read.
use Rattle.std.specs.Prelude.{is_some}
use Rattle.std.specs.List.{filter, flat_map, list_any, position, position_from}
use Rattle.std.specs.Option.{option_and_then, option_map}
use Rattle.std.proofs.Common.{◌≡◌, ℕ, zero, suc, ◌+◌, ◌<◌, Bool, true, false, ◌||◌, cond, List, [], ◌∷◌, ◌++◌, length, take, drop, Option, Some, None, refl, sym, ap, subst, ◌∙◌, append_assoc, arith}
use Rattle.std.proofs.lemmas.Bool.{eqb-true, le-leb, leb-false, leb-true, lt-leb}
use Rattle.std.proofs.lemmas.Iterator.Adapters.{position_from-zero}
use Rattle.std.proofs.lemmas.List.{take_at}
use Rattle.std.proofs.Math.Seq.{drop-append-add}
use Rattle.sf_modules.specs.Note.{AreNames, zero_ended, has_file_names, is_zero_byte}
use Rattle.sf_modules.specs.TextsRead.{text_front, texts_in}

abbrev zeros : List ℕ → ℕ
zeros bytes = length (filter is_zero_byte bytes)

-- ---- the first zero byte, where the bytes are numbered from i on
abbrev FrontAt : (i : ℕ) → List ℕ → Option ℕ → Type 0
FrontAt i bytes None = zeros bytes ≡ 0
FrontAt i bytes (Some k) = (n : ℕ) × (k ≡ i + n) × (bytes ≡ take n bytes ++ 0 ∷ drop (suc n) bytes) × (list_any is_zero_byte (take n bytes) ≡ false) × (zeros bytes ≡ suc (zeros (drop (suc n) bytes)))

one_further : (i b : ℕ) (bs : List ℕ) (o : Option ℕ) → is_zero_byte b ≡ false → FrontAt (i + 1) bs o → FrontAt i (b ∷ bs) o
one_further i b bs None other none = ap (λ z. length (cond z (b ∷ filter is_zero_byte bs) (filter is_zero_byte bs))) other ∙ none
one_further i b bs (Some k) other f = (
  suc f.0,
  omega (arith, f.1),
  ap (λ xs. b ∷ xs) f.2,
  ap (λ z. z || list_any is_zero_byte (take f.0 bs)) other ∙ f.3,
  ap (λ z. length (cond z (b ∷ filter is_zero_byte bs) (filter is_zero_byte bs))) other ∙ f.4,
)

front_at : (i : ℕ) (bytes : List ℕ) → FrontAt i bytes (position_from is_zero_byte i bytes)
front_at i [] = refl
front_at i (b ∷ bs) = by (is_zero_byte b) refl (front_at (i + 1) bs)
  where
    by : (z : Bool) → is_zero_byte b ≡ z → FrontAt (i + 1) bs (position_from is_zero_byte (i + 1) bs) → FrontAt i (b ∷ bs) (cond z (Some i) (position_from is_zero_byte (i + 1) bs))
    by true here later = (0, omega arith, ap (λ x. x ∷ bs) (eqb-true b 0 here), refl, ap (λ z. length (cond z (b ∷ filter is_zero_byte bs) (filter is_zero_byte bs))) here)
    by false other later = one_further i b bs (position_from is_zero_byte (i + 1) bs) other later

-- ---- the text at the front
abbrev Front : List ℕ → Option (List ℕ × List ℕ) → Type 0
Front bytes None = zeros bytes ≡ 0
Front bytes (Some t) = (bytes ≡ t.0 ++ 0 ∷ t.1) × (list_any is_zero_byte t.0 ≡ false) × (zeros bytes ≡ suc (zeros t.1))

of_place : (bytes : List ℕ) (o : Option ℕ) → FrontAt 0 bytes o → Front bytes (option_map (λ (k : ℕ). (take k bytes, drop (k + 1) bytes)) o)
of_place bytes None none = none
of_place bytes (Some k) f =
    let same : f.0 ≡ k = omega (arith, f.1) in
    let next : suc f.0 ≡ k + 1 = omega (arith, f.1) in
    subst (λ (m : ℕ). (bytes ≡ take k bytes ++ 0 ∷ drop m bytes) × (list_any is_zero_byte (take k bytes) ≡ false) × (zeros bytes ≡ suc (zeros (drop m bytes)))) next
    (subst (λ (m : ℕ). (bytes ≡ take m bytes ++ 0 ∷ drop (suc f.0) bytes) × (list_any is_zero_byte (take m bytes) ≡ false) × (zeros bytes ≡ suc (zeros (drop (suc f.0) bytes)))) same (f.2, f.3, f.4))

front_law : (bytes : List ℕ) → Front bytes (text_front bytes)
unfolding text_front
front_law bytes = of_place bytes (position is_zero_byte bytes) (subst (FrontAt 0 bytes) (sym (position_from-zero is_zero_byte bytes)) (front_at 0 bytes))

-- ---- all names
abbrev Found : (n : ℕ) → List ℕ → Option (List (List ℕ)) → Type 0
Found n bytes None = has_file_names n bytes ≡ false
Found n bytes (Some names) = AreNames n bytes names × (has_file_names n bytes ≡ true)

one_more_name : (n : ℕ) (bytes name later : List ℕ) (names : List (List ℕ)) → bytes ≡ name ++ 0 ∷ later → list_any is_zero_byte name ≡ false → AreNames n later names → AreNames (suc n) bytes (name ∷ names)
one_more_name n bytes name later names are none h =
    let others : List ℕ = flat_map zero_ended names in
    record {
      count = ap suc h.count;
      no_zero = ap (λ z. z || list_any (list_any is_zero_byte) names) none ∙ h.no_zero;
      rest = h.rest;
      are = are ∙ ap (λ xs. name ++ 0 ∷ xs) h.are ∙ sym (append_assoc (name ++ 0 ∷ []) others h.rest ∙ append_assoc name (0 ∷ []) (others ++ h.rest));
    }

with_later : (n : ℕ) (bytes name later : List ℕ) (o : Option (List (List ℕ))) → bytes ≡ name ++ 0 ∷ later → list_any is_zero_byte name ≡ false → zeros bytes ≡ suc (zeros later)
    → Found n later o → Found (suc n) bytes (option_map (λ (texts : List (List ℕ)). name ∷ texts) o)
with_later n bytes name later None are none more few =
    let below : zeros later < n = leb-false n (zeros later) few in
    lt-leb (suc n) (zeros bytes) (omega (arith, more, below))
with_later n bytes name later (Some names) are none more h =
    (one_more_name n bytes name later names are none h.0, le-leb (suc n) (zeros bytes) (omega (arith, more, leb-true n (zeros later) h.1)))

texts_found : (n : ℕ) (bytes : List ℕ) → Found n bytes (texts_in n bytes)
unfolding texts_in
texts_found zero bytes = (record { count = refl; no_zero = refl; rest = bytes; are = refl }, le-leb 0 (zeros bytes) (omega arith))
texts_found (suc n) bytes = by (text_front bytes) (front_law bytes) (λ later. texts_found n later)
  where
    by : (o : Option (List ℕ × List ℕ)) → Front bytes o → ((later : List ℕ) → Found n later (texts_in n later))
        → Found (suc n) bytes (option_and_then (λ (t : List ℕ × List ℕ). option_map (λ (texts : List (List ℕ)). t.0 ∷ texts) (texts_in n t.1)) o)
    by None none found = lt-leb (suc n) (zeros bytes) (omega (arith, none))
    by (Some t) f found = with_later n bytes t.0 t.1 (texts_in n t.1) f.0 f.1 f.2 (found t.1)

pub texts_are : (n : ℕ) (bytes : List ℕ) (names : List (List ℕ)) → texts_in n bytes ≡ Some names → AreNames n bytes names
texts_are n bytes names e = (subst (Found n bytes) e (texts_found n bytes)).0

some_found : (n : ℕ) (bytes : List ℕ) (o : Option (List (List ℕ))) → Found n bytes o → is_some o ≡ has_file_names n bytes
some_found n bytes None few = sym few
some_found n bytes (Some names) h = sym h.1

-- there are n texts exactly where there are n zero bytes
pub texts_some : (n : ℕ) (bytes : List ℕ) → is_some (texts_in n bytes) ≡ has_file_names n bytes
texts_some n bytes = some_found n bytes (texts_in n bytes) (texts_found n bytes)

exist_by : (n : ℕ) (bytes : List ℕ) (o : Option (List (List ℕ))) → Found n bytes o → has_file_names n bytes ≡ true → (names : List (List ℕ)) × AreNames n bytes names
exist_by n bytes None few has = absurd (let differ : false ≡ true = sym few ∙ has in cc)
exist_by n bytes (Some names) h has = (names, h.0)

-- bytes with n zero bytes have n names
pub names_exist : (n : ℕ) (bytes : List ℕ) → has_file_names n bytes ≡ true → (names : List (List ℕ)) × AreNames n bytes names
names_exist n bytes has = exist_by n bytes (texts_in n bytes) (texts_found n bytes) has

-- ---- what is there is read
both_false : (a b : Bool) → (a || b) ≡ false → (a ≡ false) × (b ≡ false)
both_false true b h = absurd (let differ : true ≡ false = h in cc)
both_false false b h = (refl, h)

place_again : (i : ℕ) (name later : List ℕ) → list_any is_zero_byte name ≡ false → position_from is_zero_byte i (name ++ 0 ∷ later) ≡ Some (i + length name)
place_again i [] later none = ap Some (omega arith)
place_again i (b ∷ bs) later none =
    let p = both_false (is_zero_byte b) (list_any is_zero_byte bs) none in
    let next : i + 1 + length bs ≡ i + suc (length bs) = omega arith in
    ap (λ z. cond z (Some i) (position_from is_zero_byte (i + 1) (bs ++ 0 ∷ later))) p.0 ∙ place_again (i + 1) bs later p.1 ∙ ap Some next

front_again : (name later : List ℕ) → list_any is_zero_byte name ≡ false → text_front (name ++ 0 ∷ later) ≡ Some (name, later)
unfolding text_front
front_again name later none =
    let bytes : List ℕ = name ++ 0 ∷ later in
    let place : position is_zero_byte bytes ≡ Some (length name) = position_from-zero is_zero_byte bytes ∙ place_again 0 name later none ∙ ap Some (omega arith) in
    ap (λ (o : Option ℕ). option_map (λ (k : ℕ). (take k bytes, drop (k + 1) bytes)) o) place
    ∙ ap (λ (xs : List ℕ). Some (xs, drop (length name + 1) bytes)) (take_at name (0 ∷ later) (length name) refl)
    ∙ ap (λ (xs : List ℕ). Some (name, xs)) (drop-append-add name (0 ∷ later) 1)

names_again : (names : List (List ℕ)) (rest : List ℕ) → list_any (list_any is_zero_byte) names ≡ false → texts_in (length names) (flat_map zero_ended names ++ rest) ≡ Some names
unfolding texts_in
names_again [] rest none = refl
names_again (name ∷ names) rest none =
    let p = both_false (list_any is_zero_byte name) (list_any (list_any is_zero_byte) names) none in
    let others : List ℕ = flat_map zero_ended names in
    let regrouped : (name ++ 0 ∷ []) ++ others ++ rest ≡ name ++ 0 ∷ (others ++ rest) = append_assoc (name ++ 0 ∷ []) others rest ∙ append_assoc name (0 ∷ []) (others ++ rest) in
    ap (λ (o : Option (List ℕ × List ℕ)). option_and_then (λ (t : List ℕ × List ℕ). option_map (λ (texts : List (List ℕ)). t.0 ∷ texts) (texts_in (length names) t.1)) o)
    (ap text_front regrouped ∙ front_again name (others ++ rest) p.0)
    ∙ ap (λ (o : Option (List (List ℕ))). option_map (λ (texts : List (List ℕ)). name ∷ texts) o) (names_again names rest p.1)

read_again : (n : ℕ) (bytes : List ℕ) (names : List (List ℕ)) → AreNames n bytes names → texts_in n bytes ≡ Some names
read_again n bytes names h = ap (λ (m : ℕ). texts_in m bytes) (sym h.count) ∙ ap (texts_in (length names)) h.are ∙ names_again names h.rest h.no_zero

-- bytes have one list of n names
pub names_unique : (n : ℕ) (bytes : List ℕ) (names others : List (List ℕ)) → AreNames n bytes names → AreNames n bytes others → names ≡ others
names_unique n bytes names others h i =
    let both : Some names ≡ Some others = sym (read_again n bytes names h) ∙ read_again n bytes others i in
    cc
