-- Consecutive pointer fields between two places.
use Rattle.std.specs.Prelude.{option_to_list}
use Rattle.std.proofs.Common.{◌≡◌, ℕ, zero, suc, ◌+◌, ◌<◌, ◌≤◌, List, [], ◌∷◌, ◌++◌, length, map, None, get_or, sym, subst, ◌∙◌, arith}
use Rattle.std.proofs.lemmas.List.{map-id}
use Rattle.sf_bytes.specs.declared.field.Field.{Field}
use Rattle.sf_bytes.specs.Cursor.{Cursor}
use Rattle.sf_bytes.specs.Rising.{AreRising, AreApart}
use Rattle.sf_bytes.proofs.Inside.{end_of}
use Rattle.eh_records.specs.Raw.{StandApart}
use Rattle.eh_records.specs.Step.{PointerField, pointer_view}
use Rattle.eh_records.proofs.Parts.{IsPart, number_there, number_wider}

abbrev pub Between : (low high : ℕ) → List PointerField → Type 0
Between low high [] = low ≤ high
Between low high (f ∷ fs) = (low ≤ f.place) × Between (f.place + f.width) high fs

pub lower : (a b high : ℕ) (fs : List PointerField) → a ≤ b → Between b high fs → Between a high fs
lower a b high [] le h = omega (arith, h)
lower a b high (f ∷ fs) le h = (omega (arith, h.0), h.1)

pub higher : (low c d : ℕ) (fs : List PointerField) → c ≤ d → Between low c fs → Between low d fs
higher low c d [] le h = omega (arith, h)
higher low c d (f ∷ fs) le h = (h.0, higher (f.place + f.width) c d fs le h.1)

pub both_between : (a b c : ℕ) (fs gs : List PointerField) → Between a b fs → Between b c gs → Between a c (fs ++ gs)
both_between a b c [] gs h k = lower a b c gs h k
both_between a b c (f ∷ fs) gs h k = (h.0, both_between (f.place + f.width) b c fs gs h.1 k)

pub not_above : (low high : ℕ) (fs : List PointerField) → Between low high fs → low ≤ high
not_above low high [] h = omega (arith, h)
not_above low high (f ∷ fs) h =
    let rest : f.place + f.width ≤ high = not_above (f.place + f.width) high fs h.1 in
    omega (arith, h.0, rest)

-- the raw number of each field is the one at its place
abbrev pub AreRawIn : Cursor → List PointerField → Type 0
AreRawIn at [] = Unit {0}
AreRawIn at (f ∷ fs) = (f.raw ≡ number_there at f.place f.width) × AreRawIn at fs

raw_wider : (inner outer : Cursor) (low : ℕ) (fs : List PointerField) → IsPart inner outer → inner.place ≤ low → Between low (end_of inner) fs → AreRawIn inner fs → AreRawIn outer fs
raw_wider inner outer low [] p le h raw = tt
raw_wider inner outer low (f ∷ fs) p le h raw =
    let from : inner.place ≤ f.place = omega (arith, le, h.0) in
    let to : f.place + f.width ≤ end_of inner = not_above (f.place + f.width) (end_of inner) fs h.1 in
    (raw.0 ∙ number_wider inner outer f.place f.width p from to, raw_wider inner outer (f.place + f.width) fs p (omega (arith, from)) h.1 raw.1)

pub both_raw : (at : Cursor) (fs gs : List PointerField) → AreRawIn at fs → AreRawIn at gs → AreRawIn at (fs ++ gs)
both_raw at [] gs h k = k
both_raw at (f ∷ fs) gs h k = (h.0, both_raw at fs gs h.1 k)

-- fields that lie in a cursor's bytes, with their numbers
pub record LieIn (at : Cursor) (fs : List PointerField) : Type 0 where
  pub between : Between at.place (end_of at) fs
  pub raw : AreRawIn at fs

pub lie_wider : (inner outer : Cursor) (fs : List PointerField) → IsPart inner outer → LieIn inner fs → LieIn outer fs
lie_wider inner outer fs p h = record {
  between = lower outer.place inner.place (end_of outer) fs p.inside.from (higher inner.place (end_of inner) (end_of outer) fs p.inside.to h.between);
  raw = raw_wider inner outer inner.place fs p (omega arith) h.between h.raw;
}

pub none_lies : (at : Cursor) → LieIn at (option_to_list None)
none_lies at = record { between = omega arith; raw = tt }

-- ---- apart, as they are defined and as they are returned
not_before : {X : Type 0} (view : X → PointerField) (low high : ℕ) (fs : List X) (i : ℕ) (d : X) → Between low high (map view fs) → i < length fs → low ≤ (view (get_or fs i d)).place
not_before view low high [] i d h within = absurd (omega arith)
not_before view low high (f ∷ fs) zero d h within = h.0
not_before view low high (f ∷ fs) (suc i) d h within =
    let k = not_before view ((view f).place + (view f).width) high fs i d h.1 (omega arith) in
    omega (arith, h.0, k)

ends_before : {X : Type 0} (view : X → PointerField) (low high : ℕ) (fs : List X) (i j : ℕ) (d : X) → Between low high (map view fs) → i < j → j < length fs
    → (view (get_or fs i d)).place + (view (get_or fs i d)).width ≤ (view (get_or fs j d)).place
ends_before view low high [] i j d h lt within = absurd (omega arith)
ends_before view low high (f ∷ fs) i zero d h lt within = absurd (omega arith)
ends_before view low high (f ∷ fs) zero (suc j) d h lt within = not_before view ((view f).place + (view f).width) high fs j d h.1 (omega arith)
ends_before view low high (f ∷ fs) (suc i) (suc j) d h lt within = ends_before view ((view f).place + (view f).width) high fs i j d h.1 (omega arith) (omega arith)

pub stand_apart : (low high : ℕ) (fs : List PointerField) → Between low high fs → StandApart fs
stand_apart low high fs h i j d lt within =
    ends_before (λ (f : PointerField). f) low high fs i j d (subst (Between low high) (sym (map-id fs)) h) lt within

pub apart : (low high : ℕ) (fs : List Field) → Between low high (map pointer_view fs) → AreApart fs
apart low high fs h i j d lt within = ends_before pointer_view low high fs i j d h lt within

pub rising : (low high : ℕ) (fs : List Field) → Between low high (map pointer_view fs) → AreRising fs
rising low high [] h i j d le within = absurd (omega arith)
rising low high (f ∷ fs) h zero zero d le within = omega arith
rising low high (f ∷ fs) h (suc i) zero d le within = absurd (omega arith)
rising low high (f ∷ fs) h zero (suc j) d le within =
    let k = not_before pointer_view (f.place + f.width) high fs j d h.1 (omega arith) in
    omega (arith, k)
rising low high (f ∷ fs) h (suc i) (suc j) d le within = rising (f.place + f.width) high fs h.1 i j d (omega arith) (omega arith)
