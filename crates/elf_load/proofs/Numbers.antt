-- The greatest number, the only one that passes, and the first build identifier, over what is left of the numbers from 0 on.
use Rattle.std.specs.List.{filter, find, flat_map, range_with_len}
use Rattle.std.specs.Option.{option_map, option_or}
use Rattle.std.specs.Prelude.{is_some, max}
use Rattle.std.proofs.Common.{◌≡◌, ℕ, suc, ◌+◌, ◌-◌, ◌<◌, ◌≤◌, Bool, true, false, cond, List, [], ◌∷◌, ◌++◌, map, Option, Some, None, refl, ap, ◌∙◌, arith}
use Rattle.sf_bytes.specs.Cursor.{Cursor}
use Rattle.core_notes.specs.Note.{NoteView}
use Rattle.core_notes.proofs.Numbered.{left_of}
use Rattle.elf_load.specs.BuildId.{first_id, is_build_id}
use Rattle.elf_load.specs.Segments.{greatest, only_one}

pub next : (n i : ℕ) → i < n → left_of n i ≡ i ∷ left_of n (i + 1)
next n i lt = let left : n - i ≡ suc (n - (i + 1)) = omega (lt, arith) in ap (range_with_len i) left

pub end : (n i : ℕ) → n ≤ i → left_of n i ≡ []
end n i le = let none : n - i ≡ 0 = omega (le, arith) in ap (range_with_len i) none

pub greatest_next : (f : ℕ → ℕ) (n i : ℕ) → i < n → greatest (map f (left_of n i)) ≡ max (f i) (greatest (map f (left_of n (i + 1))))
greatest_next f n i lt = ap (λ (ns : List ℕ). greatest (map f ns)) (next n i lt)

pub greatest_end : (f : ℕ → ℕ) (n i : ℕ) → n ≤ i → greatest (map f (left_of n i)) ≡ 0
greatest_end f n i le = ap (λ (ns : List ℕ). greatest (map f ns)) (end n i le)

-- ---- the numbers that pass
abbrev pub passing_from : (p : ℕ → Bool) (n i : ℕ) → List ℕ
passing_from p n i = filter p (left_of n i)

pub takes_in : (p : ℕ → Bool) (n i : ℕ) → i < n → p i ≡ true → passing_from p n i ≡ i ∷ passing_from p n (i + 1)
takes_in p n i lt t = ap (filter p) (next n i lt) ∙ ap (λ (b : Bool). cond b (i ∷ passing_from p n (i + 1)) (passing_from p n (i + 1))) t

pub leaves_out : (p : ℕ → Bool) (n i : ℕ) → i < n → p i ≡ false → passing_from p n i ≡ passing_from p n (i + 1)
leaves_out p n i lt t = ap (filter p) (next n i lt) ∙ ap (λ (b : Bool). cond b (i ∷ passing_from p n (i + 1)) (passing_from p n (i + 1))) t

pub none_pass : (p : ℕ → Bool) (n i : ℕ) → n ≤ i → passing_from p n i ≡ []
none_pass p n i le = ap (filter p) (end n i le)

-- the only number of one that was found, if it was, and the others
abbrev pub only_with : Option ℕ → List ℕ → Option ℕ
only_with None ns = only_one ns
only_with (Some n) ns = only_one (n ∷ ns)

pub only_found : (found : Option ℕ) → only_with found [] ≡ found
only_found None = refl
only_found (Some n) = refl

pub one_more : (found : Option ℕ) (m : ℕ) (ns : List ℕ) → is_some found ≡ true → only_with found (m ∷ ns) ≡ None
one_more None m ns some = cc
one_more (Some n) m ns some = refl

pub first_one : (found : Option ℕ) (m : ℕ) (ns : List ℕ) → is_some found ≡ false → only_with found (m ∷ ns) ≡ only_with (Some m) ns
first_one None m ns none = refl
first_one (Some n) m ns none = cc

-- ---- the first identifier of some notes, or of those after them
id-append : (xs ys : List NoteView) → first_id (xs ++ ys) ≡ option_or (first_id xs) (first_id ys)
id-append [] ys = refl
id-append (n ∷ xs) ys = by_test (is_build_id n) (id-append xs ys)
  where
    by_test : (t : Bool) → first_id (xs ++ ys) ≡ option_or (first_id xs) (first_id ys)
        → option_map (λ (m : NoteView). m.descriptor) (cond t (Some n) (find is_build_id (xs ++ ys))) ≡ option_or (option_map (λ (m : NoteView). m.descriptor) (cond t (Some n) (find is_build_id xs))) (first_id ys)
    by_test true later = refl
    by_test false later = later

-- the first identifier of the notes of these segments
abbrev pub first_ids : (notes : ℕ → List NoteView) → List ℕ → Option Cursor
first_ids notes numbers = first_id (flat_map notes numbers)

pub id_here : (notes : ℕ → List NoteView) (n i : ℕ) (id : Cursor) → i < n → first_id (notes i) ≡ Some id → first_id (flat_map notes (left_of n i)) ≡ Some id
id_here notes n i id lt is =
    ap (λ (ns : List ℕ). first_id (flat_map notes ns)) (next n i lt) ∙ id-append (notes i) (flat_map notes (left_of n (i + 1)))
    ∙ ap (λ (first : Option Cursor). option_or first (first_id (flat_map notes (left_of n (i + 1))))) is

pub id_next : (notes : ℕ → List NoteView) (n i : ℕ) → i < n → first_id (notes i) ≡ None → first_id (flat_map notes (left_of n i)) ≡ first_id (flat_map notes (left_of n (i + 1)))
id_next notes n i lt is =
    ap (λ (ns : List ℕ). first_id (flat_map notes ns)) (next n i lt) ∙ id-append (notes i) (flat_map notes (left_of n (i + 1)))
    ∙ ap (λ (first : Option Cursor). option_or first (first_id (flat_map notes (left_of n (i + 1))))) is

pub id_end : (notes : ℕ → List NoteView) (n i : ℕ) → n ≤ i → first_id (flat_map notes (left_of n i)) ≡ None
id_end notes n i le = ap (λ (ns : List ℕ). first_id (flat_map notes ns)) (end n i le)

pub none_greater : (n : ℕ) → max 0 n ≡ n
none_greater n = omega arith
