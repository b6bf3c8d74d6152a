-- A file with parts at their places.
use Rattle.std.proofs.Common.{◌≡◌, ◌⊎◌, ℕ, ◌+◌, ◌-◌, ◌≤◌, List, [], ◌∷◌, ◌++◌, All, length, take, drop, replicate, refl, sym, ap, subst, ◌∙◌, arith, inl, inr, slice_index_or, Bool, true, false, cond, Option, Some, None}
use Rattle.std.specs.Option.{IfSome}
use Rattle.sf_parts.specs.Image.{image, with_part, with_parts, known_or_read}
use Rattle.std.proofs.lemmas.List.{length-append, length-drop, length-take, length-take-le, drop-drop, drop-take, take-append-le, drop-append-le, drop_all, take_all, take-take, take_min}
use Rattle.std.proofs.lemmas.List.Elements.{All-push}
use Rattle.sf_bytes.specs.declared.file_part.FilePart.{FilePart}
use Rattle.sf_bytes.specs.Parts.{IsPart, AreParts}

drop_past : (xs ys : List ℕ) (r : ℕ) → drop (length xs + r) (xs ++ ys) ≡ drop r ys
drop_past xs ys r =
    sym (drop-drop r (length xs) (xs ++ ys))
    ∙ ap (drop r) (drop-append-le (length xs) xs ys (omega arith) ∙ ap (λ (zs : List ℕ). zs ++ ys) (drop_all (length xs) xs (omega arith)))

-- the bytes with a part in them
pub sized : (p : FilePart) (xs : List ℕ) → p.place + length p.bytes.items ≤ length xs → length (with_part p xs) ≡ length xs
sized p xs within =
    let a = length-append (take p.place xs) (p.bytes.items ++ drop (p.place + length p.bytes.items) xs) in
    let b = length-append p.bytes.items (drop (p.place + length p.bytes.items) xs) in
    let c = length-take p.place xs in
    let d = length-drop (p.place + length p.bytes.items) xs in
    omega (arith, a, b, c, d, within)

pub stands : (p : FilePart) (xs : List ℕ) → p.place + length p.bytes.items ≤ length xs → IsPart (with_part p xs) p
stands p xs within =
    let front : length (take p.place xs) ≡ p.place = length-take-le p.place xs (omega (arith, within)) in
    let at : drop p.place (with_part p xs) ≡ p.bytes.items ++ drop (p.place + length p.bytes.items) xs =
    ap (λ (n : ℕ). drop n (with_part p xs)) (sym front ∙ none (length (take p.place xs)))
    ∙ drop_past (take p.place xs) (p.bytes.items ++ drop (p.place + length p.bytes.items) xs) 0
    in
    sym (ap (take (length p.bytes.items)) at ∙ take-append-le (length p.bytes.items) p.bytes.items (drop (p.place + length p.bytes.items) xs) (omega arith) ∙ take_whole p.bytes.items)
  where
    none : (n : ℕ) → n ≡ n + 0
    none n = omega arith

    take_whole : (ys : List ℕ) → take (length ys) ys ≡ ys
    take_whole ys = take_all (length ys) ys (omega arith)

abbrev pub IsApart : FilePart → FilePart → Type 0
IsApart p q = (q.place + length q.bytes.items ≤ p.place) ⊎ (p.place + length p.bytes.items ≤ q.place)

same_window : (p : FilePart) (from n : ℕ) (xs : List ℕ) → p.place + length p.bytes.items ≤ length xs
    → (from + n ≤ p.place) ⊎ (p.place + length p.bytes.items ≤ from) → take n (drop from (with_part p xs)) ≡ take n (drop from xs)
same_window p from n xs within (inl before) =
    let rest = p.bytes.items ++ drop (p.place + length p.bytes.items) xs in
    let front : length (take p.place xs) ≡ p.place = length-take-le p.place xs (omega (arith, within)) in
    let left : length (drop from (take p.place xs)) ≡ length (take p.place xs) - from = length-drop from (take p.place xs) in
    let at : p.place ≡ from + (p.place - from) = omega (arith, before) in
    ap (take n) (drop-append-le from (take p.place xs) (p.bytes.items ++ drop (p.place + length p.bytes.items) xs) (omega (arith, front, before)))
    ∙ take-append-le n (drop from (take p.place xs)) (p.bytes.items ++ drop (p.place + length p.bytes.items) xs) (omega (arith, front, left, before))
    ∙ ap (λ (k : ℕ). take n (drop from (take k xs))) at
    ∙ ap (take n) (drop-take from (p.place - from) xs)
    ∙ take-take n (p.place - from) (drop from xs) (omega (arith, before))
same_window p from n xs within (inr past) =
    let size = length p.bytes.items in
    let front : length (take p.place xs) ≡ p.place = length-take-le p.place xs (omega (arith, within)) in
    let skip = from - (p.place + length p.bytes.items) in
    let at : from ≡ length (take p.place xs) + (length p.bytes.items + (from - (p.place + length p.bytes.items))) = omega (arith, front, past) in
    let back : (p.place + length p.bytes.items) + (from - (p.place + length p.bytes.items)) ≡ from = omega (arith, past) in
    ap (take n)
    (ap (λ (k : ℕ). drop k (with_part p xs)) at
    ∙ drop_past (take p.place xs) (p.bytes.items ++ drop (p.place + length p.bytes.items) xs) (length p.bytes.items + (from - (p.place + length p.bytes.items)))
    ∙ drop_past p.bytes.items (drop (p.place + length p.bytes.items) xs) (from - (p.place + length p.bytes.items))
    ∙ drop-drop (from - (p.place + length p.bytes.items)) (p.place + length p.bytes.items) xs
    ∙ ap (λ (k : ℕ). drop k xs) back)

keeps : (p q : FilePart) (xs : List ℕ) → p.place + length p.bytes.items ≤ length xs → IsApart p q → IsPart xs q → IsPart (with_part p xs) q
keeps p q xs within apart is = is ∙ sym (same_window p q.place (length q.bytes.items) xs within apart)

keep_all : (p : FilePart) (qs : List FilePart) (xs : List ℕ) → p.place + length p.bytes.items ≤ length xs → All (IsApart p) qs → AreParts xs qs → AreParts (with_part p xs) qs
keep_all p qs xs within apart are = λ k d below. keeps p (slice_index_or qs k d) xs within (apart k d below) (are k d below)

added : (base : List ℕ) (qs : List FilePart) (p : FilePart) → with_parts base (qs ++ p ∷ []) ≡ with_part p (with_parts base qs)
added base [] p = refl
added base (q ∷ qs) p = added (with_part q base) qs p

pub sized_more : (len : ℕ) (qs : List FilePart) (p : FilePart) → length (image len qs) ≡ len → p.place + length p.bytes.items ≤ len → length (image len (qs ++ p ∷ [])) ≡ len
sized_more len qs p is within = ap length (added (replicate len 0) qs p) ∙ sized p (image len qs) (omega (arith, is, within)) ∙ is

pub parts_more : (len : ℕ) (qs : List FilePart) (p : FilePart) → length (image len qs) ≡ len → p.place + length p.bytes.items ≤ len → All (IsApart p) qs
    → AreParts (image len qs) qs → AreParts (image len (qs ++ p ∷ [])) (qs ++ p ∷ [])
parts_more len qs p is within apart are =
    subst (λ (xs : List ℕ). AreParts xs (qs ++ p ∷ [])) (sym (added (replicate len 0) qs p))
    (All-push (IsPart (with_part p (image len qs))) qs p (keep_all p qs (image len qs) (omega (arith, is, within)) apart are) (stands p (image len qs) (omega (arith, is, within))))

-- with a part more, or as they were
pub record AreImaged (len : ℕ) (parts : List FilePart) : Type 0 where
  pub sized : length (image len parts) ≡ len
  pub slices : AreParts (image len parts) parts

pub either : (b : Bool) (len : ℕ) (new qs : List FilePart) (p : FilePart) → new ≡ cond b (qs ++ p ∷ []) qs → length (image len qs) ≡ len → p.place + length p.bytes.items ≤ len → All (IsApart p) qs
    → AreParts (image len qs) qs → AreImaged len new
either true len new qs p new_is is within apart are =
    subst (AreImaged len) (sym new_is) (record { sized = sized_more len qs p is within; slices = parts_more len qs p is within apart are })
either false len new qs p new_is is within apart are =
    subst (AreImaged len) (sym new_is) (record { sized = is; slices = are })

-- ---- what is known, or else what was read
pub chosen_len : (contents : Option (List (List ℕ × List ℕ))) (known read : List ℕ) (len : ℕ) → IfSome contents (λ _. len ≡ length known) → length read ≡ len → len ≡ length (known_or_read contents known read)
chosen_len None known read len h is = sym is
chosen_len (Some files) known read len h is = h

pub chosen_parts : (contents : Option (List (List ℕ × List ℕ))) (known read : List ℕ) (parts : List FilePart) → IfSome contents (λ _. AreParts known parts) → AreParts read parts → AreParts (known_or_read contents known read) parts
chosen_parts None known read parts h are = are
chosen_parts (Some files) known read parts h are = h

pub chosen_is : (contents : Option (List (List ℕ × List ℕ))) (known read : List ℕ) → IfSome contents (λ _. known_or_read contents known read ≡ known)
chosen_is None known read = tt
chosen_is (Some files) known read = refl

-- what was read of a file from a place on is a part
read_is_part : (place size : ℕ) (bytes whole : List ℕ) → bytes ≡ take size (drop place whole) → bytes ≡ take (length bytes) (drop place whole)
read_is_part place size bytes whole is =
    is ∙ sym (take_min size (drop place whole)) ∙ ap (λ (n : ℕ). take n (drop place whole)) (sym (length-take size (drop place whole)) ∙ sym (ap length is))

-- with what was read, or as they were
pub read_more : (contents : Option (List (List ℕ × List ℕ))) (whole : List ℕ) (size : ℕ) (p : FilePart) (b : Bool) (old new : List FilePart)
    → IfSome contents (λ _. AreParts whole old) → IfSome contents (λ _. p.bytes.items ≡ take size (drop p.place whole)) → new ≡ cond b (old ++ p ∷ []) old
    → IfSome contents (λ _. AreParts whole new)
read_more None whole size p b old new are is added_is = tt
read_more (Some files) whole size p true old new are is added_is =
    subst (AreParts whole) (sym added_is) (All-push (IsPart whole) old p are (read_is_part p.place size p.bytes.items whole is))
read_more (Some files) whole size p false old new are is added_is = subst (AreParts whole) (sym added_is) are
