-- What a read puts after the bytes that are there.
use Rattle.std.proofs.Common.{◌≡◌, ◌≤◌, ◌+◌, ◌∙◌, ◌++◌, ◌∷◌, [], List, ℕ, take, length, refl, sym, ap, append_assoc, arith, length-append}
use Rattle.std.proofs.lemmas.List.{take-append-le, take-take}
use Rattle.std.proofs.Math.Seq.{take-append-add}
use Rattle.sf_base.specs.Contents.{Moves}

front_kept : (m l : ℕ) (xs ys : List ℕ) → m ≤ length xs → m ≤ l → take m (take l (xs ++ ys)) ≡ take m xs
front_kept m l xs ys short shorter = take-take m l (xs ++ ys) shorter ∙ take-append-le m xs ys short

-- the bytes that are there, and then the first n of those that were read
behind : (f n : ℕ) (front tail post : List ℕ) → length front ≡ f → n ≤ length tail → take (f + n) (front ++ (tail ++ post)) ≡ front ++ take n tail
behind f n front tail post long short =
    ap (λ m. take (m + n) (front ++ (tail ++ post))) (sym long) ∙ (take-append-add front (tail ++ post) n ∙ ap (λ xs. front ++ xs) (take-append-le n tail post short))

pub moved_behind : (f n l : ℕ) (old slice resized tail post ys final rest left : List ℕ) → final ≡ take (f + n) (take l ((take f slice ++ (tail ++ post)) ++ ys))
    → slice ≡ resized → take f resized ≡ old → f ≡ length old → n ≤ length tail → f + n ≤ l → Moves n rest left tail → old ++ rest ≡ final ++ left
moved_behind f n l old slice resized tail post ys final rest left final_is lent kept long short room moves =
    let front : take f slice ≡ old = ap (λ xs. take f xs) lent ∙ kept in
    let long_front : length (take f slice) ≡ f = ap length front ∙ sym long in
    let fits : f + n ≤ length (take f slice ++ (tail ++ post)) = simp length-append (omega arith) in
    let a : final ≡ old ++ take n tail = final_is ∙ (front_kept (f + n) l (take f slice ++ (tail ++ post)) ys fits room
    ∙ (behind f n (take f slice) tail post long_front short ∙ ap (λ xs. xs ++ take n tail) front)) in
    ap (λ xs. old ++ xs) moves.moved ∙ (sym (append_assoc old (take n tail) left) ∙ ap (λ xs. xs ++ left) (sym a))

pub nothing_left : (xs : List ℕ) → length xs ≤ 0 → xs ≡ []
nothing_left [] short = refl
nothing_left (x ∷ xs) short = absurd (omega arith)
