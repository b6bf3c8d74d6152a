-- What is left of an open file, before and after a read.
use Rattle.std.proofs.Common.{◌≡◌, ◌≤◌, ◌<◌, ◌+◌, ◌-◌, ◌∙◌, ◌++◌, List, ℕ, min, take, drop, ⊎_elim, length, sym, ap, arith}
use Rattle.std.proofs.lemmas.Bool.{cases_lt}
use Rattle.std.proofs.lemmas.List.{take_rest, take-append-drop, drop-drop}
use Rattle.std.proofs.Math.ListN.{drop_of_length-le}
use Rattle.sf_base.specs.Contents.{Moves}
use Rattle.sf_base.proofs.Behind.{nothing_left}

drop_capped : (d : ℕ) (xs : List ℕ) → drop (min d (length xs)) xs ≡ drop d xs
drop_capped d xs = ⊎_elim
    (λ less. let e : min d (length xs) ≡ d = omega arith in ap (λ n. drop n xs) e)
    (λ past. let e : min d (length xs) ≡ length xs = omega arith in
    let all : length xs ≤ length xs = omega arith in
    ap (λ n. drop n xs) e ∙ (drop_of_length-le xs all ∙ sym (drop_of_length-le xs past)))
    (cases_lt d (length xs))

-- what is left after d bytes, also where d is more than the length
pub left_from : (d : ℕ) (xs : List ℕ) → take (length xs - min d (length xs)) (drop (min d (length xs)) xs) ≡ drop d xs
left_from d xs = take_rest xs (min d (length xs)) ∙ drop_capped d xs

-- n bytes of what is left moved to the front of the buffer
pub moves_on : (n d : ℕ) (bytes buffer : List ℕ) (room most : ℕ) → n ≡ min (min (length (drop d bytes)) room) most → take n buffer ≡ take n (drop d bytes) → 0 < room → 0 < most
    → Moves n (drop d bytes) (drop (d + n) bytes) buffer
moves_on n d bytes buffer room most count copied some_room some_most = record {
  moved = sym (ap (λ xs. xs ++ drop (d + n) bytes) copied ∙ (ap (λ xs. take n (drop d bytes) ++ xs) (sym (drop-drop n d bytes)) ∙ take-append-drop n (drop d bytes)));
  end = λ none. let zero_left : length (drop d bytes) ≤ 0 = omega arith in nothing_left (drop d bytes) zero_left;
}
