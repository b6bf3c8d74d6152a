-- Texts that are written in pieces, and through a buffer.
use Rattle.std.proofs.Common.{◌≡◌, ℕ, ◌+◌, List, [], ◌∷◌, ◌++◌, length, take, Option, Some, None, refl, sym, ap, subst, ◌∙◌, append_assoc, arith, inl, inr}
use Rattle.std.proofs.lemmas.Bool.{cases_lt}
use Rattle.std.proofs.lemmas.List.{take-append-le, take_all}
use Rattle.std.proofs.Math.Seq.{take-append-add, take-append_seam}
use Rattle.sf_base.specs.Written.{Appends, AppendsPrefix}
use Rattle.sf_text.specs.Gathered.{Gathers}

-- one piece, and then another
pub appends_both : (a b c : Option (List ℕ)) (p q : List ℕ) → Appends a b p → Appends b c q → Appends a c (p ++ q)
appends_both a b None p q h k = tt
appends_both a None (Some c) p q h k = absurd k
appends_both None (Some b) (Some c) p q h k = absurd h
appends_both (Some a) (Some b) (Some c) p q h k = k ∙ ap (λ (x : List ℕ). x ++ q) h ∙ append_assoc a p q

-- one piece, and then a prefix of another
pub appends_some : (a b c : Option (List ℕ)) (p q : List ℕ) → Appends a b p → AppendsPrefix b c q → AppendsPrefix a c (p ++ q)
appends_some a b None p q h k = tt
appends_some a None (Some c) p q h k = absurd k
appends_some None (Some b) (Some c) p q h k = absurd h
appends_some (Some a) (Some b) (Some c) p q h k =
    (length p + k.0, k.1 ∙ ap (λ (x : List ℕ). x ++ take k.0 q) h ∙ append_assoc a p (take k.0 q) ∙ ap (λ (x : List ℕ). a ++ x) (sym (take-append-add p q k.0)))

prefix_again : (n : ℕ) (p q : List ℕ) → (m : ℕ) × (take n p ≡ take m (p ++ q))
prefix_again n p q = elim (cases_lt n (length p)) [
  | inl lt ↦ (n, sym (take-append-le n p q (omega arith)))
  | inr le ↦ (length p, take_all n p le ∙ sym (take-append_seam p q))
]

-- a prefix of the first piece is one of both
pub appends_front : (a b : Option (List ℕ)) (p q : List ℕ) → AppendsPrefix a b p → AppendsPrefix a b (p ++ q)
appends_front a None p q h = tt
appends_front None (Some b) p q h = absurd h
appends_front (Some a) (Some b) p q h =
    let again = prefix_again h.0 p q in
    (again.0, h.1 ∙ ap (λ (x : List ℕ). a ++ x) again.1)

-- nothing more
pub append_nil : (xs : List ℕ) → xs ++ [] ≡ xs
append_nil [] = refl
append_nil (x ∷ xs) = ap (λ (ys : List ℕ). x ∷ ys) (append_nil xs)

-- ---- through a buffer
-- nothing went through yet
pub gathers_none : (told : Option (List ℕ)) (held : List ℕ) → Gathers told told held held []
gathers_none None held = tt
gathers_none (Some old) held = record { piece = []; written = sym (append_nil old); all = sym (append_nil held) }

both_pieces : (p q held between holds x y : List ℕ) → p ++ between ≡ held ++ x → q ++ holds ≡ between ++ y → (p ++ q) ++ holds ≡ held ++ (x ++ y)
both_pieces p q held between holds x y first second =
    append_assoc p q holds ∙ ap (λ (zs : List ℕ). p ++ zs) second ∙ sym (append_assoc p between y) ∙ ap (λ (zs : List ℕ). zs ++ y) first ∙ append_assoc held x y

-- some bytes, and then others
pub gathers_both : (a b c : Option (List ℕ)) (held between holds x y : List ℕ) → Gathers a b held between x → Gathers b c between holds y → Gathers a c held holds (x ++ y)
gathers_both a b None held between holds x y h k = tt
gathers_both a None (Some c) held between holds x y h k = absurd k
gathers_both None (Some b) (Some c) held between holds x y h k = absurd h
gathers_both (Some a) (Some b) (Some c) held between holds x y h k = record {
  piece = h.piece ++ k.piece;
  written = k.written ∙ ap (λ (zs : List ℕ). zs ++ k.piece) h.written ∙ append_assoc a h.piece k.piece;
  all = both_pieces h.piece k.piece held between holds x y h.all k.all;
}

-- some bytes, and then a prefix of what the buffer holds
pub gathers_some : (a b c : Option (List ℕ)) (held holds x : List ℕ) → Gathers a b held holds x → AppendsPrefix b c holds → AppendsPrefix a c (held ++ x)
gathers_some a b None held holds x h k = tt
gathers_some a None (Some c) held holds x h k = absurd k
gathers_some None (Some b) (Some c) held holds x h k = absurd h
gathers_some (Some a) (Some b) (Some c) held holds x h k =
    subst (λ (all : List ℕ). AppendsPrefix (Some a) (Some c) all) h.all (appends_some (Some a) (Some b) (Some c) h.piece holds h.written k)

-- some bytes, and then what the buffer holds
pub gathers_all : (a b c : Option (List ℕ)) (held holds x : List ℕ) → Gathers a b held holds x → Appends b c holds → Appends a c (held ++ x)
gathers_all a b None held holds x h k = tt
gathers_all a None (Some c) held holds x h k = absurd k
gathers_all None (Some b) (Some c) held holds x h k = absurd h
gathers_all (Some a) (Some b) (Some c) held holds x h k =
    subst (λ (all : List ℕ). Appends (Some a) (Some c) all) h.all (appends_both (Some a) (Some b) (Some c) h.piece holds h.written k)

-- room was made in the buffer, and bytes wait in it
pub gathers_pushed : (a b : Option (List ℕ)) (held between holds x : List ℕ) → Gathers a b held between [] → holds ≡ between ++ x → Gathers a b held holds x
gathers_pushed a None held between holds x h pushed = tt
gathers_pushed None (Some b) held between holds x h pushed = absurd h
gathers_pushed (Some a) (Some b) held between holds x h pushed = record {
  piece = h.piece;
  written = h.written;
  all = ap (λ (zs : List ℕ). h.piece ++ zs) pushed ∙ sym (append_assoc h.piece between x) ∙ ap (λ (zs : List ℕ). zs ++ x) (h.all ∙ append_nil held);
}

-- some bytes, and then a prefix of what the buffer holds: a prefix of all
pub gathers_stop : (a b c : Option (List ℕ)) (held holds x rest all : List ℕ) → Gathers a b held holds x → AppendsPrefix b c holds → x ++ rest ≡ all → AppendsPrefix a c (held ++ all)
gathers_stop a b c held holds x rest all h k are =
    subst (λ (zs : List ℕ). AppendsPrefix a c zs) (append_assoc held x rest ∙ ap (λ (zs : List ℕ). held ++ zs) are)
    (appends_front a c (held ++ x) rest (gathers_some a b c held holds x h k))

-- some bytes, and then a prefix of what the buffer holds and of others: a prefix of all
pub gathers_part : (a b c : Option (List ℕ)) (held holds x y rest all : List ℕ) → Gathers a b held holds x → AppendsPrefix b c (holds ++ y) → x ++ (y ++ rest) ≡ all → AppendsPrefix a c (held ++ all)
gathers_part a b None held holds x y rest all h k are = tt
gathers_part a None (Some c) held holds x y rest all h k are = absurd k
gathers_part None (Some b) (Some c) held holds x y rest all h k are = absurd h
gathers_part (Some a) (Some b) (Some c) held holds x y rest all h k are =
    let pieces : (h.piece ++ (holds ++ y)) ++ rest ≡ held ++ all =
    append_assoc h.piece (holds ++ y) rest ∙ ap (λ (zs : List ℕ). h.piece ++ zs) (append_assoc holds y rest) ∙ sym (append_assoc h.piece holds (y ++ rest))
    ∙ ap (λ (zs : List ℕ). zs ++ (y ++ rest)) h.all ∙ append_assoc held x (y ++ rest) ∙ ap (λ (zs : List ℕ). held ++ zs) are in
    subst (λ (zs : List ℕ). AppendsPrefix (Some a) (Some c) zs) pieces
    (appends_front (Some a) (Some c) (h.piece ++ (holds ++ y)) rest (appends_some (Some a) (Some b) (Some c) h.piece (holds ++ y) h.written k))
