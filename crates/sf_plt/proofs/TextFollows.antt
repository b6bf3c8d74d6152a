-- The instructions of a table one by one are the whole text.
use Rattle.std.specs.Prelude.{bytes_eq}
use Rattle.std.proofs.Common.{◌≡◌, ℕ, Bool, true, false, ◌&&◌, eqb, List, [], ◌∷◌, Ok, Err, refl}
use Rattle.cfa_insn.specs.Instruction.{advance_loc, def_cfa_offset, def_cfa_expression}
use Rattle.cfa_insn.specs.Listing.{Item}
use Rattle.sf_plt.specs.Expression.{plt_expression}
use Rattle.sf_plt.specs.Plt.{is_plt_text}
use Rattle.sf_plt.specs.Text.{follows}

and_false : (b : Bool) → false ≡ (b && false)
and_false true = refl
and_false false = refl

and_two : (a b : Bool) → false ≡ (a && (b && false))
and_two true true = refl
and_two true false = refl
and_two false b = refl

and_three : (a b c : Bool) → false ≡ (a && (b && (c && false)))
and_three true b c = and_two b c
and_three false b c = refl

and_four : (a b c d : Bool) → false ≡ (a && (b && (c && (d && false))))
and_four true b c d = and_three b c d
and_four false b c d = refl

and_five : (a b c d e : Bool) → false ≡ (a && (b && (c && (d && (e && false)))))
and_five true b c d e = and_four b c d e
and_five false b c d e = refl

regrouped : (a b c d e : Bool) → ((((a && b) && c) && d) && e) ≡ (a && (b && (c && (d && (e && true)))))
regrouped true true true true true = refl
regrouped true true true true false = refl
regrouped true true true false e = refl
regrouped true true false d e = refl
regrouped true false c d e = refl
regrouped false b c d e = refl

after_five : (p q r s t a b c d : ℕ) (e : List ℕ) (xs : List Item)
    → is_plt_text (Ok (p, def_cfa_offset a) ∷ Ok (q, advance_loc b) ∷ Ok (r, def_cfa_offset c) ∷ Ok (s, advance_loc d) ∷ Ok (t, def_cfa_expression e) ∷ xs)
    ≡ (eqb a 16 && (eqb b 6 && (eqb c 24 && (eqb d 10 && (bytes_eq e plt_expression && follows 5 xs)))))
after_five p q r s t a b c d e [] = regrouped (eqb a 16) (eqb b 6) (eqb c 24) (eqb d 10) (bytes_eq e plt_expression)
after_five p q r s t a b c d e (Ok x ∷ xs) = and_five (eqb a 16) (eqb b 6) (eqb c 24) (eqb d 10) (bytes_eq e plt_expression)
after_five p q r s t a b c d e (Err fault ∷ xs) = and_five (eqb a 16) (eqb b 6) (eqb c 24) (eqb d 10) (bytes_eq e plt_expression)

after_four : (p q r s a b c d : ℕ) (xs : List Item) → is_plt_text (Ok (p, def_cfa_offset a) ∷ Ok (q, advance_loc b) ∷ Ok (r, def_cfa_offset c) ∷ Ok (s, advance_loc d) ∷ xs)
    ≡ (eqb a 16 && (eqb b 6 && (eqb c 24 && (eqb d 10 && follows 4 xs))))
after_four p q r s a b c d [] = and_four (eqb a 16) (eqb b 6) (eqb c 24) (eqb d 10)
after_four p q r s a b c d (Err fault ∷ xs) = and_four (eqb a 16) (eqb b 6) (eqb c 24) (eqb d 10)
after_four p q r s a b c d (Ok (t, def_cfa_expression e) ∷ xs) = after_five p q r s t a b c d e xs
after_four p q r s a b c d (Ok (t, other) ∷ xs) = and_four (eqb a 16) (eqb b 6) (eqb c 24) (eqb d 10)

after_three : (p q r a b c : ℕ) (xs : List Item) → is_plt_text (Ok (p, def_cfa_offset a) ∷ Ok (q, advance_loc b) ∷ Ok (r, def_cfa_offset c) ∷ xs) ≡ (eqb a 16 && (eqb b 6 && (eqb c 24 && follows 3 xs)))
after_three p q r a b c [] = and_three (eqb a 16) (eqb b 6) (eqb c 24)
after_three p q r a b c (Err fault ∷ xs) = and_three (eqb a 16) (eqb b 6) (eqb c 24)
after_three p q r a b c (Ok (s, advance_loc d) ∷ xs) = after_four p q r s a b c d xs
after_three p q r a b c (Ok (s, other) ∷ xs) = and_three (eqb a 16) (eqb b 6) (eqb c 24)

after_two : (p q a b : ℕ) (xs : List Item) → is_plt_text (Ok (p, def_cfa_offset a) ∷ Ok (q, advance_loc b) ∷ xs) ≡ (eqb a 16 && (eqb b 6 && follows 2 xs))
after_two p q a b [] = and_two (eqb a 16) (eqb b 6)
after_two p q a b (Err fault ∷ xs) = and_two (eqb a 16) (eqb b 6)
after_two p q a b (Ok (r, def_cfa_offset c) ∷ xs) = after_three p q r a b c xs
after_two p q a b (Ok (r, other) ∷ xs) = and_two (eqb a 16) (eqb b 6)

after_one : (p a : ℕ) (xs : List Item) → is_plt_text (Ok (p, def_cfa_offset a) ∷ xs) ≡ (eqb a 16 && follows 1 xs)
after_one p a [] = and_false (eqb a 16)
after_one p a (Err fault ∷ xs) = and_false (eqb a 16)
after_one p a (Ok (q, advance_loc b) ∷ xs) = after_two p q a b xs
after_one p a (Ok (q, other) ∷ xs) = and_false (eqb a 16)

pub text_follows : (xs : List Item) → is_plt_text xs ≡ follows 0 xs
text_follows [] = refl
text_follows (Err fault ∷ xs) = refl
text_follows (Ok (p, def_cfa_offset a) ∷ xs) = after_one p a xs
text_follows (Ok (p, other) ∷ xs) = refl
