-- The function with most rows, found function by function.
use Rattle.std.specs.Prelude.{max, ◌==◌}
use Rattle.std.specs.Ordering.{is_lt, nat_cmp, ord_max}
use Rattle.std.specs.declared.cmp.Ordering.TheVariants.{Less, Equal, Greater}
use Rattle.std.proofs.Common.{◌≡◌, ℕ, ◌+◌, ◌<◌, Bool, true, false, cond, List, [], ◌∷◌, ◌++◌, get_or, length, take, refl, sym, ap, ◌∙◌, arith, inl, inr}
use Rattle.std.proofs.lemmas.Bool.{cases_lt, le-ltb, lt-ltb}
use Rattle.std.proofs.lemmas.List.{take_more}
use Rattle.sf_model.specs.declared.function.Func.{Func}
use Rattle.sf_model.specs.declared.function.FuncHead.{FuncHead}
use Rattle.sf_decode.specs.View.{head_of}
use Rattle.sf_c.specs.MostRows.{most_rows}

-- the greater of two numbers, as code has it
pub greater : (a b : ℕ) → ord_max nat_cmp a b ≡ max a b
greater a b =
    elim (cases_lt b a) [
      | inl lt ↦
          let first : a ≡ max a b = omega (lt, arith) in
          ap (λ (t : Bool). cond (is_lt (cond t Less (cond (b == a) Equal Greater))) a b) (lt-ltb b a lt) ∙ first
      | inr le ↦
          let second : b ≡ max a b = omega (le, arith) in
          ap (λ (t : Bool). cond (is_lt (cond t Less (cond (b == a) Equal Greater))) a b) (le-ltb b a le) ∙ not_less (b == a) ∙ second
    ]
  where
    not_less : (t : Bool) → cond (is_lt (cond t Equal Greater)) a b ≡ b
    not_less true = refl
    not_less false = refl

most-append : (functions : List Func) (f : Func) → most_rows (functions ++ f ∷ []) ≡ max (most_rows functions) (length f.rows)
most-append [] f = omega arith
most-append (x ∷ functions) f = let later = most-append functions f in omega (later, arith)

pub one_more : (functions : List Func) (i most : ℕ) (f : Func) (head : FuncHead) → i < length functions → get_or functions i f ≡ f → head ≡ head_of f → most ≡ most_rows (take i functions)
    → max most head.rows ≡ most_rows (take (i + 1) functions)
one_more functions i most f head lt at is h =
    ap (λ (n : ℕ). max n head.rows) h ∙ ap (λ (x : FuncHead). max (most_rows (take i functions)) x.rows) is
    ∙ sym (ap most_rows (take_more functions i f lt ∙ ap (λ (x : Func). take i functions ++ x ∷ []) at) ∙ most-append (take i functions) f)
