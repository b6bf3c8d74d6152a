-- A function has a row at some address exactly where its first row begins within it, and within a block.
use Rattle.std.specs.Prelude.{nat_le, nat_lt, is_some, ◌&&◌, IsTrue}
use Rattle.std.specs.List.{list_any, range_with_len}
use Rattle.std.proofs.Common.{◌≡◌, ℕ, zero, suc, ◌<◌, ◌≤◌, Bool, true, false, cond, List, [], ◌∷◌, get_or, Some, None, refl, sym, ap, subst, ◌∙◌, arith}
use Rattle.std.proofs.lemmas.Bool.{le-leb, lt-leb, ltb-true, ltb-false}
use Rattle.std.proofs.Math.Nat.{mod-eq_of_lt}
use Rattle.std.proofs.lemmas.List.Folds.{list_any_at, list_any_none}
use Rattle.std.proofs.lemmas.List.Elements.{All-from_get_or}
use Rattle.std.proofs.lemmas.List.FromFn.{length-range_with_len, get_or-range_with_len}
use Rattle.sf_model.specs.declared.function.Func.{Func}
use Rattle.sf_model.specs.declared.function.Shape.{Shape}
use Rattle.sf_model.specs.declared.function.Shape.TheVariants.{Plain, Repeat}
use Rattle.sf_model.specs.declared.rows.Row.{Row}
use Rattle.sf_model.specs.Function.{RowsRise, shape_fits}
use Rattle.sf_model.specs.Lookup.{offset_in_block, row_at}
use Rattle.sf_lookup.proofs.Rows.{latest, latest_holds}
use Rattle.sf_slim.specs.Slim.{has_row_at, is_live}
use Rattle.sf_slim.specs.Pass.{has_row, first_holds, is_in_block}

-- ---- rows at an offset
some_stays : (o : ℕ) (r : Row) (rows : List Row) → is_some (latest o (Some r) rows) ≡ true
some_stays o r [] = refl
some_stays o r (s ∷ rows) = at_test (nat_le s.start o) (some_stays o s rows)
  where
    at_test : (b : Bool) → is_some (latest o (Some s) rows) ≡ true → is_some (cond b (latest o (Some s) rows) (Some r)) ≡ true
    at_test true later = later
    at_test false later = refl

has_none : (o : ℕ) → is_some (row_at o []) ≡ false
unfolding row_at
has_none o = refl

has_first : (o : ℕ) (r : Row) (rows : List Row) → RowsRise (r ∷ rows) → is_some (row_at o (r ∷ rows)) ≡ nat_le r.start o
has_first o r rows h = ap is_some (sym (latest_holds o (r ∷ rows) h)) ∙ at_test (nat_le r.start o)
  where
    at_test : (b : Bool) → is_some (cond b (latest o (Some r) rows) None) ≡ b
    at_test true = some_stays o r rows
    at_test false = refl

-- ---- at some offset below the size, or at none
pub some_offset : (p : ℕ → Bool) (size o : ℕ) → o < size → p o ≡ true → list_any p (range_with_len 0 size) ≡ true
some_offset p size o lt e =
    let long = length-range_with_len 0 size in
    let here : get_or (range_with_len 0 size) o 0 ≡ o = get_or-range_with_len 0 size o 0 lt ∙ omega arith in
    list_any_at p (range_with_len 0 size) o 0 (omega (long, lt, arith)) (ap p here ∙ e)

no_offset : (p : ℕ → Bool) (size : ℕ) → ((o : ℕ) → o < size → p o ≡ false) → list_any p (range_with_len 0 size) ≡ false
no_offset p size none =
    let long = length-range_with_len 0 size in
    list_any_none p (range_with_len 0 size) (All-from_get_or (λ o. p o ≡ false) (range_with_len 0 size) 0 (λ i lt.
    let within : i < size = omega (long, lt, arith) in
    let here : get_or (range_with_len 0 size) i 0 ≡ i = get_or-range_with_len 0 size i 0 within ∙ omega arith in
    ap p here ∙ none i within))

-- ---- blocks
in_first_block : (shape : Shape) (o : ℕ) → is_in_block shape o ≡ true → offset_in_block shape o ≡ o
in_first_block Plain o e = refl
in_first_block (Repeat block) o e = mod-eq_of_lt (ltb-true o block e)

at_most : (shape : Shape) (o : ℕ) → offset_in_block shape o ≤ o
at_most Plain o = omega arith
at_most (Repeat block) o = omega arith

before_block_ends : (shape : Shape) (start o : ℕ) → IsTrue (shape_fits shape) → is_in_block shape start ≡ false → offset_in_block shape o < start
before_block_ends Plain start o fits e = cc
before_block_ends (Repeat zero) start o fits e = let no : false ≡ true = fits in cc
before_block_ends (Repeat (suc k)) start o fits e = let le = ltb-false start (suc k) e in omega (le, arith)

-- ---- the function
module _ (f : Func) (r : Row) (rows : List Row) (is : f.rows ≡ r ∷ rows) (rise : RowsRise f.rows) (fits : IsTrue (shape_fits f.shape)) where
  at_offset : (o : ℕ) → has_row_at f o ≡ nat_le r.start (offset_in_block f.shape o)
  at_offset o =
      ap (λ rs. is_some (row_at (offset_in_block f.shape o) rs)) is
      ∙ has_first (offset_in_block f.shape o) r rows (subst RowsRise is rise)

  live_first : (within in_block : Bool) → nat_lt r.start f.size ≡ within → is_in_block f.shape r.start ≡ in_block → list_any (has_row_at f) (range_with_len 0 f.size) ≡ (within && in_block)
  live_first true true t u =
      let same = in_first_block f.shape r.start u in
      some_offset (has_row_at f) f.size r.start (ltb-true r.start f.size t) (at_offset r.start ∙ le-leb r.start (offset_in_block f.shape r.start) (omega (same, arith)))
  live_first true false t u =
      no_offset (has_row_at f) f.size (λ o lt. at_offset o ∙ lt-leb r.start (offset_in_block f.shape o) (before_block_ends f.shape r.start o fits u))
  live_first false b t u =
      let past = ltb-false r.start f.size t in
      no_offset (has_row_at f) f.size (λ o lt. let le = at_most f.shape o in at_offset o ∙ lt-leb r.start (offset_in_block f.shape o) (omega (le, lt, past, arith)))

pub live_is : (f : Func) → RowsRise f.rows → IsTrue (shape_fits f.shape) → is_live f ≡ has_row f
unfolding is_live
live_is f rise fits = by_rows f.rows refl
  where
    by_rows : (rows : List Row) → f.rows ≡ rows → list_any (has_row_at f) (range_with_len 0 f.size) ≡ first_holds f.shape f.size f.rows
    by_rows [] is =
        no_offset (has_row_at f) f.size (λ o lt. ap (λ rs. is_some (row_at (offset_in_block f.shape o) rs)) is ∙ has_none (offset_in_block f.shape o))
        ∙ sym (ap (first_holds f.shape f.size) is)
    by_rows (r ∷ rows) is =
        live_first f r rows is rise fits (nat_lt r.start f.size) (is_in_block f.shape r.start) refl refl ∙ sym (ap (first_holds f.shape f.size) is)
