-- The rows of a function as they are read, one after the other.
use Rattle.std.specs.Prelude.{slice_get}
use Rattle.std.specs.Iterator.{YieldsFirst}
use Rattle.std.proofs.Common.{◌≡◌, ℕ, zero, suc, ◌+◌, ◌<◌, List, [], ◌∷◌, get_or, length, drop, Option, Some, None, refl, sym, ap, ◌∙◌, arith}
use Rattle.sf_model.specs.declared.function.Func.{Func}
use Rattle.sf_model.specs.declared.function.FuncHead.{FuncHead}
use Rattle.sf_model.specs.declared.rows.Row.{Row}
use Rattle.sf_decode.specs.declared.iter.RowIter.{RowIter}
use Rattle.sf_decode.specs.View.{head_of, rows_left}
use Rattle.sf_merge.specs.declared.located.Located.{Located}
use Rattle.sf_verify.specs.Comparing.{edge, edge_of, func_read}

-- the function that is read
pub func_is : (f : Func) (head : FuncHead) (rows : RowIter) → head ≡ head_of f → rows_left rows ≡ f.rows → func_read head rows ≡ f
func_is f head rows h r =
    ap (λ (x : FuncHead). func_read x rows) h
    ∙ ap (λ (rs : List Row). record { start = f.start; size = f.size; shape = f.shape; key = f.key; rows = rs }) r

-- a function of this head, which stands past the end of a list
abbrev pub some_function : FuncHead → Located
some_function head = record { func = record { start = head.start; size = head.size; shape = head.shape; key = head.key; rows = [] }; item = 0; number = 0 }

-- the row that was read last, and those that are left; nothing is left where there was none
abbrev pub lead : Option Row → List Row → List Row
lead (Some r) rest = r ∷ rest
lead None rest = []

pub lead_is : (s : RowIter) (r : Option Row) (t : RowIter) → YieldsFirst rows_left s r t → rows_left s ≡ lead r (rows_left t)
lead_is s (Some r) t h = h
lead_is s None t h = h.0

-- ---- the row at a place
row_there : (rows rest : List Row) (place : ℕ) (next : Option Row) → drop place rows ≡ lead next rest → slice_get rows place ≡ next
row_there [] rest zero (Some r) e = cc
row_there [] rest zero None e = refl
row_there [] rest (suc place) (Some r) e = cc
row_there [] rest (suc place) None e = refl
row_there (x ∷ rows) rest zero (Some r) e = let same : x ≡ r = cc in ap Some same
row_there (x ∷ rows) rest zero None e = cc
row_there (x ∷ rows) rest (suc place) next e = row_there rows rest place next e

pub edge_is : (rows rest : List Row) (place size : ℕ) (next : Option Row) → drop place rows ≡ lead next rest → edge rows place size ≡ edge_of next size
edge_is rows rest place size next e = ap (λ (r : Option Row). edge_of r size) (row_there rows rest place next e)

pub record IsAt (rows : List Row) (place : ℕ) (row : Row) (rest : List Row) : Type 0 where
  pub within : place < length rows
  pub is : (d : Row) → get_or rows place d ≡ row
  pub after : drop (place + 1) rows ≡ rest

pub is_at : (rows : List Row) (place : ℕ) (row : Row) (rest : List Row) → drop place rows ≡ row ∷ rest → IsAt rows place row rest
is_at [] zero row rest e = cc
is_at [] (suc place) row rest e = cc
is_at (r ∷ rows) zero row rest e =
    let same : r ≡ row = cc in
    let others : rows ≡ rest = cc in
    record { within = omega arith; is = λ d. same; after = others }
is_at (r ∷ rows) (suc place) row rest e =
    let h = is_at rows place row rest e in
    let next : suc place + 1 ≡ suc (place + 1) = omega arith in
    record { within = omega (arith, h.within); is = h.is; after = ap (λ (k : ℕ). drop k (r ∷ rows)) next ∙ h.after }

-- ---- one turn: the row of a place was read before, and the next one is read
pub record IsTurn (all : List Row) (place size from end : ℕ) (row : Row) (next : Option Row) (rest : List Row) : Type 0 where
  pub within : place < length all
  pub is : (d : Row) → get_or all place d ≡ row
  pub begins : from ≡ edge all place size
  pub ends : end ≡ edge all (place + 1) size
  pub left_are : drop (place + 1) all ≡ lead next rest

pub turn : (all : List Row) (place size from end : ℕ) (row : Row) (last next : Option Row) (s t : RowIter) → drop place all ≡ lead last (rows_left s) → last ≡ Some row → YieldsFirst rows_left s next t
    → from ≡ edge_of last size → end ≡ edge_of next size → IsTurn all place size from end row next (rows_left t)
turn all place size from end row last next s t left some steps from_is end_is =
    let at = is_at all place row (rows_left s) (left ∙ ap (λ (r : Option Row). lead r (rows_left s)) some) in
    let after = at.after ∙ lead_is s next t steps in
    record {
      within = at.within;
      is = at.is;
      begins = from_is ∙ sym (edge_is all (rows_left s) place size last left);
      ends = end_is ∙ sym (edge_is all (rows_left t) (place + 1) size next after);
      left_are = after;
    }

-- each turn leaves one row fewer
pub fewer : (row : Row) (last next : Option Row) (s t : RowIter) → last ≡ Some row → YieldsFirst rows_left s next t → length (lead next (rows_left t)) < length (lead last (rows_left s))
fewer row last next s t some steps =
    let rest = ap length (lead_is s next t steps) in
    let more = ap (λ (r : Option Row). length (lead r (rows_left s))) some in
    omega (arith, rest, more)
