-- A kept function of the inputs is the one that is stored.
use Rattle.std.specs.Prelude.{All, map}
use Rattle.std.proofs.Common.{◌≡◌, ◌<◌, ℕ, List, length, get_or, ap, subst, sym, ◌∙◌, arith}
use Rattle.std.proofs.lemmas.List.{get_or-map, length-map}
use Rattle.sf_model.specs.declared.function.Func.{Func}
use Rattle.sf_write.specs.declared.stored.StoredFunction.{StoredFunction}
use Rattle.sf_write.specs.declared.stored.StoredRows.{StoredRows}
use Rattle.sf_write.specs.Stored.{IsStored, stored_in}

-- the stored function at a place
pub record IsKeptAt (rows : StoredRows) (functions : List Func) (place : ℕ) (f : StoredFunction) : Type 0 where
  pub stored : IsStored rows f
  pub is : (d : Func) → get_or functions place d ≡ stored_in rows f

pub kept_at : (rows : StoredRows) (fs : List StoredFunction) (functions : List Func) (place : ℕ) (f : StoredFunction) → map (stored_in rows) fs ≡ functions → All (IsStored rows) fs → place < length functions → f ≡ get_or fs place f → IsKeptAt rows functions place f
kept_at rows fs functions place f view stored lt is =
    let few = length-map fs (stored_in rows) in
    let all = ap length view in
    let low : place < length fs = omega (arith, lt, few, all) in
    record {
      stored = subst (IsStored rows) (sym is) (stored place f low);
      is = λ d. ap (λ (gs : List Func). get_or gs place d) (sym view) ∙ get_or-map (stored_in rows) fs place f d low ∙ ap (stored_in rows) (sym is);
    }
