-- One more function is stored.
use Rattle.std.specs.Prelude.{All, map}
use Rattle.std.proofs.Common.{◌≡◌, List, [], ◌∷◌, ◌++◌, get_or, refl, ap, subst, sym, ◌∙◌}
use Rattle.std.proofs.lemmas.List.{map-append}
use Rattle.std.proofs.lemmas.List.Elements.{All-append, All-from_recursion}
use Rattle.sf_model.specs.declared.function.Func.{Func}
use Rattle.sf_write.specs.declared.stored.StoredFunction.{StoredFunction}
use Rattle.sf_write.specs.declared.stored.StoredRows.{StoredRows}
use Rattle.sf_write.specs.Stored.{IsStored, function_by, stored_in}
use Rattle.sf_write.proofs.Kept.{Keeps, all_stay}
use Rattle.sf_functions.specs.Order.{IsInOrder}
use Rattle.sf_functions.proofs.ByStart.{seen_in_order}
use Rattle.sf_plt.specs.Sorting.{func_start}

-- a function after those that are stored, and they stay as they are
pub record IsAdded (old new : StoredRows) (fs more : List StoredFunction) (func : Func) : Type 0 where
  pub stored : All (IsStored new) more
  pub written : map (stored_in new) more ≡ map (stored_in old) fs ++ func ∷ []

pub added : (old new : StoredRows) (fs more : List StoredFunction) (f : StoredFunction) (func : Func) → Keeps old new → All (IsStored old) fs → IsStored new f × (stored_in new f ≡ func) → more ≡ fs ++ f ∷ [] → IsAdded old new fs more func
added old new fs more f func keeps stored one is =
    let still : All (IsStored new) fs × (map (stored_in new) fs ≡ map (stored_in old) fs) = all_stay old new fs keeps stored in
    record {
      stored = subst (All (IsStored new)) (sym is) (All-append (IsStored new) fs (f ∷ []) still.0 (All-from_recursion (IsStored new) (f ∷ []) (one.0, tt)));
      written = ap (map (stored_in new)) is ∙ map-append (stored_in new) fs (f ∷ []) ∙ ap (λ (gs : List Func). gs ++ stored_in new f ∷ []) still.1 ∙ ap (λ (g : Func). map (stored_in old) fs ++ g ∷ []) one.1;
    }

-- ---- in order
start_of : (rows : StoredRows) (f : StoredFunction) → func_start (stored_in rows f) ≡ f.head.start
unfolding stored_in function_by
start_of rows f = refl

pub in_order : (rows : StoredRows) (all ordered : List StoredFunction) → IsInOrder (λ (f : StoredFunction). f.head.start) all ordered → IsInOrder func_start (map (stored_in rows) all) (map (stored_in rows) ordered)
in_order rows all ordered order = seen_in_order (stored_in rows) (λ (f : StoredFunction). f.head.start) func_start all ordered (λ k d lt. start_of rows (get_or all k d)) order
