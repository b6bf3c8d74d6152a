-- The functions that are needed, stored in order.
use Rattle.std.specs.List.{filter}
use Rattle.std.proofs.Common.{◌≡◌, ℕ, suc, ◌+◌, ◌<◌, Bool, true, false, cond, All, List, [], ◌∷◌, ◌++◌, get_or, length, map, take, refl, sym, ap, subst, ◌∙◌, arith}
use Rattle.std.proofs.Math.Seq.{take-suc}
use Rattle.std.proofs.lemmas.List.{append-nil, map-append}
use Rattle.std.proofs.lemmas.List.Elements.{All-nil, All-cons, All-append, filter-append}
use Rattle.sf_model.specs.declared.function.Func.{Func}
use Rattle.sf_model.specs.declared.function.FuncHead.{FuncHead}
use Rattle.sf_model.specs.declared.rows.Row.{Row}
use Rattle.sf_decode.specs.View.{head_of}
use Rattle.sf_write.specs.declared.stored.StoredFunction.{StoredFunction}
use Rattle.sf_write.specs.declared.stored.StoredRows.{StoredRows}
use Rattle.sf_write.specs.Stored.{IsStored, stored_in}
use Rattle.sf_write.proofs.Kept.{Keeps, all_stay}
use Rattle.sf_merge.specs.declared.located.Located.{Located}
use Rattle.sf_merge.proofs.Apart.{function_of}
use Rattle.sf_slim.specs.Pass.{has_row, kept_function, head_with_rows}
use Rattle.sf_slim.proofs.Needed.{needed}

-- the function that was read
pub function_is : (f : Func) (head : FuncHead) (rows : List Row) → head ≡ head_of f → rows ≡ f.rows → head_with_rows head rows ≡ f
function_is f head rows h r = ap (λ (x : FuncHead). head_with_rows x rows) h ∙ ap (λ (rs : List Row). head_with_rows (head_of f) rs) r

-- the needed functions, with one more function
more_needed : (ordered : List Located) (i : ℕ) (d : Located) → i < length ordered → needed (map function_of (take (i + 1) ordered)) ≡ needed (map function_of (take i ordered)) ++ needed ((get_or ordered i d).func ∷ [])
more_needed ordered i d lt =
    let next : i + 1 ≡ suc i = omega arith in
    let before = map function_of (take i ordered) in
    let one = (get_or ordered i d).func ∷ [] in
    ap (λ (k : ℕ). needed (map function_of (take k ordered))) next
    ∙ ap (λ (ls : List Located). needed (map function_of ls)) (take-suc ordered i d lt)
    ∙ ap needed (map-append function_of (take i ordered) (get_or ordered i d ∷ []))
    ∙ ap (map kept_function) (filter-append has_row before one)
    ∙ map-append kept_function (filter has_row before) (filter has_row one)

one_needed : (f : Func) (b : Bool) → has_row f ≡ b → needed (f ∷ []) ≡ cond b (kept_function f ∷ []) []
one_needed f true e = rw e refl
one_needed f false e = rw e refl

-- a function with a row at some address is stored
pub stored_more : (old new : StoredRows) (fs more : List StoredFunction) (s : StoredFunction) (ordered : List Located) (i : ℕ) (d : Located) → Keeps old new → All (IsStored old) fs
    → map (stored_in old) fs ≡ needed (map function_of (take i ordered)) → i < length ordered → has_row (get_or ordered i d).func ≡ true → IsStored new s × (stored_in new s ≡ kept_function (get_or ordered i d).func)
    → more ≡ fs ++ s ∷ [] → All (IsStored new) more × (map (stored_in new) more ≡ needed (map function_of (take (i + 1) ordered)))
stored_more old new fs more s ordered i d keeps stored are lt answering one e =
    let still = all_stay old new fs keeps stored in (
      subst (All (IsStored new)) (sym e) (All-append (IsStored new) fs (s ∷ []) still.0 (All-cons (IsStored new) s [] one.0 (All-nil (IsStored new)))),
      ap (map (stored_in new)) e ∙ map-append (stored_in new) fs (s ∷ [])
          ∙ ap (λ (gs : List Func). gs ++ stored_in new s ∷ []) (still.1 ∙ are)
          ∙ ap (λ (gs : List Func). needed (map function_of (take i ordered)) ++ gs) (ap (λ (g : Func). g ∷ []) one.1 ∙ sym (one_needed (get_or ordered i d).func true answering))
          ∙ sym (more_needed ordered i d lt),
    )

-- a function without one isn't needed
pub passed_over : (ordered : List Located) (i : ℕ) (d : Located) → i < length ordered → has_row (get_or ordered i d).func ≡ false → needed (map function_of (take i ordered)) ≡ needed (map function_of (take (i + 1) ordered))
passed_over ordered i d lt none =
    sym (more_needed ordered i d lt ∙ ap (λ (gs : List Func). needed (map function_of (take i ordered)) ++ gs) (one_needed (get_or ordered i d).func false none) ∙ append-nil (needed (map function_of (take i ordered))))
