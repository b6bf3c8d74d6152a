-- A list of stored functions, from which one is read by its number.
use Rattle.std.specs.Prelude.{IfErr, if◌then◌else◌}
use Rattle.std.specs.List.{flat_map, list_all}
use Rattle.std.proofs.Common.{◌≡◌, ◌≤◌, ◌<◌, ◌+◌, ℕ, Bool, true, false, ◌&&◌, IsTrue, Option, None, Some, Result, Ok, Err, List, [], ◌∷◌, ◌++◌, All, append_assoc, ap, arith, drop, get_or, length, map, refl, subst, sum_by, sym, take, ◌∙◌}
use Rattle.std.proofs.lemmas.List.{drop_more, take_more}
use Rattle.std.proofs.lemmas.List.Folds.{list_all-append}
use Rattle.std.proofs.lemmas.List.Sums.{sum_by-drop_more, sum_by-take-drop, sum_by_more}
use Rattle.sf_model.specs.declared.function.Func.{Func}
use Rattle.sf_write.specs.declared.fault.WriteFault.{WriteFault}
use Rattle.sf_write.specs.declared.fault.WriteFault.TheVariants.{NoMemory, OutOfReach}
use Rattle.sf_write.specs.declared.stored.StoredFunction.{StoredFunction}
use Rattle.sf_write.specs.declared.stored.StoredRows.{StoredRows}
use Rattle.sf_write.specs.Entry.{entry_bytes}
use Rattle.sf_write.specs.Reach.{Refuses, is_in_reach}
use Rattle.sf_write.specs.Row.{rows_bytes}
use Rattle.sf_write.specs.Stored.{first_stored_out_of_reach, stored_entries, stored_in}

-- the function with this number
pub record IsNumbered (xs : List StoredFunction) (i : ℕ) (x : StoredFunction) : Type 0 where
  pub low : i < length xs
  pub is : (d : StoredFunction) → x ≡ get_or xs i d

-- the function is the first of those that are left
pub left : (xs : List StoredFunction) (i : ℕ) (x : StoredFunction) → IsNumbered xs i x → drop i xs ≡ x ∷ drop (i + 1) xs
left xs i x h = drop_more xs i x h.low ∙ ap (λ (y : StoredFunction). y ∷ drop (i + 1) xs) (sym (h.is x))

-- the function is the last of those so far
pub so_far : (xs : List StoredFunction) (i : ℕ) (x : StoredFunction) → IsNumbered xs i x → take (i + 1) xs ≡ take i xs ++ x ∷ []
so_far xs i x h = take_more xs i x h.low ∙ ap (λ (y : StoredFunction). take i xs ++ y ∷ []) (sym (h.is x))

pub has_each : (P : StoredFunction → Type 0) (xs : List StoredFunction) (i : ℕ) (x : StoredFunction) → IsNumbered xs i x → All P xs → P x
has_each P xs i x h all = subst P (sym (h.is x)) (all i x h.low)

-- a sum over those so far, with the function
pub one_more : (f : StoredFunction → ℕ) (xs : List StoredFunction) (i : ℕ) (x : StoredFunction) → IsNumbered xs i x → sum_by f (take i xs) + f x ≡ sum_by f (take (i + 1) xs)
one_more f xs i x h = omega (sum_by_more f xs i x h.low, ap f (h.is x), arith)

pub part_below : (f : StoredFunction → ℕ) (xs : List StoredFunction) (i : ℕ) (x : StoredFunction) → IsNumbered xs i x → sum_by f (take i xs) + f x ≤ sum_by f xs
part_below f xs i x h = omega (sum_by-take-drop f xs i, sum_by-drop_more f xs i x h.low, ap f (h.is x), arith)

both_true : (a b : Bool) → IsTrue a → IsTrue b → IsTrue (a && (b && true))
both_true true true p q = p
both_true true false p q = q
both_true false b p q = p

-- a test that those so far pass, and the function as well
pub all_more : (p : StoredFunction → Bool) (xs : List StoredFunction) (i : ℕ) (x : StoredFunction) → IsNumbered xs i x → IsTrue (list_all p (take i xs)) → IsTrue (p x) → IsTrue (list_all p (take (i + 1) xs))
all_more p xs i x h before here =
    subst (λ (ys : List StoredFunction). IsTrue (list_all p ys)) (sym (so_far xs i x h))
    (subst IsTrue (sym (list_all-append p (take i xs) (x ∷ []))) (both_true (list_all p (take i xs)) (p x) before here))

-- the function's entry, and those that are left
pub entry_more : (at i place : ℕ) (xs : List StoredFunction) (x : StoredFunction) (before after : List ℕ) → IsNumbered xs i x → after ≡ before ++ entry_bytes at i place x.width x.head
    → after ++ stored_entries at (i + 1) (place + x.len) (drop (i + 1) xs) ≡ before ++ stored_entries at i place (drop i xs)
entry_more at i place xs x before after h is =
    let rest = stored_entries at (i + 1) (place + x.len) (drop (i + 1) xs) in
    ap (λ (bytes : List ℕ). bytes ++ rest) is ∙ append_assoc before (entry_bytes at i place x.width x.head) rest ∙ ap (λ (fs : List StoredFunction). before ++ stored_entries at i place fs) (sym (left xs i x h))

-- the function's rows, and those that are left
pub rows_more : (rows : StoredRows) (xs : List StoredFunction) (i : ℕ) (x : StoredFunction) (before range after : List ℕ) → IsNumbered xs i x → range ≡ rows_bytes (stored_in rows x).rows → after ≡ before ++ range
    → after ++ flat_map (λ (f : Func). rows_bytes f.rows) (map (stored_in rows) (drop (i + 1) xs)) ≡ before ++ flat_map (λ (f : Func). rows_bytes f.rows) (map (stored_in rows) (drop i xs))
rows_more rows xs i x before range after h spelled is =
    let rest = flat_map (λ (f : Func). rows_bytes f.rows) (map (stored_in rows) (drop (i + 1) xs)) in
    ap (λ (bytes : List ℕ). bytes ++ rest) (is ∙ ap (λ (bytes : List ℕ). before ++ bytes) spelled) ∙ append_assoc before (rows_bytes (stored_in rows x).rows) rest
    ∙ ap (λ (fs : List StoredFunction). before ++ flat_map (λ (f : Func). rows_bytes f.rows) (map (stored_in rows) fs)) (sym (left xs i x h))

first_step : (at i : ℕ) (x : StoredFunction) (xs : List StoredFunction) → is_in_reach at i x.head.start ≡ true → first_stored_out_of_reach at i (x ∷ xs) ≡ first_stored_out_of_reach at (i + 1) xs
first_step at i x xs is = rw is refl

-- where the function is in reach, the first start out of reach is among those that are left
pub reach_more : (at i : ℕ) (xs : List StoredFunction) (x : StoredFunction) → IsNumbered xs i x → is_in_reach at i x.head.start ≡ true
    → first_stored_out_of_reach at (i + 1) (drop (i + 1) xs) ≡ first_stored_out_of_reach at i (drop i xs)
reach_more at i xs x h is = sym (first_step at i x (drop (i + 1) xs) is) ∙ ap (first_stored_out_of_reach at i) (sym (left xs i x h))

refuses_here : (e : WriteFault) (b : Bool) (start : ℕ) (later : Option ℕ) → Refuses e (if b then None else Some start) → Refuses e (if b then later else Some start)
refuses_here NoMemory b start later h = h
refuses_here (OutOfReach s) true start later h = absurd (cc h)
refuses_here (OutOfReach s) false start later h = h

refused_by : {X : Type 0} (r : Result X WriteFault) (b : Bool) (start : ℕ) (later : Option ℕ) → IfErr r (λ e. Refuses e (if b then None else Some start)) → IfErr r (λ e. Refuses e (if b then later else Some start))
refused_by (Ok x) b start later h = h
refused_by (Err e) b start later h = refuses_here e b start later h

-- where the function is out of reach, it's the first
pub refused : {X : Type 0} (r : Result X WriteFault) (at i : ℕ) (xs : List StoredFunction) (x : StoredFunction) → IsNumbered xs i x
    → IfErr r (λ e. Refuses e (if is_in_reach at i x.head.start then None else Some x.head.start)) → IfErr r (λ e. Refuses e (first_stored_out_of_reach at i (drop i xs)))
refused r at i xs x h by =
    subst (λ (fs : List StoredFunction). IfErr r (λ e. Refuses e (first_stored_out_of_reach at i fs))) (sym (left xs i x h))
    (refused_by r (is_in_reach at i x.head.start) x.head.start (first_stored_out_of_reach at (i + 1) (drop (i + 1) xs)) by)
