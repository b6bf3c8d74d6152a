-- Functions whose rows are stored in one list.
use Rattle.std.specs.List.{AllByRecursion}
use Rattle.std.specs.Option.{option_map}
use Rattle.std.proofs.Common.{◌≡◌, ◌&&◌, ℕ, Bool, true, false, cond, All, List, [], ◌∷◌, ◌++◌, get_or, map, refl, sym, ap, ◌∙◌}
use Rattle.std.specs.Prelude.{nat_lt}
use Rattle.std.proofs.lemmas.List.{map-append}
use Rattle.std.proofs.lemmas.List.Elements.{All-from_recursion, recursion_from_All}
use Rattle.sf_model.specs.declared.function.Func.{Func}
use Rattle.sf_write.specs.declared.stored.StoredFunction.{StoredFunction}
use Rattle.sf_write.specs.declared.stored.StoredRows.{StoredRows}
use Rattle.sf_write.specs.Stored.{IsStored, function_by, stored_in}
use Rattle.sf_functions.specs.Neighbours.{first_overlap}
use Rattle.sf_functions.specs.Order.{IsInOrder}
use Rattle.sf_functions.proofs.ByStart.{seen_in_order}
use Rattle.sf_functions.proofs.OverlapsSeen.{made_of_overlap}
use Rattle.sf_merge.specs.declared.head.StoredOrEmpty.{StoredOrEmpty}
use Rattle.sf_merge.specs.declared.head.StoredOrEmpty.TheVariants.{WithRows, WithoutRows}
use Rattle.sf_merge.specs.declared.head.LocatedFunction.{LocatedFunction}
use Rattle.sf_merge.specs.declared.located.Located.{Located}
use Rattle.sf_merge.specs.Heads.{AreHeads, RowsAreStored, AllRowsAreStored, all_in, function_of_head, head_size, head_start, located_in, plain_head, shared_by_heads, stored_heads}
use Rattle.sf_merge.specs.Located.{located_size, located_start}
use Rattle.sf_merge.specs.Merging.{shared_address_fault, shared_by, merged_functions}

-- ---- more rows are stored
-- each function that is stored in one list is the same in the other
abbrev pub Keeps : (old new : StoredRows) → Type 0
Keeps old new = (f : StoredFunction) → IsStored old f → IsStored new f × (stored_in new f ≡ stored_in old f)

abbrev pub Has : StoredRows → LocatedFunction → Type 0
Has rows h = RowsAreStored rows h.head

same_still : (old new : StoredRows) → Keeps old new → (f : StoredOrEmpty) → RowsAreStored old f → function_of_head new f ≡ function_of_head old f
same_still old new keeps (WithRows f) h = (keeps f h.0).1
same_still old new keeps (WithoutRows head) h = refl

same_by_recursion : (old new : StoredRows) → Keeps old new → (heads : List LocatedFunction) → AllByRecursion (Has old) heads → all_in new heads ≡ all_in old heads
same_by_recursion old new keeps [] h = refl
same_by_recursion old new keeps (x ∷ xs) h =
    ap (λ (f : Func). record { func = f; item = x.item; number = x.number } ∷ all_in new xs) (same_still old new keeps x.head h.0)
    ∙ ap (λ (ls : List Located). located_in old x ∷ ls) (same_by_recursion old new keeps xs h.1)

pub all_still : (old new : StoredRows) (heads : List LocatedFunction) → Keeps old new → AllRowsAreStored old heads → all_in new heads ≡ all_in old heads
all_still old new heads keeps h = same_by_recursion old new keeps heads (recursion_from_All (Has old) heads h)

pub all_more : (rows : StoredRows) (heads : List LocatedFunction) (x : LocatedFunction) → all_in rows (heads ++ x ∷ []) ≡ all_in rows heads ++ located_in rows x ∷ []
all_more rows heads x = map-append (located_in rows) heads (x ∷ [])

-- ---- starts and sizes
start_is : (rows : StoredRows) (f : StoredOrEmpty) → (function_of_head rows f).start ≡ (plain_head f).start
unfolding stored_in function_by
start_is rows (WithRows f) = refl
start_is rows (WithoutRows head) = refl

size_is : (rows : StoredRows) (f : StoredOrEmpty) → (function_of_head rows f).size ≡ (plain_head f).size
unfolding stored_in function_by
size_is rows (WithRows f) = refl
size_is rows (WithoutRows head) = refl

-- ---- in order
pub in_order : (rows : StoredRows) (old new : List LocatedFunction) → IsInOrder head_start old new → IsInOrder located_start (all_in rows old) (all_in rows new)
in_order rows old new order = seen_in_order (located_in rows) head_start located_start old new (λ k d lt. start_is rows (get_or old k d).head) order

-- ---- overlaps
shared_is : (rows : StoredRows) (x y : LocatedFunction) → shared_by (located_in rows x, located_in rows y) ≡ shared_by_heads (x, y)
shared_is rows x y = rw (start_is rows x.head, start_is rows y.head) refl

overlaps_in : (rows : StoredRows) (heads : List LocatedFunction) → shared_address_fault (all_in rows heads) ≡ option_map shared_by_heads (first_overlap head_start head_size heads)
unfolding shared_address_fault
overlaps_in rows heads =
    made_of_overlap (located_in rows) head_start head_size located_start located_size shared_by shared_by_heads (λ pair. shared_is rows pair.0 pair.1) heads
    (λ k d lt. (start_is rows (get_or heads k d).head, size_is rows (get_or heads k d).head))

pub overlaps_are : (heads : List LocatedFunction) (ordered : List Located) → AreHeads heads ordered → option_map shared_by_heads (first_overlap head_start head_size heads) ≡ shared_address_fault ordered
overlaps_are heads ordered h = sym (ap shared_address_fault h.are ∙ overlaps_in h.rows heads)

-- ---- those that are written
and_false : (b : Bool) → b && false ≡ false
and_false true = refl
and_false false = refl

written_one : (rows : StoredRows) (item number : ℕ) (f : StoredOrEmpty) (heads : List LocatedFunction) → RowsAreStored rows f → map (stored_in rows) (stored_heads heads) ≡ merged_functions (all_in rows heads)
    → map (stored_in rows) (stored_heads (record { head = f; item = item; number = number } ∷ heads)) ≡ merged_functions (all_in rows (record { head = f; item = item; number = number } ∷ heads))
written_one rows item number (WithRows f) heads h others =
    ap (λ (fs : List Func). stored_in rows f ∷ fs) others
    ∙ sym (ap (λ (b : Bool). cond b (stored_in rows f ∷ merged_functions (all_in rows heads)) (merged_functions (all_in rows heads))) h.1)
written_one rows item number (WithoutRows head) heads h others =
    others ∙ sym (ap (λ (b : Bool). cond b (function_of_head rows (WithoutRows head) ∷ merged_functions (all_in rows heads)) (merged_functions (all_in rows heads))) (and_false (nat_lt 0 head.size)))

written_by_recursion : (rows : StoredRows) (heads : List LocatedFunction) → AllByRecursion (Has rows) heads → map (stored_in rows) (stored_heads heads) ≡ merged_functions (all_in rows heads)
written_by_recursion rows [] h = refl
written_by_recursion rows (x ∷ xs) h = written_one rows x.item x.number x.head xs h.0 (written_by_recursion rows xs h.1)

pub written_are : (rows : StoredRows) (heads : List LocatedFunction) → AllRowsAreStored rows heads → map (stored_in rows) (stored_heads heads) ≡ merged_functions (all_in rows heads)
written_are rows heads h = written_by_recursion rows heads (recursion_from_All (Has rows) heads h)

stored_one : (rows : StoredRows) (item number : ℕ) (f : StoredOrEmpty) (heads : List LocatedFunction) → RowsAreStored rows f → AllByRecursion (IsStored rows) (stored_heads heads)
    → AllByRecursion (IsStored rows) (stored_heads (record { head = f; item = item; number = number } ∷ heads))
stored_one rows item number (WithRows f) heads h others = (h.0, others)
stored_one rows item number (WithoutRows head) heads h others = others

stored_by_recursion : (rows : StoredRows) (heads : List LocatedFunction) → AllByRecursion (Has rows) heads → AllByRecursion (IsStored rows) (stored_heads heads)
stored_by_recursion rows [] h = tt
stored_by_recursion rows (x ∷ xs) h = stored_one rows x.item x.number x.head xs h.0 (stored_by_recursion rows xs h.1)

pub all_stored : (rows : StoredRows) (heads : List LocatedFunction) → AllRowsAreStored rows heads → All (IsStored rows) (stored_heads heads)
all_stored rows heads h = All-from_recursion (IsStored rows) (stored_heads heads) (stored_by_recursion rows heads (recursion_from_All (Has rows) heads h))
