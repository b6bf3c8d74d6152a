-- The first functions of a section that share an address, by their heads.
use Rattle.std.specs.Option.{option_map}
use Rattle.std.proofs.Common.{◌≡◌, ℕ, List, Option, Some, None, Ok, get_or, refl, sym, ap, ◌∙◌}
use Rattle.sf_model.specs.Firsts.{unless}
use Rattle.sf_write.specs.declared.stored.StoredRows.{StoredRows}
use Rattle.sf_write.specs.Stored.{function_by, stored_in}
use Rattle.sf_functions.specs.Neighbours.{first_overlap}
use Rattle.sf_functions.proofs.OverlapsSeen.{made_of_overlap}
use Rattle.sf_merge.specs.declared.head.StoredOrEmpty.{StoredOrEmpty}
use Rattle.sf_merge.specs.declared.head.StoredOrEmpty.TheVariants.{WithRows, WithoutRows}
use Rattle.sf_merge.specs.declared.head.LocatedFunction.{LocatedFunction}
use Rattle.sf_merge.specs.declared.located.Located.{Located}
use Rattle.sf_merge.specs.Heads.{AreHeads, all_in, function_of_head, head_size, head_start, located_in, plain_head}
use Rattle.sf_merge.specs.Located.{located_size, located_start}
use Rattle.sf_merge.specs.OneSection.{later_entry, shared_entry}
use Rattle.sf3_upgrade.specs.declared.fault.UpgradeFault.{UpgradeFault}
use Rattle.sf3_upgrade.specs.declared.fault.UpgradeFault.TheVariants.{Overlap}
use Rattle.sf3_upgrade.specs.Upgrading.{later_head, overlap_fault}

start_is : (rows : StoredRows) (f : StoredOrEmpty) → (function_of_head rows f).start ≡ (plain_head f).start
unfolding stored_in function_by
start_is rows (WithRows f) = refl
start_is rows (WithoutRows head) = refl

size_is : (rows : StoredRows) (f : StoredOrEmpty) → (function_of_head rows f).size ≡ (plain_head f).size
unfolding stored_in function_by
size_is rows (WithRows f) = refl
size_is rows (WithoutRows head) = refl

shared_in : (bytes : List ℕ) (rows : StoredRows) (heads : List LocatedFunction) → shared_entry bytes (all_in rows heads) ≡ option_map (later_head bytes) (first_overlap head_start head_size heads)
unfolding shared_entry
shared_in bytes rows heads =
    made_of_overlap (located_in rows) head_start head_size located_start located_size (later_entry bytes) (later_head bytes) (λ pair. refl) heads
    (λ k d lt. (start_is rows (get_or heads k d).head, size_is rows (get_or heads k d).head))

pub overlaps_are : (bytes : List ℕ) (heads : List LocatedFunction) (ordered : List Located) → AreHeads heads ordered → option_map Overlap (option_map (later_head bytes) (first_overlap head_start head_size heads)) ≡ overlap_fault bytes ordered
overlaps_are bytes heads ordered h = ap (option_map Overlap) (sym (ap (shared_entry bytes) h.are ∙ shared_in bytes h.rows heads))

-- no fault
pub no_fault : (x : Unit {0}) (o : Option UpgradeFault) → Ok x ≡ unless o → o ≡ None
no_fault x None e = refl
no_fault x (Some fault) e = cc
