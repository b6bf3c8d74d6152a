-- The first neighbours that share an address.
use Rattle.std.proofs.Common.{◌≡◌, ℕ, List, Option, Some, None, Ok, refl}
use Rattle.sf_merge.specs.declared.located.Located.{Located}
use Rattle.sf_merge.specs.Merging as merging
use Rattle.sf_merge.proofs.OneSection as section
use Rattle.sf_slim.specs.declared.fault.SlimFault.{SlimFault}
use Rattle.sf_slim.specs.declared.fault.SlimFault.TheVariants.{Overlap}
use Rattle.sf_slim.specs.Slimming.{slim_overlap_fault, unless_fault}

-- no fault, and so none of sections that are merged
pub none_shared : (bytes : List ℕ) (ls : List Located) → slim_overlap_fault bytes ls ≡ None → merging.shared_address_fault ls ≡ None
unfolding slim_overlap_fault
none_shared bytes ls e = section.none_shared Overlap bytes ls e

pub no_fault : {X : Type 0} (x : X) (o : Option SlimFault) → Ok x ≡ unless_fault o x → o ≡ None
no_fault x None e = refl
no_fault x (Some fault) e = cc
