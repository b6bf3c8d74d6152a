-- Functions that are brought into order once their limits were tried: what is left is overlaps.
use Rattle.std.specs.Option.{option_map}
use Rattle.std.proofs.Common.{◌≡◌, ℕ, Bool, List, map, Option, Some, None, Ok, Err, refl, sym, ap, subst, ◌∙◌}
use Rattle.sf_model.specs.declared.machine.Arch.{Arch}
use Rattle.sf_functions.proofs.ByStart.{by_key, in_order}
use Rattle.frame_functions.specs.declared.read_function.ReadFunction.{ReadFunction}
use Rattle.sf_asm.specs.declared.fault.GatherFault.{GatherFault}
use Rattle.frame_functions.specs.declared.read.HeldFunctions.{HeldFunctions}
use Rattle.frame_functions.specs.declared.read.ReadFunctions.{ReadFunctions}
use Rattle.frame_functions.specs.declared.read.ReadFunctions.TheVariants.{Within}
use Rattle.frame_functions.specs.Answers.{seen_as}
use Rattle.frame_functions.specs.ReadFunction.{spans_of}
use Rattle.frame_functions.specs.Functions.{Function}
use Rattle.sf_asm.specs.Functions.{Object, functions_of, machine_of, unless}
use Rattle.sf_asm.specs.Inputs.{first_item, mixed_among, with_before}
use Rattle.frame_functions.specs.Kept.{read_of}
use Rattle.frame_functions.specs.Order.{InOrder, start_of}
use Rattle.sf_asm.specs.Linking.{Gathers, functions_fault, limits_fault, or_later, overlap_fault, overlap_in, unless_fault}
use Rattle.frame_functions.specs.ReadSoFar.{AreHeld, AreReadSoFar}
use Rattle.sf_asm.proofs.GatheredInputs.{machines_refused, tried}
use Rattle.frame_functions.proofs.ReadSoFar.{held_within}
use Rattle.sf_asm.proofs.Limits.{limits_moved, no_fault}

-- the fault of functions in order, by that of their limits
fault_is : (all ordered : List ReadFunction) (limits : Option GatherFault) → InOrder all ordered → limits_fault all ≡ limits → functions_fault ordered ≡ or_later limits (option_map overlap_fault (overlap_in (spans_of ordered)))
fault_is all ordered limits order e =
    ap (λ (fault : Option GatherFault). or_later fault (option_map overlap_fault (overlap_in (spans_of ordered)))) (limits_moved all ordered order.moved ∙ e)

-- what was tried
none_found : (fault : Option GatherFault) → Ok tt ≡ unless fault → fault ≡ None
none_found None e = refl
none_found (Some fault) e = cc

one_found : (fault : Option GatherFault) (found : GatherFault) → Err found ≡ unless fault → fault ≡ Some found
one_found None found e = cc
one_found (Some fault) found e = ap Some (let is : found ≡ fault = cc in sym is)

-- the overlaps of functions in order
abbrev overlaps_of : List ReadFunction → Option GatherFault
overlaps_of ordered = option_map overlap_fault (overlap_in (spans_of ordered))

-- two items are of different machines
pub machines_differ : (before : Option Arch) (objects : List Object) (first : ℕ) (lending : Bool) (read : ReadFunctions) (machines : List Arch) → first ≡ first_item before → machines ≡ map machine_of objects
    → (functions : List Function) × (functions_of first objects ≡ Ok functions) × AreReadSoFar lending read functions → (fault : GatherFault) → Err fault ≡ unless (mixed_among (with_before before machines)) → Gathers before objects (Err fault)
machines_differ before objects first lending read machines first_is machines_are all fault differ =
    machines_refused before objects (map read_of all.0) fault (ap (λ (item : ℕ). seen_as (map read_of) (functions_of item objects)) (sym first_is) ∙ ap (seen_as (map read_of)) all.1)
    (ap (λ (ms : List Arch). mixed_among (with_before before ms)) (sym machines_are) ∙ one_found (mixed_among (with_before before machines)) fault differ)

-- the functions of inputs, all of which were read, and which are of one machine
module _ (before : Option Arch) (objects : List Object) (first : ℕ) (lending : Bool) (read : ReadFunctions) (machines : List Arch) (first_is : first ≡ first_item before) (machines_are : machines ≡ map machine_of objects)
    (one : Ok tt ≡ unless (mixed_among (with_before before machines))) (all : (functions : List Function) × (functions_of first objects ≡ Ok functions) × AreReadSoFar lending read functions) where
  comes : (ordered : List ReadFunction) (fault : Option GatherFault) → InOrder (map read_of all.0) ordered → functions_fault ordered ≡ fault → Gathers before objects (unless_fault fault ordered)
  comes ordered fault order checked =
      tried before objects (map read_of all.0) ordered fault (ap (λ (item : ℕ). seen_as (map read_of) (functions_of item objects)) (sym first_is) ∙ ap (seen_as (map read_of)) all.1)
      (ap (λ (ms : List Arch). mixed_among (with_before before ms)) (sym machines_are) ∙ none_found (mixed_among (with_before before machines)) one) order checked

  -- a limit is passed
  pub past_limit : (fault : GatherFault) → limits_fault (map read_of all.0) ≡ Some fault → Gathers before objects (Err fault)
  past_limit fault e =
      let ordered = by_key start_of (map read_of all.0) in
      let order = in_order start_of (map read_of all.0) in
      comes ordered (Some fault) order (fault_is (map read_of all.0) ordered (Some fault) order e)

  -- none is, and the functions that are held are brought into order
  module _ (held : HeldFunctions) (ordered : List ReadFunction) (within : read ≡ Within held) (held_order : InOrder held.entries ordered) where
    are : AreHeld lending held all.0
    are = subst (λ (r : ReadFunctions). AreReadSoFar lending r all.0) within all.2

    order : InOrder (map read_of all.0) ordered
    order = subst (λ (es : List ReadFunction). InOrder es ordered) are.entries held_order

    only_overlaps : functions_fault ordered ≡ overlaps_of ordered
    only_overlaps = fault_is (map read_of all.0) ordered None order (no_fault (map read_of all.0) (held_within lending held all.0 are))

    pub overlapping : (fault : GatherFault) → Err fault ≡ unless (overlaps_of ordered) → Gathers before objects (Err fault)
    overlapping fault e = comes ordered (Some fault) order (only_overlaps ∙ one_found (overlaps_of ordered) fault e)

    pub checked : Ok tt ≡ unless (overlaps_of ordered) → functions_fault ordered ≡ None
    checked e = only_overlaps ∙ none_found (overlaps_of ordered) e

    pub gathered : Ok tt ≡ unless (overlaps_of ordered) → Gathers before objects (Ok ordered)
    gathered e = comes ordered None order (checked e)
