-- What gathering inputs comes to, from what was read of them and tried.
use Rattle.std.proofs.Common.{◌≡◌, ℕ, ◌+◌, All, List, length, map, Option, Some, None, Result, Ok, Err, refl, sym, ap, subst, ◌∙◌}
use Rattle.sf_model.specs.declared.machine.Arch.{Arch}
use Rattle.frame_functions.specs.declared.read_function.ReadFunction.{ReadFunction}
use Rattle.sf_asm.specs.declared.fault.GatherFault.{GatherFault}
use Rattle.frame_functions.specs.Answers.{seen_as}
use Rattle.frame_functions.specs.Functions.{Function}
use Rattle.sf_asm.specs.Functions.{◌>>=◌, Object, functions_of, machine_of, unless}
use Rattle.sf_asm.specs.Inputs.{all_functions, first_item, mixed_among, mixed_fault, with_before}
use Rattle.frame_functions.specs.Kept.{read_of}
use Rattle.frame_functions.specs.Order.{InOrder}
use Rattle.sf_asm.specs.Linking.{functions_fault, unless_fault, Gathers, GathersFrom}
use Rattle.sf_asm.proofs.Described.{from_gathers, to_gathers}
use Rattle.sf_asm.proofs.InputsOfFunctions.{IsWithin, ordered_within}

-- ---- from what was read, and from the machines
abbrev pub by_parts : Result (List Function) GatherFault → Option GatherFault → Result (List Function) GatherFault
by_parts given mixed = given >>= λ functions. (unless mixed >>= λ _. Ok functions)

in_order_from : (given : Result (List Function) GatherFault) (entries ordered : List ReadFunction) (fault : Option GatherFault) → seen_as (map read_of) given ≡ Ok entries → InOrder entries ordered → functions_fault ordered ≡ fault
    → GathersFrom given (unless_fault fault ordered)
in_order_from (Ok functions) entries ordered fault e order checked =
    let is : map read_of functions ≡ entries = cc in
    (ordered, subst (λ (es : List ReadFunction). InOrder es ordered) (sym is) order, ap (λ (x : Option GatherFault). unless_fault x ordered) (sym checked))
in_order_from (Err other) entries ordered fault e order checked = cc

with_one_machine : (given : Result (List Function) GatherFault) (mixed : Option GatherFault) → mixed ≡ None → by_parts given mixed ≡ given
with_one_machine (Ok functions) None e = refl
with_one_machine (Ok functions) (Some fault) e = cc
with_one_machine (Err fault) mixed e = refl

-- all was tried
pub tried : (before : Option Arch) (objects : List Object) (entries ordered : List ReadFunction) (fault : Option GatherFault) → seen_as (map read_of) (functions_of (first_item before) objects) ≡ Ok entries → mixed_fault before objects ≡ None
    → InOrder entries ordered → functions_fault ordered ≡ fault → Gathers before objects (unless_fault fault ordered)
tried before objects entries ordered fault reads one order checked =
    to_gathers before objects (unless_fault fault ordered) (subst (λ (given : Result (List Function) GatherFault). GathersFrom given (unless_fault fault ordered)) (sym (with_one_machine (functions_of (first_item before) objects) (mixed_fault before objects) one))
    (in_order_from (functions_of (first_item before) objects) entries ordered fault reads order checked))

refused_from : (given : Result (List Function) GatherFault) (fault : GatherFault) → given ≡ Err fault → GathersFrom given (Err fault)
refused_from (Ok functions) fault e = cc
refused_from (Err other) fault e = let is : other ≡ fault = cc in ap Err (sym is)

pub input_refused : (before : Option Arch) (objects : List Object) (fault : GatherFault) → functions_of (first_item before) objects ≡ Err fault → Gathers before objects (Err fault)
input_refused before objects fault e =
    to_gathers before objects (Err fault) (refused_from (all_functions before objects) fault (ap (λ (given : Result (List Function) GatherFault). by_parts given (mixed_fault before objects)) e))

mixed_refused : (given : Result (List Function) GatherFault) (entries : List ReadFunction) (mixed : Option GatherFault) (fault : GatherFault) → seen_as (map read_of) given ≡ Ok entries → mixed ≡ Some fault → by_parts given mixed ≡ Err fault
mixed_refused (Ok functions) entries (Some other) fault reads e = ap Err (let is : other ≡ fault = cc in is)
mixed_refused (Ok functions) entries None fault reads e = cc
mixed_refused (Err other) entries mixed fault reads e = cc

pub machines_refused : (before : Option Arch) (objects : List Object) (entries : List ReadFunction) (fault : GatherFault) → seen_as (map read_of) (functions_of (first_item before) objects) ≡ Ok entries → mixed_fault before objects ≡ Some fault
    → Gathers before objects (Err fault)
machines_refused before objects entries fault reads e =
    to_gathers before objects (Err fault) (refused_from (all_functions before objects) fault (mixed_refused (functions_of (first_item before) objects) entries (mixed_fault before objects) fault reads e))

-- the same from what the calls answered
pub none_if : (x : Option GatherFault) (u : Unit {0}) → Ok u ≡ unless x → x ≡ None
none_if None u e = refl
none_if (Some fault) u e = cc

pub some_if : (x : Option GatherFault) (fault : GatherFault) → Err fault ≡ unless x → x ≡ Some fault
some_if None fault e = cc
some_if (Some other) fault e = let same : fault ≡ other = cc in ap Some (sym same)

pub tried_by : (before : Option Arch) (objects : List Object) (first : ℕ) (entries ordered : List ReadFunction) (machines : List Arch) (u : Unit {0}) (fault : Option GatherFault) → first ≡ first_item before
    → seen_as (map read_of) (functions_of first objects) ≡ Ok entries → machines ≡ map machine_of objects → Ok u ≡ unless (mixed_among (with_before before machines)) → InOrder entries ordered → functions_fault ordered ≡ fault
    → Gathers before objects (unless_fault fault ordered)
tried_by before objects first entries ordered machines u fault at reads are exact order checked =
    tried before objects entries ordered fault (ap (λ (n : ℕ). seen_as (map read_of) (functions_of n objects)) (sym at) ∙ reads)
    (ap (λ (ms : List Arch). mixed_among (with_before before ms)) (sym are) ∙ none_if (mixed_among (with_before before machines)) u exact) order checked

-- ---- back
-- what inputs come to of which none is refused
pub record AreRead (before : Option Arch) (objects : List Object) (ordered : List ReadFunction) : Type 0 where
  pub functions : List Function
  pub are : functions_of (first_item before) objects ≡ Ok functions
  pub one : mixed_fault before objects ≡ None
  pub in_order : InOrder (map read_of functions) ordered
  pub checked : functions_fault ordered ≡ None

pub record AreParts (given : Result (List Function) GatherFault) (mixed : Option GatherFault) (functions : List Function) : Type 0 where
  pub are : given ≡ Ok functions
  pub one : mixed ≡ None

pub parts_of : (given : Result (List Function) GatherFault) (mixed : Option GatherFault) (functions : List Function) → by_parts given mixed ≡ Ok functions → AreParts given mixed functions
parts_of (Ok others) None functions e = record { are = e; one = refl }
parts_of (Ok others) (Some fault) functions e = cc
parts_of (Err fault) mixed functions e = cc

pub checked_is : (fault : Option GatherFault) (ordered other : List ReadFunction) → Ok ordered ≡ unless_fault fault other → (fault ≡ None) × (other ≡ ordered)
checked_is None ordered other e = let is : ordered ≡ other = cc in (refl, sym is)
checked_is (Some fault) ordered other e = cc

ordered_is : (before : Option Arch) (objects : List Object) (given : Result (List Function) GatherFault) (ordered : List ReadFunction) → all_functions before objects ≡ given → GathersFrom given (Ok ordered) → AreRead before objects ordered
ordered_is before objects (Ok functions) ordered e (other, order, is) =
    let parts = parts_of (functions_of (first_item before) objects) (mixed_fault before objects) functions e in
    let two = checked_is (functions_fault other) ordered other is in
    record {
      functions = functions;
      are = parts.are;
      one = parts.one;
      in_order = subst (InOrder (map read_of functions)) two.1 order;
      checked = subst (λ (es : List ReadFunction). functions_fault es ≡ None) two.1 two.0;
    }
ordered_is before objects (Err fault) ordered e is = cc

pub are_read : (before : Option Arch) (objects : List Object) (ordered : List ReadFunction) → Gathers before objects (Ok ordered) → AreRead before objects ordered
are_read before objects ordered h = ordered_is before objects (all_functions before objects) ordered refl (from_gathers before objects (Ok ordered) h)

-- the functions are of these inputs
pub gathered_within : (before : Option Arch) (objects : List Object) (ordered : List ReadFunction) → Gathers before objects (Ok ordered) → All (IsWithin (first_item before) (first_item before + length objects)) ordered
gathered_within before objects ordered h =
    let read = are_read before objects ordered h in
    ordered_within (first_item before) objects read.functions ordered read.are read.in_order
