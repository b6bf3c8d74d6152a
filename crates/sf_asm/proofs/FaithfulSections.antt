-- The section of gathered functions is faithful.
use Rattle.std.specs.Option.{option_map}
use Rattle.std.proofs.Common.{◌≡◌, ℕ, List, length, map, Option, Some, None, Result, Ok, Err, refl, sym, ap, subst, ◌∙◌, inl, inr}
use Rattle.sf_model.specs.declared.machine.Arch.{Arch}
use Rattle.sf_model.specs.declared.function.Func.{Func}
use Rattle.sf_model.specs.declared.omission.Omitted.{Omitted}
use Rattle.sf_model.specs.declared.omission.Span.{Span}
use Rattle.sf_model.specs.Section.{Section}
use Rattle.sf_model.specs.Tight.{Narrow, Tight}
use Rattle.sf_write.specs.declared.fault.WriteFault.{WriteFault}
use Rattle.sf_write.specs.declared.fault.WriteFault.TheVariants.{OutOfReach}
use Rattle.sf_write.specs.Reach.{Refuses, first_out_of_reach}
use Rattle.sf_write.specs.Section.{table_of}
use Rattle.frame_functions.specs.declared.read_function.ReadFunction.{ReadFunction}
use Rattle.sf_asm.specs.declared.fault.GatherFault.{GatherFault}
use Rattle.sf_asm.specs.declared.fault.GatherFault.TheVariants as gather
use Rattle.sf_asm.specs.declared.fault.LinkFault.{LinkFault}
use Rattle.sf_asm.specs.declared.fault.LinkFault.TheVariants as link
use Rattle.sf_asm.specs.Answers.{IsFirstGathered, IsFirstLinked, IsLinked}
use Rattle.sf_asm.specs.Fault.{wraps_gathering}
use Rattle.frame_functions.specs.ReadFunction.{kept_of, omitted_of, spans_of}
use Rattle.sf_asm.specs.Faithful.{Faithful}
use Rattle.frame_functions.specs.Functions.{Function}
use Rattle.sf_asm.specs.Functions.{Object}
use Rattle.sf_asm.specs.Inputs.{HaveMachine, all_functions, first_item}
use Rattle.frame_functions.specs.Kept.{read_of}
use Rattle.frame_functions.specs.Order.{InOrder}
use Rattle.sf_asm.specs.Linking.{overlap_fault, overlap_in, limits_fault, functions_fault, link_fault, or_later, unless_fault, Gathers, GathersFrom, Links, LinksFrom}
use Rattle.sf_asm.proofs.Agreeing.{recovers_by_dwarf}
use Rattle.sf_asm.proofs.Described.{describe, from_gathers, to_links}
use Rattle.sf_asm.proofs.GatheredInputs.{are_read, checked_is}
use Rattle.sf_asm.proofs.Walking.{walks_by_dwarf}

-- no overlap among them
apart_from : (limits : Option GatherFault) (pair : Option (Span × Span)) → or_later limits (option_map overlap_fault pair) ≡ None → pair ≡ None
apart_from None None e = refl
apart_from None (Some pair) e = cc
apart_from (Some fault) pair e = cc

pub faithful : (section : List ℕ) (at : ℕ) (arch : Arch) (functions : List Function) (ordered : List ReadFunction) → InOrder (map read_of functions) ordered → functions_fault ordered ≡ None → Section section at (table_of arch (kept_of ordered))
    → Faithful section at arch functions
faithful section at arch functions ordered order checked is =
    let apart = apart_from (limits_fault ordered) (overlap_in (spans_of ordered)) checked in
    record {
      table = table_of arch (kept_of ordered);
      is = is;
      holds = record { machine = refl; ordered = ordered; in_order = order; kept = refl };
      recovers = recovers_by_dwarf functions ordered order apart;
      walks = walks_by_dwarf functions ordered order apart;
    }

reached : (at : ℕ) (ordered : List ReadFunction) → functions_fault ordered ≡ None → first_out_of_reach at 0 (kept_of ordered) ≡ None → link_fault at ordered ≡ None
reached at ordered checked near =
    ap (λ (fault : Option GatherFault). or_later (option_map link.Gather fault) (option_map link.OutOfReach (first_out_of_reach at 0 (kept_of ordered)))) checked ∙ ap (option_map link.OutOfReach) near

pub linked : (before : Option Arch) (objects : List Object) (at : ℕ) (section : List ℕ) (kept : ℕ) (arch : Arch) (functions : List Func) (omitted : List Omitted) (ordered : List ReadFunction) → Gathers before objects (Ok ordered) → HaveMachine before objects arch
    → functions ≡ kept_of ordered → omitted ≡ omitted_of ordered → Section section at (table_of arch functions) → Tight section at (table_of arch functions) → Narrow section (table_of arch functions)
    → first_out_of_reach at 0 functions ≡ None → kept ≡ length functions → IsLinked before objects at section kept omitted
linked before objects at section kept arch functions omitted ordered h machine kept_are omitted_are is tight narrow near count =
    let read = are_read before objects ordered h in
    record {
      functions = read.functions;
      are = describe (first_item before) objects (Ok read.functions) read.are;
      arch = arch;
      machine = machine;
      ordered = ordered;
      in_order = read.in_order;
      accepted = reached at ordered read.checked (subst (λ (fs : List Func). first_out_of_reach at 0 fs ≡ None) kept_are near);
      faithful = faithful section at arch read.functions ordered read.in_order read.checked (subst (λ (fs : List Func). Section section at (table_of arch fs)) kept_are is);
      tight = subst (λ (fs : List Func). Tight section at (table_of arch fs)) kept_are tight;
      narrow = subst (λ (fs : List Func). Narrow section (table_of arch fs)) kept_are narrow;
      kept_is = count ∙ ap length kept_are;
      omitted_are = omitted_are;
    }

-- ---- faults
gathered_refused : (objects : List Object) (at : ℕ) (given : Result (List Function) GatherFault) (fault : GatherFault) → GathersFrom given (Err fault) → LinksFrom at given (Err (link.Gather fault))
gathered_refused objects at (Ok functions) fault (ordered, order, is) = (ordered, order, at_fault (functions_fault ordered) refl is)
  where
    at_fault : (first : Option GatherFault) → functions_fault ordered ≡ first → Err fault ≡ unless_fault first ordered → Err (link.Gather fault) ≡ unless_fault (link_fault at ordered) ordered
    at_fault None e is = cc
    at_fault (Some other) e is =
        let same : fault ≡ other = cc in
        sym (ap (λ (first : Option GatherFault). unless_fault (or_later (option_map link.Gather first) (option_map link.OutOfReach (first_out_of_reach at 0 (kept_of ordered)))) ordered) e ∙ ap (λ (x : GatherFault). Err (link.Gather x)) (sym same))
gathered_refused objects at (Err other) fault is = ap (λ (x : GatherFault). Err (link.Gather x)) (let same : fault ≡ other = cc in same)

pub not_gathered : (before : Option Arch) (objects : List Object) (at : ℕ) (fault : GatherFault) → Gathers before objects (Err fault) → Links before objects at (Err (link.Gather fault))
not_gathered before objects at fault h = to_links before objects at (Err (link.Gather fault)) (gathered_refused objects at (all_functions before objects) fault (from_gathers before objects (Err fault) h))

out_of_reach : (at : ℕ) (given : Result (List Function) GatherFault) (ordered : List ReadFunction) (start : ℕ) → first_out_of_reach at 0 (kept_of ordered) ≡ Some start → GathersFrom given (Ok ordered) → LinksFrom at given (Err (link.OutOfReach start))
out_of_reach at (Ok functions) ordered start far (other, order, is) =
    let two = checked_is (functions_fault other) ordered other is in
    let there : first_out_of_reach at 0 (kept_of other) ≡ Some start = subst (λ (es : List ReadFunction). first_out_of_reach at 0 (kept_of es) ≡ Some start) (sym two.1) far in (
      other,
      order,
      sym (ap (λ (first : Option GatherFault). unless_fault (or_later (option_map link.Gather first) (option_map link.OutOfReach (first_out_of_reach at 0 (kept_of other)))) other) two.0
          ∙ ap (λ (first : Option ℕ). unless_fault (option_map link.OutOfReach first) other) there),
    )
out_of_reach at (Err fault) ordered start far is = cc

pub reach_refused : (fault : WriteFault) (start : ℕ) (far : Option ℕ) → fault ≡ OutOfReach start → Refuses fault far → far ≡ Some start
reach_refused fault start far is h = subst (λ (f : WriteFault). Refuses f far) is h

pub not_reached : (before : Option Arch) (objects : List Object) (at : ℕ) (functions : List Func) (ordered : List ReadFunction) (start : ℕ) → Gathers before objects (Ok ordered) → functions ≡ kept_of ordered → first_out_of_reach at 0 functions ≡ Some start
    → Links before objects at (Err (link.OutOfReach start))
not_reached before objects at functions ordered start h kept_are far =
    to_links before objects at (Err (link.OutOfReach start)) (out_of_reach at (all_functions before objects) ordered start (subst (λ (fs : List Func). first_out_of_reach at 0 fs ≡ Some start) kept_are far) (from_gathers before objects (Ok ordered) h))

-- what holds of out of memory, and of the fault as it is wrapped
pub when_wrapped : (P : LinkFault → Type 0) (fault : GatherFault) → P link.NoMemory → P (link.Gather fault) → P (wraps_gathering fault)
when_wrapped P gather.NoMemory none wrapped = none
when_wrapped P gather.TooManyFunctions none wrapped = wrapped
when_wrapped P gather.TooManyRows none wrapped = wrapped
when_wrapped P (gather.Input item fault) none wrapped = wrapped
when_wrapped P (gather.MixedArch one other) none wrapped = wrapped
when_wrapped P (gather.Overlap s i t j) none wrapped = wrapped

-- a fault of gathering is the first one of linking
pub first_gathered : (before : Option Arch) (objects : List Object) (at : ℕ) (fault : GatherFault) → IsFirstGathered before objects fault → IsFirstLinked before objects at (wraps_gathering fault)
first_gathered before objects at fault (inl none) = inl (ap wraps_gathering none)
first_gathered before objects at fault (inr first) = when_wrapped (IsFirstLinked before objects at) fault (inl refl) (inr (not_gathered before objects at fault first))
