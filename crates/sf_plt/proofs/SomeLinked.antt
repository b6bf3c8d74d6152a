-- Linking with procedure linkage tables comes to a result, and there is a section of what it comes to.
use Rattle.std.specs.Prelude.{All, FitsSigned}
use Rattle.std.specs.Int.{w32}
use Rattle.std.specs.Option.{option_map}
use Rattle.std.proofs.Common.{◌≡◌, ◌^◌, ◌<◌, ℕ, pos, Bool, true, cond, List, [], ◌∷◌, length, map, Option, Some, None, Result, Ok, Err, refl, sym, ap, subst, ◌∙◌, arith}
use Rattle.std.proofs.lemmas.List.Elements.{All-nil, All-append, All-head, All-tail, All-from_recursion}
use Rattle.sf_model.specs.declared.content.Content.{Content}
use Rattle.sf_model.specs.declared.function.Func.{Func}
use Rattle.sf_model.specs.declared.machine.Arch.{Arch}
use Rattle.sf_model.specs.declared.omission.Omitted.{Omitted}
use Rattle.sf_model.specs.declared.omission.Span.{Span}
use Rattle.sf_model.specs.declared.rows.Row.{Row}
use Rattle.sf_model.specs.Content.{OffsetsInRange}
use Rattle.sf_model.specs.Function.{IsWritable}
use Rattle.sf_model.specs.Section.{AreBytes}
use Rattle.sf_write.specs.Numbers.{NumbersFit}
use Rattle.sf_write.specs.Reach.{first_out_of_reach}
use Rattle.sf_write.specs.Section.{section_bytes}
use Rattle.sf_write.proofs.NumbersFit.{some_section}
use Rattle.sf_asm.specs.declared.fault.GatherFault.{GatherFault}
use Rattle.sf_asm.specs.declared.fault.LinkFault.{LinkFault}
use Rattle.sf_asm.specs.declared.fault.LinkFault.TheVariants as link
use Rattle.frame_functions.specs.ReadFunction.{omitted_of, spans_of}
use Rattle.frame_functions.specs.Functions.{Function}
use Rattle.sf_asm.specs.Functions.{Object, functions_of}
use Rattle.sf_asm.specs.Inputs.{HaveMachine, all_functions, first_item, mixed_fault}
use Rattle.frame_functions.specs.Kept.{read_of, facts_of, kept_functions, omitted_functions}
use Rattle.sf_asm.specs.Linking.{functions_fault, limits_fault, or_later, overlap_in}
use Rattle.frame_functions.specs.Order.{are_apart}
use Rattle.frame_functions.specs.Descriptions.{AreByStart}
use Rattle.sf_asm.proofs.ByStart.{are_by_start, sorted_functions}
use Rattle.sf_asm.proofs.Described.{describe}
use Rattle.sf_asm.proofs.GatheredInputs.{parts_of}
use Rattle.sf_asm.proofs.Kept.{not_overlapping_apart}
use Rattle.sf_plt.specs.Answers.{IsPltLinked, others_in, plt_span}
use Rattle.sf_plt.specs.Linking.{LinksPlts, LinksPltsFrom, plt_link_fault, plts_fault, unless_fault}
use Rattle.sf_plt.specs.Plt.{is_plt, plt_functions}
use Rattle.sf_plt.specs.Written.{first_entry, later_entries, pair_by, plt_pair, row_saying, written_as, written_functions, written_of}
use Rattle.sf_plt.proofs.Cases.{Case, IsKept, IsTable, case_of, expressed_of, kept_case, other_case, table_case}
use Rattle.sf_plt.proofs.Described.{from_links, to_links}
use Rattle.sf_plt.proofs.Faults.{accepted_by, apart_from, are_writable}
use Rattle.sf_plt.proofs.Form.{plt_form, size_small}
use Rattle.sf_plt.proofs.Found.{recovers_with_plts}
use Rattle.sf_plt.proofs.Walking.{walks_with_plts}

-- ---- a result
some_from : (at : ℕ) (given : Result (List Function) GatherFault) → (result : Result (List Function) LinkFault) × LinksPltsFrom at given result
some_from at (Ok functions) = let sorted = sorted_functions functions in (unless_fault (plt_link_fault at sorted) sorted, (sorted, are_by_start functions, refl))
some_from at (Err fault) = (Err (link.Gather fault), refl)

pub some_result : (before : Option Arch) (objects : List Object) (at : ℕ) → (result : Result (List Function) LinkFault) × LinksPlts before objects at result
some_result before objects at = let some = some_from at (all_functions before objects) in (some.0, to_links before objects at some.0 some.1)

-- ---- functions in which no fault was found
pub record AreLinked (before : Option Arch) (objects : List Object) (at : ℕ) (sorted : List Function) : Type 0 where
  pub functions : List Function
  pub are : functions_of (first_item before) objects ≡ Ok functions
  pub unmixed : mixed_fault before objects ≡ None
  pub by_start : AreByStart functions sorted
  pub checked : functions_fault (map read_of sorted) ≡ None
  pub few : plts_fault sorted ≡ None
  pub near : first_out_of_reach at 0 (written_functions sorted) ≡ None

none_of : {F : Type 0} (a b : Option F) → or_later a b ≡ None → (a ≡ None) × (b ≡ None)
none_of None b e = (refl, e)
none_of (Some fault) b e = cc

no_mapped : {A B : Type 0} (f : A → B) (x : Option A) → option_map f x ≡ None → x ≡ None
no_mapped f None e = refl
no_mapped f (Some a) e = cc

no_fault : (fault : Option LinkFault) (sorted other : List Function) → Ok sorted ≡ unless_fault fault other → (fault ≡ None) × (other ≡ sorted)
no_fault None sorted other e = let is : sorted ≡ other = cc in (refl, sym is)
no_fault (Some fault) sorted other e = cc

linked_with : (before : Option Arch) (objects : List Object) (at : ℕ) (functions sorted : List Function) → functions_of (first_item before) objects ≡ Ok functions → mixed_fault before objects ≡ None → AreByStart functions sorted → plt_link_fault at sorted ≡ None
    → AreLinked before objects at sorted
linked_with before objects at functions sorted are unmixed order none =
    let gathered = or_later (functions_fault (map read_of sorted)) (plts_fault sorted) in
    let two = none_of (option_map link.Gather gathered) (option_map link.OutOfReach (first_out_of_reach at 0 (written_functions sorted))) none in
    let checks = none_of (functions_fault (map read_of sorted)) (plts_fault sorted) (no_mapped link.Gather gathered two.0) in
    record {
      functions = functions;
      are = are;
      unmixed = unmixed;
      by_start = order;
      checked = checks.0;
      few = checks.1;
      near = no_mapped link.OutOfReach (first_out_of_reach at 0 (written_functions sorted)) two.1;
    }

linked_from : (before : Option Arch) (objects : List Object) (at : ℕ) (given : Result (List Function) GatherFault) (sorted : List Function) → all_functions before objects ≡ given → LinksPltsFrom at given (Ok sorted) → AreLinked before objects at sorted
linked_from before objects at (Ok functions) sorted e (other, order, is) =
    let parts = parts_of (functions_of (first_item before) objects) (mixed_fault before objects) functions e in
    let two = no_fault (plt_link_fault at other) sorted other is in
    subst (AreLinked before objects at) two.1 (linked_with before objects at functions other parts.are parts.one order two.0)
linked_from before objects at (Err fault) sorted e is = cc

pub are_linked : (before : Option Arch) (objects : List Object) (at : ℕ) (sorted : List Function) → LinksPlts before objects at (Ok sorted) → AreLinked before objects at sorted
are_linked before objects at sorted h = linked_from before objects at (all_functions before objects) sorted refl (from_links before objects at (Ok sorted) h)

-- ---- what is written of a function
pub all_of : (P : Func → Type 0) (f : Function) → (IsKept f → P (expressed_of f)) → ((t : IsTable f) → P (first_entry f t.content) × P (later_entries f t.content)) → All P (written_of f)
all_of P f kept table = at_case (case_of f)
  where
    at_case : Case f → All P (written_of f)
    at_case (kept_case k) = subst (All P) (sym (ap (written_as f) k.outcome_is)) (All-from_recursion P (expressed_of f ∷ []) (kept k, tt))
    at_case (table_case t) =
        let pair = table t in
        let is : written_of f ≡ first_entry f t.content ∷ later_entries f t.content ∷ [] =
        ap (written_as f) t.outcome_is ∙ ap (λ (b : Bool). cond b (plt_pair f) []) t.table ∙ ap (pair_by f) t.content_is in
        subst (All P) (sym is) (All-from_recursion P (first_entry f t.content ∷ later_entries f t.content ∷ []) (pair.0, (pair.1, tt)))
    at_case (other_case o) =
        let is : written_of f ≡ [] = ap (written_as f) o.outcome_is ∙ ap (λ (b : Bool). cond b (plt_pair f) []) o.table in
        subst (All P) (sym is) (All-nil P)

pub all_written : (P : Func → Type 0) (fs : List Function) → All (λ (f : Function). All P (written_of f)) fs → All P (written_functions fs)
all_written P [] h = All-nil P
all_written P (f ∷ fs) h =
    let Each : Function → Type 0 = λ (g : Function). All P (written_of g) in
    All-append P (written_of f) (written_functions fs) (All-head Each f fs h) (all_written P fs (All-tail Each f fs h))

-- ---- the numbers of a table's two functions
distance_fits : (n : ℕ) → n < 2 ^ 31 → FitsSigned w32 (pos n)
distance_fits n lt = record { sfits = lt }

in_range : (content : Content) (n : ℕ) → n < 2 ^ 31 → OffsetsInRange content → OffsetsInRange (record content { cfa = pos n })
in_range content n lt h = record { frame_address = distance_fits n lt; return_address = h.return_address; frame_pointer = h.frame_pointer }

abbrev StartsSmall : Row → Type 0
StartsSmall r = r.start < 2 ^ 32

abbrev InRange : Row → Type 0
InRange r = OffsetsInRange r.content

pub first_fits : (f : Function) (content : Content) → OffsetsInRange content → NumbersFit (first_entry f content)
first_fits f content h = record {
  size = omega arith;
  starts = All-from_recursion StartsSmall (row_saying 0 16 content ∷ row_saying 6 24 content ∷ []) (omega arith, (omega arith, tt));
  offsets = All-from_recursion InRange (row_saying 0 16 content ∷ row_saying 6 24 content ∷ []) (in_range content 16 (omega arith) h, (in_range content 24 (omega arith) h, tt));
  repeats = omega arith;
}

pub later_fit : (f : Function) (content : Content) → is_plt f ≡ true → OffsetsInRange content → NumbersFit (later_entries f content)
later_fit f content table h =
    let small = size_small f.arch (facts_of f) (plt_form f table).whole in
    record {
      size = omega (arith, small);
      starts = All-from_recursion StartsSmall (row_saying 0 8 content ∷ row_saying 11 16 content ∷ []) (omega arith, (omega arith, tt));
      offsets = All-from_recursion InRange (row_saying 0 8 content ∷ row_saying 11 16 content ∷ []) (in_range content 8 (omega arith) h, (in_range content 16 (omega arith) h, tt));
      repeats = omega arith;
    }

-- ---- the section
pub record SomeSection (before : Option Arch) (objects : List Object) (at : ℕ) : Type 0 where
  pub section : List ℕ
  pub kept : ℕ
  pub omitted : List Omitted
  pub plts : List Span
  pub are_bytes : AreBytes section
  pub linked : IsPltLinked before objects at section kept omitted plts

pub some_plt_section : (before : Option Arch) (objects : List Object) (at : ℕ) (sorted : List Function) (arch : Arch) → AreLinked before objects at sorted → HaveMachine before objects arch → All (IsWritable arch) (written_functions sorted)
    → All NumbersFit (written_functions sorted) → SomeSection before objects at
some_plt_section before objects at sorted arch h machine writable fit =
    let apart : are_apart 0 (map read_of sorted) ≡ true =
    not_overlapping_apart (map read_of sorted) (apart_from (limits_fault (map read_of sorted)) (overlap_in (spans_of (map read_of sorted))) h.checked) in
    let made = some_section arch at (written_functions sorted) (are_writable arch sorted apart h.few writable) fit h.near in
    record {
      section = section_bytes arch at (written_functions sorted);
      kept = length (kept_functions sorted);
      omitted = omitted_of (map read_of (others_in (omitted_functions sorted)));
      plts = map plt_span (plt_functions sorted);
      are_bytes = made.0;
      linked = record {
        functions = h.functions;
        are = describe (first_item before) objects (Ok h.functions) h.are;
        arch = arch;
        machine = machine;
        sorted = sorted;
        by_start = h.by_start;
        accepted = accepted_by at sorted h.checked h.few h.near;
        is = made.1.section;
        recovers = recovers_with_plts h.functions sorted h.by_start.moved apart;
        walks = walks_with_plts (written_functions sorted) h.functions (recovers_with_plts h.functions sorted h.by_start.moved apart);
        tight = made.1;
        narrow = made.2;
        kept_is = refl;
        omitted_are = refl;
        plts_are = refl;
      };
    }
