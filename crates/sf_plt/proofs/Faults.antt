-- What linking with procedure linkage tables comes to, from what was gathered, counted and written.
use Rattle.std.specs.Prelude.{All, not}
use Rattle.std.specs.Option.{option_map}
use Rattle.std.specs.List.{filter, flat_map}
use Rattle.std.specs.List.Sorted.{IsNonDecreasingBy, IsStableByKey}
use Rattle.std.specs.Ordering.{nat_cmp}
use Rattle.std.proofs.Common.{◌≡◌, ℕ, ◌+◌, ◌*◌, ◌^◌, ◌≤◌, Bool, true, false, cond, List, [], ◌∷◌, ◌++◌, length, map, sum_by, Option, Some, None, Result, Ok, Err, refl, sym, ap, subst, ◌∙◌, arith, inl, inr}
use Rattle.std.proofs.lemmas.List.{length-map}
use Rattle.std.proofs.lemmas.List.Elements.{All-filter}
use Rattle.std.proofs.lemmas.List.Filters.{length-filter_both}
use Rattle.std.proofs.lemmas.List.Sorted.{All-permutation}
use Rattle.std.proofs.lemmas.List.Sums.{sum_by-cons}
use Rattle.sf_model.specs.declared.function.Func.{Func}
use Rattle.sf_model.specs.declared.machine.Arch.{Arch}
use Rattle.sf_model.specs.declared.omission.Omitted.{Omitted}
use Rattle.sf_model.specs.declared.omission.Span.{Span}
use Rattle.sf_model.specs.Function.{AreWritable, IsWritable}
use Rattle.sf_model.specs.Section.{Section}
use Rattle.sf_model.specs.Table.{row_count}
use Rattle.sf_model.specs.Tight.{Narrow, Tight}
use Rattle.sf_write.specs.declared.fault.WriteFault.{WriteFault}
use Rattle.sf_write.specs.declared.fault.WriteFault.TheVariants as write
use Rattle.sf_write.specs.Reach.{Refuses, first_out_of_reach}
use Rattle.sf_write.specs.Section.{table_of}
use Rattle.sf_functions.specs.Limits.{exceeded}
use Rattle.sf_functions.specs.Order.{IsInOrder}
use Rattle.sf_functions.proofs.LimitsHeld as limits
use Rattle.frame_functions.specs.declared.read_function.ReadFunction.{ReadFunction}
use Rattle.frame_functions.specs.declared.read_function.Expressed.{Expressed}
use Rattle.sf_asm.specs.declared.fault.GatherFault.{GatherFault}
use Rattle.sf_asm.specs.Answers.{IsFirstGathered}
use Rattle.sf_asm.specs.declared.fault.LinkFault.{LinkFault}
use Rattle.sf_asm.specs.declared.fault.LinkFault.TheVariants as link
use Rattle.frame_functions.specs.ReadFunction.{kept_of, omitted_of, spans_of}
use Rattle.frame_functions.specs.Functions.{Function}
use Rattle.sf_asm.specs.Functions.{Object, unless}
use Rattle.sf_asm.specs.Inputs.{HaveMachine, all_functions, mixed_fault, first_item}
use Rattle.frame_functions.specs.Kept.{read_of, is_kept, kept_functions, omitted_functions}
use Rattle.sf_asm.specs.Linking.{Gathers, GathersFrom, fault_of_limit, functions_fault, limits_fault, or_later, overlap_fault, overlap_in, unless_fault as unless_gathered}
use Rattle.frame_functions.specs.Order.{are_apart, read_rows, rows_of}
use Rattle.frame_functions.specs.Descriptions.{AreByStart, function_start}
use Rattle.sf_asm.specs.Descriptions.{AreWithDescriptions}
use Rattle.sf_asm.proofs.ByStart.{are_by_start, ordered_are, sorted_functions}
use Rattle.sf_asm.proofs.Described.{described, from_gathers}
use Rattle.sf_asm.proofs.GatheredInputs.{are_read, by_parts}
use Rattle.sf_asm.proofs.Kept.{not_overlapping_apart}
use Rattle.sf_asm.proofs.Limits.{few_functions}
use Rattle.sf_asm.proofs.OneMachine.{machine_of_functions}
use Rattle.sf_model.proofs.StableOrder.{one_order_of}
use Rattle.sf_plt.specs.Answers.{IsFirstPltLinked, IsPltLinkedWith, others_in, plt_span}
use Rattle.sf_plt.specs.Linking.{LinksPlts, LinksPltsFrom, further_fault, plt_link_fault, plts_fault, unless_fault}
use Rattle.sf_asm.specs.Fault.{wraps_gathering, wraps_writing}
use Rattle.sf_asm.proofs.FaithfulSections.{when_wrapped}
use Rattle.sf_plt.specs.Plt.{is_plt, plt_functions}
use Rattle.sf_plt.specs.Sorting.{func_start}
use Rattle.sf_plt.specs.Written.{first_entry, later_entries, plt_pair, written_functions}
use Rattle.sf_plt.proofs.Apart.{neighbours, pairs_of, sorted_written, written_apart}
use Rattle.sf_plt.proofs.Cases.{Case, kept_case, table_case, other_case, case_of, expressed_of, kept_lists, table_lists, other_lists}
use Rattle.sf_plt.proofs.Described.{from_links, to_links}
use Rattle.sf_plt.proofs.Found.{recovers_with_plts}
use Rattle.sf_plt.proofs.Walking.{walks_with_plts}
use Rattle.sf_plt.proofs.Sorted.{lines_alone, omitted_count, are_omitted}

-- ---- counts
pub record Counts (fs : List Function) : Type 0 where
  pub functions : length (kept_of (map read_of fs)) + length (omitted_functions fs) ≡ length fs
  pub kept : length (kept_functions fs) ≡ length (kept_of (map read_of fs))
  pub written : length (written_functions fs) ≤ length fs + length (plt_functions fs)
  pub kept_rows : row_count (kept_of (map read_of fs)) ≡ sum_by read_rows (map read_of fs)
  pub rows : row_count (written_functions fs) ≡ sum_by read_rows (map read_of fs) + 4 * length (plt_functions fs)

abbrev func_rows : Func → ℕ
func_rows g = length g.rows

omitted_by : (f : Function) (fs : List Function) (b : Bool) → is_kept f ≡ b → omitted_functions (f ∷ fs) ≡ cond (not b) (f ∷ omitted_functions fs) (omitted_functions fs)
omitted_by f fs b e = ap (λ (x : Bool). cond (not x) (f ∷ omitted_functions fs) (omitted_functions fs)) e

rows_by : (f : Function) (fs : List Function) (o : Expressed) → (read_of f).outcome ≡ o → sum_by read_rows (map read_of (f ∷ fs)) ≡ rows_of o + sum_by read_rows (map read_of fs)
rows_by f fs o e = sum_by-cons read_rows (read_of f) (map read_of fs) ∙ ap (λ (x : Expressed). rows_of x + sum_by read_rows (map read_of fs)) e

pub counts : (fs : List Function) → Counts fs
counts [] = record { functions = refl; kept = refl; written = omega arith; kept_rows = refl; rows = refl }
counts (f ∷ fs) = at_case (case_of f) (counts fs)
  where
    at_case : Case f → Counts fs → Counts (f ∷ fs)
    at_case (kept_case k) c =
        let lists = kept_lists f fs k in
        let omitted = ap length (omitted_by f fs true k.kept) in
        let kept = ap length lists.kept_is in
        let kept_fs = ap length lists.kept_functions_are in
        let written = ap length lists.written_is in
        let tables = ap length lists.tables_are in
        let rows = rows_by f fs _ k.outcome_is in
        let kept_rows = ap row_count lists.kept_is ∙ sum_by-cons func_rows (expressed_of f) (kept_of (map read_of fs)) in
        let all_rows = ap row_count lists.written_is ∙ sum_by-cons func_rows (expressed_of f) (written_functions fs) in
        record {
          functions = omega (arith, c.functions, omitted, kept);
          kept = omega (arith, c.kept, kept, kept_fs);
          written = omega (arith, c.written, written, tables);
          kept_rows = omega (arith, c.kept_rows, kept_rows, rows);
          rows = omega (arith, c.rows, all_rows, rows, tables);
        }
    at_case (table_case t) c =
        let lists = table_lists f fs t in
        let omitted = ap length (omitted_by f fs false t.kept) in
        let kept = ap length lists.kept_is in
        let kept_fs = ap length lists.kept_functions_are in
        let written = ap length lists.written_is in
        let tables = ap length lists.tables_are in
        let rows = rows_by f fs _ t.outcome_is in
        let kept_rows = ap row_count lists.kept_is in
        let all_rows = ap row_count lists.written_is ∙ sum_by-cons func_rows (first_entry f t.content) (later_entries f t.content ∷ written_functions fs) ∙ ap (λ (n : ℕ). 2 + n) (sum_by-cons func_rows (later_entries f t.content) (written_functions fs)) in
        record {
          functions = omega (arith, c.functions, omitted, kept);
          kept = omega (arith, c.kept, kept, kept_fs);
          written = omega (arith, c.written, written, tables);
          kept_rows = omega (arith, c.kept_rows, kept_rows, rows);
          rows = omega (arith, c.rows, all_rows, rows, tables);
        }
    at_case (other_case o) c =
        let lists = other_lists f fs o in
        let omitted = ap length (omitted_by f fs false o.kept) in
        let kept = ap length lists.kept_is in
        let kept_fs = ap length lists.kept_functions_are in
        let written = ap length lists.written_is in
        let tables = ap length lists.tables_are in
        let rows = rows_by f fs _ o.outcome_is in
        let kept_rows = ap row_count lists.kept_is in
        let all_rows = ap row_count lists.written_is in
        record {
          functions = omega (arith, c.functions, omitted, kept);
          kept = omega (arith, c.kept, kept, kept_fs);
          written = omega (arith, c.written, written, tables);
          kept_rows = omega (arith, c.kept_rows, kept_rows, rows);
          rows = omega (arith, c.rows, all_rows, rows, tables);
        }

-- within both limits
pub record Within (functions rows tables : ℕ) : Type 0 where
  pub functions_fit : functions + tables ≤ 2 ^ 21
  pub rows_fit : rows + 4 * tables ≤ 2 ^ 24

pub within_both : (functions rows tables : ℕ) → further_fault functions rows tables ≡ None → Within functions rows tables
within_both functions rows tables e =
    let none = limits.none_over fault_of_limit (exceeded (functions + tables) (rows + 4 * tables)) e in
    record { functions_fit = limits.few_functions (functions + tables) (rows + 4 * tables) none; rows_fit = limits.few_rows (functions + tables) (rows + 4 * tables) none }

-- what was counted is what is to be counted
pub same_fault : (fs : List Function) (functions rows tables : ℕ) → functions ≡ length fs → rows ≡ sum_by read_rows (map read_of fs) → tables ≡ length (plt_functions fs) → further_fault functions rows tables ≡ plts_fault fs
unfolding plts_fault
same_fault fs functions rows tables e f g =
    ap (λ (n : ℕ). further_fault n rows tables) e ∙ ap (λ (n : ℕ). further_fault (length fs) n tables) f
    ∙ ap (further_fault (length fs) (sum_by read_rows (map read_of fs))) g

-- ---- what can be written
pub are_writable : (arch : Arch) (fs : List Function) → are_apart 0 (map read_of fs) ≡ true → plts_fault fs ≡ None → All (IsWritable arch) (written_functions fs) → AreWritable arch (written_functions fs)
unfolding plts_fault
are_writable arch fs apart few each =
    let c = counts fs in
    let w = within_both (length fs) (sum_by read_rows (map read_of fs)) (length (plt_functions fs)) few in
    record {
      each = each;
      apart = λ k d lt. neighbours 0 (written_functions fs) k d (written_apart 0 fs apart) lt;
      count = omega (arith, c.written, w.functions_fit);
      row_count = omega (arith, c.rows, w.rows_fit);
    }

-- ---- what was gathered
pub apart_from : (limits : Option GatherFault) (pair : Option (Span × Span)) → or_later limits (option_map overlap_fault pair) ≡ None → pair ≡ None
apart_from None None e = refl
apart_from None (Some pair) e = cc
apart_from (Some fault) pair e = cc

pub record Ready (before : Option Arch) (objects : List Object) (functions sorted : List Function) : Type 0 where
  pub all : all_functions before objects ≡ Ok functions
  pub checked : functions_fault (map read_of sorted) ≡ None
  pub apart : are_apart 0 (map read_of sorted) ≡ true

pub ready : (before : Option Arch) (objects : List Object) (arch : Arch) (kept : List Func) (omitted : List Omitted) (lent : List Function) (g : AreWithDescriptions before objects arch kept omitted lent) → Ready before objects g.functions g.sorted
ready before objects arch kept omitted lent g =
    let read = are_read before objects (map read_of g.sorted) g.is in
    record {
      all = ap (λ (given : Result (List Function) GatherFault). by_parts given (mixed_fault before objects)) (described (first_item before) objects (Ok g.functions) g.are) ∙ ap (by_parts (Ok g.functions)) read.one;
      checked = read.checked;
      apart = not_overlapping_apart (map read_of g.sorted) (apart_from (limits_fault (map read_of g.sorted)) (overlap_in (spans_of (map read_of g.sorted))) read.checked);
    }

-- the machine of what was lent
pub machine_of_lent : (before : Option Arch) (objects : List Object) (arch : Arch) (kept : List Func) (omitted : List Omitted) (lent : List Function) → AreWithDescriptions before objects arch kept omitted lent → HaveMachine before objects arch → All (λ (f : Function). f.arch ≡ arch) lent
machine_of_lent before objects arch kept omitted lent g machine =
    let all = machine_of_functions before objects arch g.functions (described (first_item before) objects (Ok g.functions) g.are) machine in
    let sorted = All-permutation (λ (f : Function). f.arch ≡ arch) g.functions g.sorted g.by_start.moved all in
    subst (All (λ (f : Function). f.arch ≡ arch)) (sym g.descriptions_are) (All-filter (λ (f : Function). not (is_kept f)) (λ (f : Function). f.arch ≡ arch) g.sorted sorted)

-- sorted by their starts, the functions that are written are those of the definition
pub made_written : (before : Option Arch) (objects : List Object) (arch : Arch) (kept : List Func) (omitted : List Omitted) (lent : List Function) (g : AreWithDescriptions before objects arch kept omitted lent) → (made ordered : List Func) → made ≡ kept ++ flat_map plt_pair (filter is_plt lent)
    → IsNonDecreasingBy func_start ordered → IsStableByKey func_start nat_cmp made ordered → ordered ≡ written_functions g.sorted
made_written before objects arch kept omitted lent g made ordered is rising stable =
    let all : made ≡ kept_of (map read_of g.sorted) ++ pairs_of g.sorted =
    is ∙ ap (λ (gs : List Func). gs ++ flat_map plt_pair (filter is_plt lent)) g.kept_are ∙ ap (λ (fs : List Function). kept_of (map read_of g.sorted) ++ flat_map plt_pair (filter is_plt fs)) g.descriptions_are in
    sorted_written 0 g.sorted ordered (ready before objects arch kept omitted lent g).apart rising (subst (λ (gs : List Func). IsStableByKey func_start nat_cmp gs ordered) all stable)

-- what was counted
pub record Counted (sorted : List Function) (functions rows tables : ℕ) : Type 0 where
  pub functions_are : functions ≡ length sorted
  pub rows_are : rows ≡ sum_by read_rows (map read_of sorted)
  pub tables_are : tables ≡ length (plt_functions sorted)
  pub few : functions ≤ 2 ^ 21
  pub few_rows : rows ≤ 2 ^ 24
  pub few_tables : tables ≤ 2 ^ 21

shorter : (p : Function → Bool) (fs : List Function) → length (filter p fs) ≤ length fs
shorter p fs = let e = length-filter_both p (λ x. not (p x)) (λ _. refl) fs in omega (arith, e)

tables_within : (fs : List Function) → length (plt_functions fs) ≤ length fs
tables_within fs =
    let tables = shorter is_plt (omitted_functions fs) in
    let omitted = shorter (λ (f : Function). not (is_kept f)) fs in
    omega (arith, tables, omitted)

limits_from : (limits : Option GatherFault) (pair : Option (Span × Span)) → or_later limits (option_map overlap_fault pair) ≡ None → limits ≡ None
limits_from None pair e = refl
limits_from (Some fault) pair e = cc

pub counted : (before : Option Arch) (objects : List Object) (arch : Arch) (kept : List Func) (omitted : List Omitted) (lent : List Function) (g : AreWithDescriptions before objects arch kept omitted lent) → (functions rows tables : ℕ) → functions ≡ length kept + length omitted → rows ≡ row_count kept
    → tables ≡ length (filter is_plt lent) → Counted g.sorted functions rows tables
counted before objects arch kept omitted lent g functions rows tables e f h =
    let c = counts g.sorted in
    let kept_count = ap length g.kept_are in
    let omitted_count' = ap length g.omitted_are ∙ ap length (lines_alone g.sorted) ∙ omitted_count (omitted_functions g.sorted) (are_omitted g.sorted) in
    let functions_are : functions ≡ length g.sorted = omega (arith, e, kept_count, omitted_count', c.functions) in
    let few = few_functions (map read_of g.sorted) (limits_from (limits_fault (map read_of g.sorted)) (overlap_in (spans_of (map read_of g.sorted))) (ready before objects arch kept omitted lent g).checked) in
    let long = length-map g.sorted read_of in
    let tables_are : tables ≡ length (plt_functions g.sorted) = h ∙ ap (λ (fs : List Function). length (filter is_plt fs)) g.descriptions_are in
    let within = tables_within g.sorted in
    record {
      functions_are = functions_are;
      rows_are = f ∙ ap row_count g.kept_are ∙ c.kept_rows;
      tables_are = tables_are;
      few = omega (arith, functions_are, few, long);
      few_rows = omega (arith, f, g.writable.row_count);
      few_tables = omega (arith, tables_are, within, few, long);
    }

-- ---- faults
gathered_refused : (at : ℕ) (given : Result (List Function) GatherFault) (fault : GatherFault) → GathersFrom given (Err fault) → LinksPltsFrom at given (Err (link.Gather fault))
gathered_refused at (Err other) fault is = ap (λ (x : GatherFault). Err (link.Gather x)) (let same : fault ≡ other = cc in same)
gathered_refused at (Ok functions) fault (ordered, order, is) =
    let sorted = sorted_functions functions in
    let same = ordered_are functions ordered order in (
      sorted,
      are_by_start functions,
      at_fault (functions_fault (map read_of sorted)) refl (subst (λ (es : List ReadFunction). Err fault ≡ unless_gathered (functions_fault es) es) same is),
    )
  where
    at_fault : (first : Option GatherFault) → functions_fault (map read_of (sorted_functions functions)) ≡ first → Err fault ≡ unless_gathered first (map read_of (sorted_functions functions)) → Err (link.Gather fault) ≡ unless_fault (plt_link_fault at (sorted_functions functions)) (sorted_functions functions)
    at_fault None e is = cc
    at_fault (Some other) e is =
        let same : fault ≡ other = cc in
        sym (ap (λ (first : Option GatherFault). unless_fault (or_later (option_map link.Gather (or_later first (plts_fault (sorted_functions functions)))) (option_map link.OutOfReach (first_out_of_reach at 0 (written_functions (sorted_functions functions))))) (sorted_functions functions)) e
        ∙ ap (λ (x : GatherFault). Err (link.Gather x)) (sym same))

pub not_gathered : (before : Option Arch) (objects : List Object) (at : ℕ) (fault : GatherFault) → Gathers before objects (Err fault) → LinksPlts before objects at (Err (link.Gather fault))
not_gathered before objects at fault h = to_links before objects at (Err (link.Gather fault)) (gathered_refused at (all_functions before objects) fault (from_gathers before objects (Err fault) h))

by_fault : (before : Option Arch) (objects : List Object) (at : ℕ) (functions sorted : List Function) (fault : LinkFault) → all_functions before objects ≡ Ok functions → AreByStart functions sorted → plt_link_fault at sorted ≡ Some fault → LinksPlts before objects at (Err fault)
by_fault before objects at functions sorted fault all order e =
    to_links before objects at (Err fault) (subst (λ (given : Result (List Function) GatherFault). LinksPltsFrom at given (Err fault)) (sym all) (sorted, order, sym (ap (λ (x : Option LinkFault). unless_fault x sorted) e)))

pub too_many : (before : Option Arch) (objects : List Object) (at : ℕ) (functions sorted : List Function) (fault : GatherFault) → Ready before objects functions sorted → AreByStart functions sorted → plts_fault sorted ≡ Some fault → LinksPlts before objects at (Err (link.Gather fault))
too_many before objects at functions sorted fault h order e =
    by_fault before objects at functions sorted (link.Gather fault) h.all order
    (ap (λ (first : Option GatherFault). or_later (option_map link.Gather (or_later first (plts_fault sorted))) (option_map link.OutOfReach (first_out_of_reach at 0 (written_functions sorted)))) h.checked
    ∙ ap (λ (first : Option GatherFault). or_later (option_map link.Gather first) (option_map link.OutOfReach (first_out_of_reach at 0 (written_functions sorted)))) e)

pub out_of_reach : (before : Option Arch) (objects : List Object) (at : ℕ) (functions sorted : List Function) (start : ℕ) → Ready before objects functions sorted → AreByStart functions sorted → plts_fault sorted ≡ None
    → first_out_of_reach at 0 (written_functions sorted) ≡ Some start → LinksPlts before objects at (Err (link.OutOfReach start))
out_of_reach before objects at functions sorted start h order few far =
    by_fault before objects at functions sorted (link.OutOfReach start) h.all order
    (ap (λ (first : Option GatherFault). or_later (option_map link.Gather (or_later first (plts_fault sorted))) (option_map link.OutOfReach (first_out_of_reach at 0 (written_functions sorted)))) h.checked
    ∙ ap (λ (first : Option GatherFault). or_later (option_map link.Gather first) (option_map link.OutOfReach (first_out_of_reach at 0 (written_functions sorted)))) few
    ∙ ap (option_map link.OutOfReach) far)

-- a fault of writing is the first one
pub first_written : (before : Option Arch) (objects : List Object) (at : ℕ) (functions sorted : List Function) (fault : WriteFault) (written : List Func) → Ready before objects functions sorted → AreByStart functions sorted → plts_fault sorted ≡ None → written ≡ written_functions sorted
    → Refuses fault (first_out_of_reach at 0 written) → IsFirstPltLinked before objects at (wraps_writing fault)
first_written before objects at functions sorted (write.OutOfReach start) written h order few is refused =
    inr (out_of_reach before objects at functions sorted start h order few (ap (first_out_of_reach at 0) (sym is) ∙ refused))
first_written before objects at functions sorted write.NoMemory written h order few is refused = inl refl

pub accepted_by : (at : ℕ) (sorted : List Function) → functions_fault (map read_of sorted) ≡ None → plts_fault sorted ≡ None → first_out_of_reach at 0 (written_functions sorted) ≡ None → plt_link_fault at sorted ≡ None
accepted_by at sorted checked few near =
    ap (λ (first : Option GatherFault). or_later (option_map link.Gather (or_later first (plts_fault sorted))) (option_map link.OutOfReach (first_out_of_reach at 0 (written_functions sorted)))) checked
    ∙ ap (λ (first : Option GatherFault). or_later (option_map link.Gather first) (option_map link.OutOfReach (first_out_of_reach at 0 (written_functions sorted)))) few
    ∙ ap (option_map link.OutOfReach) near

-- ---- the section
pub plt_linked : (before : Option Arch) (objects : List Object) (at : ℕ) (section : List ℕ) (count : ℕ) (omitted : List Omitted) (plts : List Span) (arch : Arch) (kept : List Func) (gathered : List Omitted) (lent : List Function)
    → (g : AreWithDescriptions before objects arch kept gathered lent) → HaveMachine before objects arch → (written : List Func) → written ≡ written_functions g.sorted → plts_fault g.sorted ≡ None → Section section at (table_of arch written)
    → Tight section at (table_of arch written) → Narrow section (table_of arch written) → first_out_of_reach at 0 written ≡ None → count ≡ length kept → omitted ≡ omitted_of (map read_of (others_in lent)) → plts ≡ map plt_span (filter is_plt lent)
    → IsPltLinkedWith before objects at section count omitted plts lent
plt_linked before objects at section count omitted plts arch kept gathered lent g machine written is few section_is tight narrow near count_is omitted_are plts_are =
    let h = ready before objects arch kept gathered lent g in
    let c = counts g.sorted in
    record {
      linked = record {
        functions = g.functions;
        are = g.are;
        arch = arch;
        machine = machine;
        sorted = g.sorted;
        by_start = g.by_start;
        accepted = accepted_by at g.sorted h.checked few (subst (λ (gs : List Func). first_out_of_reach at 0 gs ≡ None) is near);
        is = subst (λ (gs : List Func). Section section at (table_of arch gs)) is section_is;
        recovers = recovers_with_plts g.functions g.sorted g.by_start.moved h.apart;
        walks = walks_with_plts (written_functions g.sorted) g.functions (recovers_with_plts g.functions g.sorted g.by_start.moved h.apart);
        tight = subst (λ (gs : List Func). Tight section at (table_of arch gs)) is tight;
        narrow = subst (λ (gs : List Func). Narrow section (table_of arch gs)) is narrow;
        kept_is = count_is ∙ ap length g.kept_are ∙ sym c.kept;
        omitted_are = omitted_are ∙ ap (λ (fs : List Function). omitted_of (map read_of (others_in fs))) g.descriptions_are;
        plts_are = plts_are ∙ ap (λ (fs : List Function). map plt_span (filter is_plt fs)) g.descriptions_are;
      };
      descriptions_are = g.descriptions_are;
    }

-- ---- one result
pub one_sorted : (functions one other : List Function) → AreByStart functions one → AreByStart functions other → one ≡ other
one_sorted functions one other a b = one_order_of function_start one other a.rising b.rising (λ z. a.stable z ∙ sym (b.stable z))

result_from : (at : ℕ) (given : Result (List Function) GatherFault) (r r' : Result (List Function) LinkFault) → LinksPltsFrom at given r → LinksPltsFrom at given r' → r ≡ r'
result_from at (Ok functions) r r' (one, order, e) (other, order', e') =
    let same = one_sorted functions one other order order' in
    e ∙ ap (λ (fs : List Function). unless_fault (plt_link_fault at fs) fs) same ∙ sym e'
result_from at (Err fault) r r' e e' = e ∙ sym e'

pub one_result : (before : Option Arch) (objects : List Object) (at : ℕ) (r r' : Result (List Function) LinkFault) → LinksPlts before objects at r → LinksPlts before objects at r' → r ≡ r'
one_result before objects at r r' h h' = result_from at (all_functions before objects) r r' (from_links before objects at r h) (from_links before objects at r' h')

-- ---- what a check answers
pub none_over : (first : Option GatherFault) (u : Unit {0}) → Ok u ≡ unless first → first ≡ None
none_over None u e = refl
none_over (Some fault) u e = cc

pub over_is : (first : Option GatherFault) (fault : GatherFault) → Err fault ≡ unless first → first ≡ Some fault
over_is None fault e = cc
over_is (Some other) fault e = ap Some (let is : fault ≡ other = cc in sym is)

-- a fault of gathering is the first one
pub first_gathered : (before : Option Arch) (objects : List Object) (at : ℕ) (fault : GatherFault) → IsFirstGathered before objects fault → IsFirstPltLinked before objects at (wraps_gathering fault)
first_gathered before objects at fault (inl none) = inl (ap wraps_gathering none)
first_gathered before objects at fault (inr first) = when_wrapped (IsFirstPltLinked before objects at) fault (inl refl) (inr (not_gathered before objects at fault first))

-- ---- what was counted and made
pub tables_counted : (n : ℕ) (plts : List Span) (fs : List Function) → n ≡ length plts → plts ≡ map plt_span (filter is_plt fs) → n ≡ length (filter is_plt fs)
tables_counted n plts fs e is = e ∙ ap length is ∙ length-map (filter is_plt fs) plt_span

pub record Made (arch : Arch) (sorted : List Function) (ordered : List Func) : Type 0 where
  pub is : ordered ≡ written_functions sorted
  pub few : plts_fault sorted ≡ None
  pub writable : AreWritable arch ordered

pub made : (before : Option Arch) (objects : List Object) (arch : Arch) (kept : List Func) (omitted : List Omitted) (lent : List Function) (g : AreWithDescriptions before objects arch kept omitted lent) → (functions rows tables : ℕ) → functions ≡ length kept + length omitted → rows ≡ row_count kept
    → tables ≡ length (filter is_plt lent) → (u : Unit {0}) → Ok u ≡ unless (further_fault functions rows tables) → (written ordered : List Func) → written ≡ kept ++ flat_map plt_pair (filter is_plt lent) → All (IsWritable arch) written → IsInOrder func_start written ordered
    → Made arch g.sorted ordered
made before objects arch kept omitted lent g functions rows tables e f h u checked written ordered are each order =
    let k = counted before objects arch kept omitted lent g functions rows tables e f h in
    let few = sym (same_fault g.sorted functions rows tables k.functions_are k.rows_are k.tables_are) ∙ none_over (further_fault functions rows tables) u checked in
    let is = made_written before objects arch kept omitted lent g written ordered are order.rising order.stable in
    let all = subst (All (IsWritable arch)) is (All-permutation (IsWritable arch) written ordered order.moved each) in
    record {
      is = is;
      few = few;
      writable = subst (AreWritable arch) (sym is) (are_writable arch g.sorted (ready before objects arch kept omitted lent g).apart few all);
    }

pub over : (before : Option Arch) (objects : List Object) (at : ℕ) (arch : Arch) (kept : List Func) (omitted : List Omitted) (lent : List Function) (g : AreWithDescriptions before objects arch kept omitted lent) → (functions rows tables : ℕ) → functions ≡ length kept + length omitted → rows ≡ row_count kept
    → tables ≡ length (filter is_plt lent) → (fault : GatherFault) → Err fault ≡ unless (further_fault functions rows tables) → IsFirstPltLinked before objects at (link.Gather fault)
over before objects at arch kept omitted lent g functions rows tables e f h fault checked =
    let k = counted before objects arch kept omitted lent g functions rows tables e f h in
    let is = sym (same_fault g.sorted functions rows tables k.functions_are k.rows_are k.tables_are) ∙ over_is (further_fault functions rows tables) fault checked in
    inr (too_many before objects at g.functions g.sorted fault (ready before objects arch kept omitted lent g) g.by_start is)
