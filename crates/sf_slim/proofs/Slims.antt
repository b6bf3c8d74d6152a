-- The result of slimming, by the results of its steps.
use Rattle.std.specs.Option.{option_map}
use Rattle.std.proofs.Common.{◌≡◌, ℕ, List, length, map, Option, Some, None, Ok, Err, sym, ap, ◌∙◌, arith}
use Rattle.sf_model.specs.declared.function.Func.{Func}
use Rattle.sf_model.specs.Section.{AreBytes}
use Rattle.sf_model.specs.Table.{row_count}
use Rattle.sf_model.specs.Tight.{Narrow, Tight}
use Rattle.sf_write.specs.Reach.{first_out_of_reach}
use Rattle.sf_write.specs.Section.{section_len, table_of}
use Rattle.sf_decode.specs.declared.view.View.{View}
use Rattle.sf_decode.specs.View as view
use Rattle.sf_functions.specs.Order.{IsInOrder}
use Rattle.sf_merge.specs.declared.located.Located.{Located}
use Rattle.sf_merge.specs.Located.{located_start}
use Rattle.sf_merge.specs.Views.{IsViewOfSection}
use Rattle.sf_merge.proofs.Apart.{function_of}
use Rattle.sf_slim.specs.declared.fault.SlimFault.{SlimFault}
use Rattle.sf_slim.specs.declared.fault.SlimFault.TheVariants.{OutOfReach}
use Rattle.sf_slim.specs.Answers.{IsSlimmed}
use Rattle.sf_slim.specs.Slimming.{or_later, slim_overlap_fault, slim_reach_fault, sized_in, slimmed, unless_fault, Slims}
use Rattle.sf_slim.proofs.Alike.{alike}
use Rattle.sf_slim.proofs.Needed.{is_slim, needed, ordered_sound, slimmed_is}
use Rattle.sf_slim.proofs.Shorter.{none_is_shorter_than, rows_least, table_rises}

-- a function is out of reach
pub is_far : (given : View) (at start : ℕ) (ordered : List Located) → IsViewOfSection given → IsInOrder located_start (sized_in (view.table_of given)) ordered → slim_overlap_fault (view.section_bytes given) ordered ≡ None
    → first_out_of_reach at 0 (needed (map function_of ordered)) ≡ Some start → Slims (view.section_bytes given) (view.table_of given) at (Err (OutOfReach start))
is_far given at start ordered read order apart far =
    let written = slimmed_is (view.table_of given).arch ordered (ordered_sound given ordered read order) in
    let fault : or_later (slim_overlap_fault (view.section_bytes given) ordered) (slim_reach_fault at (slimmed ordered)) ≡ Some (OutOfReach start) =
    ap (λ o. or_later o (slim_reach_fault at (slimmed ordered))) apart ∙ ap (λ (fs : List Func). slim_reach_fault at fs) written ∙ ap (option_map OutOfReach) far in
    (ordered, order, sym (ap (λ (o : Option SlimFault). unless_fault o (slimmed ordered)) fault))

-- there is no fault
pub is_slimmed : (given : View) (at : ℕ) (section : List ℕ) (functions rows : ℕ) (ordered : List Located) → IsViewOfSection given → IsInOrder located_start (sized_in (view.table_of given)) ordered
    → slim_overlap_fault (view.section_bytes given) ordered ≡ None → first_out_of_reach at 0 (needed (map function_of ordered)) ≡ None
    → Tight section at (table_of (view.table_of given).arch (needed (map function_of ordered))) → Narrow section (table_of (view.table_of given).arch (needed (map function_of ordered)))
    → length section ≡ section_len (needed (map function_of ordered)) → functions ≡ length (needed (map function_of ordered)) → rows ≡ row_count (needed (map function_of ordered))
    → AreBytes section → IsSlimmed (view.section_bytes given) (view.table_of given) at section functions rows
is_slimmed given at section functions rows ordered read order apart reach tight narrow len count row_number bytes =
    let written = slimmed_is (view.table_of given).arch ordered (ordered_sound given ordered read order) in
    let none : or_later (slim_overlap_fault (view.section_bytes given) ordered) (slim_reach_fault at (slimmed ordered)) ≡ None =
    ap (λ o. or_later o (slim_reach_fault at (slimmed ordered))) apart ∙ ap (λ (fs : List Func). slim_reach_fault at fs) written ∙ ap (option_map OutOfReach) reach in
    record {
      needed = needed (map function_of ordered);
      are = (ordered, order, sym (ap (λ (o : Option SlimFault). unless_fault o (slimmed ordered)) none ∙ ap (λ (fs : List Func). Ok fs) written));
      slim = is_slim given ordered read order apart;
      recovers = alike (view.table_of given) (needed (map function_of ordered)) (table_rises (view.section_bytes given) (view.section_address given) (view.table_of given) read) (is_slim given ordered read order apart);
      least_rows = rows_least (view.section_bytes given) (view.section_address given) (view.table_of given) (needed (map function_of ordered)) read (is_slim given ordered read order apart);
      least = λ plain place other table says.
          let shorter = none_is_shorter_than (view.section_bytes given) (view.section_address given) (view.table_of given) (needed (map function_of ordered)) read (is_slim given ordered read order apart) plain place other table says in
          omega (len, shorter, arith);
      tight = tight;
      narrow = narrow;
      are_bytes = bytes;
      len = len;
      function_count = count;
      row_count = row_number;
    }
