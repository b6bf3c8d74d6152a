use Rattle.std.specs.Prelude.{All}
use Rattle.std.proofs.Common.{◌≡◌, true, None, Some, List, length, map, ap, sym, subst, ◌∙◌, inr}
use Rattle.std.proofs.lemmas.List.{length-map}
use Rattle.sf_model.specs.Function.{AreWritable, IsWritable}
use Rattle.sf_model.specs.declared.function.Func.{Func}
use Rattle.sf_model.specs.declared.machine.Arch.{Arch}
use Rattle.sf_model.specs.Table.{row_count}
use Rattle.sf_decode.specs.View.{section_bytes}
use Rattle.sf_write.specs.Reach.{first_out_of_reach, Refuses}
use Rattle.sf_write.specs.declared.fault.WriteFault.{WriteFault}
use Rattle.sf_write.specs.Stored.{stored_in}
use Rattle.sf_write.proofs.StoredEntries.{counts, few_rows}
use Rattle.sf_merge.specs.declared.located.Located.{Located}
use Rattle.sf_merge.proofs.Apart.{function_of}
use Rattle.sf_slim.specs.Pass.{has_row, kept_function}
use Rattle.sf_slim.specs.Slimming.{slim_overlap_fault}
use Rattle.sf_slim.proofs.Needed.{answering_writable, are_writable, needed}
use Rattle.sf_slim.proofs.Overlaps.{no_fault}
use Rattle.sf_slim.proofs.Slims.{is_far, is_slimmed}
use Rattle.sf_slim.proofs.slimming.slim.Goals as goal
use Rattle.sf_slim.proofs.slimming.slim.Goals.{After-needed}

apart : (c : After-needed) → slim_overlap_fault (section_bytes c.args.view.now) c.in_ok-ordered.ordered ≡ None
apart c = no_fault c.in_ok-check_overlap.field-0 (slim_overlap_fault (section_bytes c.args.view.now) c.in_ok-ordered.ordered) c.in_ok-check_overlap.ensures

writable : (c : After-needed) → AreWritable c.arch-arch.result (needed (map function_of c.in_ok-ordered.ordered))
writable c = rw c.arch-arch.ensures (are_writable c.args.view.now c.in_ok-ordered.ordered c.in_order.ensures.read c.in_ok-ordered.ensures.order (apart c))

pub needed-requires : goal.needed-requires
needed-requires c =
    subst (λ (a : Arch). All (λ (l : Located). has_row l.func ≡ true → IsWritable a (kept_function l.func)) c.in_ok-ordered.ordered) (sym c.arch-arch.ensures)
    (answering_writable c.args.view.now c.in_ok-ordered.ordered c.in_order.ensures.read c.in_ok-ordered.ensures.order)

pub write_stored-requires-clause-writable : goal.write_stored-requires-clause-writable
write_stored-requires-clause-writable c =
    let before = (goal.at.write_stored-requires-clause-writable c).After-needed in
    subst (λ (fs : List Func). AreWritable c.arch-arch.result fs) (sym c.in_ok-needed.ensures.needed) (writable before)

pub count_rows-requires : goal.count_rows-requires
count_rows-requires c =
    let before = (goal.at.count_rows-requires c).After-needed in
    let arch = c.arch-arch.result in
    let stored = c.in_ok-needed.needed in
    few_rows arch stored.rows stored.functions.items c.in_ok-needed.ensures.stored (subst (λ (fs : List Func). AreWritable arch fs) (sym c.in_ok-needed.ensures.needed) (writable before))

pub returns-in-Ok-clause-slimmed : goal.returns-in-Ok-clause-slimmed
returns-in-Ok-clause-slimmed c =
    let before = (goal.at.returns-in-Ok-clause-slimmed c).After-needed in
    let stored = c.in_ok-needed.needed in
    let items = needed (map function_of c.in_ok-ordered.ordered) in
    let are : map (stored_in stored.rows) stored.functions.items ≡ items = c.in_ok-needed.ensures.needed in
    let written = rw (c.arch-arch.ensures, are) at c.in-Ok.ensures in
    let as_long : length stored.functions.items ≡ length items = sym (length-map stored.functions.items (stored_in stored.rows)) ∙ ap (λ (fs : List Func). length fs) are in
    is_slimmed c.args.view.now c.args.at c.in-Ok.section.items c.len.result c.count_rows.result c.in_ok-ordered.ordered c.in_order.ensures.read c.in_ok-ordered.ensures.order (apart before)
    written.in_reach written.tight written.narrow
    (sym c.in-Ok.section.ok.0 ∙ written.len)
    (c.len.ensures ∙ (stored.functions.ok.0 ∙ as_long))
    (c.count_rows.ensures ∙ counts stored.rows stored.functions.items c.in_ok-needed.ensures.stored ∙ ap (λ (fs : List Func). row_count fs) are)
    written.are_bytes

pub returns-in-Err-OutOfReach-clause-fault : goal.returns-in-Err-OutOfReach-clause-fault
returns-in-Err-OutOfReach-clause-fault c =
    let before = (goal.at.returns-in-Err-OutOfReach-clause-fault c).After-needed in
    let written = needed (map function_of c.in_ok-ordered.ordered) in
    let far = rw c.in_ok-needed.ensures.needed at c.in-Err-OutOfReach.ensures in
    let refused : first_out_of_reach c.args.at 0 written ≡ Some c.in-Err-OutOfReach.start =
    subst (λ (fault : WriteFault). Refuses fault (first_out_of_reach c.args.at 0 written)) c.in-Err-OutOfReach.field-0-is far.fault in
    inr (is_far c.args.view.now c.args.at c.in-Err-OutOfReach.start c.in_ok-ordered.ordered c.in_order.ensures.read c.in_ok-ordered.ensures.order (apart before) refused)
