use Rattle.std.proofs.Common.{◌≡◌, None, [], List, length, map, ap, sym, subst, ◌∙◌, arith}
use Rattle.std.proofs.lemmas.List.{length-map}
use Rattle.std.proofs.lemmas.List.Elements.{All-head}
use Rattle.sf_model.specs.Function.{AreWritable}
use Rattle.sf_model.specs.declared.function.Func.{Func}
use Rattle.sf_model.specs.declared.machine.Arch.{Arch}
use Rattle.sf_model.specs.Table.{row_count}
use Rattle.sf_decode.specs.View.{section_address, section_bytes, table_of}
use Rattle.sf_write.specs.Stored.{stored_in}
use Rattle.sf_write.proofs.StoredEntries.{counts, few_rows}
use Rattle.sf_functions.specs.Order.{IsInOrder}
use Rattle.sf_merge.specs.Located.{located_start}
use Rattle.sf_merge.specs.Merging.{merged_functions}
use Rattle.sf_merge.specs.OneSection.{sized_in}
use Rattle.sf_merge.specs.Views.{IsViewOfSection}
use Rattle.sf_merge.proofs.Sound.{view_sound}
use Rattle.sf3_upgrade.specs.Upgrading.{overlap_fault}
use Rattle.sf3_upgrade.proofs.Overlaps.{no_fault}
use Rattle.sf3_upgrade.proofs.Written.{in_table, upgraded, writable}
use Rattle.sf3_upgrade.proofs.upgrading.upgrade.Goals as goal
use Rattle.sf3_upgrade.proofs.upgrading.upgrade.Goals.{After-written-functions}

apart : (c : After-written-functions) → overlap_fault (section_bytes c.args.view.now) c.in_ok-ordered.ordered ≡ None
apart c = no_fault c.in_ok-check_overlap.field-0 (overlap_fault (section_bytes c.args.view.now) c.in_ok-ordered.ordered) c.in_ok-check_overlap.ensures

order : (c : After-written-functions) → IsInOrder located_start (sized_in (table_of c.args.view.now)) c.in_ok-ordered.ordered
order c = in_table (table_of c.args.view.now) c.in_ok-ordered.ordered c.in_ok-ordered.ensures.order

is_section : (c : After-written-functions) → IsViewOfSection c.args.view.now
is_section c = All-head IsViewOfSection c.args.view.now [] c.in_ok-ordered.ensures.read

can : (c : After-written-functions) → AreWritable (table_of c.args.view.now).arch (merged_functions c.in_ok-ordered.ordered)
can c =
    let view = c.args.view.now in
    writable (section_bytes view) (section_address view) (table_of view) c.in_ok-ordered.ordered (is_section c) (view_sound view (is_section c)) (order c) (apart c)

of_stored : (c : After-written-functions) → AreWritable c.arch-arch.result (map (stored_in c.written-functions.result.1) c.written-functions.result.0)
of_stored c =
    subst (λ (a : Arch). AreWritable a (map (stored_in c.written-functions.result.1) c.written-functions.result.0)) (sym c.arch-arch.ensures)
    (subst (λ (fs : List Func). AreWritable (table_of c.args.view.now).arch fs) (sym c.written-functions.ensures.written) (can c))

pub write_stored-requires-clause-writable : goal.write_stored-requires-clause-writable
write_stored-requires-clause-writable c = of_stored (goal.at.write_stored-requires-clause-writable c).After-written-functions

pub count_rows-requires : goal.count_rows-requires
count_rows-requires c =
    let few = few_rows c.arch-arch.result c.written-functions.result.1 c.written-functions.result.0 c.written-functions.ensures.stored (of_stored (goal.at.count_rows-requires c).After-written-functions) in
    omega (few, arith)

pub returns-in-Ok-clause-upgraded : goal.returns-in-Ok-clause-upgraded
returns-in-Ok-clause-upgraded c =
    let before = (goal.at.returns-in-Ok-clause-upgraded c).After-written-functions in
    let rows = c.written-functions.result.1 in
    let kept = c.written-functions.result.0 in
    let items = merged_functions c.in_ok-ordered.ordered in
    let are : map (stored_in rows) kept ≡ items = c.written-functions.ensures.written in
    let made = rw (c.arch-arch.ensures, are) at c.in-Ok.ensures in
    let as_long : length kept ≡ length items = sym (length-map kept (stored_in rows)) ∙ ap (λ (fs : List Func). length fs) are in
    upgraded (section_bytes c.args.view.now) (table_of c.args.view.now) c.args.at c.in-Ok.section.items c.len.result c.count_rows.result c.in_ok-ordered.ordered (order before) (apart before)
    made.few (can before) made.tight made.are_bytes (omega (arith, c.len.ensures, as_long))
    (c.count_rows.ensures ∙ counts rows kept c.written-functions.ensures.stored ∙ ap (λ (fs : List Func). row_count fs) are)
