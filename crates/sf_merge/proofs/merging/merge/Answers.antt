use Rattle.std.proofs.Common.{◌≡◌, None, ℕ, List, length, map, ap, sym, subst, ◌∙◌, arith}
use Rattle.std.proofs.lemmas.List.{length-map}
use Rattle.sf_model.specs.Function.{AreWritable}
use Rattle.sf_model.specs.declared.function.Func.{Func}
use Rattle.sf_model.specs.Table.{row_count}
use Rattle.sf_decode.specs.View.{table_of}
use Rattle.sf_write.specs.Stored.{stored_in}
use Rattle.sf_write.proofs.StoredEntries.{counts, few_rows}
use Rattle.sf_merge.specs.Answers.{IsMerged}
use Rattle.sf_merge.specs.Merging.{limits_fault_in_all, shared_address_fault, merged_functions}
use Rattle.sf_merge.proofs.Merged.{are_writable, merged, no_fault}
use Rattle.sf_merge.proofs.Sound.{all_sound}
use Rattle.sf_merge.proofs.merging.merge.Goals as goal
use Rattle.sf_merge.proofs.merging.merge.Goals.{After-written-functions}

limits : (c : After-written-functions) → limits_fault_in_all (map table_of c.args.views.now) ≡ None
limits c = no_fault c.in_ok-check_limits.field-0 (limits_fault_in_all (map table_of c.args.views.now)) c.in_ok-check_limits.ensures

overlaps : (c : After-written-functions) → shared_address_fault c.in_ok-ordered.ordered ≡ None
overlaps c = no_fault c.in_ok-check_overlap.field-0 (shared_address_fault c.in_ok-ordered.ordered) c.in_ok-check_overlap.ensures

functions : (c : After-written-functions) → map (stored_in c.written-functions.result.1) c.written-functions.result.0 ≡ merged_functions c.in_ok-ordered.ordered
functions c = c.written-functions.ensures.written

writable : (c : After-written-functions) → AreWritable c.in_ok-arch.arch (merged_functions c.in_ok-ordered.ordered)
writable c =
    let arch = c.in_ok-arch.arch in
    are_writable arch (map table_of c.args.views.now) c.in_ok-ordered.ordered (all_sound arch c.args.views.now c.in_ok-ordered.ensures.read c.in_ok-arch.ensures.one) c.in_ok-ordered.ensures.order (overlaps c) (limits c)

pub write_stored-requires-clause-writable : goal.write_stored-requires-clause-writable
write_stored-requires-clause-writable c =
    let before = (goal.at.write_stored-requires-clause-writable c).After-written-functions in
    subst (λ (fs : List Func). AreWritable c.in_ok-arch.arch fs) (sym (functions before)) (writable before)

pub count_rows-requires : goal.count_rows-requires
count_rows-requires c =
    let before = (goal.at.count_rows-requires c).After-written-functions in
    let arch = c.in_ok-arch.arch in
    let kept = c.written-functions.result.0 in
    let few = few_rows arch c.written-functions.result.1 kept c.written-functions.ensures.stored (subst (λ (fs : List Func). AreWritable arch fs) (sym c.written-functions.ensures.written) (writable before)) in
    omega (few, arith)

pub returns-in-Ok-clause-merged : goal.returns-in-Ok-clause-merged
returns-in-Ok-clause-merged c =
    let before = (goal.at.returns-in-Ok-clause-merged c).After-written-functions in
    let written_is = rw (functions before) at c.in-Ok.ensures in
    let items = merged_functions c.in_ok-ordered.ordered in
    let kept = c.written-functions.result.0 in
    let whole = merged c.in_ok-arch.arch (map table_of c.args.views.now) c.args.at c.in-Ok.section.items c.in_ok-ordered.ordered c.in_ok-arch.ensures.one c.in_ok-arch.ensures.none (limits before)
    c.in_ok-ordered.ensures.order (overlaps before) written_is.in_reach written_is.tight written_is.narrow c.in-Ok.ensures.are_bytes in
    let as_long : length kept ≡ length items = sym (length-map kept (stored_in c.written-functions.result.1)) ∙ ap (λ (fs : List Func). length fs) c.written-functions.ensures.written in
    let count : c.len.result ≡ length items = omega (arith, c.len.ensures, as_long) in
    let rows : c.count_rows.result ≡ row_count items =
    c.count_rows.ensures ∙ counts c.written-functions.result.1 kept c.written-functions.ensures.stored
    ∙ ap (λ (fs : List Func). row_count fs) c.written-functions.ensures.written in
    subst (λ (n : ℕ). IsMerged (map table_of c.args.views.now) c.args.at c.in-Ok.section.items n c.count_rows.result) (sym count)
    (subst (λ (n : ℕ). IsMerged (map table_of c.args.views.now) c.args.at c.in-Ok.section.items (length items) n) (sym rows) whole)
