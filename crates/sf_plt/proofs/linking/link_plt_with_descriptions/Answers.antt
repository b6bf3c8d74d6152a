use Rattle.std.proofs.Common.{◌≡◌, ◌+◌, List, length, map, ap, subst, sym, ◌∙◌, arith}
use Rattle.std.proofs.lemmas.List.{length-map}
use Rattle.std.proofs.lemmas.Result.{err_from_is_err_and}
use Rattle.std.proofs.lemmas.List.Sorted.{All-permutation}
use Rattle.std.specs.List.{filter}
use Rattle.sf_model.specs.declared.function.Func.{Func}
use Rattle.sf_model.specs.Table.{row_count}
use Rattle.sf_write.specs.Stored.{IsStored, stored_in}
use Rattle.sf_write.proofs.StoredEntries.{counts, few_rows}
use Rattle.frame_functions.specs.ReadFunction.{omitted_of}
use Rattle.frame_functions.specs.Functions.{Function}
use Rattle.sf_asm.specs.Fault.{wraps_gathering}
use Rattle.sf_asm.specs.Functions.{object_of}
use Rattle.frame_functions.specs.Kept.{read_of}
use Rattle.frame_functions.specs.declared.function_list.InputFunctions.{InputFunctions}
use Rattle.sf_plt.specs.Answers.{others_in, plt_span}
use Rattle.sf_plt.specs.Plt.{is_plt}
use Rattle.sf_plt.specs.Sorting.{AreOmitted}
use Rattle.sf_plt.proofs.Faults.{Made, counted, first_gathered, first_written, machine_of_lent, made, over, plt_linked, ready, tables_counted}
use Rattle.sf_plt.proofs.NeverMemory.{first_is_answered}
use Rattle.sf_plt.proofs.Sorted.{are_omitted, lines_alone}
use Rattle.sf_plt.proofs.Stored.{in_order}
use Rattle.sf_plt.proofs.linking.link_plt_with_descriptions.Goals as goal
use Rattle.sf_plt.proofs.linking.link_plt_with_descriptions.Goals.{In_ok-sort_by_start, After-len-tables}

-- the kept functions that were gathered
abbrev kept_in : InputFunctions → List Func
kept_in g = map (stored_in g.rows) g.kept

pub returns-in_err-gathered-clause-fault : goal.returns-in_err-gathered-clause-fault
returns-in_err-gathered-clause-fault c =
    let p = err_from_is_err_and c.from_residual.result c.from_residual.ensures.1 in
    rw (p.1, p.2) (first_gathered c.args.before (map object_of c.args.inputs.now) c.args.at c.in_err-gathered.field-0.0 c.in_err-gathered.ensures.fault)

pub returns-in_err-gathered-clause-answered : goal.returns-in_err-gathered-clause-answered
returns-in_err-gathered-clause-answered c =
    let p = err_from_is_err_and c.from_residual.result c.from_residual.ensures.1 in
    let objects = map object_of c.args.inputs.now in
    rw (p.1, p.2)
    (first_is_answered c.args.before objects c.args.at (wraps_gathering c.in_err-gathered.field-0.0) (first_gathered c.args.before objects c.args.at c.in_err-gathered.field-0.0 c.in_err-gathered.ensures.fault))

pub sort_out-requires-clause-left : goal.sort_out-requires-clause-left
sort_out-requires-clause-left c =
    let g = c.in_ok-gathered.ensures.gathered in
    subst AreOmitted (sym g.descriptions_are) (are_omitted g.sorted)

pub sort_out-requires-clause-omitted : goal.sort_out-requires-clause-omitted
sort_out-requires-clause-omitted c =
    let g = c.in_ok-gathered.ensures.gathered in
    c.deref.ensures.value ∙ g.omitted_are ∙ lines_alone g.sorted ∙ sym (ap (λ (fs : List Function). omitted_of (map read_of fs)) g.descriptions_are)

pub sort_out-requires-clause-machine : goal.sort_out-requires-clause-machine
sort_out-requires-clause-machine c =
    let found = c.in_ok-gathered.gathered in
    machine_of_lent c.args.before (map object_of c.args.inputs.now) found.arch (kept_in found) found.omitted.items found.descriptions.functions c.in_ok-gathered.ensures.gathered c.in_ok-gathered.ensures.machine

pub count_rows-row_count-requires : goal.count_rows-row_count-requires
count_rows-row_count-requires c =
    let found = c.in_ok-gathered.gathered in
    few_rows found.arch found.rows found.kept c.in_ok-gathered.ensures.stored c.in_ok-gathered.ensures.gathered.writable

-- the functions that are lent
abbrev lent : After-len-tables → List Function
lent c = c.in_ok-gathered.gathered.descriptions.functions

functions : (c : After-len-tables) → c.len-count.result + c.len.result ≡ length (kept_in c.in_ok-gathered.gathered) + length c.in_ok-gathered.gathered.omitted.items
functions c =
    let kept_long : c.len-count.result ≡ length (kept_in c.in_ok-gathered.gathered) = c.len-count.ensures ∙ sym (length-map c.in_ok-gathered.gathered.kept (stored_in c.in_ok-gathered.gathered.rows)) in
    let omitted_long : c.len.result ≡ length c.in_ok-gathered.gathered.omitted.items = c.len.ensures ∙ c.in_ok-gathered.gathered.omitted.ok.0 in
    omega (arith, kept_long, omitted_long)

rows : (c : After-len-tables) → c.count_rows-row_count.result ≡ row_count (kept_in c.in_ok-gathered.gathered)
rows c = c.count_rows-row_count.ensures ∙ counts c.in_ok-gathered.gathered.rows c.in_ok-gathered.gathered.kept c.in_ok-gathered.ensures.stored

plts : (c : After-len-tables) → c.in_ok-sorted.sorted.plts.items ≡ map plt_span (filter is_plt (lent c))
plts c = c.in_ok-sorted.ensures.plts

tables : (c : After-len-tables) → c.len-tables.result ≡ length (filter is_plt (lent c))
tables c = tables_counted c.len-tables.result c.in_ok-sorted.sorted.plts.items (lent c) (c.len-tables.ensures ∙ c.in_ok-sorted.sorted.plts.ok.0) (plts c)

-- what is written, in order
ordered : (c : In_ok-sort_by_start) → Made c.in_ok-gathered.gathered.arch c.in_ok-gathered.ensures.gathered.sorted (map (stored_in c.in_ok-sorted.sorted.rows) c.sort_by_start.new.functions.items)
ordered c =
    let found = c.in_ok-gathered.gathered in
    let sorted = c.in_ok-sorted.sorted in
    let before = (goal.at.In_ok-sort_by_start c).After-len-tables in
    made c.args.before (map object_of c.args.inputs.now) found.arch (kept_in found) found.omitted.items (lent before) c.in_ok-gathered.ensures.gathered (c.len-count.result + c.len.result) c.count_rows-row_count.result c.len-tables.result
    (functions before) (rows before) (tables before) c.in-Ok.field-0 c.in-Ok.ensures
    (map (stored_in sorted.rows) sorted.written.items) (map (stored_in sorted.rows) c.sort_by_start.new.functions.items) c.in_ok-sorted.ensures.written c.in_ok-sorted.ensures.sound
    (in_order sorted.rows sorted.written.items c.sort_by_start.new.functions.items c.in_ok-sort_by_start.ensures.order)

pub check_tables-requires : goal.check_tables-requires
check_tables-requires c =
    let found = c.in_ok-gathered.gathered in
    let before = (goal.at.check_tables-requires c).After-len-tables in
    let k = counted c.args.before (map object_of c.args.inputs.now) found.arch (kept_in found) found.omitted.items (lent before) c.in_ok-gathered.ensures.gathered (c.len-count.result + c.len.result) c.count_rows-row_count.result c.len-tables.result
    (functions before) (rows before) (tables before) in
    (omega (arith, k.few), omega (arith, k.few_rows), omega (arith, k.few_tables))

pub returns-in-Err-clause-fault : goal.returns-in-Err-clause-fault
returns-in-Err-clause-fault c =
    let found = c.in_ok-gathered.gathered in
    let before = (goal.at.returns-in-Err-clause-fault c).After-len-tables in
    over c.args.before (map object_of c.args.inputs.now) c.args.at found.arch (kept_in found) found.omitted.items (lent before) c.in_ok-gathered.ensures.gathered (c.len-count.result + c.len.result) c.count_rows-row_count.result c.len-tables.result
    (functions before) (rows before) (tables before) c.in-Err.fault c.in-Err.ensures

pub returns-in-Err-clause-answered : goal.returns-in-Err-clause-answered
returns-in-Err-clause-answered c = first_is_answered c.args.before (map object_of c.args.inputs.now) c.args.at _ (returns-in-Err-clause-fault c)

pub write_stored-requires-clause-stored : goal.write_stored-requires-clause-stored
write_stored-requires-clause-stored c =
    All-permutation (IsStored c.in_ok-sorted.sorted.rows) c.in_ok-sorted.sorted.written.items c.sort_by_start.new.functions.items c.sort_by_start.ensures.moved c.in_ok-sorted.ensures.stored

pub write_stored-requires-clause-writable : goal.write_stored-requires-clause-writable
write_stored-requires-clause-writable c = (ordered (goal.at.write_stored-requires-clause-writable c).In_ok-sort_by_start).writable

pub returns-clause-linked : goal.returns-clause-linked
returns-clause-linked c =
    let found = c.in_ok-gathered.gathered in
    let sorted = c.in_ok-sorted.sorted in
    let before = (goal.at.returns-clause-linked c).After-len-tables in
    let m = ordered (goal.at.returns-clause-linked c).In_ok-sort_by_start in
    let section = c.in_ok-section.ensures in
    let kept_long : c.len-count.result ≡ length (kept_in found) = c.len-count.ensures ∙ sym (length-map found.kept (stored_in found.rows)) in
    let omitted : sorted.omitted.items ≡ omitted_of (map read_of (others_in (lent before))) = c.in_ok-sorted.ensures.omitted in
    plt_linked c.args.before (map object_of c.args.inputs.now) c.args.at c.in_ok-section.section.items c.len-count.result sorted.omitted.items sorted.plts.items found.arch (kept_in found) found.omitted.items (lent before) c.in_ok-gathered.ensures.gathered
    c.in_ok-gathered.ensures.machine (map (stored_in sorted.rows) c.sort_by_start.new.functions.items) m.is m.few section.section section.tight section.narrow section.in_reach kept_long omitted (plts before)

pub returns-in_err-section-clause-fault : goal.returns-in_err-section-clause-fault
returns-in_err-section-clause-fault c =
    let p = err_from_is_err_and c.from_residual-in_err-section.result c.from_residual-in_err-section.ensures.1 in
    let found = c.in_ok-gathered.gathered in
    let g = c.in_ok-gathered.ensures.gathered in
    let m = ordered (goal.at.returns-in_err-section-clause-fault c).In_ok-sort_by_start in
    rw (p.1, p.2)
    (first_written c.args.before (map object_of c.args.inputs.now) c.args.at g.functions g.sorted c.in_err-section.field-0.0 (map (stored_in c.in_ok-sorted.sorted.rows) c.sort_by_start.new.functions.items) (ready c.args.before (map object_of c.args.inputs.now) found.arch (kept_in found) found.omitted.items found.descriptions.functions g) g.by_start m.few m.is
    c.in_err-section.ensures.fault)
