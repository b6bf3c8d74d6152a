use Rattle.std.proofs.Common.{◌+◌, ◌++◌, All, List, length, map, take, ap, subst, sym, ◌∙◌, arith}
use Rattle.std.specs.List.{filter, flat_map}
use Rattle.sf_model.specs.declared.function.Func.{Func}
use Rattle.sf_model.specs.Function.{IsWritable}
use Rattle.sf_write.specs.Stored.{IsStored, stored_in}
use Rattle.frame_functions.specs.ReadFunction.{omitted_of}
use Rattle.frame_functions.specs.Functions.{Function}
use Rattle.frame_functions.specs.Kept.{read_of}
use Rattle.frame_functions.specs.Descriptions.{described_function}
use Rattle.sf_plt.specs.declared.sorting.FunctionsAndTables.{FunctionsAndTables}
use Rattle.sf_plt.specs.Answers.{others_in, plt_span}
use Rattle.sf_plt.specs.Plt.{is_plt}
use Rattle.sf_plt.specs.Written.{plt_pair}
use Rattle.sf_plt.proofs.Sorted.{lent_arch, lent_omitted, lent_step, none_chosen, omitted_count, omitted_on, omitted_stay, past, plts_on, plts_stay, table_chosen, within, written_on, written_stays}
use Rattle.sf_plt.proofs.sorting.sort_out.Goals as goal
use Rattle.sf_plt.proofs.sorting.sort_out.Goals.{in-Some+in_ok-add_table-in-Some, in-None+in_ok-push-in-None}

-- the functions that are written
abbrev written_in : FunctionsAndTables → List Func
written_in sorted = map (stored_in sorted.rows) sorted.written.items

-- a function for each line
pub get-description-requires : goal.get-description-requires
get-description-requires c =
    let count = omitted_count c.args.descriptions.now.functions c.requires.left in
    let lines = ap length c.requires.omitted in
    let lt = c.loop-number-test.true in
    omega (arith, count, lines, lt)

pub add_table-requires-clause-machine : goal.add_table-requires-clause-machine
add_table-requires-clause-machine c =
    let fs = c.args.descriptions.now.functions in
    let f = described_function c.get-description.result in
    let lt = within fs c.args.omitted.now c.loop-number.number c.requires.left c.requires.omitted c.loop-number-test.true in
    lent_arch c.args.arch fs c.loop-number.number f lt (c.get-description.ensures f) c.requires.machine

pub loop-number-preserved : goal.loop-number-preserved
loop-number-preserved c =
    let kept = map (stored_in c.args.rows) c.args.kept in
    let f = described_function c.get-description.result in
    let k = c.loop-number.number in
    let lt = within c.args.descriptions.now.functions c.args.omitted.now k c.requires.left c.requires.omitted c.loop-number-test.true in
    let fs = take k c.args.descriptions.now.functions in
    let gs = take (k + 1) c.args.descriptions.now.functions in
    let on = lent_step c.args.descriptions.now.functions k f lt (c.get-description.ensures f) in
    let inv = c.loop-number.invariant in
    elim c.match-table_content.branch [
      | in-Some+in_ok-add_table-in-Some w ↦
          let t = table_chosen f w.in-Some.content c.table_content.result w.in-Some.is c.table_content.ensures in
          let done = w.in_ok-add_table-in-Some.ensures in
          record {
            stored = subst (λ (x : FunctionsAndTables). All (IsStored x.rows) x.written.items) (sym w.sorted-is) done.stored;
            written = ap written_in w.sorted-is ∙ written_on kept (written_in c.loop-number.sorted) (written_in w.add_table.new.self) fs gs f on t done.written inv.written;
            plts = ap (λ (x : FunctionsAndTables). x.plts.items) w.sorted-is ∙ plts_on c.loop-number.sorted.plts.items w.add_table.new.self.plts.items fs gs f on t done.plts inv.plts;
            omitted = ap (λ (x : FunctionsAndTables). x.omitted.items) w.sorted-is ∙ ap (λ x. x.items) done.omitted ∙ omitted_stay c.loop-number.sorted.omitted.items fs gs f on t inv.omitted;
            sound = subst (λ (x : FunctionsAndTables). All (IsWritable c.args.arch) (written_in x)) (sym w.sorted-is) done.sound;
          }
      | in-None+in_ok-push-in-None w ↦
          let t = none_chosen f c.table_content.result w.in-None.is c.table_content.ensures in
          record {
            stored = subst (λ (x : FunctionsAndTables). All (IsStored x.rows) x.written.items) (sym w.sorted-is) inv.stored;
            written = ap written_in w.sorted-is ∙ written_stays kept (written_in c.loop-number.sorted) fs gs f on t inv.written;
            plts = ap (λ (x : FunctionsAndTables). x.plts.items) w.sorted-is ∙ plts_stay c.loop-number.sorted.plts.items fs gs f on t inv.plts;
            omitted = ap (λ (x : FunctionsAndTables). x.omitted.items) w.sorted-is ∙ omitted_on c.loop-number.sorted.omitted.items w.push.new.self.items _ fs gs f on t w.in_ok-push-in-None.ensures.items
                (lent_omitted c.args.descriptions.now.functions c.args.omitted.now k f _ lt (c.get-description.ensures f) c.requires.left c.requires.omitted) inv.omitted;
            sound = subst (λ (x : FunctionsAndTables). All (IsWritable c.args.arch) (written_in x)) (sym w.sorted-is) inv.sound;
          }
    ]

-- each function was gone over
pub returns-clause-written : goal.returns-clause-written
returns-clause-written c =
    let all = past c.args.descriptions.now.functions c.args.omitted.now c.loop-number.number c.requires.left c.requires.omitted c.loop-number-test.false in
    c.loop-number.invariant.written ∙ ap (λ (fs : List Function). map (stored_in c.args.rows) c.args.kept ++ flat_map plt_pair (filter is_plt fs)) all

pub returns-clause-plts : goal.returns-clause-plts
returns-clause-plts c =
    let all = past c.args.descriptions.now.functions c.args.omitted.now c.loop-number.number c.requires.left c.requires.omitted c.loop-number-test.false in
    c.loop-number.invariant.plts ∙ ap (λ (fs : List Function). map plt_span (filter is_plt fs)) all

pub returns-clause-omitted : goal.returns-clause-omitted
returns-clause-omitted c =
    let all = past c.args.descriptions.now.functions c.args.omitted.now c.loop-number.number c.requires.left c.requires.omitted c.loop-number-test.false in
    c.loop-number.invariant.omitted ∙ ap (λ (fs : List Function). omitted_of (map read_of (others_in fs))) all
