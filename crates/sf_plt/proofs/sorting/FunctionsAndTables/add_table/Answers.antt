use Rattle.std.proofs.Common.{All, List, ◌++◌, ◌∷◌, [], ap, subst, sym, ◌∙◌}
use Rattle.sf_model.specs.declared.function.Func.{Func}
use Rattle.sf_model.specs.Function.{IsWritable}
use Rattle.frame_functions.specs.Kept.{facts_of}
use Rattle.frame_functions.specs.Descriptions.{described_function}
use Rattle.sf_plt.proofs.Form.{plt_form, size_small}
use Rattle.sf_plt.proofs.Writable.{first_on, later_on, pair_writable}
use Rattle.sf_plt.proofs.sorting.FunctionsAndTables.add_table.Goals as goal

pub add-requires-clause-writable : goal.add-requires-clause-writable
add-requires-clause-writable c =
    first_on c.args.arch (described_function c.args.description.now) c.args.content c.in_ok-first.first c.requires.table c.requires.content c.args.description.now.ends c.args.description.now.has_key c.requires.machine c.in_ok-first.ensures

pub later_entries-requires : goal.later_entries-requires
later_entries-requires c =
    let f = described_function c.args.description.now in
    let form = plt_form f c.requires.table in
    (form.above, size_small f.arch (facts_of f) form.whole)

pub add-requires-2-clause-writable : goal.add-requires-2-clause-writable
add-requires-2-clause-writable c =
    later_on c.args.arch (described_function c.args.description.now) c.args.content c.in_ok-later.later c.requires.table c.requires.content c.args.description.now.ends c.args.description.now.has_key c.requires.machine c.in_ok-later.ensures

pub returns-clause-sound : goal.returns-clause-sound
returns-clause-sound c =
    subst (All (IsWritable c.args.arch)) (sym (c.in_ok-add-2.ensures.written ∙ ap (λ (l : List Func). l ++ c.in_ok-later.later ∷ []) c.in_ok-add.ensures.written))
    (pair_writable c.args.arch _ c.in_ok-first.first c.in_ok-later.later c.requires.sound
    (first_on c.args.arch (described_function c.args.description.now) c.args.content c.in_ok-first.first c.requires.table c.requires.content c.args.description.now.ends c.args.description.now.has_key c.requires.machine c.in_ok-first.ensures)
    (later_on c.args.arch (described_function c.args.description.now) c.args.content c.in_ok-later.later c.requires.table c.requires.content c.args.description.now.ends c.args.description.now.has_key c.requires.machine c.in_ok-later.ensures))
