use Rattle.std.proofs.Common.{ℕ, inl, inr, rules, ◌<◌, ◌^◌, Ok, [], ap, subst, sym}
use Rattle.std.proofs.lemmas.Result.{err_from_is_err_and}
use Rattle.sf_model.specs.declared.facts.FdeFacts.{FdeFacts}
use Rattle.cfa_machine.specs.RowList.{AreRows}
use Rattle.eh_records.specs.Fde.{fde_view}
use Rattle.frame_functions.specs.Functions.{function_at}
use Rattle.frame_functions.specs.Views.{overlaid, seen_section, written_by}
use Rattle.frame_functions.proofs.FunctionsOfSection.{reads_function, reads_description, span_refused, run_refused}
use Rattle.frame_functions.proofs.MadeRows.{first_of, good_rows, made_here, outcome_is_sound, outcome_means, outcome_runs, refused_here, rows_refused}
use Rattle.frame_functions.proofs.section.read_function.Goals as goal

pub returns-in_err-start-clause-exact : goal.returns-in_err-start-clause-exact
returns-in_err-start-clause-exact c =
    let p = err_from_is_err_and c.from_residual.result c.from_residual.ensures.1 in
    λ relocations.
    let section = seen_section c.args.section.now relocations in
    let values = overlaid (written_by c.args.overlay.now) in
    rw (p.1, p.2) (inr (span_refused c.args.section.now.arch c.args.section.now.item section values (fde_view c.args.fde.now) c.in_err-start.field-0.0 (c.in_err-start.ensures.exact relocations)))

pub returns-in_err-begin_rows-clause-exact : goal.returns-in_err-begin_rows-clause-exact
returns-in_err-begin_rows-clause-exact c =
    let p = err_from_is_err_and c.from_residual-in_err-begin_rows.result c.from_residual-in_err-begin_rows.ensures.1 in
    λ relocations.
    let section = seen_section c.args.section.now relocations in
    let values = overlaid (written_by c.args.overlay.now) in
    let f = function_at c.args.section.now.arch c.args.section.now.item section (fde_view c.args.fde.now) (c.in_ok-start.start, c.in_ok-start.size) in
    rw (p.1, p.2) (elim c.in_err-begin_rows.ensures.fault [
      | inl wanting ↦ inl wanting
      | inr refused ↦ inr (run_refused c.args.section.now.arch c.args.section.now.item section values (fde_view c.args.fde.now) (c.in_ok-start.start, c.in_ok-start.size) c.in_err-begin_rows.field-0.0 (c.in_ok-start.ensures.exact relocations) (rows_refused _ _ _ _ (first_of f) refused))
    ])

pub returns-in_err-outcome-clause-exact : goal.returns-in_err-outcome-clause-exact
returns-in_err-outcome-clause-exact c =
    let p = err_from_is_err_and c.from_residual-in_err-outcome.result c.from_residual-in_err-outcome.ensures.1 in
    λ relocations.
    let section = seen_section c.args.section.now relocations in
    let values = overlaid (written_by c.args.overlay.now) in
    let f = function_at c.args.section.now.arch c.args.section.now.item section (fde_view c.args.fde.now) (c.in_ok-start.start, c.in_ok-start.size) in
    rw (p.1, p.2) (elim c.in_err-outcome.ensures.fault [
      | inl wanting ↦ inl wanting
      | inr refused ↦ inr (run_refused c.args.section.now.arch c.args.section.now.item section values (fde_view c.args.fde.now) (c.in_ok-start.start, c.in_ok-start.size) c.in_err-outcome.field-0.0 (c.in_ok-start.ensures.exact relocations) (rows_refused _ _ _ _ (first_of f) (refused_here _ f _ _ c.in_ok-begin_rows.ensures.begins refused)))
    ])

pub outcome_of-requires-clause-rows : goal.outcome_of-requires-clause-rows
outcome_of-requires-clause-rows c = λ rows is.
    let section = seen_section c.args.section.now (Ok []) in
    let f = function_at c.args.section.now.arch c.args.section.now.item section (fde_view c.args.fde.now) (c.in_ok-start.start, c.in_ok-start.size) in
    let size = ap (λ (facts : FdeFacts). facts.size) c.facts_of-facts.ensures in
    subst (λ (n : ℕ). AreRows c.args.section.now.arch n rows) (sym size) (good_rows f _ rows c.in_ok-begin_rows.ensures.begins is)

pub returns-clause-sound : goal.returns-clause-sound
returns-clause-sound c =
    let section = seen_section c.args.section.now (Ok []) in
    let f = function_at c.args.section.now.arch c.args.section.now.item section (fde_view c.args.fde.now) (c.in_ok-start.start, c.in_ok-start.size) in
    outcome_is_sound f c.in_ok-outcome.outcome c.in_ok-start.ensures.end c.requires.key (made_here f _ _ _ c.facts_of-facts.ensures c.in_ok-begin_rows.ensures.begins c.in_ok-outcome.ensures.given)

pub returns-clause-exact : goal.returns-clause-exact
returns-clause-exact c = λ relocations.
    let arch = c.args.section.now.arch in
    let section = seen_section c.args.section.now relocations in
    let values = overlaid (written_by c.args.overlay.now) in
    let f = function_at arch c.args.section.now.item section (fde_view c.args.fde.now) (c.in_ok-start.start, c.in_ok-start.size) in
    let small : c.in_ok-start.size < 2 ^ 64 = search rules in
    let made = made_here f _ _ c.in_ok-outcome.outcome c.facts_of-facts.ensures c.in_ok-begin_rows.ensures.begins c.in_ok-outcome.ensures.given in
    reads_function arch c.args.section.now.item section values (fde_view c.args.fde.now) (c.in_ok-start.start, c.in_ok-start.size) c.in_ok-outcome.outcome (c.in_ok-start.ensures.exact relocations) (outcome_runs f _ _ (first_of f) made) (outcome_means f _ small made)

pub returns-clause-function : goal.returns-clause-function
returns-clause-function c = λ relocations.
    let arch = c.args.section.now.arch in
    let section = seen_section c.args.section.now relocations in
    let values = overlaid (written_by c.args.overlay.now) in
    let f = function_at arch c.args.section.now.item section (fde_view c.args.fde.now) (c.in_ok-start.start, c.in_ok-start.size) in
    let made = made_here f _ _ c.in_ok-outcome.outcome c.facts_of-facts.ensures c.in_ok-begin_rows.ensures.begins c.in_ok-outcome.ensures.given in
    reads_description arch c.args.section.now.item section values (fde_view c.args.fde.now) (c.in_ok-start.start, c.in_ok-start.size) (c.in_ok-start.ensures.exact relocations) (outcome_runs f _ _ (first_of f) made)
