use Rattle.std.proofs.Common.{◌≡◌, List, ℕ, length, map, Option, None, ap, sym, subst, ◌∙◌, arith}
use Rattle.std.proofs.lemmas.List.{length-map}
use Rattle.core_parts.specs.Input.{input_file, is_by_parts}
use Rattle.sf_modules.specs.Entry.{mapping_view}
use Rattle.sf_modules.specs.Module.{module_view}
use Rattle.sf_modules.specs.Process.{process_of}
use Rattle.sf_modules.specs.Union.{tables_of}
use Rattle.process_tables.specs.Modules.{MappedModule}
use Rattle.process_tables.specs.Texts.{mapped_walks}
use Rattle.process_tables.specs.Views.{section_view}
use Rattle.process_tables.specs.Walked.{AreWalks}
use Rattle.process_tables.proofs.Lookups.{as_many}
use Rattle.sf_text.specs.declared.passed.PassedFile.{PassedFile}
use Rattle.sf_text.specs.Passed.{passed_lines, passed_view}
use Rattle.sf_words.specs.declared.refusal.Limit.{Limit}
use Rattle.section_commands.specs.declared.made.Outcome.TheVariants.{Done}
use Rattle.section_commands.specs.Coming.{Coming, MakesNoting}
use Rattle.section_commands.specs.Making.{UnmadeAs}
use Rattle.section_commands.specs.Procwalk.{sums_limit}
use Rattle.sf_run.specs.Procbacktrace.{coming_within, modules_used}
use Rattle.sf_run.proofs.FilesRead.{files_walk, none_walked, same_tables}
use Rattle.sf_run.proofs.procbacktrace.walked.Goals as goal

pub none_used-requires : goal.none_used-requires
none_used-requires c = c.requires.read.1.lines

pub returns-then-is_empty-clause-comes : goal.returns-then-is_empty-clause-comes
returns-then-is_empty-clause-comes c page outcomes are =
    let p = process_of (input_file c.args.core.now) page (map mapping_view c.args.entries.now) in
    subst (λ (d : Coming). UnmadeAs (λ (coming : Coming). coming ≡ d) c.none_used.result) (sym (none_walked p c.args.depth outcomes c.args.tables.now c.args.passed.items are (sym c.if-is_empty.true ∙ c.is_empty.ensures))) c.none_used.ensures.is

pub sections_of-requires : goal.sections_of-requires
sections_of-requires c = (modules_used c.requires.read.0, c.requires.read.1.made)

pub sums_limit-requires : goal.sums_limit-requires
sums_limit-requires c =
    let modules = modules_used c.requires.read.0 in
    let shown = ap length (c.in_ok-sections.ensures modules c.requires.read.1.made) in
    let count = as_many modules c.args.tables.now c.requires.read.1.made in
    let sections = length-map c.in_ok-sections.sections.items module_view in
    let views = length-map modules section_view in
    let lent = ap length c.deref.ensures.value in
    omega (shown, count, sections, views, lent, c.requires.few, arith)

pub returns-in-Text-clause-comes : goal.returns-in-Text-clause-comes
returns-in-Text-clause-comes c page outcomes are =
    let core = input_file c.args.core.now in
    let entries = map mapping_view c.args.entries.now in
    let depth = c.args.depth in
    let p = process_of core page entries in
    let modules = modules_used outcomes in
    let passed = c.args.passed.items in
    let shown = c.in_ok-sections.ensures modules are.made in
    let tables = map (λ (m : MappedModule). m.table) modules in
    let limit : sums_limit tables ≡ None =
    sym (c.in_default.ensures ∙ ap sums_limit (ap (λ ss. tables_of (map module_view ss)) c.deref.ensures.value ∙ ap tables_of shown ∙ same_tables modules)) in
    let text = subst (AreWalks (mapped_walks entries modules core depth) (is_by_parts c.args.core.now)) c.in-Text.is (c.in_ok-walks.ensures modules are.made (ap (map module_view) c.deref-2.ensures.value ∙ shown)) in
    let notes = c.in_ok-notes.ensures ∙ ap (λ (files : List PassedFile). passed_lines (map passed_view files)) c.deref-3.ensures.value in
    sym (files_walk p depth outcomes c.args.tables.now passed are (sym c.if-is_empty.false ∙ c.is_empty.ensures)
    ∙ ap (λ (o : Option Limit). coming_within o (MakesNoting Done None (mapped_walks entries modules core depth) (passed_lines (map passed_view passed)))) limit
    ∙ ap (λ (t : List ℕ). MakesNoting Done None t (passed_lines (map passed_view passed))) (sym text)
    ∙ ap (MakesNoting Done None c.in-Text.text.items) (sym notes))
