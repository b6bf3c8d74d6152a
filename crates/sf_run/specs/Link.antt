-- `link OUT@AT IN@BASE ..`: which words ask for it, its files, and what it comes to.
use Rattle.std.specs.Prelude.{ℕ, List, [], codes, map, Some, None}
use Rattle.sf_model.specs.declared.omission.Omitted.{Omitted}
use Rattle.frame_functions.specs.Functions.{Function}
use Rattle.sf_text.specs.Report.{report_text}
use Rattle.sf_words.specs.Files.{FilesWords}
use Rattle.sf_words.specs.Forms.{NameInputs, SectionAndInputs}
use Rattle.sf_words.specs.Items.{Input}
use Rattle.section_commands.specs.Coming.{Coming, Makes}
use Rattle.section_commands.specs.declared.made.Outcome.TheVariants.{Done}
use Rattle.sf_run.specs.Inputs.{objects_in}
use Rattle.sf_run.specs.Linked.{LinkedComes}

-- the words ask for this link
abbrev pub IsLink : List (List ℕ) → SectionAndInputs → Type 0
IsLink words link = NameInputs (codes "link") words link

-- the files of `link` and of `linkplt`: the section is made, and the inputs are read
abbrev pub link_files : SectionAndInputs → FilesWords
link_files link = record { out = Some link.section.name; first = []; list = map Input link.inputs }

-- the section, and the report of what it holds and of what was omitted
abbrev pub section_and_report : List Function → (section : List ℕ) → (kept : ℕ) → (omitted : List Omitted) → Coming
section_and_report functions section kept omitted = Makes Done (Some section) (report_text kept omitted)

-- what linking inputs of these bytes comes to
abbrev pub LinkComes : SectionAndInputs → (items : List (List ℕ)) → Coming → Type 0
LinkComes link items coming = LinkedComes None (objects_in link.inputs items) link.section.at section_and_report coming
