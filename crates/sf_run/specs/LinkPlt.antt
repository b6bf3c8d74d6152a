-- `linkplt OUT@AT IN@BASE ..`: which words ask for it, and what it comes to. Its files are those of `link`.
use Rattle.std.specs.Prelude.{◌≡◌, ℕ, List, codes, Some, None, Result, Ok, Err}
use Rattle.sf_model.specs.declared.omission.Omitted.{Omitted}
use Rattle.sf_model.specs.declared.omission.Span.{Span}
use Rattle.sf_model.specs.Section.{AreBytes}
use Rattle.sf_asm.specs.declared.fault.LinkFault.{LinkFault}
use Rattle.frame_functions.specs.Functions.{Function}
use Rattle.sf_asm.specs.Functions.{Object}
use Rattle.sf_plt.specs.Answers.{IsPltLinked}
use Rattle.sf_plt.specs.Linking.{LinksPlts}
use Rattle.sf_text.specs.PltReport.{plt_report_text}
use Rattle.sf_words.specs.Forms.{NameInputs, SectionAndInputs}
use Rattle.section_commands.specs.Coming.{Coming, Makes}
use Rattle.section_commands.specs.declared.made.Outcome.TheVariants.{Done}
use Rattle.sf_run.specs.Inputs.{objects_in}
use Rattle.sf_run.specs.Linked.{coming_of_linking}

-- the words ask for this link
abbrev pub IsLinkPlt : List (List ℕ) → SectionAndInputs → Type 0
IsLinkPlt words link = NameInputs (codes "linkplt") words link

-- The section is that of the inputs with their procedure linkage tables, without gaps and with the least widths. The text is the report of
-- what it holds, of what was omitted and of the tables.
pub record MakesPltLinked (objects : List Object) (at : ℕ) (coming : Coming) : Type 0 where
  pub section : List ℕ
  pub kept : ℕ
  pub omitted : List Omitted
  pub plts : List Span
  pub are_bytes : AreBytes section
  pub linked : IsPltLinked None objects at section kept omitted plts
  pub is : coming ≡ Makes Done (Some section) (plt_report_text kept omitted plts)

abbrev pub PltLinkedComes : List Object → (at : ℕ) → Result (List Function) LinkFault → Coming → Type 0
PltLinkedComes objects at (Err fault) coming = coming ≡ coming_of_linking fault
PltLinkedComes objects at (Ok functions) coming = MakesPltLinked objects at coming

-- the first fault of linking inputs for a section at this address, or what is made of the section
pub record ObjectsCome (objects : List Object) (at : ℕ) (coming : Coming) : Type 0 where
  pub result : Result (List Function) LinkFault
  pub links : LinksPlts None objects at result
  pub comes : PltLinkedComes objects at result coming

-- what linking inputs of these bytes comes to
abbrev pub LinkPltComes : SectionAndInputs → (items : List (List ℕ)) → Coming → Type 0
LinkPltComes link items coming = ObjectsCome (objects_in link.inputs items) link.section.at coming
