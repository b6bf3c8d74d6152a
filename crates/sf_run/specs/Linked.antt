-- What linking comes to, for the commands that make something of a linked section.
use Rattle.std.specs.Prelude.{◌≡◌, ℕ, List, Option, None, Result, Ok, Err}
use Rattle.sf_model.specs.declared.machine.Arch.{Arch}
use Rattle.sf_model.specs.declared.omission.Omitted.{Omitted}
use Rattle.sf_model.specs.Section.{AreBytes}
use Rattle.frame_functions.specs.declared.read_function.ReadFunction.{ReadFunction}
use Rattle.sf_asm.specs.declared.fault.GatherFault.TheVariants.{TooManyFunctions, TooManyRows}
use Rattle.sf_asm.specs.declared.fault.LinkFault.{LinkFault}
use Rattle.sf_asm.specs.declared.fault.LinkFault.TheVariants.{Gather}
use Rattle.sf_asm.specs.Answers.{IsLinked}
use Rattle.frame_functions.specs.Functions.{Function}
use Rattle.sf_asm.specs.Functions.{Object}
use Rattle.sf_asm.specs.Linking.{Links}
use Rattle.sf_asm.specs.FaultShown.{shown_of_linking}
use Rattle.sf_words.specs.declared.refusal.Limit.TheVariants.{Functions, Rows}
use Rattle.section_commands.specs.Coming.{Coming, Refused, Exceeded}

-- what a fault of linking comes to, of the item that the line names, if it names one
abbrev pub coming_of_link_fault : (item : Option ℕ) → LinkFault → Coming
coming_of_link_fault item (Gather TooManyFunctions) = Exceeded Functions
coming_of_link_fault item (Gather TooManyRows) = Exceeded Rows
coming_of_link_fault item fault = Refused (shown_of_linking item fault)

-- the same of all inputs
abbrev pub coming_of_linking : LinkFault → Coming
coming_of_linking fault = coming_of_link_fault None fault

-- what a command makes of the functions of its inputs, of their section, of how many functions it holds, and of those that were omitted
abbrev pub Makings : Type 0
Makings = (functions : List Function) → (section : List ℕ) → (kept : ℕ) → (omitted : List Omitted) → Coming

-- The section is the faithful one of the inputs, after an item for this machine or after none, without gaps and with the least widths, and
-- this is made of it.
pub record MakesLinked (before : Option Arch) (objects : List Object) (at : ℕ) (made : Makings) (coming : Coming) : Type 0 where
  pub section : List ℕ
  pub kept : ℕ
  pub omitted : List Omitted
  pub are_bytes : AreBytes section
  pub linked : IsLinked before objects at section kept omitted
  pub is : coming ≡ made linked.functions section kept omitted

abbrev pub LinkedComesFrom : (before : Option Arch) → List Object → (at : ℕ) → Makings → Result (List ReadFunction) LinkFault → Coming → Type 0
LinkedComesFrom before objects at made (Err fault) coming = coming ≡ coming_of_linking fault
LinkedComesFrom before objects at made (Ok ordered) coming = MakesLinked before objects at made coming

-- the first fault of linking these inputs for a section at this address, or what is made of the section
pub record LinkedComes (before : Option Arch) (objects : List Object) (at : ℕ) (made : Makings) (coming : Coming) : Type 0 where
  pub result : Result (List ReadFunction) LinkFault
  pub links : Links before objects at result
  pub comes : LinkedComesFrom before objects at made result coming
