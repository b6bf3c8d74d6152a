-- What linking with procedure linkage tables returns to C.
use Rattle.std.specs.Prelude.{◌≡◌, ℕ, List, length, map, Option, Some, None, Result, Ok, Err, IsTrue}
use Rattle.sf_model.specs.declared.omission.Omitted.{Omitted}
use Rattle.sf_model.specs.declared.omission.Span.{Span}
use Rattle.sf_asm.specs.declared.fault.LinkFault.{LinkFault}
use Rattle.sf_asm.specs.Fault.{is_answered}
use Rattle.sf_plt.specs.Answers.{IsFirstPltLinked, IsPltLinked}
use Rattle.sf_link_c.specs.declared.inputs.KiblawenInput.{KiblawenInput}
use Rattle.sf_link_c.specs.declared.omissions.KiblawenOmission.{KiblawenOmission}
use Rattle.sf_link_c.specs.declared.omissions.KiblawenPlt.{KiblawenPlt}
use Rattle.sf_link_c.specs.declared.linked.KiblawenLinked.{KiblawenLinked}
use Rattle.sf_link_c.specs.Inputs.{AreFit, object_of_input}
use Rattle.sf_link_c.specs.Linking.{nothing_linked}
use Rattle.sf_link_c.specs.Omissions.{listed, omission_shown, plt_shown}
use Rattle.sf_link_c.specs.Refusals.{fault_answer, no_refusal, refusal_of}
use Rattle.sf_link_c.specs.Room.{room_answer, section_written}

-- what is made: the section, the number of functions that are kept as they are, the omitted functions, and the procedure linkage tables
pub record Made : Type 0 where
  pub section : List ℕ
  pub kept : ℕ
  pub omitted : List Omitted
  pub plts : List Span

-- what inputs come to: nothing if they are not fit, or the section of them, or the first fault
abbrev pub HasOutcome : List KiblawenInput → (at : ℕ) → Option (Result Made LinkFault) → Type 0
HasOutcome inputs at None = AreFit inputs → ⊥
HasOutcome inputs at (Some (Ok made)) = AreFit inputs × IsPltLinked None (map object_of_input inputs) at made.section made.kept made.omitted made.plts
HasOutcome inputs at (Some (Err fault)) = AreFit inputs × IsFirstPltLinked None (map object_of_input inputs) at fault × IsTrue (is_answered fault)

-- the header's number of the answer
abbrev pub answer_number : Option (Result Made LinkFault) → (room : ℕ) → ℕ
answer_number None room = 6
answer_number (Some (Ok made)) room = room_answer made.section room
answer_number (Some (Err fault)) room = fault_answer fault

-- the room for the section after the call
abbrev pub section_in : Option (Result Made LinkFault) → (before : List ℕ) → List ℕ
section_in (Some (Ok made)) before = section_written made.section before
section_in other before = before

-- the room for omitted functions after the call
abbrev pub omissions_in : Option (Result Made LinkFault) → (before : List KiblawenOmission) → List KiblawenOmission
omissions_in (Some (Ok made)) before = listed omission_shown made.omitted before
omissions_in other before = before

-- the room for procedure linkage tables after the call
abbrev pub plts_in : Option (Result Made LinkFault) → (before : List KiblawenPlt) → List KiblawenPlt
plts_in (Some (Ok made)) before = listed plt_shown made.plts before
plts_in other before = before

-- the numbers of what is made, or why nothing is
abbrev pub linked_shown : Option (Result Made LinkFault) → KiblawenLinked
linked_shown None = nothing_linked no_refusal
linked_shown (Some (Ok made)) =
    record { len = length made.section; functions = made.kept; omitted = length made.omitted; plts = length made.plts; why = no_refusal }
linked_shown (Some (Err fault)) = nothing_linked (refusal_of fault)

-- The answer to inputs: there is one thing that they come to, and it decides all that is returned and written.
pub record Answers (inputs : List KiblawenInput) (at : ℕ) (answer : ℕ) (out out' : List ℕ) (omitted omitted' : List KiblawenOmission) (plts plts' : List KiblawenPlt) (linked : KiblawenLinked) : Type 0 where
  pub coming : Option (Result Made LinkFault)
  pub comes : HasOutcome inputs at coming
  pub answer_is : answer ≡ answer_number coming (length out)
  pub section_is : out' ≡ section_in coming out
  pub omissions_are : omitted' ≡ omissions_in coming omitted
  pub plts_are : plts' ≡ plts_in coming plts
  pub linked_is : linked ≡ linked_shown coming
