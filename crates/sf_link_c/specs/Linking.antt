-- What linking returns to C.
use Rattle.std.specs.Prelude.{◌≡◌, ℕ, List, length, map, Option, Some, None, Result, Ok, Err, IsTrue}
use Rattle.sf_model.specs.declared.omission.Omitted.{Omitted}
use Rattle.sf_asm.specs.declared.fault.LinkFault.{LinkFault}
use Rattle.sf_asm.specs.Answers.{IsFirstLinked, IsLinked}
use Rattle.sf_asm.specs.Fault.{is_answered}
use Rattle.sf_link_c.specs.declared.inputs.KiblawenInput.{KiblawenInput}
use Rattle.sf_link_c.specs.declared.omissions.KiblawenOmission.{KiblawenOmission}
use Rattle.sf_link_c.specs.declared.linked.KiblawenLinked.{KiblawenLinked}
use Rattle.sf_link_c.specs.declared.refusals.KiblawenRefusal.{KiblawenRefusal}
use Rattle.sf_link_c.specs.Inputs.{AreFit, object_of_input}
use Rattle.sf_link_c.specs.Omissions.{listed, omission_shown}
use Rattle.sf_link_c.specs.Refusals.{fault_answer, no_refusal, refusal_of}
use Rattle.sf_link_c.specs.Room.{room_answer, section_written}

-- what is made: the section, the number of its functions, and the omitted functions
pub record Made : Type 0 where
  pub section : List ℕ
  pub kept : ℕ
  pub omitted : List Omitted

-- what inputs come to: nothing if they are not fit, or the section of them, or the first fault
abbrev pub HasOutcome : List KiblawenInput → (at : ℕ) → Option (Result Made LinkFault) → Type 0
HasOutcome inputs at None = AreFit inputs → ⊥
HasOutcome inputs at (Some (Ok made)) = AreFit inputs × IsLinked None (map object_of_input inputs) at made.section made.kept made.omitted
HasOutcome inputs at (Some (Err fault)) = AreFit inputs × IsFirstLinked None (map object_of_input inputs) at fault × IsTrue (is_answered fault)

-- the header's number of the answer
abbrev pub answer_number : Option (Result Made LinkFault) → (room : ℕ) → ℕ
answer_number None room = 6
answer_number (Some (Ok made)) room = room_answer made.section room
answer_number (Some (Err fault)) room = fault_answer fault

-- the room for the section after the call
abbrev pub section_in : Option (Result Made LinkFault) → (before : List ℕ) → List ℕ
section_in (Some (Ok made)) before = section_written made.section before
section_in other before = before

-- the room for omitted functions after the call
abbrev pub omissions_in : Option (Result Made LinkFault) → (before : List KiblawenOmission) → List KiblawenOmission
omissions_in (Some (Ok made)) before = listed omission_shown made.omitted before
omissions_in other before = before

-- nothing is made, for this reason
abbrev pub nothing_linked : KiblawenRefusal → KiblawenLinked
nothing_linked why = record { len = 0; functions = 0; omitted = 0; plts = 0; why = why }

-- the numbers of what is made, or why nothing is
abbrev pub linked_shown : Option (Result Made LinkFault) → KiblawenLinked
linked_shown None = nothing_linked no_refusal
linked_shown (Some (Ok made)) = record { len = length made.section; functions = made.kept; omitted = length made.omitted; plts = 0; why = no_refusal }
linked_shown (Some (Err fault)) = nothing_linked (refusal_of fault)

-- The answer to inputs: there is one thing that they come to, and it decides all that is returned and written.
pub record Answers (inputs : List KiblawenInput) (at : ℕ) (answer : ℕ) (out out' : List ℕ) (omitted omitted' : List KiblawenOmission) (linked : KiblawenLinked) : Type 0 where
  pub coming : Option (Result Made LinkFault)
  pub comes : HasOutcome inputs at coming
  pub answer_is : answer ≡ answer_number coming (length out)
  pub section_is : out' ≡ section_in coming out
  pub omissions_are : omitted' ≡ omissions_in coming omitted
  pub linked_is : linked ≡ linked_shown coming
