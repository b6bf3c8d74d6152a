-- What slimming returns to C.
use Rattle.std.specs.Prelude.{◌≡◌, ℕ, List, length, Option, Some, None, Result, Ok, Err, if◌then◌else◌}
use Rattle.sf_model.specs.Table.{Table}
use Rattle.sf_decode.specs.declared.kept.LentSection.{LentSection}
use Rattle.sf_decode.specs.Kept.{bytes_lent, table_lent}
use Rattle.sf_slim.specs.declared.fault.SlimFault.{SlimFault}
use Rattle.sf_slim.specs.declared.fault.SlimFault.TheVariants.{NoMemory}
use Rattle.sf_slim.specs.Answers.{IsFirstSlimFault, IsSlimmed}
use Rattle.sf_slim.specs.FaultShown.{is_slim_refusal, shown_of_slimming}
use Rattle.sf_link_c.specs.declared.made.KiblawenMade.{KiblawenMade}
use Rattle.sf_link_c.specs.declared.refusals.KiblawenRefusal.{KiblawenRefusal}
use Rattle.sf_link_c.specs.Refusals.{no_refusal, refusal_shown}
use Rattle.sf_link_c.specs.Room.{room_answer, section_written}

-- a fault, as C has it: the line of the program, whose only item is the section; out of memory has no line
abbrev pub refusal_of : SlimFault → KiblawenRefusal
refusal_of fault = if is_slim_refusal fault then refusal_shown (shown_of_slimming (Some 0) fault) else no_refusal

-- the header's number of the answer to a fault
abbrev pub fault_answer : SlimFault → ℕ
fault_answer NoMemory = 5
fault_answer fault = 2

-- what is made: the section, and the numbers of its functions and rows
pub record Made : Type 0 where
  pub section : List ℕ
  pub functions : ℕ
  pub rows : ℕ

-- nothing is made, for this reason
abbrev pub nothing_made : KiblawenRefusal → KiblawenMade
nothing_made why = record { len = 0; functions = 0; rows = 0; why = why }

-- the numbers of what is made
abbrev pub made_shown : Made → KiblawenMade
made_shown made = record { len = length made.section; functions = made.functions; rows = made.rows; why = no_refusal }

-- what an open section of these bytes and this table comes to
abbrev pub OpenComesTo : (bytes : List ℕ) → Table → (at : ℕ) → Result Made SlimFault → Type 0
OpenComesTo bytes table at (Ok made) = IsSlimmed bytes table at made.section made.functions made.rows
OpenComesTo bytes table at (Err fault) = IsFirstSlimFault bytes table at fault

-- what a section comes to: nothing while it is closed
abbrev pub HasOutcome : LentSection → (at : ℕ) → Option (Result Made SlimFault) → Type 0
HasOutcome section at None = table_lent section ≡ None
HasOutcome section at (Some coming) = (table : Table) × (table_lent section ≡ Some table) × OpenComesTo (bytes_lent section) table at coming

-- the header's number of the answer
abbrev pub answer_number : Option (Result Made SlimFault) → (room : ℕ) → ℕ
answer_number None room = 6
answer_number (Some (Ok made)) room = room_answer made.section room
answer_number (Some (Err fault)) room = fault_answer fault

-- the room for the section after the call
abbrev pub section_in : Option (Result Made SlimFault) → (before : List ℕ) → List ℕ
section_in (Some (Ok made)) before = section_written made.section before
section_in other before = before

-- the numbers of what is made, or why nothing is
abbrev pub slimmed_shown : Option (Result Made SlimFault) → KiblawenMade
slimmed_shown None = nothing_made no_refusal
slimmed_shown (Some (Ok made)) = made_shown made
slimmed_shown (Some (Err fault)) = nothing_made (refusal_of fault)

-- The answer to a section: there is one thing that it comes to, and it decides all that is returned and written.
pub record Answers (section : LentSection) (at : ℕ) (answer : ℕ) (out out' : List ℕ) (slimmed : KiblawenMade) : Type 0 where
  pub coming : Option (Result Made SlimFault)
  pub comes : HasOutcome section at coming
  pub answer_is : answer ≡ answer_number coming (length out)
  pub section_is : out' ≡ section_in coming out
  pub slimmed_is : slimmed ≡ slimmed_shown coming
