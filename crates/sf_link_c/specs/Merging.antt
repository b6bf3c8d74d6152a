-- What merging returns to C.
use Rattle.std.specs.Prelude.{◌≡◌, ◌<◌, ◌≤◌, ℕ, List, length, filter_map, Option, Some, None, Result, Ok, Err, if◌then◌else◌}
use Rattle.sf_model.specs.Table.{Table}
use Rattle.sf_decode.specs.declared.kept.LentSection.{LentSection}
use Rattle.sf_decode.specs.Kept.{table_lent}
use Rattle.sf_merge.specs.declared.fault.MergeFault.{MergeFault}
use Rattle.sf_merge.specs.declared.fault.MergeFault.TheVariants.{NoMemory, TooManyFunctions, TooManyRows}
use Rattle.sf_merge.specs.Answers.{IsFirstMergeFault, IsMerged}
use Rattle.sf_merge.specs.Fault.{is_merge_refusal}
use Rattle.sf_merge.specs.FaultShown.{shown_of_merging}
use Rattle.sf_link_c.specs.declared.made.KiblawenMade.{KiblawenMade}
use Rattle.sf_link_c.specs.declared.refusals.KiblawenRefusal.{KiblawenRefusal}
use Rattle.sf_link_c.specs.Refusals.{no_refusal, refusal_shown}
use Rattle.sf_link_c.specs.Room.{room_answer, section_written}
use Rattle.sf_link_c.specs.Slimming.{Made, made_shown, nothing_made}

-- there are 1 to 512 sections, and each is open
abbrev pub AreOpen : List LentSection → Type 0
AreOpen sections = (0 < length sections) × (length sections ≤ 512) × (length (filter_map table_lent sections) ≡ length sections)

-- a fault, as C has it; a limit and out of memory have no line
abbrev pub refusal_of : MergeFault → KiblawenRefusal
refusal_of fault = if is_merge_refusal fault then refusal_shown (shown_of_merging None fault) else no_refusal

-- the header's number of the answer to a fault
abbrev pub fault_answer : MergeFault → ℕ
fault_answer NoMemory = 5
fault_answer TooManyFunctions = 3
fault_answer TooManyRows = 4
fault_answer fault = 2

-- what open sections of these tables come to
abbrev pub OpenComeTo : List Table → (at : ℕ) → Result Made MergeFault → Type 0
OpenComeTo tables at (Ok made) = IsMerged tables at made.section made.functions made.rows
OpenComeTo tables at (Err fault) = IsFirstMergeFault tables at fault

-- what sections come to: nothing if there are none or too many, or one is closed
abbrev pub ComeTo : List LentSection → (at : ℕ) → Option (Result Made MergeFault) → Type 0
ComeTo sections at None = AreOpen sections → ⊥
ComeTo sections at (Some coming) = AreOpen sections × OpenComeTo (filter_map table_lent sections) at coming

-- the header's number of the answer
abbrev pub answer_number : Option (Result Made MergeFault) → (room : ℕ) → ℕ
answer_number None room = 6
answer_number (Some (Ok made)) room = room_answer made.section room
answer_number (Some (Err fault)) room = fault_answer fault

-- the room for the section after the call
abbrev pub section_in : Option (Result Made MergeFault) → (before : List ℕ) → List ℕ
section_in (Some (Ok made)) before = section_written made.section before
section_in other before = before

-- the numbers of what is made, or why nothing is
abbrev pub merged_shown : Option (Result Made MergeFault) → KiblawenMade
merged_shown None = nothing_made no_refusal
merged_shown (Some (Ok made)) = made_shown made
merged_shown (Some (Err fault)) = nothing_made (refusal_of fault)

-- The answer to sections: there is one thing that they come to, and it decides all that is returned and written.
pub record Answers (sections : List LentSection) (at : ℕ) (answer : ℕ) (out out' : List ℕ) (merged : KiblawenMade) : Type 0 where
  pub coming : Option (Result Made MergeFault)
  pub comes : ComeTo sections at coming
  pub answer_is : answer ≡ answer_number coming (length out)
  pub section_is : out' ≡ section_in coming out
  pub merged_is : merged ≡ merged_shown coming
