-- A function whose frame a kernel made when it delivered a signal, and whose caller is the interrupted function (GNU's augmentation
-- letter `S`; DWARF 5, sections 6.4.1 and 6.4.2): on AMD64, the canonical frame address is what is saved at the stack pointer plus a
-- constant, and the return address and the frame pointer are saved at the stack pointer plus constants of their own. The caller's stack
-- pointer is the canonical frame address: it has no rule, or is saved where that is.
use Rattle.std.specs.Prelude.{◌≡◌, ℕ, ℤ, true, List, [], ◌∷◌, ◌++◌, Option, Some, None, Ok, ⊤}
use Rattle.sf_model.specs.declared.facts.FdeFacts.{FdeFacts}
use Rattle.sf_model.specs.declared.machine.Arch.{Arch}
use Rattle.sf_model.specs.declared.machine.Arch.TheVariants.{Amd64}
use Rattle.cfa_insn.specs.Instruction.{Instruction}
use Rattle.cfa_insn.specs.Listing.{Item}
use Rattle.cfa_machine.specs.Registers.{frame_pointer, return_address, stack_pointer}
use Rattle.signal_frames.specs.declared.change.Column.TheVariants.{Cfa, Register}
use Rattle.signal_frames.specs.declared.frame.SignalFrame.{SignalFrame}
use Rattle.signal_frames.specs.Expression.{IsStackAddress, IsStackValue}
use Rattle.signal_frames.specs.Rules.{Expression, HaveOneRow, Other, Rule, RulesView, latest}

-- the rule gives what is saved at the stack pointer plus this constant
abbrev pub IsValueAt : (constant : ℤ) → Option Rule → Type 0
IsValueAt constant (Some (Expression bytes)) = IsStackValue bytes constant
IsValueAt constant (Some Other) = ⊥
IsValueAt constant None = ⊥

-- by the rule the register is saved at the stack pointer plus this constant
abbrev pub IsSavedAt : (constant : ℤ) → Option Rule → Type 0
IsSavedAt constant (Some (Expression bytes)) = IsStackAddress bytes constant
IsSavedAt constant (Some Other) = ⊥
IsSavedAt constant None = ⊥

-- the stack pointer has no rule, or is saved at the stack pointer plus this constant
abbrev pub IsFrameAddress : (constant : ℤ) → Option Rule → Type 0
IsFrameAddress constant None = ⊤
IsFrameAddress constant (Some rule) = IsSavedAt constant (Some rule)

-- four rules have these three constants
pub record HaveConstants (rules : RulesView) (frame : SignalFrame) : Type 0 where
  pub frame_address : IsValueAt frame.frame_address rules.cfa
  pub return_address : IsSavedAt frame.return_address rules.return_address
  pub frame_pointer : IsSavedAt frame.frame_pointer rules.frame_pointer
  pub stack_pointer : IsFrameAddress frame.frame_address rules.stack_pointer

-- the latest rules that instructions give
abbrev pub latest_rules : List (ℕ × Instruction) → RulesView
latest_rules instructions = record {
  cfa = latest Cfa instructions;
  return_address = latest (Register (return_address Amd64)) instructions;
  frame_pointer = latest (Register (frame_pointer Amd64)) instructions;
  stack_pointer = latest (Register (stack_pointer Amd64)) instructions;
}

-- these items are instructions that can all be read
abbrev pub AreRead : List Item → List (ℕ × Instruction) → Type 0
AreRead [] [] = ⊤
AreRead [] (x ∷ instructions) = ⊥
AreRead (item ∷ items) [] = ⊥
AreRead (item ∷ items) (x ∷ instructions) = (item ≡ Ok x) × AreRead items instructions

-- the function's return address column is the machine's, and its augmentation says that its frame is a signal's
pub record IsSignal (arch : Arch) (facts : FdeFacts) : Type 0 where
  pub machine : arch ≡ Amd64
  pub column : facts.column ≡ return_address Amd64
  pub augmentation : facts.signal ≡ true

-- a function with these instructions, first those of its common information entry, has this signal frame at each of its addresses
pub record IsSignalFrame (arch : Arch) (facts : FdeFacts) (initial own : List Item) (frame : SignalFrame) : Type 0 where
  pub signal : IsSignal arch facts
  pub instructions : List (ℕ × Instruction)
  pub are : AreRead (initial ++ own) instructions
  pub one_row : HaveOneRow instructions
  pub constants : HaveConstants (latest_rules instructions) frame
