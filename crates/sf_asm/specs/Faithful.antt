-- What a linked section is to the call frame information that it was made of (GNU SFrame specification, Version 2; DWARF 5, section
-- 6.4): it has the kept functions, recovers what DWARF recovers at each of their addresses and nothing elsewhere, and walks over it are
-- walks by DWARF.
use Rattle.std.specs.Prelude.{◌≡◌, ◌-◌, ℕ, List, map, Option, Some, None}
use Rattle.std.specs.Option.{option_map, option_and_then}
use Rattle.std.specs.List.{find}
use Rattle.sf_model.specs.declared.machine.Arch.{Arch}
use Rattle.sf_model.specs.declared.machine.Key.{Key}
use Rattle.sf_model.specs.declared.recovery.Regs.{Regs}
use Rattle.sf_model.specs.Memory.{Region}
use Rattle.sf_model.specs.Recovery.{Recovery, Value, Known}
use Rattle.sf_model.specs.Section.{Section}
use Rattle.sf_model.specs.Table.{Table}
use Rattle.sf_model.specs.Walk.{ThreadState, Listing, Recovering, walk_by, recover_by_rows, section_walk}
use Rattle.cfa_machine.specs.Recovery.{RuleRecovery, recovery_by_rules}
use Rattle.sf_express.specs.Alike.{defined}
use Rattle.frame_functions.specs.declared.read_function.ReadFunction.{ReadFunction}
use Rattle.frame_functions.specs.ReadFunction.{kept_of}
use Rattle.frame_functions.specs.Functions.{Function, holds_address}
use Rattle.frame_functions.specs.Kept.{full_row, read_of, kept_functions}
use Rattle.frame_functions.specs.Order.{InOrder}

-- ---- by DWARF
-- what the rules of a function's row at an address recover, with the function's return address column and key
abbrev pub recovered_in : List Region → (address : ℕ) → Regs → Function → RuleRecovery
recovered_in memory address regs f = recovery_by_rules f.arch f.column (full_row f (address - f.start)) f.key regs memory

-- what is recovered at an address in the kept function that has it, and nothing elsewhere
unfoldable pub recovered_at : List Function → List Region → (address : ℕ) → Regs → Option RuleRecovery
recovered_at functions memory address regs = option_map (recovered_in memory address regs) (find (holds_address address) (kept_functions functions))

-- a recovery in which nothing is undefined
abbrev pub whole_recovery : Option ℕ → (return_address frame_pointer stack_pointer : Option Value) → Option Key → Option Recovery
whole_recovery (Some frame_address) (Some return_address) (Some frame_pointer) (Some (Known stack_pointer)) signed = Some (record {
  frame_address = frame_address;
  return_address = return_address;
  frame_pointer = frame_pointer;
  stack_pointer = stack_pointer;
  signed = signed;
})
whole_recovery frame_address return_address frame_pointer stack_pointer signed = None

-- the same of what the rules recover
abbrev pub if_whole : RuleRecovery → Option Recovery
if_whole r = whole_recovery r.frame_address r.return_address r.frame_pointer r.stack_pointer r.signed

-- the same for a walk
abbrev pub recover_by_dwarf : List Function → List Region → Recovering
recover_by_dwarf functions memory asked regs = option_and_then if_whole (recovered_at functions memory asked regs)

-- the walk of a thread by the rows of DWARF in kept functions
unfoldable pub dwarf_walk : List Function → ThreadState → List Region → (depth : ℕ) → Listing
dwarf_walk functions thread memory depth = walk_by (recover_by_dwarf functions memory) thread depth

-- ---- the section
-- its table has the kept functions of these, by rising start, as they are expressed
pub record HoldsKept (table : Table) (arch : Arch) (functions : List Function) : Type 0 where
  pub machine : table.arch ≡ arch
  pub ordered : List ReadFunction
  pub in_order : InOrder (map read_of functions) ordered
  pub kept : table.functions ≡ kept_of ordered

-- At each address of a kept function the section recovers what DWARF recovers there, for all registers and memory, where what
-- can't be read has the same address; at every other address it recovers nothing.
abbrev pub RecoversAlike : Table → List Function → Type 0
RecoversAlike table functions = (address : ℕ) (regs : Regs) (memory : List Region)
    → option_map defined (recover_by_rows table.functions memory address regs) ≡ recovered_at functions memory address regs

-- Every walk over the section lists the frames that DWARF's walk lists, and stops alike.
abbrev pub WalksAlike : Table → List Function → Type 0
WalksAlike table functions = (thread : ThreadState) (memory : List Region) (depth : ℕ)
    → section_walk table.functions thread memory depth ≡ dwarf_walk functions thread memory depth

-- the bytes at this address are a faithful section of these functions of a machine
pub record Faithful (section : List ℕ) (at : ℕ) (arch : Arch) (functions : List Function) : Type 0 where
  pub table : Table
  pub is : Section section at table
  pub holds : HoldsKept table arch functions
  pub recovers : RecoversAlike table functions
  pub walks : WalksAlike table functions
