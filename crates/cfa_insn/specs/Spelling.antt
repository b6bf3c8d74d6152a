-- Call frame instructions by the bytes that spell them (DWARF 5, sections 6.4.2 and 7.24, table 7.29; DWARF for the Arm 64-bit
-- Architecture; GNU): an opcode byte and the operands of its row, in their order.
use Rattle.std.specs.Prelude.{◌≡◌, ◌≢◌, ◌⊎◌, ℕ, ℤ, ◌%◌, ◌<◌, ◌≤◌, List, [], ◌∷◌, ◌++◌, length, Ok, Err}
use Rattle.sf_bytes.specs.Cursor.{Cursor}
use Rattle.sf_bytes.specs.Leb.{Uleb, Sleb}
use Rattle.sf_bytes.specs.Standing.{Stands, Number, Bytes}
use Rattle.cfa_insn.specs.declared.fault.InsnFault.{InsnFault}
use Rattle.cfa_insn.specs.declared.fault.InsnFault.TheVariants.{Opcode, Short, Leb}
use Rattle.cfa_insn.specs.Instruction.{Instruction, advance_loc, offset, restore, nop, advance_loc_n, offset_extended, restore_extended, undefined, same_value, in_register, remember_state, restore_state, def_cfa, def_cfa_register, def_cfa_offset, def_cfa_expression, expression, offset_extended_sf, def_cfa_sf, def_cfa_offset_sf, val_offset, val_offset_sf, val_expression, negate_ra_state, args_size}
use Rattle.cfa_insn.specs.Listing.{Item}
use Rattle.cfa_insn.specs.Opcodes.{DW_CFA_nop, DW_CFA_advance_loc1, DW_CFA_advance_loc2, DW_CFA_advance_loc4, DW_CFA_offset_extended, DW_CFA_restore_extended, DW_CFA_undefined, DW_CFA_same_value, DW_CFA_register, DW_CFA_remember_state, DW_CFA_restore_state, DW_CFA_def_cfa, DW_CFA_def_cfa_register, DW_CFA_def_cfa_offset, DW_CFA_def_cfa_expression, DW_CFA_expression, DW_CFA_offset_extended_sf, DW_CFA_def_cfa_sf, DW_CFA_def_cfa_offset_sf, DW_CFA_val_offset, DW_CFA_val_offset_sf, DW_CFA_val_expression, DW_CFA_AARCH64_negate_ra_state, DW_CFA_GNU_args_size, DW_CFA_advance_loc, DW_CFA_offset, DW_CFA_restore}

-- a block: its length, and that many bytes
abbrev pub Block : (block : List ℕ) → (from to : Cursor) → Type 0
Block block from to = (between : Cursor) × Stands Uleb (length block) from between × Stands (Bytes (length block)) block between to

-- a register, and then an unsigned number
abbrev pub WithUleb : (register n : ℕ) → (from to : Cursor) → Type 0
WithUleb register n from to = (between : Cursor) × Stands Uleb register from between × Stands Uleb n between to

-- a register, and then a signed number
abbrev pub WithSleb : (register : ℕ) → ℤ → (from to : Cursor) → Type 0
WithSleb register z from to = (between : Cursor) × Stands Uleb register from between × Stands Sleb z between to

-- a register, and then a block
abbrev pub WithBlock : (register : ℕ) → (block : List ℕ) → (from to : Cursor) → Type 0
WithBlock register block from to = (between : Cursor) × Stands Uleb register from between × Block block between to

-- the table: each instruction's opcode, and its operands between two cursors; from DW_CFA_advance_loc on the low six bits are the first operand
abbrev pub OperandsStand : (opcode : ℕ) → Instruction → (from to : Cursor) → Type 0
OperandsStand opcode (advance_loc delta) from to = (DW_CFA_advance_loc ≤ opcode) × (opcode < DW_CFA_offset) × (delta ≡ opcode % 64) × (to ≡ from)
OperandsStand opcode (offset register factored) from to = (DW_CFA_offset ≤ opcode) × (opcode < DW_CFA_restore) × (register ≡ opcode % 64) × Stands Uleb factored from to
OperandsStand opcode (restore register) from to = (DW_CFA_restore ≤ opcode) × (register ≡ opcode % 64) × (to ≡ from)
OperandsStand opcode nop from to = (opcode ≡ DW_CFA_nop) × (to ≡ from)
OperandsStand opcode (advance_loc_n delta) from to =
    ((opcode ≡ DW_CFA_advance_loc1) × Stands (Number 1) delta from to)
    ⊎ (((opcode ≡ DW_CFA_advance_loc2) × Stands (Number 2) delta from to) ⊎ ((opcode ≡ DW_CFA_advance_loc4) × Stands (Number 4) delta from to))
OperandsStand opcode (offset_extended register factored) from to = (opcode ≡ DW_CFA_offset_extended) × WithUleb register factored from to
OperandsStand opcode (restore_extended register) from to = (opcode ≡ DW_CFA_restore_extended) × Stands Uleb register from to
OperandsStand opcode (undefined register) from to = (opcode ≡ DW_CFA_undefined) × Stands Uleb register from to
OperandsStand opcode (same_value register) from to = (opcode ≡ DW_CFA_same_value) × Stands Uleb register from to
OperandsStand opcode (in_register register other) from to = (opcode ≡ DW_CFA_register) × WithUleb register other from to
OperandsStand opcode remember_state from to = (opcode ≡ DW_CFA_remember_state) × (to ≡ from)
OperandsStand opcode restore_state from to = (opcode ≡ DW_CFA_restore_state) × (to ≡ from)
OperandsStand opcode (def_cfa register n) from to = (opcode ≡ DW_CFA_def_cfa) × WithUleb register n from to
OperandsStand opcode (def_cfa_register register) from to = (opcode ≡ DW_CFA_def_cfa_register) × Stands Uleb register from to
OperandsStand opcode (def_cfa_offset n) from to = (opcode ≡ DW_CFA_def_cfa_offset) × Stands Uleb n from to
OperandsStand opcode (def_cfa_expression block) from to = (opcode ≡ DW_CFA_def_cfa_expression) × Block block from to
OperandsStand opcode (expression register block) from to = (opcode ≡ DW_CFA_expression) × WithBlock register block from to
OperandsStand opcode (offset_extended_sf register factored) from to = (opcode ≡ DW_CFA_offset_extended_sf) × WithSleb register factored from to
OperandsStand opcode (def_cfa_sf register factored) from to = (opcode ≡ DW_CFA_def_cfa_sf) × WithSleb register factored from to
OperandsStand opcode (def_cfa_offset_sf factored) from to = (opcode ≡ DW_CFA_def_cfa_offset_sf) × Stands Sleb factored from to
OperandsStand opcode (val_offset register factored) from to = (opcode ≡ DW_CFA_val_offset) × WithUleb register factored from to
OperandsStand opcode (val_offset_sf register factored) from to = (opcode ≡ DW_CFA_val_offset_sf) × WithSleb register factored from to
OperandsStand opcode (val_expression register block) from to = (opcode ≡ DW_CFA_val_expression) × WithBlock register block from to
OperandsStand opcode negate_ra_state from to = (opcode ≡ DW_CFA_AARCH64_negate_ra_state) × (to ≡ from)
OperandsStand opcode (args_size n) from to = (opcode ≡ DW_CFA_GNU_args_size) × Stands Uleb n from to

-- an instruction between two cursors
abbrev pub InstructionStands : Instruction → (from to : Cursor) → Type 0
InstructionStands i from to = (opcode : ℕ) × (between : Cursor) × Stands (Number 1) opcode from between × OperandsStand opcode i between to

-- ---- why no instruction is at the front
-- the byte at the front
abbrev pub HasOpcode : Cursor → (opcode : ℕ) → Type 0
HasOpcode at opcode = (after : Cursor) × Stands (Number 1) opcode at after

-- the table has the opcode: some operands are its own
abbrev pub IsOpcode : (opcode : ℕ) → Type 0
IsOpcode opcode = (i : Instruction) × (from : Cursor) × (to : Cursor) × OperandsStand opcode i from to

-- these bytes, and more after them
abbrev pub with_more : Cursor → (more : List ℕ) → Cursor
with_more at more = record { place = at.place; left = at.left ++ more }

-- with some more bytes an instruction is at the front
abbrev pub CanGoOn : Cursor → Type 0
CanGoOn at = (more : List ℕ) × (i : Instruction) × (to : Cursor) × InstructionStands i (with_more at more) to

-- the fault, with the place of the opcode: the table doesn't have the opcode; or the bytes end inside the instruction, and more bytes could
-- complete it; or one of its operands is no LEB128 number, whatever follows
abbrev pub IsFault : Cursor → InsnFault → Type 0
IsFault at (Opcode place opcode) = (place ≡ at.place) × HasOpcode at opcode × (IsOpcode opcode → ⊥)
IsFault at (Short place) = (place ≡ at.place) × CanGoOn at
IsFault at (Leb place) = (place ≡ at.place) × ((opcode : ℕ) × HasOpcode at opcode × IsOpcode opcode) × (CanGoOn at → ⊥)

-- no instruction is at the front of these bytes, and why
pub record NoInstruction (at : Cursor) (e : InsnFault) : Type 0 where
  pub more : at.left ≢ []
  pub none : (i : Instruction) (to : Cursor) → InstructionStands i at to → ⊥
  pub fault : IsFault at e

-- instructions with their places, whose bytes are all that is left; or those before the first that can't be read, and its fault
abbrev pub AreInstructions : List Item → Cursor → Type 0
AreInstructions [] at = at.left ≡ []
AreInstructions (Ok x ∷ items) at = (x.0 ≡ at.place) × ((to : Cursor) × InstructionStands x.1 at to × AreInstructions items to)
AreInstructions (Err e ∷ items) at = (items ≡ []) × NoInstruction at e
