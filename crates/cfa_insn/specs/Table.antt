-- The encoding of call frame instructions (DWARF 5, section 7.24): an opcode byte, then the operands that
-- the table gives for it. U is an unsigned LEB128 number, S a signed one, and a block is its length U and
-- that many bytes.
use Rattle.std.specs.Prelude.{ℕ, ℤ, ◌%◌, ◌==◌, List, Option, Some, None, Result, Ok, Err, nat_lt, if◌then◌else◌}
use Rattle.sf_bytes.specs.Cursor.{Cursor, Read, ◌>>=◌, number_at, part_at}
use Rattle.sf_bytes.specs.Leb.{uleb_at, sleb_at}
use Rattle.sf_bytes.specs.declared.fault.ByteFault.{ByteFault}
use Rattle.sf_bytes.specs.declared.fault.ByteFault.TheVariants as bytes
use Rattle.cfa_insn.specs.declared.fault.InsnFault.{InsnFault}
use Rattle.cfa_insn.specs.declared.fault.InsnFault.TheVariants.{Opcode, Short, Leb}
use Rattle.cfa_insn.specs.Opcodes.{DW_CFA_nop, DW_CFA_advance_loc1, DW_CFA_advance_loc2, DW_CFA_advance_loc4, DW_CFA_offset_extended, DW_CFA_restore_extended, DW_CFA_undefined, DW_CFA_same_value, DW_CFA_register, DW_CFA_remember_state, DW_CFA_restore_state, DW_CFA_def_cfa, DW_CFA_def_cfa_register, DW_CFA_def_cfa_offset, DW_CFA_def_cfa_expression, DW_CFA_expression, DW_CFA_offset_extended_sf, DW_CFA_def_cfa_sf, DW_CFA_def_cfa_offset_sf, DW_CFA_val_offset, DW_CFA_val_offset_sf, DW_CFA_val_expression, DW_CFA_AARCH64_negate_ra_state, DW_CFA_GNU_args_size, DW_CFA_advance_loc, DW_CFA_offset, DW_CFA_restore}
use Rattle.cfa_insn.specs.Instruction.{Instruction, advance_loc, offset, restore, nop, advance_loc_n, offset_extended, restore_extended, undefined, same_value, in_register, remember_state, restore_state, def_cfa, def_cfa_register, def_cfa_offset, def_cfa_expression, expression, offset_extended_sf, def_cfa_sf, def_cfa_offset_sf, val_offset, val_offset_sf, val_expression, negate_ra_state, args_size}

-- an instruction, or none for an opcode that the table doesn't have
abbrev pub Found : Type 0
Found = Read (Option Instruction)

-- a length U, and that many bytes
unfoldable pub block_at : Cursor → Read (List ℕ)
block_at at = do
  n ← uleb_at at
  run ← part_at n.0 n.1
  Ok (run.0.left, run.1)

-- no operand
abbrev pub plain : Instruction → Cursor → Found
plain i at = Ok (Some i, at)

-- a number of n bytes
abbrev pub of_number : ℕ → (ℕ → Instruction) → Cursor → Found
of_number n make at = do
  x ← number_at n at
  Ok (Some (make x.0), x.1)

-- U
abbrev pub of_uleb : (ℕ → Instruction) → Cursor → Found
of_uleb make at = do
  x ← uleb_at at
  Ok (Some (make x.0), x.1)

-- S
abbrev pub of_sleb : (ℤ → Instruction) → Cursor → Found
of_sleb make at = do
  z ← sleb_at at
  Ok (Some (make z.0), z.1)

-- a block
abbrev pub of_block : (List ℕ → Instruction) → Cursor → Found
of_block make at = do
  b ← block_at at
  Ok (Some (make b.0), b.1)

-- U, then U
abbrev pub of_two_ulebs : (ℕ → ℕ → Instruction) → Cursor → Found
of_two_ulebs make at = do
  x ← uleb_at at
  y ← uleb_at x.1
  Ok (Some (make x.0 y.0), y.1)

-- U, then S
abbrev pub of_uleb_and_sleb : (ℕ → ℤ → Instruction) → Cursor → Found
of_uleb_and_sleb make at = do
  x ← uleb_at at
  z ← sleb_at x.1
  Ok (Some (make x.0 z.0), z.1)

-- U, then a block
abbrev pub of_uleb_and_block : (ℕ → List ℕ → Instruction) → Cursor → Found
of_uleb_and_block make at = do
  x ← uleb_at at
  b ← block_at x.1
  Ok (Some (make x.0 b.0), b.1)

-- the opcodes below DW_CFA_advance_loc, whose operands all follow
unfoldable pub extended_at : ℕ → Cursor → Found
extended_at op =
    if op == DW_CFA_nop then plain nop else
    if op == DW_CFA_advance_loc1 then of_number 1 advance_loc_n else
    if op == DW_CFA_advance_loc2 then of_number 2 advance_loc_n else
    if op == DW_CFA_advance_loc4 then of_number 4 advance_loc_n else
    if op == DW_CFA_offset_extended then of_two_ulebs offset_extended else
    if op == DW_CFA_restore_extended then of_uleb restore_extended else
    if op == DW_CFA_undefined then of_uleb undefined else
    if op == DW_CFA_same_value then of_uleb same_value else
    if op == DW_CFA_register then of_two_ulebs in_register else
    if op == DW_CFA_remember_state then plain remember_state else
    if op == DW_CFA_restore_state then plain restore_state else
    if op == DW_CFA_def_cfa then of_two_ulebs def_cfa else
    if op == DW_CFA_def_cfa_register then of_uleb def_cfa_register else
    if op == DW_CFA_def_cfa_offset then of_uleb def_cfa_offset else
    if op == DW_CFA_def_cfa_expression then of_block def_cfa_expression else
    if op == DW_CFA_expression then of_uleb_and_block expression else
    if op == DW_CFA_offset_extended_sf then of_uleb_and_sleb offset_extended_sf else
    if op == DW_CFA_def_cfa_sf then of_uleb_and_sleb def_cfa_sf else
    if op == DW_CFA_def_cfa_offset_sf then of_sleb def_cfa_offset_sf else
    if op == DW_CFA_val_offset then of_two_ulebs val_offset else
    if op == DW_CFA_val_offset_sf then of_uleb_and_sleb val_offset_sf else
    if op == DW_CFA_val_expression then of_uleb_and_block val_expression else
    if op == DW_CFA_AARCH64_negate_ra_state then plain negate_ra_state else
    if op == DW_CFA_GNU_args_size then of_uleb args_size else
    (λ at. Ok (None, at))

-- the operands of an opcode: from DW_CFA_advance_loc on its low six bits are the first one
unfoldable pub operands_at : ℕ → Cursor → Found
operands_at op =
    if nat_lt op DW_CFA_advance_loc then extended_at op else
    if nat_lt op DW_CFA_offset then plain (advance_loc (op % 64)) else
    if nat_lt op DW_CFA_restore then of_uleb (offset (op % 64)) else
    plain (restore (op % 64))

-- the fault of a field, at the instruction's own place
abbrev pub placed : ℕ → ByteFault → InsnFault
placed place (bytes.Short p) = Short place
placed place (bytes.Leb p) = Leb place

-- the instruction, or `Opcode` if the table doesn't have the opcode, or the fault of an operand
abbrev pub or_fault : ℕ → ℕ → Found → Result (Instruction × Cursor) InsnFault
or_fault place op (Ok (Some i, after)) = Ok (i, after)
or_fault place op (Ok (None, after)) = Err (Opcode place op)
or_fault place op (Err e) = Err (placed place e)

-- the instruction after its opcode byte is read
abbrev pub after_opcode : ℕ → Read ℕ → Result (Instruction × Cursor) InsnFault
after_opcode place (Ok (op, after)) = or_fault place op (operands_at op after)
after_opcode place (Err e) = Err (placed place e)

-- the instruction at the front, and the cursor after it
unfoldable pub instruction_at : Cursor → Result (Instruction × Cursor) InsnFault
instruction_at at = after_opcode at.place (number_at 1 at)
