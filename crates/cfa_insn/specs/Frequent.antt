-- The frequent instructions by the bytes at the front (DWARF 5, section 7.24): an opcode byte with no operand, or with an
-- unsigned LEB128 number of one byte (section 7.6).
use Rattle.std.specs.Prelude.{◌≡◌, ◌<◌, ℕ, ◌%◌, ◌==◌, Bool, false, List, [], ◌∷◌, Option, Some, None, nat_lt, if◌then◌else◌}
use Rattle.std.specs.Option.{option_map}
use Rattle.sf_bytes.specs.Cursor.{Cursor, cursor}
use Rattle.sf_bytes.specs.Standing.{Passes}
use Rattle.sf_bytes.specs.declared.part.Part.{Part}
use Rattle.cfa_insn.specs.Opcodes.{DW_CFA_nop, DW_CFA_def_cfa_offset, DW_CFA_advance_loc, DW_CFA_offset, DW_CFA_restore}

-- a number of one byte: a LEB128 number ends at the first byte below 128
abbrev pub short_front : List ℕ → Option ℕ
short_front [] = None
short_front (b ∷ bytes) = if nat_lt b 128 then Some b else None

-- the advance of a DW_CFA_advance_loc, the opcode's low six bits
abbrev pub advance_loc_front : List ℕ → Option ℕ
advance_loc_front [] = None
advance_loc_front (op ∷ bytes) = if nat_lt op DW_CFA_advance_loc then None else if nat_lt op DW_CFA_offset then Some (op % 64) else None

-- the offset of a DW_CFA_def_cfa_offset
abbrev pub def_cfa_offset_front : List ℕ → Option ℕ
def_cfa_offset_front [] = None
def_cfa_offset_front (op ∷ bytes) = if op == DW_CFA_def_cfa_offset then short_front bytes else None

-- the register of a DW_CFA_offset, the opcode's low six bits, and its factored offset
abbrev pub offset_front : List ℕ → Option (ℕ × ℕ)
offset_front [] = None
offset_front (op ∷ bytes) = if nat_lt op DW_CFA_offset then None else if nat_lt op DW_CFA_restore then option_map (λ n. (op % 64, n)) (short_front bytes) else None

-- whether a DW_CFA_nop is at the front
abbrev pub nop_front : List ℕ → Bool
nop_front [] = false
nop_front (op ∷ bytes) = op == DW_CFA_nop

-- ---- Inside the crate
-- none if no byte is left; else the first byte, and a part with the others
abbrev pub GivesByte : Option (ℕ × Part) → Cursor → Type 0
GivesByte None at = at.left ≡ []
GivesByte (Some (b, rest)) at = Passes (b ∷ []) at (cursor rest)

-- none if no number of one byte is at the front; else that number, and a part with the bytes after it
abbrev pub GivesShort : Option (ℕ × Part) → Cursor → Type 0
GivesShort None at = short_front at.left ≡ None
GivesShort (Some (b, rest)) at = (b < 128) × Passes (b ∷ []) at (cursor rest)
