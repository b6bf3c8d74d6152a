-- The bytes of an expression that begins with the stack pointer plus a constant.
use Rattle.std.specs.Prelude.{◌++◌}
use Rattle.std.proofs.Common.{◌≡◌, ℕ, ℤ, ◌+◌, List, ◌∷◌, length, refl, sym, ◌∙◌}
use Rattle.sf_bytes.specs.Cursor.{Cursor}
use Rattle.sf_bytes.specs.Leb.{Sleb}
use Rattle.sf_bytes.specs.Standing.{Stands}
use Rattle.signal_frames.specs.Expression.{BeginsAtStack, DW_OP_breg7}

-- the constant is between the operand's first byte and the rest
pub constant_stands : (expression operand : List ℕ) (opcode : ℕ) (at : Cursor) (constant : ℤ) (rest : List ℕ) → expression ≡ opcode ∷ operand → at.left ≡ operand
    → (h : BeginsAtStack expression constant rest) → Stands Sleb constant at (record { place = at.place + length h.run; left = rest })
constant_stands expression operand opcode at constant rest is left h =
    let whole : opcode ∷ operand ≡ DW_OP_breg7 ∷ (h.run ++ rest) = sym is ∙ h.bytes in
    let same : operand ≡ h.run ++ rest = cc in
    record { run = h.run; kind = h.is_constant; passes = record { bytes = left ∙ same; moved = refl } }
