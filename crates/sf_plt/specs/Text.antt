-- Inside the crate: the instructions of a plain lazy procedure linkage table one by one, for the code that reads them.
use Rattle.std.specs.Prelude.{◌==◌, ◌&&◌, ℕ, zero, suc, Bool, true, false, bytes_eq, List, [], ◌∷◌, Ok, Err}
use Rattle.cfa_insn.specs.Instruction.{Instruction, advance_loc, nop, def_cfa_offset, def_cfa_expression}
use Rattle.cfa_insn.specs.Listing.{Item}
use Rattle.sf_plt.specs.Expression.{plt_expression}

-- the instruction is DW_CFA_nop
abbrev pub is_nop_instruction : Instruction → Bool
is_nop_instruction nop = true
is_nop_instruction other = false

-- the instruction is DW_CFA_def_cfa_offset with this offset
abbrev pub is_cfa_offset : (offset : ℕ) → Instruction → Bool
is_cfa_offset offset (def_cfa_offset n) = n == offset
is_cfa_offset offset other = false

-- the instruction is DW_CFA_advance_loc with this delta
abbrev pub is_advance : (delta : ℕ) → Instruction → Bool
is_advance delta (advance_loc n) = n == delta
is_advance delta other = false

-- the instruction is DW_CFA_def_cfa_expression with the one expression
abbrev pub is_expression : Instruction → Bool
is_expression (def_cfa_expression bytes) = bytes_eq bytes plt_expression
is_expression other = false

-- the instruction is that of the text at a place
abbrev pub is_text_at : (place : ℕ) → Instruction → Bool
is_text_at zero i = is_cfa_offset 16 i
is_text_at (suc zero) i = is_advance 6 i
is_text_at (suc (suc zero)) i = is_cfa_offset 24 i
is_text_at (suc (suc (suc zero))) i = is_advance 10 i
is_text_at (suc (suc (suc (suc zero)))) i = is_expression i
is_text_at (suc (suc (suc (suc (suc place))))) i = false

-- the items are the instructions of the text from a place on
abbrev pub follows : (place : ℕ) → List Item → Bool
follows place [] = place == 5
follows place (Ok (p, i) ∷ items) = is_text_at place i && follows (suc place) items
follows place (Err fault ∷ items) = false
