-- The two expressions by which the rules of a signal frame find what was saved on the stack (DWARF 5, sections 2.5.1.2, 2.5.1.3 and
-- 7.7.1, table 7.9). DW_OP_breg7 gives the value of register 7, on AMD64 the stack pointer (System V AMD64 psABI, figure 3.36), plus a
-- signed constant, and DW_OP_deref the value that is saved at that address.
use Rattle.std.specs.Prelude.{◌≡◌, ℕ, ℤ, List, [], ◌∷◌, ◌++◌}
use Rattle.sf_bytes.specs.Leb.{Sleb}

abbrev pub DW_OP_deref : ℕ
DW_OP_deref = 0x06

abbrev pub DW_OP_breg7 : ℕ
DW_OP_breg7 = 0x77

-- the expression begins with the stack pointer plus this constant, and has these bytes after that
pub record BeginsAtStack (expression : List ℕ) (constant : ℤ) (rest : List ℕ) : Type 0 where
  pub run : List ℕ
  pub is_constant : Sleb run constant
  pub bytes : expression ≡ DW_OP_breg7 ∷ (run ++ rest)

-- the expression's value is the stack pointer plus this constant
abbrev pub IsStackAddress : (expression : List ℕ) → (constant : ℤ) → Type 0
IsStackAddress expression constant = BeginsAtStack expression constant []

-- the expression's value is what is saved at the stack pointer plus this constant
abbrev pub IsStackValue : (expression : List ℕ) → (constant : ℤ) → Type 0
IsStackValue expression constant = BeginsAtStack expression constant (DW_OP_deref ∷ [])
