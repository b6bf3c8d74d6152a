-- The expression for the canonical frame address in a plain lazy procedure linkage table of AMD64, and its value (DWARF 5, sections
-- 2.5.1 and 7.7.1). Its operations work on a stack of numbers of 64 bits, which is empty at first. No other expression has a value
-- here.
use Rattle.std.specs.Prelude.{◌+◌, ◌-◌, ◌*◌, ◌%◌, ◌^◌, ◌==◌, ◌&&◌, ℕ, ℤ, pos, negsuc, nat_le, nat_lt, bit_and, int_le, slice_get, List, [], ◌∷◌, Option, Some, None, if◌then◌else◌}
use Rattle.std.specs.Option.{option_and_then}
use Rattle.sf_model.specs.Recovery.{moved}

-- The expression: DW_OP_breg7 8, DW_OP_breg16 0, DW_OP_lit15, DW_OP_and, DW_OP_lit11, DW_OP_ge, DW_OP_lit3, DW_OP_shl, DW_OP_plus.
-- It is the stack pointer plus 8, and 8 more if the program counter's last four bits are 11 or more.
abbrev pub plt_expression : List ℕ
plt_expression = 0x77 ∷ 0x08 ∷ 0x80 ∷ 0x00 ∷ 0x3f ∷ 0x1a ∷ 0x3b ∷ 0x2a ∷ 0x33 ∷ 0x24 ∷ 0x22 ∷ []

-- a signed LEB128 number of one byte (section 7.6)
abbrev pub one_byte : ℕ → ℤ
one_byte n = if nat_lt n 64 then pos n else negsuc (127 - n)

-- a number of 64 bits as two's complement
abbrev pub as_signed : ℕ → ℤ
as_signed n = if nat_lt n (2 ^ 63) then pos n else negsuc (2 ^ 64 - 1 - n)

-- an operation on the two topmost numbers, the lower one first
abbrev pub on_two : (ℕ → ℕ → ℕ) → List ℕ → Option (List ℕ)
on_two f [] = None
on_two f (b ∷ []) = None
on_two f (b ∷ a ∷ stack) = Some (f a b ∷ stack)

-- an operation without an operand: DW_OP_and, DW_OP_plus, DW_OP_shl, DW_OP_ge, and DW_OP_lit0 to DW_OP_lit31
abbrev pub done_alone : (operation : ℕ) → List ℕ → Option (List ℕ)
done_alone operation stack =
    if operation == 0x1a then on_two (λ a b. bit_and a b) stack else
    if operation == 0x22 then on_two (λ a b. (a + b) % 2 ^ 64) stack else
    if operation == 0x24 then on_two (λ a b. (a * 2 ^ b) % 2 ^ 64) stack else
    if operation == 0x2a then on_two (λ a b. if int_le (as_signed b) (as_signed a) then 1 else 0) stack else
    if nat_le 0x30 operation && nat_le operation 0x4f then Some ((operation - 0x30) ∷ stack) else None

-- The stack after the operations of these bytes. DW_OP_breg7 and DW_OP_breg16 push the stack pointer and the program counter plus an
-- operand (System V AMD64 psABI, "DWARF Register Number Mapping": registers 7 and RA).
abbrev pub stack_after : (stack_pointer program_counter : ℕ) → List ℕ → (bytes : List ℕ) → Option (List ℕ)
stack_after stack_pointer program_counter stack [] = Some stack
stack_after stack_pointer program_counter stack (operation ∷ []) = done_alone operation stack
stack_after stack_pointer program_counter stack (operation ∷ n ∷ bytes) =
    if operation == 0x77 then stack_after stack_pointer program_counter (moved stack_pointer (one_byte n) ∷ stack) bytes else
    if operation == 0x80 then stack_after stack_pointer program_counter (moved program_counter (one_byte n) ∷ stack) bytes else
    option_and_then (λ (next : List ℕ). stack_after stack_pointer program_counter next (n ∷ bytes)) (done_alone operation stack)

-- the value of the expression: the topmost number after its operations
unfoldable pub expression_value : (stack_pointer program_counter : ℕ) → Option ℕ
expression_value stack_pointer program_counter = option_and_then (λ (stack : List ℕ). slice_get stack 0) (stack_after stack_pointer program_counter [] plt_expression)
