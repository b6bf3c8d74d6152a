-- GNU SFrame specification, Version 2, the flag SFRAME_F_FDE_FUNC_START_PCREL: a function's start counts from the address of
-- its start field, in four signed bytes.
use Rattle.std.specs.Prelude.{◌+◌, ◌*◌, ◌-ℤ◌, ℕ, ℤ, pos, Bool, List, [], ◌∷◌, Option, Some, None, if◌then◌else◌, ◌≡◌, ⊤}
use Rattle.sf_model.specs.declared.function.Func.{Func}
use Rattle.sf_model.specs.Width.{holds_signed}
use Rattle.sf_write.specs.declared.fault.WriteFault.{WriteFault}
use Rattle.sf_write.specs.declared.fault.WriteFault.TheVariants.{OutOfReach, NoMemory}

-- the address of the start field of the function with this number, in a section at `at`: after the header's 28 bytes and
-- the entries before, of 20 bytes each
abbrev pub field_address : (at number : ℕ) → ℕ
field_address at number = at + (28 + 20 * number)

-- a start, counted from the address of its field
unfoldable pub start_distance : (at number start : ℕ) → ℤ
start_distance at number start = pos start -ℤ pos (field_address at number)

-- the distance of a start from its field fits in four signed bytes
unfoldable pub is_in_reach : (at number start : ℕ) → Bool
is_in_reach at number start = holds_signed (start_distance at number start) 2

-- the first start that is out of reach, of consecutively numbered functions from `number` on
abbrev pub first_out_of_reach : (at number : ℕ) → List Func → Option ℕ
first_out_of_reach at number [] = None
first_out_of_reach at number (f ∷ functions) =
    if is_in_reach at number f.start then first_out_of_reach at (number + 1) functions else Some f.start

-- a refusal names the start that is out of reach; out of memory names none
abbrev pub Refuses : WriteFault → Option ℕ → Type 0
Refuses (OutOfReach start) out_of_reach = out_of_reach ≡ Some start
Refuses NoMemory out_of_reach = ⊤
