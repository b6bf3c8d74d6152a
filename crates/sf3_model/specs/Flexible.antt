-- GNU SFrame specification, Version 3, the flexible type of function descriptor entries (SFRAME_FDE_TYPE_FLEX), on AMD64: how a row is spelled, and
-- what it recovers. The default type has nothing of this: a section that is written or read here has no such entry.
use Rattle.std.specs.Prelude.{◌+◌, ◌*◌, ℕ, ℤ, negsuc, Bool, true, false, List, [], ◌∷◌, ◌++◌, Option, Some, None}
use Rattle.std.specs.Option.{option_map}
use Rattle.sf_model.specs.declared.content.Content.{Content}
use Rattle.sf_model.specs.declared.machine.Base.{Base}
use Rattle.sf_model.specs.declared.machine.Base.TheVariants.{Fp, Sp}
use Rattle.sf_model.specs.Memory.{Region}
use Rattle.sf_model.specs.Recovery.{Known, Recovery, Value, moved, saved_at}
use Rattle.sf_model.specs.Width.{signed_bytes, unsigned_bytes}

-- the registers of a frame, by their DWARF numbers: 6 is the frame pointer, 7 the stack pointer
abbrev pub Registers : Type 0
Registers = (number : ℕ) → ℕ

-- what a rule counts from: the canonical frame address, or a register
pub data Origin : Type 0 where
  FrameAddress : Origin
  Register : (number : ℕ) → Origin

-- a rule: an address counted from its origin, or the value that is saved there
pub record Rule : Type 0 where
  pub origin : Origin
  pub is_dereferenced : Bool
  pub offset : ℤ

-- A row: the rule of the canonical frame address, and those of the return address and the frame pointer. Without a rule, the return address is at
-- the fixed offset, and the frame pointer keeps its value.
pub record Flexible : Type 0 where
  pub cfa : Rule
  pub ra : Option Rule
  pub fp : Option Rule

-- ---- bytes
-- regnum from bit 3 on, and reg_p, bit 0
abbrev pub origin_number : Origin → ℕ
origin_number FrameAddress = 0
origin_number (Register number) = 8 * number + 1

-- deref_p, bit 1
abbrev pub dereferenced_number : Bool → ℕ
dereferenced_number false = 0
dereferenced_number true = 2

-- the control word; that of the rule "the canonical frame address plus a number" is the padding word 0, and so there is no such rule
abbrev pub control_word : Rule → ℕ
control_word rule = origin_number rule.origin + dereferenced_number rule.is_dereferenced

-- the control word and the offset
abbrev pub spelled_rule : (width : ℕ) → Rule → List ℕ
spelled_rule width rule = unsigned_bytes width (control_word rule) ++ signed_bytes width rule.offset

-- the rules after that of the canonical frame address: a padding word where the return address has none and the frame pointer has one
abbrev pub spelled_rest : (width : ℕ) → (ra fp : Option Rule) → List ℕ
spelled_rest width None None = []
spelled_rest width None (Some fp) = unsigned_bytes width 0 ++ spelled_rule width fp
spelled_rest width (Some ra) None = spelled_rule width ra
spelled_rest width (Some ra) (Some fp) = spelled_rule width ra ++ spelled_rule width fp

-- the number of data words of these rules
abbrev pub rest_count : (ra fp : Option Rule) → ℕ
rest_count None None = 0
rest_count None (Some fp) = 3
rest_count (Some ra) None = 2
rest_count (Some ra) (Some fp) = 4

-- a row: its start, the info byte with the number of data words and their width, the data words
unfoldable pub spelled_flexible : (start_width width start : ℕ) → Flexible → List ℕ
spelled_flexible start_width width start row =
    unsigned_bytes start_width start
    ++ ((2 * (2 + rest_count row.ra row.fp) + 32 * width) ∷ (spelled_rule width row.cfa ++ spelled_rest width row.ra row.fp))

-- ---- recovery
-- the value that a rule counts from
abbrev pub origin_value : Registers → (frame_address : ℕ) → Origin → ℕ
origin_value registers frame_address FrameAddress = frame_address
origin_value registers frame_address (Register number) = registers number

-- the address, or what is saved there
abbrev pub value_at : (is_dereferenced : Bool) → List Region → (address : ℕ) → Value
value_at false memory address = Known address
value_at true memory address = saved_at memory address

-- the value of a rule
abbrev pub value_of : Registers → List Region → (frame_address : ℕ) → Rule → Value
value_of registers memory frame_address rule = value_at rule.is_dereferenced memory (moved (origin_value registers frame_address rule.origin) rule.offset)

-- the value of a rule, or the value without one
abbrev pub value_or : Value → Registers → List Region → (frame_address : ℕ) → Option Rule → Value
value_or other registers memory frame_address None = other
value_or other registers memory frame_address (Some rule) = value_of registers memory frame_address rule

-- what is recovered with a canonical frame address: at the fixed offset -8 the return address, unless it has a rule
abbrev pub recovery_from : Flexible → Registers → List Region → (frame_address : ℕ) → Recovery
recovery_from row registers memory frame_address = record {
  frame_address = frame_address;
  return_address = value_or (saved_at memory (moved frame_address (negsuc 7))) registers memory frame_address row.ra;
  frame_pointer = value_or (Known (registers 6)) registers memory frame_address row.fp;
  stack_pointer = frame_address;
  signed = None;
}

-- what is recovered, if the canonical frame address is known; it doesn't count from itself
abbrev pub recovery_by : Flexible → Registers → List Region → Value → Option Recovery
recovery_by row registers memory (Known frame_address) = Some (recovery_from row registers memory frame_address)
recovery_by row registers memory (Value.Unreadable address) = None

unfoldable pub flexible_recovery : Flexible → Registers → List Region → Option Recovery
flexible_recovery row registers memory = recovery_by row registers memory (value_of registers memory 0 row.cfa)

-- ---- rows of the default type
-- the DWARF number of a base register
abbrev pub base_register : Base → ℕ
base_register Fp = 6
base_register Sp = 7

-- a value that is saved at an offset from the canonical frame address
abbrev pub saved_from_frame : ℤ → Rule
saved_from_frame offset = record { origin = FrameAddress; is_dereferenced = true; offset = offset }

-- a row of the default type as one of the flexible type
abbrev pub flexible_of : Content → Flexible
flexible_of content = record {
  cfa = record { origin = Register (base_register content.base); is_dereferenced = false; offset = content.cfa };
  ra = None;
  fp = option_map saved_from_frame content.fp;
}
