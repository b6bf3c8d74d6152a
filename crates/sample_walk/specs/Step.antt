-- One step of a walk that goes on where a caller's frame pointer can't be read (GNU SFrame specification, Version 2, frame row
-- entries). Such a frame pointer is unknown. A row that counts from the stack pointer doesn't need it; at a row that counts from it
-- the walk stops, with the address where it was to be read.
use Rattle.std.specs.Prelude.{ℕ, ℤ, negsuc, Bool, true, false, List, Option, Some, None, Result, Ok, Err}
use Rattle.std.specs.Option.{option_map}
use Rattle.sf_model.specs.declared.content.Content.{Content}
use Rattle.sf_model.specs.declared.content.Ra.{Ra}
use Rattle.sf_model.specs.declared.content.Ra.TheVariants.{Fixed, Link, At}
use Rattle.sf_model.specs.declared.machine.Base.{Base}
use Rattle.sf_model.specs.declared.machine.Base.TheVariants.{Fp, Sp}
use Rattle.sf_model.specs.declared.walk.Frame.{Frame}
use Rattle.sf_model.specs.declared.walk.Stop.{Stop}
use Rattle.sf_model.specs.declared.walk.Stop.TheVariants.{Outside, Signed}
use Rattle.sf_model.specs.Memory.{Region, read_eight}
use Rattle.sf_model.specs.Recovery.{moved}
use Rattle.sf_model.specs.Lookup.{FoundRow}
use Rattle.sf_model.specs.Walk.{LookUp, address_before}
use Rattle.sample_walk.specs.declared.rule.Rule.{Rule}
use Rattle.sample_walk.specs.declared.state.State.{State}
use Rattle.sample_walk.specs.declared.state.Value.{Value}
use Rattle.sample_walk.specs.declared.state.Value.TheVariants.{Known}
use Rattle.sample_walk.specs.Signature.{unsigned_by}

-- the address at which a row is looked up: the program counter, or the address before it if a call returns there
abbrev pub asked_by : (returned : Bool) → (pc : ℕ) → ℕ
asked_by true pc = address_before pc
asked_by false pc = pc

abbrev pub asked_at : State → ℕ
asked_at at = asked_by at.returned at.pc

-- the offset from the canonical frame address at which the return address is saved, if it is not in the link register
abbrev pub saved_return : Ra → Option ℤ
saved_return Fixed = Some (negsuc 7)
saved_return Link = None
saved_return (At offset) = Some offset

-- what a row says of the caller's frame
abbrev pub content_rule : Content → Rule
content_rule content = record { base = content.base; cfa = content.cfa; ra = saved_return content.ra; fp = content.fp; signed = content.signed }

-- what the row says that is found at an address, if there is one
abbrev pub rules_by : LookUp → (address : ℕ) → Option Rule
rules_by look_up address = option_map (λ (found : FoundRow). content_rule found.row.content) (look_up address)

-- the value that is saved at a place, by what is read there
abbrev pub value_read : (place : ℕ) → Option ℕ → Value
value_read place (Some value) = Known value
value_read place None = Value.Unreadable place

-- the caller's value of a register that is saved at an offset from the canonical frame address, or has its present value
abbrev pub restored_value : List Region → (frame_address : ℕ) → (present : Value) → (offset : Option ℤ) → Value
restored_value memory frame_address present (Some offset) = value_read (moved frame_address offset) (read_eight memory (moved frame_address offset))
restored_value memory frame_address present None = present

-- the register that a row counts from
abbrev pub base_register : Base → State → Value
base_register Fp at = at.fp
base_register Sp at = Known at.sp

-- the link register's value
abbrev pub lr_of : State → Value
lr_of at = Known at.lr

-- the caller, given its return address without the signature
abbrev pub by_address : (frame_address : ℕ) → (frame_pointer : Value) → (return_address : ℕ) → (unsigned : Option ℕ) → Result State Stop
by_address frame_address frame_pointer return_address (Some pc) =
    Ok (record { pc = pc; sp = frame_address; fp = frame_pointer; lr = return_address; returned = true })
by_address frame_address frame_pointer return_address None = Err (Signed return_address)

-- the caller, given its return address
abbrev pub by_return : Rule → (mask : Option ℕ) → List Region → State → (frame_address : ℕ) → (return_address : Value) → Result State Stop
by_return rule mask memory at frame_address (Known address) =
    by_address frame_address (restored_value memory frame_address at.fp rule.fp) address (unsigned_by rule.signed mask address)
by_return rule mask memory at frame_address (Value.Unreadable address) = Err (Stop.Unreadable address)

-- a frame, and its caller or why the walk stops
abbrev pub Stepped : Type 0
Stepped = Frame × Result State Stop

-- a step by a row, given the register that the row counts from
abbrev pub by_base : Rule → (mask : Option ℕ) → List Region → State → (base : Value) → Stepped
by_base rule mask memory at (Known base) = let frame_address = moved base rule.cfa in (
  record { pc = at.pc; cfa = Some frame_address },
  by_return rule mask memory at frame_address (restored_value memory frame_address (lr_of at) rule.ra),
)
by_base rule mask memory at (Value.Unreadable address) = (record { pc = at.pc; cfa = None }, Err (Stop.Unreadable address))

-- a step by the row that holds, if one does
unfoldable pub step_by : Option Rule → (mask : Option ℕ) → List Region → State → Stepped
step_by (Some rule) mask memory at = by_base rule mask memory at (base_register rule.base at)
step_by None mask memory at = (record { pc = at.pc; cfa = None }, Err (Outside (asked_at at)))
