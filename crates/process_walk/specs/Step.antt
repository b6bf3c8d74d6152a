-- One step of a walk, from a frame to its caller, by what a row recovers (GNU SFrame specification, Version 2, frame row entries), or over
-- a signal frame (DWARF 5, sections 6.4.1 and 6.4.2.3; GNU's augmentation letter `S`).
use Rattle.std.specs.Prelude.{ℕ, Bool, false, List, Option, Some, None, Result, Ok, Err, is_ok}
use Rattle.sf_bytes.specs.Steps.{◌>>=◌}
use Rattle.sf_model.specs.declared.recovery.Regs.{Regs}
use Rattle.sf_model.specs.declared.walk.Stop.{Stop}
use Rattle.sf_model.specs.declared.walk.Stop.TheVariants.{Outside, Unreadable, Signed}
use Rattle.sf_model.specs.Memory.{Region}
use Rattle.sf_model.specs.Recovery.{Recovery, Value, Known, moved, saved_at}
use Rattle.sf_model.specs.Walk.{Recovering, address_before, unsigned_address}
use Rattle.core_walk.specs.declared.step.Caller.{Caller}
use Rattle.signal_frames.specs.declared.frame.SignalFrame.{SignalFrame}
use Rattle.process_walk.specs.declared.stepping.ProcessFrame.{ProcessFrame}
use Rattle.process_walk.specs.declared.stepping.State.{State}

-- a value, or why the walk stops
abbrev pub known_or_stop : Value → Result ℕ Stop
known_or_stop (Known value) = Ok value
known_or_stop (Value.Unreadable address) = Err (Unreadable address)

-- a return address without its signature, or why the walk stops
abbrev pub unsigned_or_stop : (return_address : ℕ) → (unsigned : Option ℕ) → Result ℕ Stop
unsigned_or_stop return_address (Some pc) = Ok pc
unsigned_or_stop return_address None = Err (Signed return_address)

-- the caller of a frame, by what is recovered: the return address is read first, then the frame pointer; the mask has the bits of a return
-- address that hold its signature, if they are known
abbrev pub caller_by : (mask : Option ℕ) → Recovery → Result Caller Stop
caller_by mask r =
    known_or_stop r.return_address >>= λ return_address.
    (known_or_stop r.frame_pointer >>= λ frame_pointer.
    (unsigned_or_stop return_address (unsigned_address r.signed mask return_address) >>= λ pc.
    Ok (record { pc = pc; regs = record { sp = r.stack_pointer; fp = frame_pointer; lr = return_address } })))

-- a caller is looked up at the address before its return address
abbrev pub called : Caller → State
called caller = record { asked = address_before caller.pc; at = caller }

-- the state of a caller that is known
abbrev pub to_caller : Result Caller Stop → Result State Stop
to_caller next = next >>= λ caller. Ok (called caller)

-- what was interrupted is looked up at its own program counter, since no call returns there
abbrev pub resumed : Caller → State
resumed caller = record { asked = caller.pc; at = caller }

-- what was interrupted, given its stack pointer: the return address is read first, then the frame pointer
abbrev pub interrupted : SignalFrame → List Region → Regs → (frame_address : ℕ) → Result State Stop
interrupted frame memory regs frame_address =
    known_or_stop (saved_at memory (moved regs.sp frame.return_address)) >>= λ pc.
    (known_or_stop (saved_at memory (moved regs.sp frame.frame_pointer)) >>= λ frame_pointer.
    Ok (resumed (record { pc = pc; regs = record { sp = frame_address; fp = frame_pointer; lr = pc } })))

-- a frame that is listed, and its caller's state or why the walk stops
abbrev pub Stepped : Type 0
Stepped = ProcessFrame × Result State Stop

-- a frame as it is listed
abbrev pub frame_listed : (pc : ℕ) → (frame_address : Option ℕ) → (is_signal : Bool) → ProcessFrame
frame_listed pc frame_address is_signal = record { frame = record { pc = pc; cfa = frame_address }; is_signal = is_signal }

-- a frame that is stepped over to what was interrupted, unless one of its values can't be read
abbrev pub stepped_over : (pc : ℕ) → (frame_address : ℕ) → Result State Stop → Stepped
stepped_over pc frame_address next = (frame_listed pc (Some frame_address) (is_ok next), next)

-- the step over a signal frame, given its canonical frame address
abbrev pub step_from : SignalFrame → List Region → Caller → (frame_address : Result ℕ Stop) → Stepped
step_from frame memory at (Ok frame_address) = stepped_over at.pc frame_address (interrupted frame memory at.regs frame_address)
step_from frame memory at (Err stop) = (frame_listed at.pc None false, Err stop)

-- the step over a signal frame: the canonical frame address is read first
abbrev pub step_over : SignalFrame → List Region → Caller → Stepped
step_over frame memory at = step_from frame memory at (known_or_stop (saved_at memory (moved at.regs.sp frame.frame_address)))

-- the step where no row holds: over the signal frame, if there is one
abbrev pub step_without_row : Option SignalFrame → List Region → State → Stepped
step_without_row (Some frame) memory state = step_over frame memory state.at
step_without_row None memory state = (frame_listed state.at.pc None false, Err (Outside state.asked))

-- the step by what a row recovers, or else without a row
abbrev pub step_by : Option Recovery → Option SignalFrame → (mask : Option ℕ) → List Region → State → Stepped
step_by (Some r) signal mask memory state = (frame_listed state.at.pc (Some r.frame_address) false, to_caller (caller_by mask r))
step_by None signal mask memory state = step_without_row signal memory state

-- the step from a state, by what is recovered at the address that is looked up, or else by the signal frame there
abbrev pub step_at : Recovering → (signal_at : ℕ → Option SignalFrame) → (mask : Option ℕ) → List Region → State → Stepped
step_at recover_at signal_at mask memory state = step_by (recover_at state.asked state.at.regs) (signal_at state.asked) mask memory state
