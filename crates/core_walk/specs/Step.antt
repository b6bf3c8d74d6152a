-- Inside the crate. One step of a walk, from a frame to its caller (GNU SFrame specification, Version 2: what an SFrame section is for).
use Rattle.std.specs.Prelude.{◌≡◌, ℕ, List, Option, Result, Ok, Err}
use Rattle.sf_model.specs.declared.content.Content.{Content}
use Rattle.sf_model.specs.declared.machine.Key.{Key}
use Rattle.sf_model.specs.declared.recovery.Recovered.{Recovered}
use Rattle.sf_model.specs.declared.recovery.Regs.{Regs}
use Rattle.sf_model.specs.declared.walk.Frame.{Frame}
use Rattle.sf_model.specs.declared.walk.Stop.{Stop}
use Rattle.sf_model.specs.Memory.{Region}
use Rattle.sf_model.specs.Recovery.{Recovery, recovered, recovery}
use Rattle.sf_model.specs.Walk.{Going, Listing, Recovering, behind, frame_by, on_by, stopped}
use Rattle.core_walk.specs.declared.step.Caller.{Caller}

-- how a walk goes on: from the caller, or not at all
abbrev pub on_with : Going → Result Caller Stop → Listing
on_with go (Ok caller) = go caller.pc caller.regs
on_with go (Err stop) = stopped stop

-- where this was recovered, every walk goes on with this caller, or stops
abbrev pub GoesOnFrom : (mask : Option ℕ) → Recovery → Result Caller Stop → Type 0
GoesOnFrom mask r next = (go : Going) → on_by go mask r r.return_address ≡ on_with go next

-- where a row's content recovered this, every walk goes on with this caller, or stops, whatever the key, the registers
-- and the memory were
abbrev pub GoesOnBy : Content → (mask : Option ℕ) → Recovered → Result Caller Stop → Type 0
GoesOnBy content mask r next =
    (key : Key) (regs : Regs) (memory : List Region) → r ≡ recovered (recovery content key regs memory) → GoesOnFrom mask (recovery content key regs memory) next

-- every walk that is at this frame lists it, and goes on with its caller, or stops
abbrev pub Steps : Recovering → (mask : Option ℕ) → (asked : ℕ) → Caller → Frame → Result Caller Stop → Type 0
Steps recovering mask asked at frame next = (go : Going) → frame_by go mask asked at.pc (recovering asked at.regs) ≡ behind frame (on_with go next)
