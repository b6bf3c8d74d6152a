-- A walk from a state, which gives the state where it ends (GNU SFrame specification, Version 2: what an SFrame section is for), and
-- what is true of it beside `look_up_walk`, which stops at the first frame pointer that can't be read, and without a mask at the first signed row.
use Rattle.std.specs.Prelude.{◌≡◌, ◌++◌, ◌+◌, ◌⊎◌, ◌<◌, ◌^◌, ℕ, zero, suc, false, List, [], ◌∷◌, map, Option, Some, None, Result, Ok, Err, unwrap_or}
use Rattle.sf_model.specs.declared.walk.Frame.{Frame}
use Rattle.sf_model.specs.declared.walk.Stop.{Stop}
use Rattle.sf_model.specs.declared.walk.Stop.TheVariants.{Depth, Signed, Unreadable}
use Rattle.sf_model.specs.Memory.{Region}
use Rattle.sf_model.specs.Walk.{Listing, LookUp, ThreadState, look_up_walk}
use Rattle.sample_walk.specs.declared.state.State.{State}
use Rattle.sample_walk.specs.declared.state.Value.TheVariants.{Known}
use Rattle.sample_walk.specs.Step.{Stepped, asked_at, rules_by, step_by}

-- how a walk steps
abbrev pub Stepping : Type 0
Stepping = State → Stepped

-- by the rows that are found
abbrev pub stepping : LookUp → (mask : Option ℕ) → List Region → Stepping
stepping look_up mask memory at = step_by (rules_by look_up (asked_at at)) mask memory at

-- a frame of a walk, and the state that the walk was in
pub record Place : Type 0 where
  pub at : State
  pub frame : Frame

-- What a walk lists; why it ends, none if as many frames are listed as were asked for; and the state where it ends: that of the next
-- frame if there is one, else that of the last.
pub record Walked : Type 0 where
  pub places : List Place
  pub stop : Option Stop
  pub at : State

-- the walk from a frame on, given the frame, and its caller or why the walk stops
abbrev pub from_frame : (State → Walked) → State → Frame → Result State Stop → Walked
from_frame go at frame (Ok caller) = let later = go caller in
    record { places = record { at = at; frame = frame } ∷ later.places; stop = later.stop; at = later.at }
from_frame go at frame (Err stop) = record { places = record { at = at; frame = frame } ∷ []; stop = Some stop; at = at }

-- the walk from a state, of at most `depth` frames
unfoldable pub walk_on : Stepping → (depth : ℕ) → State → Walked
walk_on step zero at = record { places = []; stop = None; at = at }
walk_on step (suc depth) at = let now = step at in from_frame (walk_on step depth) at now.0 now.1

-- a walk, and if it didn't stop another one from the state where it ends
abbrev pub then_from : List Place → Option Stop → (at : State) → (State → Walked) → Walked
then_from places None at go = let later = go at in record { places = places ++ later.places; stop = later.stop; at = later.at }
then_from places (Some stop) at go = record { places = places; stop = Some stop; at = at }

abbrev pub and_then : Walked → (State → Walked) → Walked
and_then walk go = then_from walk.places walk.stop walk.at go

-- a walk of n + m frames is one of n frames, and then one of m frames from the state where that ends
abbrev pub GoesOnFromItsState : Type 0
GoesOnFromItsState = (step : Stepping) (n m : ℕ) (at : State) → walk_on step (n + m) at ≡ and_then (walk_on step n at) (walk_on step m)

-- a walk as a list of frames
abbrev pub listing_of : Walked → Listing
listing_of walk = record { frames = map (λ (place : Place). place.frame) walk.places; stop = unwrap_or walk.stop Depth }

-- the state of a thread, whose own frame is looked up at its program counter
abbrev pub initial_state : ThreadState → State
initial_state thread = record { pc = thread.pc; sp = thread.regs.sp; fp = Known thread.regs.fp; lr = thread.regs.lr; returned = false }

-- Why a walk goes on where another one stops: at a value that can't be read, or with no mask at a return address that is in the address space.
abbrev pub GoesPast : (mask : Option ℕ) → Stop → Type 0
GoesPast mask stop =
    ((address : ℕ) × (stop ≡ Unreadable address)) ⊎ ((address : ℕ) × ((stop ≡ Signed address) × ((mask ≡ None) × (address < 2 ^ 48))))

-- a listing is another one; or it goes on where that one stops, so the frames of that one are its first
abbrev pub GoesOnBeside : (mask : Option ℕ) → (on once : Listing) → Type 0
GoesOnBeside mask on once = (on ≡ once) ⊎ (GoesPast mask once.stop × ((more : List Frame) × (on.frames ≡ once.frames ++ more)))

-- the walk of a thread from its state is `look_up_walk`, and goes on where that stops at such a value
abbrev pub GoesOnPastStops : Type 0
GoesOnPastStops = (look_up : LookUp) (thread : ThreadState) (memory : List Region) (depth : ℕ)
    → GoesOnBeside thread.mask (listing_of (walk_on (stepping look_up thread.mask memory) depth (initial_state thread))) (look_up_walk look_up thread memory depth)
