-- The walk of a thread through the modules of a process (GNU SFrame specification, Version 2; Linux core files, NT_FILE), and through
-- signal frames (DWARF 5, section 6.4.1). A walk is a recursion on its depth over its state.
use Rattle.std.specs.Prelude.{ℕ, zero, suc, List, [], ◌∷◌, map, Option, Result, Ok, Err}
use Rattle.sf_model.specs.declared.walk.Stop.{Stop}
use Rattle.sf_model.specs.declared.walk.Stop.TheVariants.{Depth}
use Rattle.sf_model.specs.Memory.{Region}
use Rattle.sf_model.specs.Walk.{Listing, Recovering, ThreadState}
use Rattle.signal_frames.specs.declared.frame.SignalFrame.{SignalFrame}
use Rattle.process_walk.specs.declared.stepping.ProcessFrame.{ProcessFrame}
use Rattle.process_walk.specs.declared.stepping.State.{State}
use Rattle.process_walk.specs.declared.walking.ProcessWalk.{ProcessWalk}
use Rattle.process_walk.specs.Step.{Stepped, resumed, step_at}

-- the frames that a walk lists, and why no more are listed
pub record ProcessListing : Type 0 where
  pub frames : List ProcessFrame
  pub stop : Stop

-- a walk as the code has it
abbrev pub listing : ProcessWalk → ProcessListing
listing walk = record { frames = walk.frames.items; stop = walk.stop }

-- without saying which frames are signal frames
abbrev pub rows_alone : ProcessListing → Listing
rows_alone walk = record { frames = map (λ (f : ProcessFrame). f.frame) walk.frames; stop = walk.stop }

-- no more frames
abbrev pub stopped : Stop → ProcessListing
stopped stop = record { frames = []; stop = stop }

-- a listing with one more frame in front
abbrev pub behind : ProcessFrame → ProcessListing → ProcessListing
behind frame walk = record { frames = frame ∷ walk.frames; stop = walk.stop }

-- goes on from the caller's state, or stops
abbrev pub on_from : (go : State → ProcessListing) → Result State Stop → ProcessListing
on_from go (Ok state) = go state
on_from go (Err stop) = stopped stop

-- a frame, and those that follow it
abbrev pub listed : (go : State → ProcessListing) → Stepped → ProcessListing
listed go step = behind step.0 (on_from go step.1)

-- the frames from a state on, by steps, and at most as many as the depth
unfoldable pub frames_by : (step : State → Stepped) → (depth : ℕ) → State → ProcessListing
frames_by step zero state = stopped Depth
frames_by step (suc depth) state = listed (frames_by step depth) (step state)

-- a thread's own frame is looked up at its program counter
abbrev pub start_of : ThreadState → State
start_of thread = resumed (record { pc = thread.pc; regs = thread.regs })

-- The walk of a thread: each step is by what is recovered at the address that is looked up, or else over the signal frame there.
unfoldable pub process_walk : (recover_at : Recovering) → (signal_at : ℕ → Option SignalFrame) → ThreadState → List Region → (depth : ℕ) → ProcessListing
process_walk recover_at signal_at thread memory depth = frames_by (step_at recover_at signal_at thread.mask memory) depth (start_of thread)
