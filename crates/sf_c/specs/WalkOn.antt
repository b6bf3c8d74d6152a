-- A walk from a state, as C has it.
use Rattle.std.specs.Prelude.{ℕ, Bool, ◌==◌, Option, Some, None, not, if◌then◌else◌}
use Rattle.sf_model.specs.declared.walk.Stop.{Stop}
use Rattle.sf_model.specs.declared.walk.Stop.TheVariants.{Depth}
use Rattle.sf_model.specs.Walk.{LookUp}
use Rattle.sample_walk.specs.declared.state.State.{State}
use Rattle.sample_walk.specs.declared.state.Value.{Value}
use Rattle.sample_walk.specs.declared.state.Value.TheVariants.{Known, Unreadable}
use Rattle.sample_walk.specs.Onward.{Walked, stepping, walk_on}
use Rattle.sf_c.specs.declared.sample.KiblawenSample.{KiblawenSample}
use Rattle.sf_c.specs.declared.walking.KiblawenStop.{KiblawenStop}
use Rattle.sf_c.specs.declared.walking_on.KiblawenState.{KiblawenState}
use Rattle.sf_c.specs.Row.{flag}
use Rattle.sf_c.specs.Sample.{mask_of, stack_memory}
use Rattle.sf_c.specs.Walk.{stop_shown}

-- the walk from a state by the rows that are found, of at most `room` frames, by a sample's memory and mask
abbrev pub sample_walk_on : LookUp → KiblawenSample → (room : ℕ) → State → Walked
sample_walk_on look_up sample room at = walk_on (stepping look_up (mask_of sample) (stack_memory sample)) room at

-- a state that C gives
abbrev pub state_in : KiblawenState → State
state_in s = record {
  pc = s.pc;
  sp = s.sp;
  fp = if s.fp_unknown == 0 then Known s.fp else Unreadable s.fp;
  lr = s.lr;
  returned = not (s.returned == 0);
}

-- Inside the crate: a state, as C has it: an unknown frame pointer is the address where it was to be read
abbrev pub state_by : (pc sp lr : ℕ) → (returned : Bool) → Value → KiblawenState
state_by pc sp lr returned (Known value) = record { pc = pc; sp = sp; fp = value; lr = lr; fp_unknown = 0; returned = flag returned }
state_by pc sp lr returned (Unreadable address) = record { pc = pc; sp = sp; fp = address; lr = lr; fp_unknown = 1; returned = flag returned }

abbrev pub state_shown : State → KiblawenState
state_shown s = state_by s.pc s.sp s.lr s.returned s.fp

-- why a walk stops, as C has it
abbrev pub end_shown : Option Stop → KiblawenStop
end_shown (Some stop) = stop_shown stop
end_shown None = stop_shown Depth
