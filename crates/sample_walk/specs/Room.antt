-- The frames of a walk in a room, each with the index of its module.
use Rattle.std.specs.Prelude.{ℕ, List, ◌++◌, length, map, drop, unwrap_or}
use Rattle.sf_model.specs.declared.walk.Frame.{Frame}
use Rattle.sample_walk.specs.declared.walking.Ended.{Ended}
use Rattle.sample_walk.specs.declared.walking.ModuleFrame.{ModuleFrame}
use Rattle.sample_walk.specs.Step.{asked_at}
use Rattle.sample_walk.specs.Onward.{Place, Walked}

-- a frame with the index of its module; if its canonical frame address is not known, that is 0
abbrev pub module_frame : Frame → (index : ℕ) → ModuleFrame
module_frame frame index = record { pc = frame.pc; cfa = unwrap_or frame.cfa 0; index = index }

-- the same of a walk's frame: its module is the one that has the address at which its row is looked up
abbrev pub place_frame : (index : ℕ → ℕ) → Place → ModuleFrame
place_frame index place = module_frame place.frame (index (asked_at place.at))

-- a room that lists these frames from its first place on; what comes after them is as it was
abbrev pub places_listed : (index : ℕ → ℕ) → List Place → (before : List ModuleFrame) → List ModuleFrame
places_listed index places before = map (place_frame index) places ++ drop (length places) before

-- how a walk ends: how many frames it lists, why it stops, and where it is
abbrev pub walk_end : Walked → Ended
walk_end walk = record { count = length walk.places; stop = walk.stop; at = walk.at }
