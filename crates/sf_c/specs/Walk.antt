-- The walk of a sample, as C has it: the walk by rows (GNU SFrame specification, Version 2: what an SFrame section is for), in a
-- room for some frames.
use Rattle.std.specs.Prelude.{ℕ, List, ◌++◌, length, map, drop, unwrap_or}
use Rattle.sf_model.specs.declared.walk.Frame.{Frame}
use Rattle.sf_model.specs.declared.walk.Stop.{Stop}
use Rattle.sf_model.specs.declared.walk.Stop.TheVariants.{Depth, Outside, Unreadable, Signed}
use Rattle.sf_model.specs.Walk.{Listing, LookUp, look_up_walk}
use Rattle.sf_c.specs.declared.sample.KiblawenSample.{KiblawenSample}
use Rattle.sf_c.specs.declared.walking.KiblawenFrame.{KiblawenFrame}
use Rattle.sf_c.specs.declared.walking.KiblawenStop.{KiblawenStop}
use Rattle.sf_c.specs.Sample.{stack_memory, sample_thread}

-- the walk of a sample by the rows that are found, of at most `room` frames
abbrev pub sample_walk : LookUp → KiblawenSample → (room : ℕ) → Listing
sample_walk look_up sample room = look_up_walk look_up (sample_thread sample) (stack_memory sample) room

-- a frame as C has it; one without a row, which is the last, has 0 for the canonical frame address
abbrev pub frame_shown : Frame → KiblawenFrame
frame_shown frame = record { pc = frame.pc; cfa = unwrap_or frame.cfa 0 }

-- the header's number of why a walk stops
abbrev pub stop_number : Stop → ℕ
stop_number Depth = 0
stop_number (Outside address) = 1
stop_number (Unreadable address) = 2
stop_number (Signed address) = 3

-- the address that the stop names, 0 if the room is full
abbrev pub stop_value : Stop → ℕ
stop_value Depth = 0
stop_value (Outside address) = address
stop_value (Unreadable address) = address
stop_value (Signed address) = address

-- why a walk stops, as C has it
abbrev pub stop_shown : Stop → KiblawenStop
stop_shown stop = record { kind = stop_number stop; value = stop_value stop }

-- a room that lists these frames from its first place on; what comes after them is as it was
abbrev pub frames_listed : List Frame → (before : List KiblawenFrame) → List KiblawenFrame
frames_listed frames before = map frame_shown frames ++ drop (length frames) before
