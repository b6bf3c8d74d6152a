-- What a walk lists, and the thread that it starts with (GNU SFrame specification, Version 2; Linux core files).
use Rattle.sf_model.specs.declared.walk.Walk.{Walk}
use Rattle.sf_model.specs.Walk.{Listing, ThreadState}
use Rattle.core_notes.specs.declared.status.Thread.{Thread}

-- what a walk lists: its frames, and why it stops
abbrev pub walk_listing : Walk → Listing
walk_listing walk = record { frames = walk.frames.items; stop = walk.stop }

-- the state of a thread of a core file
abbrev pub thread_state : Thread → ThreadState
thread_state thread = record { pc = thread.pc; regs = thread.regs; mask = thread.mask }
