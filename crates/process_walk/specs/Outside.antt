-- Inside the crate. A step by rows: where no row holds it stops at the address that was looked up (GNU SFrame specification, Version 2, frame row
-- entries).
use Rattle.std.specs.Prelude.{ℕ, Bool, true, false, Option, Some, None, Result, Ok, Err}
use Rattle.sf_model.specs.declared.walk.Frame.{Frame}
use Rattle.sf_model.specs.declared.walk.Stop.{Stop}
use Rattle.sf_model.specs.declared.walk.Stop.TheVariants.{Depth, Outside, Unreadable, Signed}
use Rattle.sf_model.specs.Recovery.{Recovery}
use Rattle.core_walk.specs.declared.step.Caller.{Caller}
use Rattle.process_walk.specs.Step.{caller_by}

-- a frame, and its caller or why the walk stops
abbrev pub RowStep : Type 0
RowStep = Frame × Result Caller Stop

-- the step by what a row recovers, if one holds at the address that is looked up
abbrev pub row_step : Option Recovery → (mask : Option ℕ) → (asked pc : ℕ) → RowStep
row_step (Some r) mask asked pc = (record { pc = pc; cfa = Some r.frame_address }, caller_by mask r)
row_step None mask asked pc = (record { pc = pc; cfa = None }, Err (Outside asked))

-- the step stops there
abbrev pub is_outside : Result Caller Stop → Bool
is_outside (Ok caller) = false
is_outside (Err Depth) = false
is_outside (Err (Outside address)) = true
is_outside (Err (Unreadable address)) = false
is_outside (Err (Signed address)) = false
