-- Without signal frames a walk is that of the rows.
use Rattle.std.proofs.Common.{◌≡◌, ℕ, zero, suc, List, Option, Some, None, Result, Ok, Err, refl, sym, ap, ◌∙◌}
use Rattle.sf_model.specs.declared.walk.Stop.{Stop}
use Rattle.sf_model.specs.Memory.{Region}
use Rattle.sf_model.specs.Recovery.{Recovery}
use Rattle.sf_model.specs.Walk.{Going, Recovering, ThreadState, address_before, behind, frame_by, frames_from, walk_by}
use Rattle.core_walk.specs.declared.step.Caller.{Caller}
use Rattle.core_walk.specs.Step.{on_with}
use Rattle.process_walk.specs.declared.stepping.State.{State}
use Rattle.process_walk.specs.Step.{called, caller_by, step_at, step_by, to_caller}
use Rattle.process_walk.specs.Walk.{ProcessListing, frames_by, listed, on_from, process_walk, rows_alone, start_of}
use Rattle.process_walk.proofs.Callers.{on_caller}

-- a walk goes on from a caller's state as by rows
abbrev GoSame : (one : State → ProcessListing) → (other : Going) → Type 0
GoSame one other = (c : Caller) → rows_alone (one (called c)) ≡ other c.pc c.regs

on_same : (one : State → ProcessListing) (other : Going) → GoSame one other → (next : Result Caller Stop) → rows_alone (on_from one (to_caller next)) ≡ on_with other next
on_same one other same (Ok c) = same c
on_same one other same (Err stop) = refl

frame_same : (one : State → ProcessListing) (other : Going) → GoSame one other → (o : Option Recovery) (mask : Option ℕ) (memory : List Region) (state : State)
    → rows_alone (listed one (step_by o None mask memory state)) ≡ frame_by other mask state.asked state.at.pc o
frame_same one other same (Some r) mask memory state =
    ap (behind (record { pc = state.at.pc; cfa = Some r.frame_address })) (on_same one other same (caller_by mask r) ∙ sym (on_caller other mask r))
frame_same one other same None mask memory state = refl

frames_same : (recover_at : Recovering) (mask : Option ℕ) (memory : List Region) (depth : ℕ) (state : State)
    → rows_alone (frames_by (step_at recover_at (λ pc. None) mask memory) depth state) ≡ frames_from recover_at mask depth state.asked state.at.pc state.at.regs
unfolding frames_by frames_from
frames_same recover_at mask memory zero state = refl
frames_same recover_at mask memory (suc depth) state =
    frame_same (frames_by (step_at recover_at (λ pc. None) mask memory) depth) (λ next. frames_from recover_at mask depth (address_before next) next)
    (λ c. frames_same recover_at mask memory depth (called c)) (recover_at state.asked state.at.regs) mask memory state

pub by_rows : (recover_at : Recovering) (thread : ThreadState) (memory : List Region) (depth : ℕ) → rows_alone (process_walk recover_at (λ pc. None) thread memory depth) ≡ walk_by recover_at thread depth
unfolding process_walk walk_by
by_rows recover_at thread memory depth = frames_same recover_at thread.mask memory depth (start_of thread)
