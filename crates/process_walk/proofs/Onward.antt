-- Walks in a process without masks go on where others stop.
use Rattle.std.specs.Prelude.{◌++◌, nat_lt}
use Rattle.std.proofs.Common.{◌≡◌, ◌<◌, ◌^◌, ℕ, zero, suc, Bool, true, false, List, ◌∷◌, Option, Some, None, Result, Ok, Err, inl, inr, refl, sym, ap, subst}
use Rattle.sf_model.specs.declared.walk.Stop.{Stop}
use Rattle.sf_model.specs.declared.walk.Stop.TheVariants.{Depth, Outside, Unreadable, Signed}
use Rattle.sf_model.specs.Memory.{Region}
use Rattle.sf_model.specs.Recovery.{Recovery}
use Rattle.sf_model.specs.Walk.{Recovering, ThreadState}
use Rattle.core_walk.specs.declared.step.Caller.{Caller}
use Rattle.signal_frames.specs.declared.frame.SignalFrame.{SignalFrame}
use Rattle.process_walk.specs.declared.stepping.ProcessFrame.{ProcessFrame}
use Rattle.process_walk.specs.declared.stepping.State.{State}
use Rattle.process_walk.specs.Masks.{GoesOnUnsigned, recover_unmasked, recovered_unmasked, stops_unsigned, unsigned_in_space}
use Rattle.process_walk.specs.Step.{Stepped, caller_by, frame_listed, step_at, step_by, to_caller}
use Rattle.process_walk.specs.Walk.{ProcessListing, behind, frames_by, listed, on_from, process_walk, start_of}
use Rattle.process_walk.proofs.Unmasked.{in_space, kept_by}

-- ---- a frame, and what follows it
one_before : (frame : ProcessFrame) (on once : ProcessListing) → GoesOnUnsigned on once → GoesOnUnsigned (behind frame on) (behind frame once)
one_before frame on once (inl e) = inl (ap (behind frame) e)
one_before frame on once (inr h) = inr (h.0, (h.1.0, (h.1.1.0, (h.1.1.1.0, ap (λ (fs : List ProcessFrame). frame ∷ fs) h.1.1.1.1))))

-- two walks go on alike from each state
abbrev Alike : (on once : State → ProcessListing) → Type 0
Alike on once = (state : State) → GoesOnUnsigned (on state) (once state)

from_next : (on once : State → ProcessListing) → Alike on once → (next : Result State Stop) → GoesOnUnsigned (on_from on next) (on_from once next)
from_next on once alike (Ok state) = alike state
from_next on once alike (Err stop) = inl refl

same_step : (on once : State → ProcessListing) → Alike on once → (step : Stepped) → GoesOnUnsigned (listed on step) (listed once step)
same_step on once alike step = one_before step.0 (on_from on step.1) (on_from once step.1) (from_next on once alike step.1)

-- ---- a step by a row
signed_stop : (next : Result Caller Stop) → stops_unsigned true next ≡ true → (address : ℕ) × ((next ≡ Err (Signed address)) × (address < 2 ^ 48))
signed_stop (Err (Signed address)) stops = (address, (refl, (in_space address (nat_lt address (2 ^ 48)) refl stops).1))
signed_stop (Ok at) stops = absurd (let no : false ≡ true = stops in cc)
signed_stop (Err Depth) stops = absurd (let no : false ≡ true = stops in cc)
signed_stop (Err (Outside address)) stops = absurd (let no : false ≡ true = stops in cc)
signed_stop (Err (Unreadable address)) stops = absurd (let no : false ≡ true = stops in cc)

by_row : (on once : State → ProcessListing) → Alike on once → (r : Recovery) (state : State) (stops : Bool) → stops_unsigned true (caller_by None r) ≡ stops
    → let frame = frame_listed state.at.pc (Some r.frame_address) false in
    GoesOnUnsigned (behind frame (on_from on (to_caller (caller_by None (unsigned_in_space r))))) (behind frame (on_from once (to_caller (caller_by None r))))
by_row on once alike r state true e =
    let stop = signed_stop (caller_by None r) e in
    let frame = frame_listed state.at.pc (Some r.frame_address) false in
    let later = on_from on (to_caller (caller_by None (unsigned_in_space r))) in
    let ends = ap (λ (next : Result Caller Stop). (behind frame (on_from once (to_caller next))).stop) stop.1.0 in
    let first = ap (λ (next : Result Caller Stop). (behind frame (on_from once (to_caller next))).frames ++ later.frames) stop.1.0 in
    inr (stop.0, (ends, (stop.1.1, (later.frames, sym first))))
by_row on once alike r state false e =
    let frame = frame_listed state.at.pc (Some r.frame_address) false in
    subst (λ (next : Result Caller Stop). GoesOnUnsigned (behind frame (on_from on (to_caller next))) (behind frame (on_from once (to_caller (caller_by None r)))))
    (kept_by r.signed r.stack_pointer r.return_address r.frame_pointer e)
    (one_before frame (on_from on (to_caller (caller_by None r))) (on_from once (to_caller (caller_by None r))) (from_next on once alike (to_caller (caller_by None r))))

any_step : (on once : State → ProcessListing) → Alike on once → (is_unmasked : Bool) (mask : Option ℕ) (o : Option Recovery) (signal : Option SignalFrame) (memory : List Region) (state : State)
    → GoesOnUnsigned (listed on (step_by (recovered_unmasked is_unmasked mask o) signal mask memory state)) (listed once (step_by o signal mask memory state))
any_step on once alike true None (Some r) signal memory state = by_row on once alike r state (stops_unsigned true (caller_by None r)) refl
any_step on once alike true None None signal memory state = same_step on once alike (step_by None signal None memory state)
any_step on once alike true (Some mask) o signal memory state = same_step on once alike (step_by o signal (Some mask) memory state)
any_step on once alike false mask o signal memory state = same_step on once alike (step_by o signal mask memory state)

-- ---- a walk
frames_go_on : (recover_at : Recovering) (signal_at : ℕ → Option SignalFrame) (is_unmasked : Bool) (mask : Option ℕ) (memory : List Region) (depth : ℕ)
    → Alike (frames_by (step_at (recover_unmasked is_unmasked mask recover_at) signal_at mask memory) depth) (frames_by (step_at recover_at signal_at mask memory) depth)
unfolding frames_by
frames_go_on recover_at signal_at is_unmasked mask memory zero state = inl refl
frames_go_on recover_at signal_at is_unmasked mask memory (suc depth) state =
    any_step (frames_by (step_at (recover_unmasked is_unmasked mask recover_at) signal_at mask memory) depth) (frames_by (step_at recover_at signal_at mask memory) depth)
    (frames_go_on recover_at signal_at is_unmasked mask memory depth) is_unmasked mask (recover_at state.asked state.at.regs) (signal_at state.asked) memory state

pub go_on : (recover_at : Recovering) (signal_at : ℕ → Option SignalFrame) (is_unmasked : Bool) (thread : ThreadState) (memory : List Region) (depth : ℕ)
    → GoesOnUnsigned (process_walk (recover_unmasked is_unmasked thread.mask recover_at) signal_at thread memory depth) (process_walk recover_at signal_at thread memory depth)
unfolding process_walk
go_on recover_at signal_at is_unmasked thread memory depth = frames_go_on recover_at signal_at is_unmasked thread.mask memory depth (start_of thread)
