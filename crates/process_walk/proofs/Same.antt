-- Walks by what recovers the same.
use Rattle.std.proofs.Common.{◌≡◌, ℕ, zero, suc, List, Option, Result, Ok, Err, refl, ap, ◌∙◌}
use Rattle.sf_model.specs.declared.recovery.Regs.{Regs}
use Rattle.sf_model.specs.declared.walk.Stop.{Stop}
use Rattle.sf_model.specs.Memory.{Region}
use Rattle.sf_model.specs.Recovery.{Recovery}
use Rattle.sf_model.specs.Walk.{Recovering, ThreadState}
use Rattle.signal_frames.specs.declared.frame.SignalFrame.{SignalFrame}
use Rattle.process_walk.specs.declared.stepping.State.{State}
use Rattle.process_walk.specs.Step.{Stepped, step_at, step_by}
use Rattle.process_walk.specs.Walk.{ProcessListing, behind, frames_by, listed, on_from, process_walk, start_of}

on_same : (one other : State → ProcessListing) → ((state : State) → one state ≡ other state) → (next : Result State Stop) → on_from one next ≡ on_from other next
on_same one other same (Ok state) = same state
on_same one other same (Err stop) = refl

same_frames : (one other : State → Stepped) → ((state : State) → one state ≡ other state) → (depth : ℕ) (state : State) → frames_by one depth state ≡ frames_by other depth state
unfolding frames_by
same_frames one other same zero state = refl
same_frames one other same (suc depth) state =
    ap (listed (frames_by one depth)) (same state)
    ∙ ap (behind (other state).0) (on_same (frames_by one depth) (frames_by other depth) (same_frames one other same depth) (other state).1)

-- walks by what recovers the same, and by the same signal frames
pub same_walk : (r s : Recovering) (p q : ℕ → Option SignalFrame) → ((asked : ℕ) (regs : Regs) → r asked regs ≡ s asked regs) → ((pc : ℕ) → p pc ≡ q pc)
    → (thread : ThreadState) (memory : List Region) (depth : ℕ) → process_walk r p thread memory depth ≡ process_walk s q thread memory depth
unfolding process_walk
same_walk r s p q rows signals thread memory depth =
    same_frames (step_at r p thread.mask memory) (step_at s q thread.mask memory)
    (λ state. ap (λ (o : Option Recovery). step_by o (p state.asked) thread.mask memory state) (rows state.asked state.at.regs)
    ∙ ap (λ (f : Option SignalFrame). step_by (s state.asked state.at.regs) f thread.mask memory state) (signals state.asked))
    depth (start_of thread)
