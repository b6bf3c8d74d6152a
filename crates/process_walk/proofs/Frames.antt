-- The frames of a walk, in order.
use Rattle.std.specs.Prelude.{◌++◌}
use Rattle.std.proofs.Common.{◌≡◌, ℕ, suc, ◌+◌, ◌-◌, ◌<◌, List, [], ◌∷◌, Option, Result, Ok, Err, sym, ap, ◌∙◌, arith, append_assoc, append-nil}
use Rattle.sf_model.specs.declared.walk.Stop.{Stop}
use Rattle.sf_model.specs.declared.walk.Stop.TheVariants.{Depth}
use Rattle.sf_model.specs.Memory.{Region}
use Rattle.sf_model.specs.Walk.{Recovering, ThreadState}
use Rattle.signal_frames.specs.declared.frame.SignalFrame.{SignalFrame}
use Rattle.process_walk.specs.declared.stepping.ProcessFrame.{ProcessFrame}
use Rattle.process_walk.specs.declared.stepping.State.{State}
use Rattle.process_walk.specs.Step.{Stepped, step_at}
use Rattle.process_walk.specs.Walk.{ProcessListing, behind, frames_by, listed, on_from, process_walk, start_of}

-- frames before a listing
abbrev pub after_frames : List ProcessFrame → ProcessListing → ProcessListing
after_frames frames walk = record { frames = frames ++ walk.frames; stop = walk.stop }

-- the frames so far, and those from here on, are the walk
abbrev pub IsWalk : (step : State → Stepped) → (left : ℕ) → State → List ProcessFrame → (whole : ProcessListing) → Type 0
IsWalk step left state frames whole = after_frames frames (frames_by step left state) ≡ whole

one_more : (step : State → Stepped) (depth i : ℕ) (state : State) (x : Stepped) → i < depth → x ≡ step state → frames_by step (depth - i) state ≡ listed (frames_by step (depth - (i + 1))) x
unfolding frames_by
one_more step depth i state x lt e =
    let left : depth - i ≡ suc (depth - (i + 1)) = omega (lt, arith) in
    ap (λ (n : ℕ). frames_by step n state) left ∙ ap (listed (frames_by step (depth - (i + 1)))) (sym e)

-- one more frame
joined : (frames : List ProcessFrame) (frame : ProcessFrame) (walk : ProcessListing) → after_frames (frames ++ frame ∷ []) walk ≡ after_frames frames (behind frame walk)
joined frames frame walk = ap (λ (fs : List ProcessFrame). record { frames = fs; stop = walk.stop }) (append_assoc frames (frame ∷ []) walk.frames)

-- a frame is listed, and the walk goes on or stops
pub goes_on : (step : State → Stepped) (depth i : ℕ) (state caller : State) (now : Stepped) (frames more : List ProcessFrame) (whole : ProcessListing) → i < depth → now ≡ step state → now.1 ≡ Ok caller
    → more ≡ frames ++ now.0 ∷ [] → IsWalk step (depth - i) state frames whole → IsWalk step (depth - (i + 1)) caller more whole
goes_on step depth i state caller now frames more whole lt e is grown so_far =
    let later = frames_by step (depth - (i + 1)) in
    ap (λ (fs : List ProcessFrame). after_frames fs (later caller)) grown ∙ joined frames now.0 (later caller)
    ∙ ap (λ (next : Result State Stop). after_frames frames (behind now.0 (on_from later next))) (sym is)
    ∙ ap (after_frames frames) (sym (one_more step depth i state now lt e)) ∙ so_far

pub stops : (step : State → Stepped) (depth i : ℕ) (state : State) (stop : Stop) (now : Stepped) (frames more : List ProcessFrame) (whole : ProcessListing) → i < depth → now ≡ step state → now.1 ≡ Err stop
    → more ≡ frames ++ now.0 ∷ [] → IsWalk step (depth - i) state frames whole → record { frames = more; stop = stop } ≡ whole
stops step depth i state stop now frames more whole lt e is grown so_far =
    let later = frames_by step (depth - (i + 1)) in
    ap (λ (fs : List ProcessFrame). record { frames = fs; stop = stop }) grown
    ∙ ap (λ (next : Result State Stop). after_frames frames (behind now.0 (on_from later next))) (sym is)
    ∙ ap (after_frames frames) (sym (one_more step depth i state now lt e)) ∙ so_far

pub ends : (step : State → Stepped) (left : ℕ) (state : State) (frames : List ProcessFrame) (whole : ProcessListing) → left ≡ 0 → IsWalk step left state frames whole
    → record { frames = frames; stop = Depth } ≡ whole
unfolding frames_by
ends step left state frames whole none so_far =
    ap (λ (fs : List ProcessFrame). record { frames = fs; stop = Depth }) (sym (append-nil frames))
    ∙ sym (ap (λ (n : ℕ). after_frames frames (frames_by step n state)) none) ∙ so_far

pub starts : (recover_at : Recovering) (signal_at : ℕ → Option SignalFrame) (thread : ThreadState) (memory : List Region) (depth left : ℕ) (state : State) (frames : List ProcessFrame)
    → left ≡ depth → frames ≡ [] → state ≡ start_of thread → IsWalk (step_at recover_at signal_at thread.mask memory) left state frames (process_walk recover_at signal_at thread memory depth)
unfolding process_walk
starts recover_at signal_at thread memory depth left state frames all none is =
    let step = step_at recover_at signal_at thread.mask memory in
    ap (λ (n : ℕ). after_frames frames (frames_by step n state)) all
    ∙ ap (λ (fs : List ProcessFrame). after_frames fs (frames_by step depth state)) none
    ∙ ap (frames_by step depth) is
