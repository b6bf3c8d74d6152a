-- The frames of a walk, in order.
use Rattle.std.specs.Prelude.{◌++◌}
use Rattle.std.proofs.Common.{◌≡◌, ℕ, suc, ◌+◌, ◌-◌, ◌<◌, List, [], ◌∷◌, Option, Result, Ok, Err, refl, sym, ap, ◌∙◌, arith, append_assoc, append-nil}
use Rattle.sf_model.specs.declared.recovery.Regs.{Regs}
use Rattle.sf_model.specs.declared.walk.Frame.{Frame}
use Rattle.sf_model.specs.declared.walk.Stop.{Stop}
use Rattle.sf_model.specs.declared.walk.Stop.TheVariants.{Depth}
use Rattle.sf_model.specs.Memory.{Region}
use Rattle.sf_model.specs.Walk.{Going, Listing, LookUp, Recovering, ThreadState, address_before, behind, frame_by, frames_from, look_up_walk, recover_by, stopped, walk_by}
use Rattle.core_walk.specs.declared.step.Caller.{Caller}
use Rattle.core_walk.specs.Step.{Steps, on_with}

-- frames before a listing
abbrev pub after_frames : List Frame → Listing → Listing
after_frames frames listing = record { frames = frames ++ listing.frames; stop = listing.stop }

-- the frames so far, and those from here on, are the walk
abbrev pub IsWalk : Recovering → Option ℕ → (left asked : ℕ) → Caller → List Frame → (whole : Listing) → Type 0
IsWalk recovering mask left asked at frames whole = after_frames frames (frames_from recovering mask left asked at.pc at.regs) ≡ whole

frames-zero : (recovering : Recovering) (mask : Option ℕ) (asked pc : ℕ) (regs : Regs) → frames_from recovering mask 0 asked pc regs ≡ stopped Depth
unfolding frames_from
frames-zero recovering mask asked pc regs = refl

-- how the walk goes on with at most `left` further frames
abbrev onward : Recovering → Option ℕ → ℕ → Going
onward recovering mask left = λ next. frames_from recovering mask left (address_before next) next

frames-suc : (recovering : Recovering) (mask : Option ℕ) (left asked pc : ℕ) (regs : Regs)
    → frames_from recovering mask (suc left) asked pc regs ≡ frame_by (onward recovering mask left) mask asked pc (recovering asked regs)
unfolding frames_from
frames-suc recovering mask left asked pc regs = refl

one_more : (recovering : Recovering) (mask : Option ℕ) (depth i asked : ℕ) (at : Caller) (frame : Frame) (next : Result Caller Stop) → i < depth → Steps recovering mask asked at frame next
    → frames_from recovering mask (depth - i) asked at.pc at.regs ≡ behind frame (on_with (onward recovering mask (depth - (i + 1))) next)
one_more recovering mask depth i asked at frame next lt h =
    let left : depth - i ≡ suc (depth - (i + 1)) = omega (lt, arith) in
    ap (λ (n : ℕ). frames_from recovering mask n asked at.pc at.regs) left ∙ frames-suc recovering mask (depth - (i + 1)) asked at.pc at.regs ∙ h (onward recovering mask (depth - (i + 1)))

-- one more frame
joined : (frames : List Frame) (frame : Frame) (listing : Listing) → after_frames (frames ++ frame ∷ []) listing ≡ after_frames frames (behind frame listing)
joined frames frame listing = ap (λ (fs : List Frame). record { frames = fs; stop = listing.stop }) (append_assoc frames (frame ∷ []) listing.frames)

pub goes_on : (recovering : Recovering) (mask : Option ℕ) (depth i asked : ℕ) (at caller : Caller) (frames more : List Frame) (frame : Frame) (whole : Listing) → i < depth
    → Steps recovering mask asked at frame (Ok caller) → more ≡ frames ++ frame ∷ [] → IsWalk recovering mask (depth - i) asked at frames whole
    → IsWalk recovering mask (depth - (i + 1)) (address_before caller.pc) caller more whole
goes_on recovering mask depth i asked at caller frames more frame whole lt h e so_far =
    let later = frames_from recovering mask (depth - (i + 1)) (address_before caller.pc) caller.pc caller.regs in
    ap (λ (fs : List Frame). after_frames fs later) e ∙ joined frames frame later
    ∙ ap (after_frames frames) (sym (one_more recovering mask depth i asked at frame (Ok caller) lt h)) ∙ so_far

pub stops : (recovering : Recovering) (mask : Option ℕ) (depth i asked : ℕ) (at : Caller) (frames more : List Frame) (frame : Frame) (stop : Stop) (whole : Listing) → i < depth
    → Steps recovering mask asked at frame (Err stop) → more ≡ frames ++ frame ∷ [] → IsWalk recovering mask (depth - i) asked at frames whole
    → after_frames more (stopped stop) ≡ whole
stops recovering mask depth i asked at frames more frame stop whole lt h e so_far =
    ap (λ (fs : List Frame). after_frames fs (stopped stop)) e ∙ joined frames frame (stopped stop)
    ∙ ap (after_frames frames) (sym (one_more recovering mask depth i asked at frame (Err stop) lt h)) ∙ so_far

pub ends : (recovering : Recovering) (mask : Option ℕ) (left asked : ℕ) (at : Caller) (frames : List Frame) (whole : Listing) → left ≡ 0 → IsWalk recovering mask left asked at frames whole
    → after_frames frames (stopped Depth) ≡ whole
ends recovering mask left asked at frames whole none so_far =
    ap (after_frames frames) (sym (ap (λ (n : ℕ). frames_from recovering mask n asked at.pc at.regs) none ∙ frames-zero recovering mask asked at.pc at.regs)) ∙ so_far

pub starts : (look_up : LookUp) (thread : ThreadState) (memory : List Region) (depth left : ℕ) (frames : List Frame) → left ≡ depth → frames ≡ []
    → IsWalk (recover_by look_up memory) thread.mask left thread.pc (record { pc = thread.pc; regs = thread.regs }) frames (look_up_walk look_up thread memory depth)
unfolding walk_by
starts look_up thread memory depth left frames all none =
    ap (λ (n : ℕ). after_frames frames (frames_from (recover_by look_up memory) thread.mask n thread.pc thread.pc thread.regs)) all
    ∙ ap (λ (fs : List Frame). after_frames fs (frames_from (recover_by look_up memory) thread.mask depth thread.pc thread.pc thread.regs)) none

-- frames and a stop, as frames before nothing
pub whole_list : (frames : List Frame) (stop : Stop) (whole : Listing) → after_frames frames (stopped stop) ≡ whole → record { frames = frames; stop = stop } ≡ whole
whole_list frames stop whole e = ap (λ (fs : List Frame). record { frames = fs; stop = stop }) (sym (append-nil frames)) ∙ e
