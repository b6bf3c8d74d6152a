-- The frames of a walk in a room, in order.
use Rattle.std.specs.Prelude.{◌++◌, map, drop, take}
use Rattle.std.proofs.Common.{◌≡◌, ℕ, ◌+◌, ◌-◌, ◌<◌, ◌≤◌, List, [], ◌∷◌, length, set, Option, Result, Ok, Err, refl, sym, ap, subst, ◌∙◌, arith}
use Rattle.std.proofs.lemmas.List.{drop-drop, drop-set-lt, length-append, length-set, map-append, take-append-drop, take_more_set}
use Rattle.sf_model.specs.declared.recovery.Regs.{Regs}
use Rattle.sf_model.specs.declared.walk.Frame.{Frame}
use Rattle.sf_model.specs.declared.walk.Stop.{Stop}
use Rattle.sf_model.specs.declared.walk.Stop.TheVariants.{Depth}
use Rattle.sf_model.specs.Memory.{Region}
use Rattle.sf_model.specs.Walk.{Listing, LookUp, Recovering, ThreadState, address_before, frames_from, recover_by, stopped, walk_by}
use Rattle.core_walk.specs.declared.step.Caller.{Caller}
use Rattle.core_walk.specs.Step.{Steps}
use Rattle.core_walk.proofs.Frames.{IsWalk, after_frames, ends, goes_on, stops, whole_list}
use Rattle.sf_c.specs.declared.walking.KiblawenFrame.{KiblawenFrame}
use Rattle.sf_c.specs.declared.sample.KiblawenSample.{KiblawenSample}
use Rattle.sf_c.specs.Sample.{mask_of, stack_memory}
use Rattle.sf_c.specs.Walk.{frame_shown, frames_listed}

-- the frames so far are in the room from its first place on, and what comes after them is as it was
pub record Shown (frames : List Frame) (count : ℕ) (now before : List KiblawenFrame) : Type 0 where
  pub as_many : length frames ≡ count
  pub within : count ≤ length before
  pub first : take count now ≡ map frame_shown frames
  pub kept : drop count now ≡ drop count before
  pub room : length now ≡ length before

-- the frames so far are shown, and those from here on are the rest of the walk
pub record Listed (recovering : Recovering) (mask : Option ℕ) (count asked : ℕ) (at : Caller) (now before : List KiblawenFrame) (whole : Listing) : Type 0 where
  pub frames : List Frame
  pub walk : IsWalk recovering mask (length before - count) asked at frames whole
  pub shown : Shown frames count now before

later_kept : (n : ℕ) (now before : List KiblawenFrame) → drop n now ≡ drop n before → drop (n + 1) now ≡ drop (n + 1) before
later_kept n now before e = sym (drop-drop 1 n now) ∙ ap (drop 1) e ∙ drop-drop 1 n before

-- one more frame is shown
pub one_more : (frames : List Frame) (frame : Frame) (count : ℕ) (now before : List KiblawenFrame) (x : KiblawenFrame) → count < length before → x ≡ frame_shown frame
    → Shown frames count now before → Shown (frames ++ frame ∷ []) (count + 1) (set now count x) before
one_more frames frame count now before x lt e h = record {
  as_many = let more = length-append frames (frame ∷ []) in omega (more, h.as_many, arith);
  within = omega (lt, arith);
  first = take_more_set now count x (omega (lt, h.room, arith)) ∙ ap (λ (xs : List KiblawenFrame). xs ++ x ∷ []) h.first
      ∙ ap (λ (y : KiblawenFrame). map frame_shown frames ++ y ∷ []) e ∙ sym (map-append frame_shown frames (frame ∷ []));
  kept = drop-set-lt (count + 1) now count x (omega arith) ∙ later_kept count now before h.kept;
  room = length-set now count x ∙ h.room;
}

-- nothing is shown at first
pub none_shown : (before : List KiblawenFrame) → Shown [] 0 before before
none_shown before = record { as_many = refl; within = omega arith; first = refl; kept = refl; room = refl }

-- all frames of a walk are shown
pub all_shown : (frames : List Frame) (count : ℕ) (now before : List KiblawenFrame) (whole : Listing) → whole.frames ≡ frames → Shown frames count now before → now ≡ frames_listed whole.frames before
all_shown frames count now before whole e h =
    sym (take-append-drop count now) ∙ ap (λ (xs : List KiblawenFrame). xs ++ drop count now) h.first
    ∙ ap (λ (xs : List KiblawenFrame). map frame_shown frames ++ xs) h.kept
    ∙ ap (λ (n : ℕ). map frame_shown frames ++ drop n before) (sym h.as_many)
    ∙ ap (λ (fs : List Frame). frames_listed fs before) (sym e)

-- ---- the walk, from its first frame to its stop
pub begins : (recovering : Recovering) (thread : ThreadState) (before : List KiblawenFrame) (regs : Regs) → regs ≡ thread.regs
    → Listed recovering thread.mask 0 thread.pc (record { pc = thread.pc; regs = regs }) before before (walk_by recovering thread (length before))
unfolding walk_by
begins recovering thread before regs same = record {
  frames = [];
  walk = ap (λ (n : ℕ). frames_from recovering thread.mask n thread.pc thread.pc regs) (omega arith)
      ∙ ap (λ (r : Regs). frames_from recovering thread.mask (length before) thread.pc thread.pc r) same;
  shown = none_shown before;
}

-- a step by what a sample is read as
of_sample : (look_up : LookUp) (sample : KiblawenSample) (memory : List Region) (mask : Option ℕ) (asked : ℕ) (at : Caller) (frame : Frame) (next so : Result Caller Stop)
    → memory ≡ stack_memory sample → mask ≡ mask_of sample → next ≡ so → Steps (recover_by look_up memory) mask asked at frame next
    → Steps (recover_by look_up (stack_memory sample)) (mask_of sample) asked at frame so
of_sample look_up sample memory mask asked at frame next so m k e step =
    subst (λ (n : Result Caller Stop). Steps (recover_by look_up (stack_memory sample)) (mask_of sample) asked at frame n) e
    (subst (λ (o : Option ℕ). Steps (recover_by look_up (stack_memory sample)) o asked at frame next) k
    (subst (λ (r : List Region). Steps (recover_by look_up r) mask asked at frame next) m step))

pub goes : (look_up : LookUp) (sample : KiblawenSample) {memory : List Region} {mask : Option ℕ} {count asked next : ℕ} {at caller : Caller} {now before : List KiblawenFrame} {frame : Frame} {x : KiblawenFrame} {so : Result Caller Stop} {whole : Listing}
    → count < length before → next ≡ address_before caller.pc → memory ≡ stack_memory sample → mask ≡ mask_of sample → so ≡ Ok caller → Steps (recover_by look_up memory) mask asked at frame so → x ≡ frame_shown frame
    → Listed (recover_by look_up (stack_memory sample)) (mask_of sample) count asked at now before whole
    → Listed (recover_by look_up (stack_memory sample)) (mask_of sample) (count + 1) next caller (set now count x) before whole
goes look_up sample {memory} {mask} {count} {asked} {next} {at} {caller} {now} {before} {frame} {x} {so} {whole} lt before_it m k is step e h =
    let recovering = recover_by look_up (stack_memory sample) in
    let taken = of_sample look_up sample memory mask asked at frame so (Ok caller) m k is step in
    subst (λ (n : ℕ). Listed recovering (mask_of sample) (count + 1) n caller (set now count x) before whole) (sym before_it) (record {
      frames = h.frames ++ frame ∷ [];
      walk = goes_on recovering (mask_of sample) (length before) count asked at caller h.frames (h.frames ++ frame ∷ []) frame whole lt taken refl h.walk;
      shown = one_more h.frames frame count now before x lt e h.shown;
    })

-- what a walk that stopped has in the room, and how many frames it has
pub record Stopped (stop : Stop) (count : ℕ) (now before : List KiblawenFrame) (whole : Listing) : Type 0 where
  pub room : now ≡ frames_listed whole.frames before
  pub frames : count ≡ length whole.frames
  pub reason : stop ≡ whole.stop

stopped_with : (frames : List Frame) (stop : Stop) (count : ℕ) (now before : List KiblawenFrame) (whole : Listing) → after_frames frames (stopped stop) ≡ whole → Shown frames count now before
    → Stopped stop count now before whole
stopped_with frames stop count now before whole e h =
    let same : record { frames = frames; stop = stop } ≡ whole = whole_list frames stop whole e in
    record {
      room = all_shown frames count now before whole (sym (ap (λ (l : Listing). l.frames) same)) h;
      frames = sym h.as_many ∙ ap (λ (l : Listing). length l.frames) same;
      reason = ap (λ (l : Listing). l.stop) same;
    }

pub halts : (look_up : LookUp) (sample : KiblawenSample) {memory : List Region} {mask : Option ℕ} {count asked : ℕ} {at : Caller} {now before : List KiblawenFrame} {frame : Frame} {x : KiblawenFrame} {so : Result Caller Stop} {stop : Stop} {whole : Listing}
    → count < length before → memory ≡ stack_memory sample → mask ≡ mask_of sample → so ≡ Err stop → Steps (recover_by look_up memory) mask asked at frame so → x ≡ frame_shown frame
    → Listed (recover_by look_up (stack_memory sample)) (mask_of sample) count asked at now before whole
    → Stopped stop (count + 1) (set now count x) before whole
halts look_up sample {memory} {mask} {count} {asked} {at} {now} {before} {frame} {x} {so} {stop} {whole} lt m k is step e h =
    let recovering = recover_by look_up (stack_memory sample) in
    let taken = of_sample look_up sample memory mask asked at frame so (Err stop) m k is step in
    stopped_with (h.frames ++ frame ∷ []) stop (count + 1) (set now count x) before whole
    (stops recovering (mask_of sample) (length before) count asked at h.frames (h.frames ++ frame ∷ []) frame stop whole lt taken refl h.walk)
    (one_more h.frames frame count now before x lt e h.shown)

-- the room is full, and then it has as many places as frames were listed
pub record Full (count : ℕ) (now before : List KiblawenFrame) (whole : Listing) : Type 0 where
  pub room : now ≡ frames_listed whole.frames before
  pub frames : length now ≡ length whole.frames
  pub reason : Depth ≡ whole.stop

pub fills : {recovering : Recovering} {mask : Option ℕ} {count asked : ℕ} {at : Caller} {now before : List KiblawenFrame} {whole : Listing} → length before ≤ count
    → Listed recovering mask count asked at now before whole → Full count now before whole
fills {recovering} {mask} {count} {asked} {at} {now} {before} {whole} none h =
    let end = stopped_with h.frames Depth count now before whole (ends recovering mask (length before - count) asked at h.frames whole (omega (none, h.shown.within, arith)) h.walk) h.shown in
    record { room = end.room; frames = omega (none, h.shown.within, h.shown.room, end.frames, arith); reason = end.reason }
