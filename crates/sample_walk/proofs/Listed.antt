-- The frames of a walk in a room, in order.
use Rattle.std.specs.Prelude.{◌++◌, map, drop, take}
use Rattle.std.proofs.Common.{◌≡◌, ℕ, suc, ◌+◌, ◌-◌, ◌<◌, ◌≤◌, List, [], ◌∷◌, length, set, Option, Some, None, Result, Ok, Err, refl, sym, ap, ◌∙◌, arith, append_assoc, append-nil}
use Rattle.std.proofs.lemmas.List.{drop-drop, drop-set-lt, length-append, length-set, map-append, take-append-drop, take_more_set}
use Rattle.sf_model.specs.declared.walk.Frame.{Frame}
use Rattle.sf_model.specs.declared.walk.Stop.{Stop}
use Rattle.sf_model.specs.Memory.{Region}
use Rattle.sf_model.specs.Walk.{LookUp}
use Rattle.sample_walk.specs.declared.state.State.{State}
use Rattle.sample_walk.specs.declared.modules.Located.{Located}
use Rattle.sample_walk.specs.declared.walking.ModuleFrame.{ModuleFrame}
use Rattle.sample_walk.specs.Cache.{located_by}
use Rattle.sample_walk.specs.Step.{Stepped, asked_at, step_by}
use Rattle.sample_walk.specs.Onward.{Place, Stepping, Walked, from_frame, stepping, walk_on}
use Rattle.sample_walk.specs.Room.{walk_end, module_frame, places_listed, place_frame}
use Rattle.sample_walk.proofs.Going.{walk-suc, walk-zero}

-- the frames so far are in the room from its first place on, and what comes after them is as it was
pub record Shown (index : ℕ → ℕ) (places : List Place) (count : ℕ) (now before : List ModuleFrame) : Type 0 where
  pub as_many : length places ≡ count
  pub within : count ≤ length before
  pub first : take count now ≡ map (place_frame index) places
  pub kept : drop count now ≡ drop count before
  pub room : length now ≡ length before

later_kept : (n : ℕ) (now before : List ModuleFrame) → drop n now ≡ drop n before → drop (n + 1) now ≡ drop (n + 1) before
later_kept n now before e = sym (drop-drop 1 n now) ∙ ap (drop 1) e ∙ drop-drop 1 n before

one_more : (index : ℕ → ℕ) (places : List Place) (place : Place) (count : ℕ) (now before : List ModuleFrame) (x : ModuleFrame) → count < length before → x ≡ place_frame index place
    → Shown index places count now before → Shown index (places ++ place ∷ []) (count + 1) (set now count x) before
one_more index places place count now before x lt e h = record {
  as_many = let more = length-append places (place ∷ []) in omega (more, h.as_many, arith);
  within = omega (lt, arith);
  first = take_more_set now count x (omega (lt, h.room, arith)) ∙ ap (λ (xs : List ModuleFrame). xs ++ x ∷ []) h.first
      ∙ ap (λ (y : ModuleFrame). map (place_frame index) places ++ y ∷ []) e ∙ sym (map-append (place_frame index) places (place ∷ []));
  kept = drop-set-lt (count + 1) now count x (omega arith) ∙ later_kept count now before h.kept;
  room = length-set now count x ∙ h.room;
}

all_shown : (index : ℕ → ℕ) (places : List Place) (count : ℕ) (now before : List ModuleFrame) → Shown index places count now before → now ≡ places_listed index places before
all_shown index places count now before h =
    sym (take-append-drop count now) ∙ ap (λ (xs : List ModuleFrame). xs ++ drop count now) h.first
    ∙ ap (λ (xs : List ModuleFrame). map (place_frame index) places ++ xs) h.kept
    ∙ ap (λ (n : ℕ). map (place_frame index) places ++ drop n before) (sym h.as_many)

-- ---- the walk, from its first frame to its end
abbrev pub after_places : List Place → Walked → Walked
after_places places walk = record { places = places ++ walk.places; stop = walk.stop; at = walk.at }

-- the frames so far are shown, and those from here on are the rest of the walk
pub record Listed (index : ℕ → ℕ) (step : Stepping) (count : ℕ) (at : State) (now before : List ModuleFrame) (whole : Walked) : Type 0 where
  pub places : List Place
  pub walk : after_places places (walk_on step (length before - count) at) ≡ whole
  pub shown : Shown index places count now before

pub begins : (index : ℕ → ℕ) (step : Stepping) (at : State) (before : List ModuleFrame) → Listed index step 0 at before before (walk_on step (length before) at)
begins index step at before = record {
  places = [];
  walk = ap (λ (n : ℕ). walk_on step n at) (omega arith);
  shown = record { as_many = refl; within = omega arith; first = refl; kept = refl; room = refl };
}

stepped : (step : Stepping) (all count : ℕ) (at : State) (frame : Frame) (next : Result State Stop) → count < all → (frame, next) ≡ step at
    → walk_on step (all - count) at ≡ from_frame (walk_on step (all - (count + 1))) at frame next
stepped step all count at frame next lt e =
    let left : all - count ≡ suc (all - (count + 1)) = omega (lt, arith) in
    ap (λ (n : ℕ). walk_on step n at) left ∙ walk-suc step (all - (count + 1)) at
    ∙ ap (λ (s : Stepped). from_frame (walk_on step (all - (count + 1))) at s.0 s.1) (sym e)

joined : (places : List Place) (place : Place) (walk : Walked)
    → after_places (places ++ place ∷ []) walk ≡ after_places places (record { places = place ∷ walk.places; stop = walk.stop; at = walk.at })
joined places place walk = ap (λ (ps : List Place). record { places = ps; stop = walk.stop; at = walk.at }) (append_assoc places (place ∷ []) walk.places)

-- a step of the walk, and the frame that is shown of it
pub record Taken (index : ℕ → ℕ) (step : Stepping) (at : State) (frame : Frame) (next : Result State Stop) (x : ModuleFrame) : Type 0 where
  pub steps : (frame, next) ≡ step at
  pub shows : x ≡ place_frame index (record { at = at; frame = frame })

pub taken : (look_up : LookUp) (index : ℕ → ℕ) (mask : Option ℕ) (memory : List Region) {asked : ℕ} {at : State} {found : Located} {now : Stepped} {next : Result State Stop} {x : ModuleFrame}
    → asked ≡ asked_at at → found ≡ located_by look_up index asked → now ≡ step_by found.rule mask memory at → x ≡ module_frame now.0 found.index → now.1 ≡ next
    → Taken index (stepping look_up mask memory) at now.0 next x
taken look_up index mask memory {asked} {at} {found} {now} {next} {x} a f s e is = record {
  steps = ap (λ (n : Result State Stop). record { 0 = now.0; 1 = n }) (sym is) ∙ s
      ∙ ap (λ (l : Located). step_by l.rule mask memory at) (f ∙ ap (located_by look_up index) a);
  shows = e ∙ ap (λ (l : Located). module_frame now.0 l.index) (f ∙ ap (located_by look_up index) a);
}

pub goes : {index : ℕ → ℕ} {step : Stepping} {count : ℕ} {at caller : State} {now before : List ModuleFrame} {frame : Frame} {x : ModuleFrame} {whole : Walked}
    → count < length before → Taken index step at frame (Ok caller) x → Listed index step count at now before whole → Listed index step (count + 1) caller (set now count x) before whole
goes {index} {step} {count} {at} {caller} {now} {before} {frame} {x} {whole} lt t h =
    let place : Place = record { at = at; frame = frame } in
    record {
      places = h.places ++ place ∷ [];
      walk = joined h.places place (walk_on step (length before - (count + 1)) caller)
          ∙ ap (after_places h.places) (sym (stepped step (length before) count at frame (Ok caller) lt t.steps)) ∙ h.walk;
      shown = one_more index h.places place count now before x lt t.shows h.shown;
    }

-- what a walk that ended has in the room, and how it ended
pub record Finished (index : ℕ → ℕ) (stop : Option Stop) (at : State) (count : ℕ) (now before : List ModuleFrame) (whole : Walked) : Type 0 where
  pub room : now ≡ places_listed index whole.places before
  pub end : record { count = count; stop = stop; at = at } ≡ walk_end whole

finished_with : (index : ℕ → ℕ) (places : List Place) (stop : Option Stop) (at : State) (count : ℕ) (now before : List ModuleFrame) (whole : Walked)
    → after_places places (record { places = []; stop = stop; at = at }) ≡ whole → Shown index places count now before → Finished index stop at count now before whole
finished_with index places stop at count now before whole e h =
    let same : record { places = places; stop = stop; at = at } ≡ whole =
    ap (λ (ps : List Place). record { places = ps; stop = stop; at = at }) (sym (append-nil places)) ∙ e in
    record {
      room = all_shown index places count now before h ∙ ap (λ (w : Walked). places_listed index w.places before) same;
      end = ap (λ (n : ℕ). record { count = n; stop = stop; at = at }) (sym h.as_many) ∙ ap walk_end same;
    }

pub halts : {index : ℕ → ℕ} {step : Stepping} {count : ℕ} {at : State} {now before : List ModuleFrame} {frame : Frame} {x : ModuleFrame} {stop : Stop} {whole : Walked}
    → count < length before → Taken index step at frame (Err stop) x → Listed index step count at now before whole → Finished index (Some stop) at (count + 1) (set now count x) before whole
halts {index} {step} {count} {at} {now} {before} {frame} {x} {stop} {whole} lt t h =
    let place : Place = record { at = at; frame = frame } in
    finished_with index (h.places ++ place ∷ []) (Some stop) at (count + 1) (set now count x) before whole
    (joined h.places place (record { places = []; stop = Some stop; at = at })
    ∙ ap (after_places h.places) (sym (stepped step (length before) count at frame (Err stop) lt t.steps)) ∙ h.walk)
    (one_more index h.places place count now before x lt t.shows h.shown)

pub fills : {index : ℕ → ℕ} {step : Stepping} {count : ℕ} {at : State} {now before : List ModuleFrame} {whole : Walked} → length before ≤ count
    → Listed index step count at now before whole → Finished index None at (length now) now before whole
fills {index} {step} {count} {at} {now} {before} {whole} none h =
    let left : length before - count ≡ 0 = omega (none, arith) in
    let all : count ≡ length now = omega (none, h.shown.within, h.shown.room, arith) in
    let done = finished_with index h.places None at count now before whole
    (ap (after_places h.places) (sym (ap (λ (n : ℕ). walk_on step n at) left ∙ walk-zero step at)) ∙ h.walk) h.shown in
    record { room = done.room; end = ap (λ (n : ℕ). record { count = n; stop = None; at = at }) (sym all) ∙ done.end }
