-- Walks that go on: one after another, and beside the walk that stops at a frame pointer that can't be read, or without a mask at a signed row.
use Rattle.std.specs.Option.{option_map}
use Rattle.std.specs.Prelude.{ℤ, nat_lt}
use Rattle.std.proofs.lemmas.Bool.{ltb-true}
use Rattle.std.proofs.Common.{◌≡◌, ℕ, zero, suc, ◌+◌, ◌^◌, ◌<◌, ◌⊎◌, Bool, true, false, Option, Some, None, List, [], ◌∷◌, Result, Ok, Err, inl, inr, refl, sym, ap, subst, ◌∙◌, arith}
use Rattle.sf_model.specs.declared.recovery.Regs.{Regs}
use Rattle.sf_model.specs.declared.content.Content.{Content}
use Rattle.sf_model.specs.declared.content.Ra.{Ra}
use Rattle.sf_model.specs.declared.content.Ra.TheVariants.{Fixed, Link, At}
use Rattle.sf_model.specs.declared.machine.Base.{Base}
use Rattle.sf_model.specs.declared.machine.Base.TheVariants.{Fp, Sp}
use Rattle.sf_model.specs.declared.machine.Key.{Key}
use Rattle.sf_model.specs.declared.walk.Frame.{Frame}
use Rattle.sf_model.specs.declared.walk.Stop.{Stop}
use Rattle.sf_model.specs.Memory.{Region, read_eight}
use Rattle.sf_model.specs.Recovery as model
use Rattle.sf_model.specs.Recovery.{Recovery, base_value, frame_address_of, key_if_signed, moved, pointer_place, recovery, return_place, saved_or_kept}
use Rattle.sf_model.specs.Lookup.{FoundRow}
use Rattle.sf_model.specs.Walk.{Going, Listing, LookUp, address_before, behind, frame_by, frames_from, on_by, on_by_address, on_by_pointer, recover_by, stopped, unsigned_address, walk_by}
use Rattle.sample_walk.specs.declared.state.State.{State}
use Rattle.sample_walk.specs.declared.state.Value.{Value}
use Rattle.sample_walk.specs.declared.state.Value.TheVariants.{Known}
use Rattle.sample_walk.specs.Step.{asked_by, base_register, by_address, by_base, by_return, restored_value, content_rule, saved_return, value_read, step_by}
use Rattle.sample_walk.specs.Signature.{in_address_space, unsigned_by}
use Rattle.sample_walk.specs.Onward.{GoesOnFromItsState, GoesOnBeside, GoesOnPastStops, GoesPast, Place, Stepping, Walked, and_then, from_frame, listing_of, stepping, then_from, walk_on}

-- ---- one walk after another
pub walk-zero : (step : Stepping) (at : State) → walk_on step 0 at ≡ record { places = []; stop = None; at = at }
unfolding walk_on
walk-zero step at = refl

pub walk-suc : (step : Stepping) (n : ℕ) (at : State) → walk_on step (suc n) at ≡ from_frame (walk_on step n) at (step at).0 (step at).1
unfolding walk_on
walk-suc step n at = refl

joined_end : (place : Place) (places : List Place) (stop : Option Stop) (at : State) (go : State → Walked)
    → record { places = place ∷ (then_from places stop at go).places; stop = (then_from places stop at go).stop; at = (then_from places stop at go).at } ≡ then_from (place ∷ places) stop at go
joined_end place places None at go = refl
joined_end place places (Some stop) at go = refl

joined_step : (at : State) (frame : Frame) (next : Result State Stop) (once then both : State → Walked) → ((s : State) → both s ≡ and_then (once s) then)
    → from_frame both at frame next ≡ and_then (from_frame once at frame next) then
joined_step at frame (Ok caller) once then both h =
    ap (λ (w : Walked). record { places = record { at = at; frame = frame } ∷ w.places; stop = w.stop; at = w.at }) (h caller)
    ∙ joined_end (record { at = at; frame = frame }) (once caller).places (once caller).stop (once caller).at then
joined_step at frame (Err stop) once then both h = refl

pub from_state : GoesOnFromItsState
from_state step zero m at =
    let n : zero + m ≡ m = omega arith in
    ap (λ (k : ℕ). walk_on step k at) n ∙ ap (λ (w : Walked). and_then w (walk_on step m)) (sym (walk-zero step at))
from_state step (suc n) m at =
    let more : suc n + m ≡ suc (n + m) = omega arith in
    ap (λ (k : ℕ). walk_on step k at) more ∙ walk-suc step (n + m) at
    ∙ joined_step at (step at).0 (step at).1 (walk_on step n) (walk_on step m) (walk_on step (n + m)) (from_state step n m)
    ∙ ap (λ (w : Walked). and_then w (walk_on step m)) (sym (walk-suc step n at))

-- ---- beside the walk that stops there
-- the state of a program counter and registers that are known
abbrev state_of : (returned : Bool) → (pc : ℕ) → Regs → State
state_of returned pc regs = record { pc = pc; sp = regs.sp; fp = Known regs.fp; lr = regs.lr; returned = returned }

one_before : (mask : Option ℕ) (frame : Frame) (on once : Listing) → GoesOnBeside mask on once → GoesOnBeside mask (behind frame on) (behind frame once)
one_before mask frame on once (inl e) = inl (ap (behind frame) e)
one_before mask frame on once (inr h) = inr (h.0, (h.1.0, ap (λ (fs : List Frame). frame ∷ fs) h.1.1))

-- both walks go on alike after a frame
abbrev Alike : (mask : Option ℕ) → (State → Walked) → Going → Type 0
Alike mask on once = (pc : ℕ) (regs : Regs) → GoesOnBeside mask (listing_of (on (state_of true pc regs))) (once pc regs)

-- both walks have the same return address; or one alone has it, since it is in the address space and there is no mask
abbrev AreUnsigned : (mask : Option ℕ) → (address : ℕ) → (on once : Option ℕ) → Type 0
AreUnsigned mask address on once = (on ≡ once) ⊎ ((once ≡ None) × ((mask ≡ None) × (address < 2 ^ 48)))

without_mask : (address : ℕ) (within : Bool) → nat_lt address (2 ^ 48) ≡ within → AreUnsigned None address (in_address_space address) None
without_mask address true e = inr (refl, (refl, ltb-true address (2 ^ 48) e))
without_mask address false e = inl (rw e refl)

are_unsigned : (signed : Bool) (key : Key) (mask : Option ℕ) (address : ℕ) → AreUnsigned mask address (unsigned_by signed mask address) (unsigned_address (key_if_signed signed key) mask address)
are_unsigned true key None address = without_mask address (nat_lt address (2 ^ 48)) refl
are_unsigned true key (Some mask) address = inl refl
are_unsigned false key mask address = inl refl

by_same : (mask : Option ℕ) (on : State → Walked) (once : Going) → Alike mask on once → (at : State) (frame : Frame) (base fp address : ℕ) (unsigned : Option ℕ)
    → GoesOnBeside mask (listing_of (from_frame on at frame (by_address base (Known fp) address unsigned))) (behind frame (on_by_address once base fp address unsigned))
by_same mask on once alike at frame base fp address (Some pc) =
    let regs : Regs = record { sp = base; fp = fp; lr = address } in one_before mask frame (listing_of (on (state_of true pc regs))) (once pc regs) (alike pc regs)
by_same mask on once alike at frame base fp address None = inl refl

-- that walk stops, and this one lists the frame and what follows
stopped_there : (mask : Option ℕ) (on : State → Walked) (at : State) (frame : Frame) (base : ℕ) (fp : Value) (address : ℕ) (unsigned : Option ℕ) (stop : Stop) → GoesPast mask stop
    → GoesOnBeside mask (listing_of (from_frame on at frame (by_address base fp address unsigned))) (behind frame (stopped stop))
stopped_there mask on at frame base fp address (Some pc) stop past =
    let caller : State = record { pc = pc; sp = base; fp = fp; lr = address; returned = true } in inr (past, ((listing_of (on caller)).frames, refl))
stopped_there mask on at frame base fp address None stop past = inr (past, ([], refl))

by_unsigned : (mask : Option ℕ) (on : State → Walked) (once : Going) → Alike mask on once → (at : State) (frame : Frame) (base fp address : ℕ) (ours theirs : Option ℕ) → AreUnsigned mask address ours theirs
    → GoesOnBeside mask (listing_of (from_frame on at frame (by_address base (Known fp) address ours))) (behind frame (on_by_address once base fp address theirs))
by_unsigned mask on once alike at frame base fp address ours theirs (inl same) =
    subst (λ (o : Option ℕ). GoesOnBeside mask (listing_of (from_frame on at frame (by_address base (Known fp) address ours))) (behind frame (on_by_address once base fp address o))) same
    (by_same mask on once alike at frame base fp address ours)
by_unsigned mask on once alike at frame base fp address ours theirs (inr h) =
    subst (λ (o : Option ℕ). GoesOnBeside mask (listing_of (from_frame on at frame (by_address base (Known fp) address ours))) (behind frame (on_by_address once base fp address o))) (sym h.0)
    (stopped_there mask on at frame base (Known fp) address ours (Stop.Signed address) (inr (address, (refl, h.1))))

by_read : (on : State → Walked) (once : Going) (at : State) (frame : Frame) (base place address : ℕ) (ours : Option ℕ) (r : Recovery) (mask : Option ℕ) (read : Option ℕ) → Alike mask on once
    → AreUnsigned mask address ours (unsigned_address r.signed mask address) → r.stack_pointer ≡ base
    → GoesOnBeside mask (listing_of (from_frame on at frame (by_address base (value_read place read) address ours)))
    (behind frame (on_by_pointer once mask r address (model.saved_value place read)))
by_read on once at frame base place address ours r mask (Some fp) alike e is =
    subst (λ (b : ℕ). GoesOnBeside mask (listing_of (from_frame on at frame (by_address base (Known fp) address ours))) (behind frame (on_by_address once b fp address (unsigned_address r.signed mask address)))) (sym is)
    (by_unsigned mask on once alike at frame base fp address ours (unsigned_address r.signed mask address) e)
by_read on once at frame base place address ours r mask None alike e is =
    stopped_there mask on at frame base (Value.Unreadable place) address ours (Stop.Unreadable place) (inl (place, refl))

by_pointer : (on : State → Walked) (once : Going) (mask : Option ℕ) → Alike mask on once → (memory : List Region) (returned : Bool) (pc : ℕ) (regs : Regs) (content : Content) (key : Key) (address : ℕ) (offset : Option ℤ)
    → content.fp ≡ offset
    → let r = recovery content key regs memory in let base = frame_address_of content regs in let frame : Frame = record { pc = pc; cfa = Some base } in
    GoesOnBeside mask (listing_of (from_frame on (state_of returned pc regs) frame (by_address base (restored_value memory base (Known regs.fp) offset) address (unsigned_by content.signed mask address))))
    (behind frame (on_by_pointer once mask r address (saved_or_kept memory regs.fp (pointer_place offset base))))
unfolding recovery
by_pointer on once mask alike memory returned pc regs content key address (Some o) is =
    let base = frame_address_of content regs in
    by_read on once (state_of returned pc regs) (record { pc = pc; cfa = Some base }) base (moved base o) address (unsigned_by content.signed mask address) (recovery content key regs memory) mask
    (read_eight memory (moved base o)) alike (are_unsigned content.signed key mask address) refl
by_pointer on once mask alike memory returned pc regs content key address None is =
    let base = frame_address_of content regs in
    by_unsigned mask on once alike (state_of returned pc regs) (record { pc = pc; cfa = Some base }) base regs.fp address (unsigned_by content.signed mask address) (unsigned_address (key_if_signed content.signed key) mask address)
    (are_unsigned content.signed key mask address)

-- a return address, as both walks have it
by_known : (on : State → Walked) (once : Going) (mask : Option ℕ) → Alike mask on once → (memory : List Region) (returned : Bool) (pc : ℕ) (regs : Regs) (content : Content) (key : Key) (place : ℕ) (read : Option ℕ)
    → let r = recovery content key regs memory in let base = frame_address_of content regs in let frame : Frame = record { pc = pc; cfa = Some base } in
    GoesOnBeside mask (listing_of (from_frame on (state_of returned pc regs) frame (by_return (content_rule content) mask memory (state_of returned pc regs) base (value_read place read))))
    (behind frame (on_by once mask r (model.saved_value place read)))
unfolding recovery
by_known on once mask alike memory returned pc regs content key place (Some address) = by_pointer on once mask alike memory returned pc regs content key address content.fp refl
by_known on once mask alike memory returned pc regs content key place None = inl refl

by_ra : (on : State → Walked) (once : Going) (mask : Option ℕ) → Alike mask on once → (memory : List Region) (returned : Bool) (pc : ℕ) (regs : Regs) (content : Content) (key : Key) (ra : Ra)
    → let r = recovery content key regs memory in let base = frame_address_of content regs in let frame : Frame = record { pc = pc; cfa = Some base } in
    GoesOnBeside mask (listing_of (from_frame on (state_of returned pc regs) frame (by_return (content_rule content) mask memory (state_of returned pc regs) base (restored_value memory base (Known regs.lr) (saved_return ra)))))
    (behind frame (on_by once mask r (saved_or_kept memory regs.lr (return_place ra base))))
unfolding recovery
by_ra on once mask alike memory returned pc regs content key Fixed = let place = moved (frame_address_of content regs) (Rattle.std.specs.Prelude.negsuc 7) in by_known on once mask alike memory returned pc regs content key place (read_eight memory place)
by_ra on once mask alike memory returned pc regs content key Link = by_pointer on once mask alike memory returned pc regs content key regs.lr content.fp refl
by_ra on once mask alike memory returned pc regs content key (At o) = let place = moved (frame_address_of content regs) o in by_known on once mask alike memory returned pc regs content key place (read_eight memory place)

base_is : (returned : Bool) (pc : ℕ) (regs : Regs) (base : Base) → base_register base (state_of returned pc regs) ≡ Known (base_value base regs)
base_is returned pc regs Fp = refl
base_is returned pc regs Sp = refl

by_row : (on : State → Walked) (once : Going) (mask : Option ℕ) → Alike mask on once → (memory : List Region) (returned : Bool) (pc : ℕ) (regs : Regs) (o : Option FoundRow)
    → let at = state_of returned pc regs in let now = step_by (option_map (λ (found : FoundRow). content_rule found.row.content) o) mask memory at in
    GoesOnBeside mask (listing_of (from_frame on at now.0 now.1))
    (frame_by once mask (asked_by returned pc) pc (option_map (λ (found : FoundRow). recovery found.row.content found.func.key regs memory) o))
unfolding step_by recovery
by_row on once mask alike memory returned pc regs (Some found) =
    let at = state_of returned pc regs in
    let rule = content_rule found.row.content in
    let r = recovery found.row.content found.func.key regs memory in
    subst (λ (v : Value). GoesOnBeside mask (listing_of (from_frame on at (by_base rule mask memory at v).0 (by_base rule mask memory at v).1)) (frame_by once mask (asked_by returned pc) pc (Some r)))
    (sym (base_is returned pc regs found.row.content.base))
    (by_ra on once mask alike memory returned pc regs found.row.content found.func.key found.row.content.ra)
by_row on once mask alike memory returned pc regs None = inl refl

from_any : (look_up : LookUp) (mask : Option ℕ) (memory : List Region) (depth : ℕ) (returned : Bool) (pc : ℕ) (regs : Regs)
    → GoesOnBeside mask (listing_of (walk_on (stepping look_up mask memory) depth (state_of returned pc regs))) (frames_from (recover_by look_up memory) mask depth (asked_by returned pc) pc regs)
unfolding walk_on frames_from
from_any look_up mask memory zero returned pc regs = inl refl
from_any look_up mask memory (suc depth) returned pc regs =
    by_row (walk_on (stepping look_up mask memory) depth) (λ next. frames_from (recover_by look_up memory) mask depth (address_before next) next)
    mask (λ p r. from_any look_up mask memory depth true p r) memory returned pc regs (look_up (asked_by returned pc))

pub past_stops : GoesOnPastStops
unfolding walk_by
past_stops look_up thread memory depth = from_any look_up thread.mask memory depth false thread.pc thread.regs
