-- Frames that a walk by a part of a memory lists are the first frames of the walk by the whole.
use Rattle.std.specs.Option.{option_map}
use Rattle.std.specs.Prelude.{ℤ, negsuc, nat_lt, drop, map, take}
use Rattle.std.proofs.lemmas.Bool.{ltb-true}
use Rattle.std.proofs.lemmas.List.{length-map}
use Rattle.std.proofs.Math.Seq.{take-append_seam}
use Rattle.std.proofs.Common.{◌≡◌, ℕ, zero, suc, ◌^◌, ◌≤◌, ◌<◌, ◌⊎◌, Bool, true, false, Option, Some, None, List, [], ◌∷◌, length, Result, Ok, Err, inl, inr, refl, sym, ap, subst, ◌∙◌, arith}
use Rattle.sf_model.specs.declared.recovery.Regs.{Regs}
use Rattle.sf_model.specs.declared.content.Content.{Content}
use Rattle.sf_model.specs.declared.content.Ra.{Ra}
use Rattle.sf_model.specs.declared.content.Ra.TheVariants.{Fixed, Link, At}
use Rattle.sf_model.specs.declared.machine.Base.{Base}
use Rattle.sf_model.specs.declared.machine.Base.TheVariants.{Fp, Sp}
use Rattle.sf_model.specs.declared.machine.Key.{Key}
use Rattle.sf_model.specs.declared.walk.Frame.{Frame}
use Rattle.sf_model.specs.declared.walk.Stop.{Stop}
use Rattle.sf_model.specs.Memory.{Region, read_eight}
use Rattle.sf_model.specs.Recovery as model
use Rattle.sf_model.specs.Recovery.{Recovery, base_value, frame_address_of, key_if_signed, known, moved, pointer_place, recovery, return_place, saved_or_kept, saved_value}
use Rattle.sf_model.specs.Lookup.{FoundRow}
use Rattle.sf_model.specs.Walk.{Going, Listing, LookUp, address_before, behind, frame_by, frames_from, on_by, on_by_address, on_by_pointer, recover_by, unsigned_address, walk_by}
use Rattle.sample_walk.specs.declared.state.State.{State}
use Rattle.sample_walk.specs.declared.state.Value.{Value}
use Rattle.sample_walk.specs.declared.state.Value.TheVariants.{Known}
use Rattle.sample_walk.specs.declared.walking.Ended.{Ended}
use Rattle.sample_walk.specs.declared.walking.ModuleFrame.{ModuleFrame}
use Rattle.sample_walk.specs.Step.{asked_at, base_register, by_address, by_base, by_return, content_rule, restored_value, saved_return, step_by, value_read}
use Rattle.sample_walk.specs.Signature.{in_address_space, unsigned_by}
use Rattle.sample_walk.specs.Onward.{Place, Walked, from_frame, initial_state, stepping, walk_on}
use Rattle.sample_walk.specs.Room.{place_frame, places_listed}
use Rattle.sample_walk.specs.PartWalk.{AreFirst, AreFirstByEachWhole, AreFirstOf, IsMaskOf, IsPartOf, ListsFirstFrames, value_by, walk_from}
use Rattle.sample_walk.proofs.Listed.{Finished}

-- ---- values by the part and by the whole
-- a value by the part, and what the whole recovers for it: they are the same, if the whole can read what the part can't
abbrev Fits : (whole : List Region) → Value → model.Value → Type 0
Fits whole ours theirs = known theirs ≡ value_by whole ours

known_saved : (place : ℕ) (read : Option ℕ) → known (saved_value place read) ≡ read
known_saved place (Some value) = refl
known_saved place None = refl

read_fits : (part whole : List Region) → IsPartOf part whole → (place : ℕ) (read : Option ℕ) → read_eight part place ≡ read → Fits whole (value_read place read) (saved_value place (read_eight whole place))
read_fits part whole is place (Some value) e = known_saved place (read_eight whole place) ∙ is place value e
read_fits part whole is place None e = known_saved place (read_eight whole place)

saved_fits : (part whole : List Region) → IsPartOf part whole → (place : ℕ) → Fits whole (value_read place (read_eight part place)) (saved_value place (read_eight whole place))
saved_fits part whole is place = read_fits part whole is place (read_eight part place) refl

pointer_fits : (part whole : List Region) → IsPartOf part whole → (base frame_pointer : ℕ) (present : Value) → value_by whole present ≡ Some frame_pointer → (offset : Option ℤ)
    → Fits whole (restored_value part base present offset) (saved_or_kept whole frame_pointer (pointer_place offset base))
pointer_fits part whole is base frame_pointer present e (Some offset) = saved_fits part whole is (moved base offset)
pointer_fits part whole is base frame_pointer present e None = sym e

return_fits : (part whole : List Region) → IsPartOf part whole → (base lr : ℕ) (ra : Ra) → Fits whole (restored_value part base (Known lr) (saved_return ra)) (saved_or_kept whole lr (return_place ra base))
return_fits part whole is base lr Fixed = saved_fits part whole is (moved base (negsuc 7))
return_fits part whole is base lr Link = refl
return_fits part whole is base lr (At offset) = saved_fits part whole is (moved base offset)

base_fits : (whole : List Region) (at : State) (frame_pointer : ℕ) → value_by whole at.fp ≡ Some frame_pointer → (base : Base)
    → value_by whole (base_register base at) ≡ Some (base_value base (record { sp = at.sp; fp = frame_pointer; lr = at.lr }))
base_fits whole at frame_pointer e Fp = e
base_fits whole at frame_pointer e Sp = refl

-- a return address without its signature, by what is known of the mask and by the mask: they are the same, or the first is unknown
abbrev AreUnsigned : (ours theirs : Option ℕ) → Type 0
AreUnsigned ours theirs = (ours ≡ None) ⊎ (ours ≡ theirs)

in_space : (mask address : ℕ) → IsMaskOf None mask → (within : Bool) → nat_lt address (2 ^ 48) ≡ within → AreUnsigned (in_address_space address) (unsigned_by true (Some mask) address)
in_space mask address is true e = inr (rw e (ap (λ (x : ℕ). Some x) (sym (is address (ltb-true address (2 ^ 48) e)))))
in_space mask address is false e = inl (rw e refl)

are_unsigned : (signed : Bool) (key : Key) (known : Option ℕ) (mask address : ℕ) → IsMaskOf known mask
    → AreUnsigned (unsigned_by signed known address) (unsigned_address (key_if_signed signed key) (Some mask) address)
are_unsigned true key None mask address is = in_space mask address is (nat_lt address (2 ^ 48)) refl
are_unsigned true key (Some known) mask address is = inr (ap (λ (m : ℕ). unsigned_by true (Some m) address) is)
are_unsigned false key known mask address is = inr refl

-- ---- the frames
-- what a walk lists are the first frames of another, whose depth is enough
abbrev First : (index : ℕ → ℕ) → (depth : ℕ) → Walked → Listing → Type 0
First index depth ours theirs = let listed = map (place_frame index) ours.places in length listed ≤ depth → AreFirstOf listed theirs

abbrev caller_of : (pc sp lr : ℕ) → Value → State
caller_of pc sp lr fp = record { pc = pc; sp = sp; fp = fp; lr = lr; returned = true }

-- the same of the walks from a caller, whose frame pointer the whole has
abbrev GoFirst : (index : ℕ → ℕ) → (whole : List Region) → (depth : ℕ) → (State → Walked) → Going → Type 0
GoFirst index whole depth ours theirs = (pc sp lr frame_pointer : ℕ) (fp : Value) → value_by whole fp ≡ Some frame_pointer
    → First index depth (ours (caller_of pc sp lr fp)) (theirs pc (record { sp = sp; fp = frame_pointer; lr = lr }))

-- what is listed after a walk stops at a value that can't be read
after_unread : (listed : List ModuleFrame) (address : ℕ) → AreFirst listed [] (Stop.Unreadable address)
after_unread [] address = tt
after_unread (frame ∷ later) address = (address, refl)

by_same : (index : ℕ → ℕ) (whole : List Region) (depth : ℕ) (ours : State → Walked) (theirs : Going) → GoFirst index whole depth ours theirs
    → (at : State) (frame : Frame) (base frame_pointer address : ℕ) (fp : Value) → value_by whole fp ≡ Some frame_pointer → (unsigned : Option ℕ)
    → First index (suc depth) (from_frame ours at frame (by_address base fp address unsigned)) (behind frame (on_by_address theirs base frame_pointer address unsigned))
by_same index whole depth ours theirs first at frame base frame_pointer address fp e (Some pc) enough = ((refl, inl refl), first pc base address frame_pointer fp e (omega (enough, arith)))
by_same index whole depth ours theirs first at frame base frame_pointer address fp e None enough = ((refl, inl refl), tt)

by_unsigned : (index : ℕ → ℕ) (whole : List Region) (depth : ℕ) (ours : State → Walked) (theirs : Going) → GoFirst index whole depth ours theirs
    → (at : State) (frame : Frame) (base frame_pointer address : ℕ) (fp : Value) → value_by whole fp ≡ Some frame_pointer → (one other : Option ℕ) → AreUnsigned one other
    → First index (suc depth) (from_frame ours at frame (by_address base fp address one)) (behind frame (on_by_address theirs base frame_pointer address other))
by_unsigned index whole depth ours theirs first at frame base frame_pointer address fp e one other (inl none) =
    subst (λ (o : Option ℕ). First index (suc depth) (from_frame ours at frame (by_address base fp address o)) (behind frame (on_by_address theirs base frame_pointer address other)))
    (sym none) (λ enough. ((refl, inl refl), tt))
by_unsigned index whole depth ours theirs first at frame base frame_pointer address fp e one other (inr same) =
    subst (λ (o : Option ℕ). First index (suc depth) (from_frame ours at frame (by_address base fp address one)) (behind frame (on_by_address theirs base frame_pointer address o)))
    same (by_same index whole depth ours theirs first at frame base frame_pointer address fp e one)

before_unread : (index : ℕ → ℕ) (depth : ℕ) (ours : State → Walked) (at : State) (frame : Frame) (base address unread : ℕ) (fp : Value) (unsigned : Option ℕ)
    → First index depth (from_frame ours at frame (by_address base fp address unsigned)) (behind frame (record { frames = []; stop = Stop.Unreadable unread }))
before_unread index depth ours at frame base address unread fp (Some pc) enough =
    ((refl, inl refl), after_unread (map (place_frame index) (ours (caller_of pc base address fp)).places) unread)
before_unread index depth ours at frame base address unread fp None enough = ((refl, inl refl), tt)

by_pointer : (index : ℕ → ℕ) (whole : List Region) (depth : ℕ) (ours : State → Walked) (theirs : Going) → GoFirst index whole depth ours theirs
    → (at : State) (frame : Frame) (r : Recovery) (mask address : ℕ) (one : Option ℕ) → AreUnsigned one (unsigned_address r.signed (Some mask) address)
    → (fp : Value) (recovered : model.Value) → Fits whole fp recovered
    → First index (suc depth) (from_frame ours at frame (by_address r.stack_pointer fp address one)) (behind frame (on_by_pointer theirs (Some mask) r address recovered))
by_pointer index whole depth ours theirs first at frame r mask address one unsigned fp (model.Known frame_pointer) fits =
    by_unsigned index whole depth ours theirs first at frame r.stack_pointer frame_pointer address fp (sym fits) one (unsigned_address r.signed (Some mask) address) unsigned
by_pointer index whole depth ours theirs first at frame r mask address one unsigned fp (model.Unreadable unread) fits =
    before_unread index (suc depth) ours at frame r.stack_pointer address unread fp one

by_return_address : (index : ℕ → ℕ) (part whole : List Region) (depth : ℕ) (ours : State → Walked) (theirs : Going) → GoFirst index whole depth ours theirs
    → (at : State) (frame : Frame) (r : Recovery) (content : Content) (key : Key) (known_mask : Option ℕ) (mask : ℕ) → IsMaskOf known_mask mask → r.signed ≡ key_if_signed content.signed key
    → Fits whole (restored_value part r.stack_pointer at.fp content.fp) r.frame_pointer → (ra : Value) (recovered : model.Value) → Fits whole ra recovered
    → First index (suc depth) (from_frame ours at frame (by_return (content_rule content) known_mask part at r.stack_pointer ra)) (behind frame (on_by theirs (Some mask) r recovered))
by_return_address index part whole depth ours theirs first at frame r content key known_mask mask masked is pointer (Known address) (model.Known recovered) fits =
    let same : recovered ≡ address = cc in
    let unsigned = subst (λ (k : Option Key). AreUnsigned (unsigned_by content.signed known_mask address) (unsigned_address k (Some mask) address)) (sym is) (are_unsigned content.signed key known_mask mask address masked) in
    subst (λ (a : ℕ). First index (suc depth) (from_frame ours at frame (by_return (content_rule content) known_mask part at r.stack_pointer (Known address))) (behind frame (on_by theirs (Some mask) r (model.Known a)))) (sym same)
    (by_pointer index whole depth ours theirs first at frame r mask address (unsigned_by content.signed known_mask address) unsigned (restored_value part r.stack_pointer at.fp content.fp) r.frame_pointer pointer)
by_return_address index part whole depth ours theirs first at frame r content key known_mask mask masked is pointer (Known address) (model.Unreadable unread) fits = absurd (cc)
by_return_address index part whole depth ours theirs first at frame r content key known_mask mask masked is pointer (Value.Unreadable unread) recovered fits = λ enough. ((refl, inl refl), tt)

abbrev registers : State → (frame_pointer : ℕ) → Regs
registers at frame_pointer = record { sp = at.sp; fp = frame_pointer; lr = at.lr }

by_content : (index : ℕ → ℕ) (part whole : List Region) → IsPartOf part whole → (depth : ℕ) (ours : State → Walked) (theirs : Going) → GoFirst index whole depth ours theirs
    → (at : State) (frame_pointer : ℕ) → value_by whole at.fp ≡ Some frame_pointer → (content : Content) (key : Key) (known_mask : Option ℕ) (mask : ℕ) → IsMaskOf known_mask mask
    → let r = recovery content key (registers at frame_pointer) whole in let frame : Frame = record { pc = at.pc; cfa = Some r.frame_address } in
    First index (suc depth) (from_frame ours at frame (by_return (content_rule content) known_mask part at r.frame_address (restored_value part r.frame_address (Known at.lr) (saved_return content.ra))))
    (behind frame (on_by theirs (Some mask) r r.return_address))
unfolding recovery
by_content index part whole is depth ours theirs first at frame_pointer e content key known_mask mask masked =
    let r = recovery content key (registers at frame_pointer) whole in
    let base = frame_address_of content (registers at frame_pointer) in
    by_return_address index part whole depth ours theirs first at (record { pc = at.pc; cfa = Some base }) r content key known_mask mask masked refl
    (pointer_fits part whole is base frame_pointer at.fp e content.fp)
    (restored_value part base (Known at.lr) (saved_return content.ra)) (saved_or_kept whole at.lr (return_place content.ra base)) (return_fits part whole is base at.lr content.ra)

-- the register that a row counts from: by the part it may be unknown, and then the frame is the last
by_register : (index : ℕ → ℕ) (part whole : List Region) → IsPartOf part whole → (depth : ℕ) (ours : State → Walked) (theirs : Going) → GoFirst index whole depth ours theirs
    → (at : State) (frame_pointer : ℕ) → value_by whole at.fp ≡ Some frame_pointer → (content : Content) (key : Key) (known_mask : Option ℕ) (mask : ℕ) → IsMaskOf known_mask mask
    → (base : Value) → value_by whole base ≡ Some (base_value content.base (registers at frame_pointer))
    → let r = recovery content key (registers at frame_pointer) whole in let now = by_base (content_rule content) known_mask part at base in
    First index (suc depth) (from_frame ours at now.0 now.1) (behind (record { pc = at.pc; cfa = Some r.frame_address }) (on_by theirs (Some mask) r r.return_address))
unfolding recovery
by_register index part whole is depth ours theirs first at frame_pointer e content key known_mask mask masked (Known base) fits =
    let r = recovery content key (registers at frame_pointer) whole in
    let same : base_value content.base (registers at frame_pointer) ≡ base = cc in
    subst (λ (b : ℕ). let now = by_base (content_rule content) known_mask part at (Known b) in First index (suc depth) (from_frame ours at now.0 now.1) (behind (record { pc = at.pc; cfa = Some r.frame_address }) (on_by theirs (Some mask) r r.return_address)))
    same (by_content index part whole is depth ours theirs first at frame_pointer e content key known_mask mask masked)
by_register index part whole is depth ours theirs first at frame_pointer e content key known_mask mask masked (Value.Unreadable unread) fits = λ enough. ((refl, inr (refl, refl)), tt)

by_row : (index : ℕ → ℕ) (part whole : List Region) → IsPartOf part whole → (depth : ℕ) (ours : State → Walked) (theirs : Going) → GoFirst index whole depth ours theirs
    → (at : State) (frame_pointer : ℕ) → value_by whole at.fp ≡ Some frame_pointer → (known_mask : Option ℕ) (mask : ℕ) → IsMaskOf known_mask mask → (row : Option FoundRow)
    → let now = step_by (option_map (λ (found : FoundRow). content_rule found.row.content) row) known_mask part at in
    First index (suc depth) (from_frame ours at now.0 now.1)
    (frame_by theirs (Some mask) (asked_at at) at.pc (option_map (λ (found : FoundRow). recovery found.row.content found.func.key (registers at frame_pointer) whole) row))
unfolding step_by
by_row index part whole is depth ours theirs first at frame_pointer e known_mask mask masked (Some found) =
    let content = found.row.content in
    by_register index part whole is depth ours theirs first at frame_pointer e content found.func.key known_mask mask masked (base_register content.base at) (base_fits whole at frame_pointer e content.base)
by_row index part whole is depth ours theirs first at frame_pointer e known_mask mask masked None = λ enough. ((refl, inl refl), tt)

lists_one : (index : ℕ → ℕ) (ours : State → Walked) (at : State) (frame : Frame) (next : Result State Stop) → 0 < length (map (place_frame index) (from_frame ours at frame next).places)
lists_one index ours at frame (Ok caller) = omega arith
lists_one index ours at frame (Err stop) = omega arith

pub first_frames : (index : ℕ → ℕ) (look_up : LookUp) (known_mask : Option ℕ) (mask : ℕ) (part whole : List Region) → IsPartOf part whole → IsMaskOf known_mask mask
    → (n depth : ℕ) (at : State) (frame_pointer : ℕ) → value_by whole at.fp ≡ Some frame_pointer
    → First index depth (walk_on (stepping look_up known_mask part) n at) (walk_from look_up mask whole depth at frame_pointer)
unfolding walk_on frames_from
first_frames index look_up known_mask mask part whole is masked zero depth at frame_pointer e enough = tt
first_frames index look_up known_mask mask part whole is masked (suc n) zero at frame_pointer e enough =
    let now = stepping look_up known_mask part at in absurd (omega (enough, lists_one index (walk_on (stepping look_up known_mask part) n) at now.0 now.1, arith))
first_frames index look_up known_mask mask part whole is masked (suc n) (suc depth) at frame_pointer e enough =
    by_row index part whole is depth (walk_on (stepping look_up known_mask part) n) (λ next. frames_from (recover_by look_up whole) (Some mask) depth (address_before next) next)
    (λ pc sp lr later_pointer fp known_later. first_frames index look_up known_mask mask part whole is masked n depth (caller_of pc sp lr fp) later_pointer known_later)
    at frame_pointer e known_mask mask masked (look_up (asked_at at)) enough

pub lists_first_frames : ListsFirstFrames
unfolding walk_by
lists_first_frames look_up index thread part whole n mask depth is masked enough =
    first_frames index look_up thread.mask mask part whole is masked n depth (initial_state thread) thread.regs.fp refl enough

-- ---- in a room
taken : (index : ℕ → ℕ) (places : List Place) (before : List ModuleFrame) → take (length places) (places_listed index places before) ≡ map (place_frame index) places
taken index places before =
    ap (λ (n : ℕ). take n (places_listed index places before)) (sym (length-map places (place_frame index))) ∙ take-append_seam (map (place_frame index) places) (drop (length places) before)

pub finished_first : (look_up : LookUp) (known_mask : Option ℕ) (part : List Region) (n : ℕ) (start : State) {index : ℕ → ℕ} {stop : Option Stop} {at : State} {count : ℕ} {now before : List ModuleFrame}
    → Finished index stop at count now before (walk_on (stepping look_up known_mask part) n start) → AreFirstByEachWhole look_up known_mask part start (take count now)
unfolding AreFirstByEachWhole
finished_first look_up known_mask part n start {index} {stop} {at} {count} {now} {before} done =
    let places = (walk_on (stepping look_up known_mask part) n start).places in
    let listed : take count now ≡ map (place_frame index) places =
    ap (take count) done.room ∙ ap (λ (e : Ended). take e.count (places_listed index places before)) done.end ∙ taken index places before in
    subst (λ (xs : List ModuleFrame). AreFirstByEachWhole look_up known_mask part start xs) (sym listed)
    (λ whole mask frame_pointer depth is masked e enough. first_frames index look_up known_mask mask part whole is masked n depth start frame_pointer e enough)
