-- A walk through modules by a part of a memory.
use Rattle.std.specs.Option.{option_map}
use Rattle.std.proofs.Common.{◌≡◌, ℕ, zero, suc, Bool, List, Option, Some, None, Result, Ok, Err, true, false, refl, sym, ap, subst, ◌∙◌}
use Rattle.sf_bytes.specs.Steps.{◌>>=◌}
use Rattle.sample_walk.specs.Signature.{in_address_space}
use Rattle.sf_model.specs.declared.content.Content.{Content}
use Rattle.sf_model.specs.declared.machine.Key.{Key}
use Rattle.sf_model.specs.declared.recovery.Regs.{Regs}
use Rattle.sf_model.specs.declared.walk.Stop.{Stop}
use Rattle.sf_model.specs.Lookup.{FoundRow}
use Rattle.sf_model.specs.Memory.{Region, read_eight}
use Rattle.sf_model.specs.Recovery.{Recovery, Value, Known, frame_address_of, key_if_signed, moved, pointer_place, recovery, return_place, saved_at, saved_or_kept, saved_value}
use Rattle.sf_model.specs.Walk.{LookUp, ThreadState, recover_by, unsigned_address}
use Rattle.core_walk.specs.declared.step.Caller.{Caller}
use Rattle.core_walk.specs.PartWalk.{IsPartOf, MissedNothing}
use Rattle.signal_frames.specs.declared.frame.SignalFrame.{SignalFrame}
use Rattle.process_walk.specs.declared.stepping.State.{State}
use Rattle.process_walk.specs.Masks.{key_above_space, key_of_value, recover_unmasked, recovered_unmasked, unsigned_in_space}
use Rattle.process_walk.specs.Step.{Stepped, called, caller_by, frame_listed, interrupted, known_or_stop, resumed, step_at, step_by, step_from, step_without_row, stepped_over, to_caller, unsigned_or_stop}
use Rattle.process_walk.specs.Walk.{ProcessListing, behind, frames_by, listed, on_from, process_walk, start_of}

-- ---- what is read, or why the walk stops
-- a result is no stop at eight bytes that the whole has
abbrev Sound : {A : Type 0} → (whole : List Region) → Result A Stop → Type 0
Sound whole (Ok x) = Unit {0}
Sound whole (Err stop) = MissedNothing whole stop

-- two results are the same, unless the first is a stop at eight bytes that the whole has
abbrev Agree : {A : Type 0} → (whole : List Region) → (one other : Result A Stop) → Type 0
Agree whole one other = Sound whole one → one ≡ other

-- consecutive steps that agree
then_agrees : {A B : Type 0} (whole : List Region) (one other : Result A Stop) (f g : A → Result B Stop) → Agree whole one other → ((x : A) → Agree whole (f x) (g x)) → Agree whole (one >>= f) (other >>= g)
then_agrees {A} {B} whole (Ok x) other f g first next sound = next x sound ∙ ap (λ (r : Result A Stop). r >>= g) (first tt)
then_agrees {A} {B} whole (Err stop) other f g first next sound = ap (λ (r : Result A Stop). r >>= g) (first sound)

read_agrees : (whole : List Region) (place : ℕ) (o : Option ℕ) → ((x : ℕ) → o ≡ Some x → read_eight whole place ≡ Some x) → Agree whole (known_or_stop (saved_value place o)) (known_or_stop (saved_at whole place))
read_agrees whole place (Some x) is sound = ap (λ (o : Option ℕ). known_or_stop (saved_value place o)) (sym (is x refl))
read_agrees whole place None is sound = ap (λ (o : Option ℕ). known_or_stop (saved_value place o)) (sym sound)

saved_agrees : (part whole : List Region) → IsPartOf part whole → (place : ℕ) → Agree whole (known_or_stop (saved_at part place)) (known_or_stop (saved_at whole place))
saved_agrees part whole is place = read_agrees whole place (read_eight part place) (is place)

kept_agrees : (part whole : List Region) → IsPartOf part whole → (present : ℕ) (place : Option ℕ) → Agree whole (known_or_stop (saved_or_kept part present place)) (known_or_stop (saved_or_kept whole present place))
kept_agrees part whole is present (Some place) sound = saved_agrees part whole is place sound
kept_agrees part whole is present None sound = refl

-- ---- a step
-- two steps are the same, unless the first stops at eight bytes that the whole has
abbrev StepAgrees : (whole : List Region) → (one other : Stepped) → Type 0
StepAgrees whole one other = Sound whole one.1 → one ≡ other

-- the step by a row: the return address is read first, then the frame pointer
-- the key that signed a return address, by the address
abbrev Keys : Type 0
Keys = ℕ → Option Key

abbrev caller : Keys → (mask : Option ℕ) → (cfa ra fp : ℕ) → Result Caller Stop
caller keys mask cfa ra fp = unsigned_or_stop ra (unsigned_address (keys ra) mask ra) >>= λ pc. Ok (record { pc = pc; regs = record { sp = cfa; fp = fp; lr = ra } })

abbrev caller_from : Keys → (mask : Option ℕ) → (cfa : ℕ) → (ra fp : Value) → Result Caller Stop
caller_from keys mask cfa ra fp = known_or_stop ra >>= λ x. (known_or_stop fp >>= caller keys mask cfa x)

caller_agrees : (part whole : List Region) → IsPartOf part whole → (keys : Keys) (mask : Option ℕ) (content : Content) (regs : Regs)
    → let cfa = frame_address_of content regs in let ra = return_place content.ra cfa in let fp = pointer_place content.fp cfa in
    Agree whole (caller_from keys mask cfa (saved_or_kept part regs.lr ra) (saved_or_kept part regs.fp fp)) (caller_from keys mask cfa (saved_or_kept whole regs.lr ra) (saved_or_kept whole regs.fp fp))
caller_agrees part whole is keys mask content regs =
    let cfa = frame_address_of content regs in
    let ra = return_place content.ra cfa in
    let fp = pointer_place content.fp cfa in
    then_agrees whole (known_or_stop (saved_or_kept part regs.lr ra)) (known_or_stop (saved_or_kept whole regs.lr ra))
    (λ x. known_or_stop (saved_or_kept part regs.fp fp) >>= caller keys mask cfa x) (λ x. known_or_stop (saved_or_kept whole regs.fp fp) >>= caller keys mask cfa x)
    (kept_agrees part whole is regs.lr ra)
    (λ x. then_agrees whole (known_or_stop (saved_or_kept part regs.fp fp)) (known_or_stop (saved_or_kept whole regs.fp fp)) (caller keys mask cfa x) (caller keys mask cfa x)
    (kept_agrees part whole is regs.fp fp) (λ y sound. refl))

-- a return address in the address space is unsigned
abbrev above_space : (signed : Option Key) → Keys
above_space signed address = key_above_space (in_address_space address) signed

in_space : (signed : Option Key) (mask : Option ℕ) (cfa : ℕ) (ra fp : Value) → caller_from (λ x. key_of_value ra signed) mask cfa ra fp ≡ caller_from (above_space signed) mask cfa ra fp
in_space signed mask cfa (Known x) fp = refl
in_space signed mask cfa (Value.Unreadable place) fp = refl

agree_as : {A : Type 0} (whole : List Region) (one other x y : Result A Stop) → x ≡ one → y ≡ other → Agree whole one other → Agree whole x y
agree_as {A} whole one other x y e f same sound = e ∙ same (subst (λ (r : Result A Stop). Sound whole r) e sound) ∙ sym f

space_agrees : (part whole : List Region) → IsPartOf part whole → (mask : Option ℕ) (content : Content) (key : Key) (regs : Regs)
    → Agree whole (caller_by mask (unsigned_in_space (recovery content key regs part))) (caller_by mask (unsigned_in_space (recovery content key regs whole)))
unfolding recovery
space_agrees part whole is mask content key regs =
    let cfa = frame_address_of content regs in
    let ra = return_place content.ra cfa in
    let fp = pointer_place content.fp cfa in
    let signed = key_if_signed content.signed key in
    agree_as whole (caller_from (above_space signed) mask cfa (saved_or_kept part regs.lr ra) (saved_or_kept part regs.fp fp))
    (caller_from (above_space signed) mask cfa (saved_or_kept whole regs.lr ra) (saved_or_kept whole regs.fp fp))
    (caller_by mask (unsigned_in_space (recovery content key regs part))) (caller_by mask (unsigned_in_space (recovery content key regs whole)))
    (in_space signed mask cfa (saved_or_kept part regs.lr ra) (saved_or_kept part regs.fp fp)) (in_space signed mask cfa (saved_or_kept whole regs.lr ra) (saved_or_kept whole regs.fp fp))
    (caller_agrees part whole is (above_space signed) mask content regs)

next_agrees : (whole : List Region) (one other : Result Caller Stop) → Agree whole one other → Agree whole (to_caller one) (to_caller other)
next_agrees whole one other same = then_agrees whole one other (λ c. Ok (called c)) (λ c. Ok (called c)) same (λ c sound. refl)

listed_agrees : (whole : List Region) (pc cfa : ℕ) (one other : Result Caller Stop) → Agree whole one other
    → StepAgrees whole (frame_listed pc (Some cfa) false, to_caller one) (frame_listed pc (Some cfa) false, to_caller other)
listed_agrees whole pc cfa one other same sound =
    ap (λ (next : Result State Stop). let s : Stepped = (frame_listed pc (Some cfa) false, next) in s) (next_agrees whole one other same sound)

-- by the row that is found, with a return address in the address space as an unsigned one if the test is true
abbrev row_by : (is_unsigned : Bool) → Recovery → Recovery
row_by true r = unsigned_in_space r
row_by false r = r

row_agrees : (part whole : List Region) → IsPartOf part whole → (is_unsigned : Bool) (signal : Option SignalFrame) (mask : Option ℕ) (state : State) (content : Content) (key : Key)
    → StepAgrees whole (step_by (Some (row_by is_unsigned (recovery content key state.at.regs part))) signal mask part state) (step_by (Some (row_by is_unsigned (recovery content key state.at.regs whole))) signal mask whole state)
unfolding recovery
row_agrees part whole is true signal mask state content key sound =
    let here = unsigned_in_space (recovery content key state.at.regs part) in
    let there = unsigned_in_space (recovery content key state.at.regs whole) in
    listed_agrees whole state.at.pc here.frame_address (caller_by mask here) (caller_by mask there) (space_agrees part whole is mask content key state.at.regs) sound
row_agrees part whole is false signal mask state content key sound =
    let here = recovery content key state.at.regs part in
    let there = recovery content key state.at.regs whole in
    listed_agrees whole state.at.pc here.frame_address (caller_by mask here) (caller_by mask there) (caller_agrees part whole is (λ x. key_if_signed content.signed key) mask content state.at.regs) sound

-- the step over a signal frame: the canonical frame address is read first, then the return address, then the frame pointer
interrupted_agrees : (part whole : List Region) → IsPartOf part whole → (frame : SignalFrame) (regs : Regs) (cfa : ℕ) → Agree whole (interrupted frame part regs cfa) (interrupted frame whole regs cfa)
interrupted_agrees part whole is frame regs cfa =
    let ra = moved regs.sp frame.return_address in
    let fp = moved regs.sp frame.frame_pointer in
    let found : ℕ → ℕ → Result State Stop = λ x y. Ok (resumed (record { pc = x; regs = record { sp = cfa; fp = y; lr = x } })) in
    then_agrees whole (known_or_stop (saved_at part ra)) (known_or_stop (saved_at whole ra)) (λ x. known_or_stop (saved_at part fp) >>= found x) (λ x. known_or_stop (saved_at whole fp) >>= found x)
    (saved_agrees part whole is ra)
    (λ x. then_agrees whole (known_or_stop (saved_at part fp)) (known_or_stop (saved_at whole fp)) (found x) (found x) (saved_agrees part whole is fp) (λ y sound. refl))

from_agrees : (part whole : List Region) → IsPartOf part whole → (frame : SignalFrame) (at : Caller) (one other : Result ℕ Stop) → Agree whole one other
    → StepAgrees whole (step_from frame part at one) (step_from frame whole at other)
from_agrees part whole is frame at (Ok cfa) other same sound =
    ap (stepped_over at.pc cfa) (interrupted_agrees part whole is frame at.regs cfa sound) ∙ ap (step_from frame whole at) (same tt)
from_agrees part whole is frame at (Err stop) other same sound = ap (step_from frame whole at) (same sound)

signal_agrees : (part whole : List Region) → IsPartOf part whole → (signal : Option SignalFrame) (state : State) → StepAgrees whole (step_without_row signal part state) (step_without_row signal whole state)
signal_agrees part whole is (Some frame) state sound =
    let place = moved state.at.regs.sp frame.frame_address in
    from_agrees part whole is frame state.at (known_or_stop (saved_at part place)) (known_or_stop (saved_at whole place)) (saved_agrees part whole is place) sound
signal_agrees part whole is None state sound = refl

-- the step by the row that is found, or without one
abbrev recover_row : List Region → Regs → FoundRow → Recovery
recover_row memory regs found = recovery found.row.content found.func.key regs memory

step_agrees : (part whole : List Region) → IsPartOf part whole → (is_unmasked : Bool) (signal : Option SignalFrame) (mask : Option ℕ) (state : State) (o : Option FoundRow)
    → StepAgrees whole (step_by (recovered_unmasked is_unmasked mask (option_map (recover_row part state.at.regs) o)) signal mask part state)
    (step_by (recovered_unmasked is_unmasked mask (option_map (recover_row whole state.at.regs) o)) signal mask whole state)
step_agrees part whole is true signal None state (Some found) sound = row_agrees part whole is true signal None state found.row.content found.func.key sound
step_agrees part whole is true signal (Some mask) state (Some found) sound = row_agrees part whole is false signal (Some mask) state found.row.content found.func.key sound
step_agrees part whole is false signal mask state (Some found) sound = row_agrees part whole is false signal mask state found.row.content found.func.key sound
step_agrees part whole is true signal None state None sound = signal_agrees part whole is signal state sound
step_agrees part whole is true signal (Some mask) state None sound = signal_agrees part whole is signal state sound
step_agrees part whole is false signal mask state None sound = signal_agrees part whole is signal state sound

-- ---- a walk, by its steps
-- two ways to go on are the same, unless the first stops at eight bytes that the whole has
abbrev GoAgrees : (whole : List Region) → (one other : State → ProcessListing) → Type 0
GoAgrees whole one other = (state : State) → MissedNothing whole (one state).stop → one state ≡ other state

-- the first step of a walk that missed nothing is sound
first_sound : (whole : List Region) (go : State → ProcessListing) (next : Result State Stop) → MissedNothing whole (on_from go next).stop → Sound whole next
first_sound whole go (Ok state) ok = tt
first_sound whole go (Err stop) ok = ok

on_agrees : (whole : List Region) (one other : State → ProcessListing) → GoAgrees whole one other → (next : Result State Stop) → MissedNothing whole (on_from one next).stop → on_from one next ≡ on_from other next
on_agrees whole one other same (Ok state) ok = same state ok
on_agrees whole one other same (Err stop) ok = refl

frames_agree : (whole : List Region) (one other : State → Stepped) → ((state : State) → StepAgrees whole (one state) (other state)) → (depth : ℕ) → GoAgrees whole (frames_by one depth) (frames_by other depth)
unfolding frames_by
frames_agree whole one other same zero state ok = refl
frames_agree whole one other same (suc depth) state ok =
    let step = one state in
    ap (behind step.0) (on_agrees whole (frames_by one depth) (frames_by other depth) (frames_agree whole one other same depth) step.1 ok)
    ∙ ap (listed (frames_by other depth)) (same state (first_sound whole (frames_by one depth) step.1 ok))

-- walks by a part and by the whole
pub by_a_part : (rows : LookUp) (signal_at : ℕ → Option SignalFrame) (is_unmasked : Bool) (thread : ThreadState) (part whole : List Region) (depth : ℕ) → IsPartOf part whole
    → MissedNothing whole (process_walk (recover_unmasked is_unmasked thread.mask (recover_by rows part)) signal_at thread part depth).stop
    → process_walk (recover_unmasked is_unmasked thread.mask (recover_by rows part)) signal_at thread part depth
    ≡ process_walk (recover_unmasked is_unmasked thread.mask (recover_by rows whole)) signal_at thread whole depth
unfolding process_walk
by_a_part rows signal_at is_unmasked thread part whole depth is ok =
    frames_agree whole (step_at (recover_unmasked is_unmasked thread.mask (recover_by rows part)) signal_at thread.mask part)
    (step_at (recover_unmasked is_unmasked thread.mask (recover_by rows whole)) signal_at thread.mask whole)
    (λ state. step_agrees part whole is is_unmasked (signal_at state.asked) thread.mask state (rows state.asked)) depth (start_of thread) ok
