-- A step by a row, as an equation: what holds for every way in which a walk goes on.
use Rattle.std.proofs.Common.{◌≡◌, ℕ, List, [], ◌∷◌, get_or, Option, Some, None, unwrap_or, Result, Ok, Err, true, false, refl, sym, ap, ◌∙◌}
use Rattle.sf_bytes.specs.Steps.{◌>>=◌}
use Rattle.sf_model.specs.declared.walk.Frame.{Frame}
use Rattle.sf_model.specs.declared.walk.Stop.{Stop}
use Rattle.sf_model.specs.declared.walk.Stop.TheVariants.{Depth}
use Rattle.sf_model.specs.Memory.{Region}
use Rattle.sf_model.specs.Recovery.{Recovery, Value, Known}
use Rattle.sf_model.specs.Walk.{Going, Listing, Recovering, behind, frame_by, on_by, on_by_address, on_by_pointer, unsigned_address}
use Rattle.core_walk.specs.declared.step.Caller.{Caller}
use Rattle.core_walk.specs.Step.{Steps, on_with}
use Rattle.signal_frames.specs.declared.frame.SignalFrame.{SignalFrame}
use Rattle.process_walk.specs.declared.stepping.State.{State}
use Rattle.process_walk.specs.Outside.{RowStep, is_outside, row_step}
use Rattle.process_walk.specs.Step.{Stepped, caller_by, known_or_stop, step_by, step_without_row, to_caller, unsigned_or_stop}

-- ---- a walk goes on with the caller
abbrev pub caller : (sp fp ra pc : ℕ) → Caller
caller sp fp ra pc = record { pc = pc; regs = record { sp = sp; fp = fp; lr = ra } }

by_address : (go : Going) (sp fp ra : ℕ) (o : Option ℕ) → on_by_address go sp fp ra o ≡ on_with go (unsigned_or_stop ra o >>= λ pc. Ok (caller sp fp ra pc))
by_address go sp fp ra (Some pc) = refl
by_address go sp fp ra None = refl

by_pointer : (go : Going) (mask : Option ℕ) (r : Recovery) (ra : ℕ) (v : Value)
    → on_by_pointer go mask r ra v ≡ on_with go (known_or_stop v >>= λ fp. (unsigned_or_stop ra (unsigned_address r.signed mask ra) >>= λ pc. Ok (caller r.stack_pointer fp ra pc)))
by_pointer go mask r ra (Known fp) = by_address go r.stack_pointer fp ra (unsigned_address r.signed mask ra)
by_pointer go mask r ra (Value.Unreadable a) = refl

by_value : (go : Going) (mask : Option ℕ) (r : Recovery) (v : Value)
    → on_by go mask r v
    ≡ on_with go (known_or_stop v >>= λ ra. (known_or_stop r.frame_pointer >>= λ fp. (unsigned_or_stop ra (unsigned_address r.signed mask ra) >>= λ pc. Ok (caller r.stack_pointer fp ra pc))))
by_value go mask r (Known ra) = by_pointer go mask r ra r.frame_pointer
by_value go mask r (Value.Unreadable a) = refl

pub on_caller : (go : Going) (mask : Option ℕ) (r : Recovery) → on_by go mask r r.return_address ≡ on_with go (caller_by mask r)
on_caller go mask r = by_value go mask r r.return_address

-- ---- the caller is all that a walk goes on with
-- a walk that lists the caller's program counter and registers
abbrev telling : Going
telling pc regs = record { frames = record { pc = pc; cfa = Some regs.sp } ∷ record { pc = regs.fp; cfa = Some regs.lr } ∷ []; stop = Depth }

abbrev frame_of : (i : ℕ) → Listing → Frame
frame_of i listing = get_or listing.frames i (record { pc = 0; cfa = None })

abbrev first_of : (i : ℕ) → Listing → ℕ
first_of i listing = (frame_of i listing).pc

abbrev second_of : (i : ℕ) → Listing → ℕ
second_of i listing = unwrap_or (frame_of i listing).cfa 0

callers_same : (one other : Caller) → one.pc ≡ other.pc → one.regs.sp ≡ other.regs.sp → one.regs.fp ≡ other.regs.fp → one.regs.lr ≡ other.regs.lr → one ≡ other
callers_same one other pc sp fp lr =
    ap (caller one.regs.sp one.regs.fp one.regs.lr) pc
    ∙ ap (λ (n : ℕ). caller n one.regs.fp one.regs.lr other.pc) sp
    ∙ ap (λ (n : ℕ). caller other.regs.sp n one.regs.lr other.pc) fp
    ∙ ap (λ (n : ℕ). caller other.regs.sp other.regs.fp n other.pc) lr

same_next : (one other : Result Caller Stop) → on_with telling one ≡ on_with telling other → one ≡ other
same_next (Ok one) (Ok other) e = ap (λ (c : Caller). Ok c) (callers_same one other (ap (first_of 0) e) (ap (second_of 0) e) (ap (first_of 1) e) (ap (second_of 1) e))
same_next (Ok one) (Err stop) e = let no = ap (λ (l : Listing). l.frames) e in absurd cc
same_next (Err stop) (Ok other) e = let no = ap (λ (l : Listing). l.frames) e in absurd cc
same_next (Err one) (Err other) e = ap (λ (s : Stop). Err s) (ap (λ (l : Listing). l.stop) e)

-- ---- a step by a row, or that there is none
goes : (go : Going) (o : Option Recovery) (mask : Option ℕ) (asked pc : ℕ) → frame_by go mask asked pc o ≡ behind (row_step o mask asked pc).0 (on_with go (row_step o mask asked pc).1)
goes go (Some r) mask asked pc = ap (behind (record { pc = pc; cfa = Some r.frame_address })) (on_caller go mask r)
goes go None mask asked pc = refl

-- the list after the first frame
abbrev tail_of : List Frame → List Frame
tail_of [] = []
tail_of (frame ∷ frames) = frames

abbrev later : Listing → Listing
later listing = record { frames = tail_of listing.frames; stop = listing.stop }

same_step : (frame : Frame) (next : Result Caller Stop) (x : RowStep) → behind frame (on_with telling next) ≡ behind x.0 (on_with telling x.1) → (frame, next) ≡ x
same_step frame next x e =
    let frames : frame ≡ x.0 = ap (frame_of 0) e in
    let nexts : next ≡ x.1 = same_next next x.1 (ap later e) in
    ap (λ (f : Frame). let s : RowStep = (f, next) in s) frames ∙ ap (λ (n : Result Caller Stop). let s : RowStep = (x.0, n) in s) nexts

pub row_step_is : (recovering : Recovering) (mask : Option ℕ) (asked : ℕ) (at : Caller) (frame : Frame) (next : Result Caller Stop) → Steps recovering mask asked at frame next
    → (frame, next) ≡ row_step (recovering asked at.regs) mask asked at.pc
row_step_is recovering mask asked at frame next h =
    let o = recovering asked at.regs in
    same_step frame next (row_step o mask asked at.pc) (sym (h telling) ∙ goes telling o mask asked at.pc)

-- ---- where no row holds, and where one does
address_within : (ra : ℕ) (o : Option ℕ) (f : ℕ → Caller) → is_outside (unsigned_or_stop ra o >>= λ pc. Ok (f pc)) ≡ false
address_within ra (Some pc) f = refl
address_within ra None f = refl

value_within : (v : Value) (f : ℕ → Result Caller Stop) → ((x : ℕ) → is_outside (f x) ≡ false) → is_outside (known_or_stop v >>= f) ≡ false
value_within (Known x) f h = h x
value_within (Value.Unreadable a) f h = refl

within : (mask : Option ℕ) (r : Recovery) → is_outside (caller_by mask r) ≡ false
within mask r =
    value_within r.return_address (λ ra. known_or_stop r.frame_pointer >>= λ fp. (unsigned_or_stop ra (unsigned_address r.signed mask ra) >>= λ pc. Ok (caller r.stack_pointer fp ra pc)))
    (λ ra. value_within r.frame_pointer (λ fp. unsigned_or_stop ra (unsigned_address r.signed mask ra) >>= λ pc. Ok (caller r.stack_pointer fp ra pc))
    (λ fp. address_within ra (unsigned_address r.signed mask ra) (caller r.stack_pointer fp ra)))

by_recovered : (o : Option Recovery) (signal : Option SignalFrame) (mask : Option ℕ) (memory : List Region) (state : State) (row : RowStep) → is_outside row.1 ≡ false
    → row ≡ row_step o mask state.asked state.at.pc → (record { frame = row.0; is_signal = false }, to_caller row.1) ≡ step_by o signal mask memory state
by_recovered (Some r) signal mask memory state row is e =
    ap (λ (x : RowStep). let s : Stepped = (record { frame = x.0; is_signal = false }, to_caller x.1) in s) e
by_recovered None signal mask memory state row is e =
    let outside : is_outside row.1 ≡ true = ap (λ (x : RowStep). is_outside x.1) e in absurd (let no : false ≡ true = sym is ∙ outside in cc)

by_signal : (o : Option Recovery) (signal : Option SignalFrame) (mask : Option ℕ) (memory : List Region) (state : State) (row : RowStep) → is_outside row.1 ≡ true
    → row ≡ row_step o mask state.asked state.at.pc → step_without_row signal memory state ≡ step_by o signal mask memory state
by_signal (Some r) signal mask memory state row is e =
    let inside : is_outside row.1 ≡ false = ap (λ (x : RowStep). is_outside x.1) e ∙ within mask r in absurd (let no : false ≡ true = sym inside ∙ is in cc)
by_signal None signal mask memory state row is e = refl

-- the step by a row
pub with_row : (o : Option Recovery) (signal : Option SignalFrame) (mask : Option ℕ) (memory : List Region) (state : State) (row : RowStep) (onward : Result State Stop)
    → row ≡ row_step o mask state.asked state.at.pc → false ≡ is_outside row.1 → onward ≡ to_caller row.1 → (record { frame = row.0; is_signal = false }, onward) ≡ step_by o signal mask memory state
with_row o signal mask memory state row onward h is e =
    ap (λ (n : Result State Stop). let s : Stepped = (record { frame = row.0; is_signal = false }, n) in s) e
    ∙ by_recovered o signal mask memory state row (sym is) h

-- the step without one
pub without_row : (o : Option Recovery) (signal found : Option SignalFrame) (mask : Option ℕ) (memory : List Region) (state : State) (row : RowStep) (x : Stepped)
    → row ≡ row_step o mask state.asked state.at.pc → true ≡ is_outside row.1 → found ≡ signal → x ≡ step_without_row found memory state → x ≡ step_by o signal mask memory state
without_row o signal found mask memory state row x h is same e =
    e ∙ ap (λ (s : Option SignalFrame). step_without_row s memory state) same
    ∙ by_signal o signal mask memory state row (sym is) h
