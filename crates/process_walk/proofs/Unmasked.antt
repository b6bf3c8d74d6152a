-- A step by a row where no thread has a mask: as it was made, or made again with a mask of no bits.
use Rattle.std.specs.Int.{w64, bit_not}
use Rattle.std.specs.Option.{option_map}
use Rattle.std.specs.Prelude.{bit_and, if◌then◌else◌, is_some, nat_lt}
use Rattle.std.proofs.Common.{◌≡◌, ◌<◌, ◌^◌, ℕ, Bool, true, false, Option, Some, None, Result, Ok, Err, refl, sym, ap, ◌∙◌, arith}
use Rattle.std.proofs.Math.Nat.{mod-eq_of_lt}
use Rattle.std.proofs.lemmas.Bool.{ltb-true}
use Rattle.std.proofs.lemmas.Nat.{and_mask}
use Rattle.sf_bytes.specs.Steps.{◌>>=◌}
use Rattle.sample_walk.specs.Signature.{in_address_space}
use Rattle.sf_model.specs.declared.machine.Key.{Key}
use Rattle.sf_model.specs.declared.walk.Frame.{Frame}
use Rattle.sf_model.specs.declared.walk.Stop.{Stop}
use Rattle.sf_model.specs.declared.walk.Stop.TheVariants.{Depth, Outside, Unreadable, Signed}
use Rattle.sf_model.specs.Recovery.{Recovery, Value, Known}
use Rattle.sf_model.specs.Walk.{Recovering, unsigned_address}
use Rattle.core_walk.specs.declared.step.Caller.{Caller}
use Rattle.core_walk.specs.Step.{Steps}
use Rattle.process_walk.specs.Masks.{key_above_space, key_of_value, recover_unmasked, stops_unsigned, unsigned_in_space}
use Rattle.process_walk.specs.Outside.{RowStep, row_step}
use Rattle.process_walk.specs.Step.{known_or_stop, unsigned_or_stop}
use Rattle.process_walk.proofs.Callers.{caller, row_step_is}

-- ---- an address in the address space
-- a mask of no bits clears nothing of it
none_cleared : (address : ℕ) → address < 2 ^ 48 → bit_and address (bit_not w64 0) ≡ address
none_cleared address low =
    let fits : address < 2 ^ 64 = omega (low, arith) in
    and_mask address 64 ∙ mod-eq_of_lt fits

abbrev taken_if : ℕ → Bool → Option ℕ
taken_if address is = if is then Some address else None

pub in_space : (address : ℕ) (low : Bool) → nat_lt address (2 ^ 48) ≡ low → is_some (in_address_space address) ≡ true → (in_address_space address ≡ Some address) × (address < 2 ^ 48)
in_space address true e some = (ap (taken_if address) e, ltb-true address (2 ^ 48) e)
in_space address false e some = absurd (let no : false ≡ true = sym (ap (λ (b : Bool). is_some (taken_if address b)) e) ∙ some in cc)

-- ---- the caller, by what is recovered of it
abbrev caller_of : (mask : Option ℕ) → (signed : Option Key) → (sp : ℕ) → (ra fp : Value) → Result Caller Stop
caller_of mask signed sp ra fp =
    known_or_stop ra >>= λ address. (known_or_stop fp >>= λ pointer. (unsigned_or_stop address (unsigned_address signed mask address) >>= λ pc. Ok (caller sp pointer address pc)))

-- a step that stops at a return address in the address space is made again
again_by : (signed : Option Key) (sp : ℕ) (ra fp : Value) → stops_unsigned true (caller_of None signed sp ra fp) ≡ true
    → caller_of (Some 0) signed sp ra fp ≡ caller_of None (key_of_value ra signed) sp ra fp
again_by (Some key) sp (Known address) (Known pointer) stops =
    let low = in_space address (nat_lt address (2 ^ 48)) refl stops in
    ap (λ (pc : ℕ). let next : Result Caller Stop = Ok (caller sp pointer address pc) in next) (none_cleared address low.1)
    ∙ sym (ap (λ (o : Option ℕ). caller_of None (key_above_space o (Some key)) sp (Known address) (Known pointer)) low.0)
again_by None sp (Known address) (Known pointer) stops = absurd (let no : false ≡ true = stops in cc)
again_by signed sp (Known address) (Value.Unreadable place) stops = absurd (let no : false ≡ true = stops in cc)
again_by signed sp (Value.Unreadable place) fp stops = absurd (let no : false ≡ true = stops in cc)

-- any other step is as it was made
no_key : (in_space : Option ℕ) → key_above_space in_space None ≡ None
no_key (Some address) = refl
no_key None = refl

above_space : (in_space : Option ℕ) (key : Key) → is_some in_space ≡ false → key_above_space in_space (Some key) ≡ Some key
above_space (Some address) key none = absurd (let no : true ≡ false = none in cc)
above_space None key none = refl

pub kept_by : (signed : Option Key) (sp : ℕ) (ra fp : Value) → stops_unsigned true (caller_of None signed sp ra fp) ≡ false
    → caller_of None signed sp ra fp ≡ caller_of None (key_of_value ra signed) sp ra fp
kept_by (Some key) sp (Known address) (Known pointer) goes =
    ap (λ (k : Option Key). caller_of None k sp (Known address) (Known pointer)) (sym (above_space (in_address_space address) key goes))
kept_by None sp (Known address) (Known pointer) goes =
    ap (λ (k : Option Key). caller_of None k sp (Known address) (Known pointer)) (sym (no_key (in_address_space address)))
kept_by signed sp (Known address) (Value.Unreadable place) goes = refl
kept_by signed sp (Value.Unreadable place) fp goes = refl

-- with a mask no step stops there
masked_by : (mask : ℕ) (signed : Option Key) (sp : ℕ) (ra fp : Value) → stops_unsigned true (caller_of (Some mask) signed sp ra fp) ≡ false
masked_by mask (Some key) sp (Known address) (Known pointer) = refl
masked_by mask None sp (Known address) (Known pointer) = refl
masked_by mask signed sp (Known address) (Value.Unreadable place) = refl
masked_by mask signed sp (Value.Unreadable place) fp = refl

-- where a thread has a mask no step stops there
never_stops : (next : Result Caller Stop) → stops_unsigned false next ≡ false
never_stops (Ok at) = refl
never_stops (Err Depth) = refl
never_stops (Err (Outside address)) = refl
never_stops (Err (Unreadable address)) = refl
never_stops (Err (Signed address)) = refl

-- ---- a step by what is recovered at an address
row_again : (o : Option Recovery) (asked pc : ℕ) → stops_unsigned true (row_step o None asked pc).1 ≡ true → row_step o (Some 0) asked pc ≡ row_step (option_map unsigned_in_space o) None asked pc
row_again (Some r) asked pc stops =
    ap (λ (next : Result Caller Stop). let x : RowStep = (record { pc = pc; cfa = Some r.frame_address }, next) in x) (again_by r.signed r.stack_pointer r.return_address r.frame_pointer stops)
row_again None asked pc stops = absurd (let no : false ≡ true = stops in cc)

row_kept : (o : Option Recovery) (asked pc : ℕ) → stops_unsigned true (row_step o None asked pc).1 ≡ false → row_step o None asked pc ≡ row_step (option_map unsigned_in_space o) None asked pc
row_kept (Some r) asked pc goes =
    ap (λ (next : Result Caller Stop). let x : RowStep = (record { pc = pc; cfa = Some r.frame_address }, next) in x) (kept_by r.signed r.stack_pointer r.return_address r.frame_pointer goes)
row_kept None asked pc goes = refl

row_masked : (o : Option Recovery) (mask asked pc : ℕ) → stops_unsigned true (row_step o (Some mask) asked pc).1 ≡ false
row_masked (Some r) mask asked pc = masked_by mask r.signed r.stack_pointer r.return_address r.frame_pointer
row_masked None mask asked pc = refl

-- the step that stopped there is made again
pub made_again : (is_unmasked : Bool) (recovering : Recovering) (mask : Option ℕ) (asked : ℕ) (at : Caller) (frame : Frame) (next : Result Caller Stop) (again : RowStep)
    → Steps recovering mask asked at frame next → true ≡ stops_unsigned is_unmasked next → Steps recovering (Some 0) asked at again.0 again.1
    → again ≡ row_step (recover_unmasked is_unmasked mask recovering asked at.regs) mask asked at.pc
made_again true recovering None asked at frame next again first stops second =
    let is = row_step_is recovering None asked at frame next first in
    row_step_is recovering (Some 0) asked at again.0 again.1 second
    ∙ row_again (recovering asked at.regs) asked at.pc (sym (ap (λ (x : RowStep). stops_unsigned true x.1) is) ∙ sym stops)
made_again true recovering (Some mask) asked at frame next again first stops second =
    let is = row_step_is recovering (Some mask) asked at frame next first in
    absurd (let no : true ≡ false = stops ∙ ap (λ (x : RowStep). stops_unsigned true x.1) is ∙ row_masked (recovering asked at.regs) mask asked at.pc in cc)
made_again false recovering mask asked at frame next again first stops second = absurd (let no : true ≡ false = stops ∙ never_stops next in cc)

-- any other step is as it was made
pub as_made : (is_unmasked : Bool) (recovering : Recovering) (mask : Option ℕ) (asked : ℕ) (at : Caller) (frame : Frame) (next : Result Caller Stop)
    → Steps recovering mask asked at frame next → false ≡ stops_unsigned is_unmasked next
    → (frame, next) ≡ row_step (recover_unmasked is_unmasked mask recovering asked at.regs) mask asked at.pc
as_made true recovering None asked at frame next first goes =
    let is = row_step_is recovering None asked at frame next first in
    is ∙ row_kept (recovering asked at.regs) asked at.pc (sym (ap (λ (x : RowStep). stops_unsigned true x.1) is) ∙ sym goes)
as_made true recovering (Some mask) asked at frame next first goes = row_step_is recovering (Some mask) asked at frame next first
as_made false recovering mask asked at frame next first goes = row_step_is recovering mask asked at frame next first
