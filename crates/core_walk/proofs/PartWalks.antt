-- A walk by a part of a memory.
use Rattle.std.specs.Option.{option_map}
use Rattle.std.proofs.Common.{◌≡◌, ℕ, zero, suc, Option, Some, None, List, refl, sym, ap, ◌∙◌}
use Rattle.sf_model.specs.declared.recovery.Regs.{Regs}
use Rattle.sf_model.specs.declared.content.Content.{Content}
use Rattle.sf_model.specs.declared.machine.Key.{Key}
use Rattle.sf_model.specs.Lookup.{FoundRow}
use Rattle.sf_model.specs.Memory.{Region, read_eight}
use Rattle.sf_model.specs.Recovery.{Recovery, Value, Known, frame_address_of, key_if_signed, pointer_place, recovery, return_place, saved_or_kept, saved_value}
use Rattle.sf_model.specs.Walk.{Going, Listing, LookUp, ThreadState, address_before, behind, frame_by, frames_from, look_up_walk, on_by, on_by_address, on_by_pointer, recover_by, unsigned_address, walk_by}
use Rattle.core_walk.specs.PartWalk.{IsPartOf, MissedNothing}

-- the same of a value that is recovered
abbrev ValueFound : (whole : List Region) → Value → Type 0
ValueFound whole (Known x) = Unit {0}
ValueFound whole (Value.Unreadable a) = read_eight whole a ≡ None

read_same : (p : ℕ) (part whole : Option ℕ) → ((x : ℕ) → part ≡ Some x → whole ≡ Some x) → (part ≡ None → whole ≡ None) → saved_value p part ≡ saved_value p whole
read_same p (Some x) whole same none = ap (saved_value p) (sym (same x refl))
read_same p None whole same none = ap (saved_value p) (sym (none refl))

-- a place that was not read is one where the part has nothing
none_found : (whole : List Region) (p : ℕ) (o : Option ℕ) → ValueFound whole (saved_value p o) → o ≡ None → read_eight whole p ≡ None
none_found whole p (Some x) found none = absurd (let differ : Some x ≡ None = none in cc)
none_found whole p None found none = found

value_same : (part whole : List Region) → IsPartOf part whole → (present : ℕ) (place : Option ℕ) → ValueFound whole (saved_or_kept part present place)
    → saved_or_kept part present place ≡ saved_or_kept whole present place
value_same part whole is present None found = refl
value_same part whole is present (Some p) found = read_same p (read_eight part p) (read_eight whole p) (is p) (none_found whole p (read_eight part p) found)

-- two walks agree, where the first stops at no address that was missed
abbrev Agree : (whole : List Region) → (one other : Listing) → Type 0
Agree whole one other = MissedNothing whole one.stop → one ≡ other

abbrev GoAgree : (whole : List Region) → (one other : Going) → Type 0
GoAgree whole one other = (pc : ℕ) (regs : Regs) → Agree whole (one pc regs) (other pc regs)

address_same : (whole : List Region) (one other : Going) → GoAgree whole one other → (sp fp ra : ℕ) (unsigned : Option ℕ)
    → Agree whole (on_by_address one sp fp ra unsigned) (on_by_address other sp fp ra unsigned)
address_same whole one other same sp fp ra (Some pc) ok = same pc (record { sp = sp; fp = fp; lr = ra }) ok
address_same whole one other same sp fp ra None ok = refl

-- what is recovered, by its two values that may be saved
abbrev with_values : (frame_address : ℕ) → (return_address frame_pointer : Value) → (signed : Option Key) → Recovery
with_values frame_address return_address frame_pointer signed =
    record { frame_address = frame_address; return_address = return_address; frame_pointer = frame_pointer; stack_pointer = frame_address; signed = signed }

pointer_agrees : (whole : List Region) (one other : Going) → GoAgree whole one other → (mask : Option ℕ) (cfa x : ℕ) (signed : Option Key) (ra fp fp_whole : Value)
    → (ValueFound whole fp → fp ≡ fp_whole)
    → Agree whole (on_by_pointer one mask (with_values cfa ra fp signed) x fp) (on_by_pointer other mask (with_values cfa ra fp_whole signed) x fp_whole)
pointer_agrees whole one other same mask cfa x signed ra (Known y) fp_whole fps ok =
    address_same whole one other same cfa y x (unsigned_address signed mask x) ok
    ∙ ap (λ (v : Value). on_by_pointer other mask (with_values cfa ra v signed) x v) (fps tt)
pointer_agrees whole one other same mask cfa x signed ra (Value.Unreadable a) fp_whole fps ok =
    ap (λ (v : Value). on_by_pointer other mask (with_values cfa ra v signed) x v) (fps ok)

on_agrees : (whole : List Region) (one other : Going) → GoAgree whole one other → (mask : Option ℕ) (cfa : ℕ) (signed : Option Key) (ra ra_whole fp fp_whole : Value)
    → (ValueFound whole ra → ra ≡ ra_whole) → (ValueFound whole fp → fp ≡ fp_whole)
    → Agree whole (on_by one mask (with_values cfa ra fp signed) ra) (on_by other mask (with_values cfa ra_whole fp_whole signed) ra_whole)
on_agrees whole one other same mask cfa signed (Known x) ra_whole fp fp_whole ras fps ok =
    pointer_agrees whole one other same mask cfa x signed (Known x) fp fp_whole fps ok
    ∙ ap (λ (v : Value). on_by other mask (with_values cfa v fp_whole signed) v) (ras tt)
on_agrees whole one other same mask cfa signed (Value.Unreadable a) ra_whole fp fp_whole ras fps ok =
    ap (λ (v : Value). on_by other mask (with_values cfa v fp_whole signed) v) (ras ok)

recovered_agrees : (part whole : List Region) → IsPartOf part whole → (one other : Going) → GoAgree whole one other → (mask : Option ℕ) (content : Content) (key : Key) (regs : Regs)
    → Agree whole (on_by one mask (recovery content key regs part) (recovery content key regs part).return_address) (on_by other mask (recovery content key regs whole) (recovery content key regs whole).return_address)
unfolding recovery
recovered_agrees part whole is one other same mask content key regs ok =
    let cfa = frame_address_of content regs in
    on_agrees whole one other same mask cfa (key_if_signed content.signed key)
    (saved_or_kept part regs.lr (return_place content.ra cfa)) (saved_or_kept whole regs.lr (return_place content.ra cfa))
    (saved_or_kept part regs.fp (pointer_place content.fp cfa)) (saved_or_kept whole regs.fp (pointer_place content.fp cfa))
    (value_same part whole is regs.lr (return_place content.ra cfa)) (value_same part whole is regs.fp (pointer_place content.fp cfa)) ok

abbrev recover_row : List Region → Regs → FoundRow → Recovery
recover_row memory regs found = recovery found.row.content found.func.key regs memory

cfa_same : (content : Content) (key : Key) (regs : Regs) (part whole : List Region) → (recovery content key regs part).frame_address ≡ (recovery content key regs whole).frame_address
unfolding recovery
cfa_same content key regs part whole = refl

frame_agrees : (part whole : List Region) → IsPartOf part whole → (one other : Going) → GoAgree whole one other → (mask : Option ℕ) (asked pc : ℕ) (regs : Regs) (o : Option FoundRow)
    → Agree whole (frame_by one mask asked pc (option_map (recover_row part regs) o)) (frame_by other mask asked pc (option_map (recover_row whole regs) o))
frame_agrees part whole is one other same mask asked pc regs None ok = refl
frame_agrees part whole is one other same mask asked pc regs (Some found) ok =
    let there = recover_row whole regs found in
    let here = recover_row part regs found in
    ap (behind (record { pc = pc; cfa = Some here.frame_address })) (recovered_agrees part whole is one other same mask found.row.content found.func.key regs ok)
    ∙ ap (λ (n : ℕ). behind (record { pc = pc; cfa = Some n }) (on_by other mask there there.return_address)) (cfa_same found.row.content found.func.key regs part whole)

frames_agree : (rows : LookUp) (part whole : List Region) → IsPartOf part whole → (mask : Option ℕ) (depth asked pc : ℕ) (regs : Regs)
    → Agree whole (frames_from (recover_by rows part) mask depth asked pc regs) (frames_from (recover_by rows whole) mask depth asked pc regs)
unfolding frames_from
frames_agree rows part whole is mask zero asked pc regs ok = refl
frames_agree rows part whole is mask (suc depth) asked pc regs ok =
    frame_agrees part whole is
    (λ next. frames_from (recover_by rows part) mask depth (address_before next) next) (λ next. frames_from (recover_by rows whole) mask depth (address_before next) next)
    (λ next later. frames_agree rows part whole is mask depth (address_before next) next later) mask asked pc regs (rows asked) ok

pub same_walk : (rows : LookUp) (thread : ThreadState) (part whole : List Region) (depth : ℕ) → IsPartOf part whole → MissedNothing whole (look_up_walk rows thread part depth).stop
    → look_up_walk rows thread part depth ≡ look_up_walk rows thread whole depth
unfolding walk_by
same_walk rows thread part whole depth is ok = frames_agree rows part whole is thread.mask depth thread.pc thread.pc thread.regs ok
