-- One step of a walk, by what is looked up and recovered.
use Rattle.std.specs.Option.{option_map}
use Rattle.std.proofs.Common.{◌≡◌, ℕ, Option, Some, None, List, refl, sym, ap, ◌∙◌}
use Rattle.sf_model.specs.declared.recovery.Regs.{Regs}
use Rattle.sf_model.specs.declared.recovery.Recovered.{Recovered}
use Rattle.sf_model.specs.declared.content.Content.{Content}
use Rattle.sf_model.specs.declared.machine.Key.{Key}
use Rattle.sf_model.specs.declared.walk.Stop.TheVariants.{Unreadable}
use Rattle.sf_model.specs.declared.machine.Arch.{Arch}
use Rattle.sf_model.specs.Lookup.{FoundRow}
use Rattle.sf_model.specs.Memory.{Region, read_eight}
use Rattle.sf_model.specs.Recovery.{Recovery, Value, Known, frame_address_of, known, pointer_place, recovered, recovery, return_place, saved_or_kept, saved_value}
use Rattle.sf_model.specs.Walk.{Going, LookUp, on_by, on_by_address, on_by_pointer, recover_by, stopped, unsigned_address}
use Rattle.sf_lookup.specs.declared.lookup.Found.{Found}
use Rattle.sf_lookup.specs.Lookup.{shown}

-- what is recovered by a row that was looked up
abbrev pub recover_found : List Region → Regs → Found → Recovery
recover_found memory regs found = recovery found.row.content found.func.key regs memory

same_recovery : (memory : List Region) (regs : Regs) (o : Option FoundRow)
    → option_map (λ (found : FoundRow). recovery found.row.content found.func.key regs memory) o ≡ option_map (recover_found memory regs) (option_map shown o)
same_recovery memory regs None = refl
same_recovery memory regs (Some found) = refl

pub recovered_by : (look_up : LookUp) (memory : List Region) (asked : ℕ) (regs : Regs) (o : Option (Arch × Found)) → option_map (λ (f : Arch × Found). f.1) o ≡ option_map shown (look_up asked)
    → recover_by look_up memory asked regs ≡ option_map (recover_found memory regs) (option_map (λ (f : Arch × Found). f.1) o)
recovered_by look_up memory asked regs o e = same_recovery memory regs (look_up asked) ∙ ap (option_map (recover_found memory regs)) (sym e)

-- ---- a value of the caller's, by what is known of it
pub known_is : (v : Value) (x : ℕ) → Some x ≡ known v → v ≡ Known x
known_is (Known y) x e = let same : x ≡ y = cc in ap (λ (z : ℕ). Known z) (sym same)
known_is (Value.Unreadable a) x e = absurd (let differ : Some x ≡ None = e in cc)

unknown_read : (a : ℕ) (o : Option ℕ) → None ≡ known (saved_value a o) → saved_value a o ≡ Value.Unreadable a
unknown_read a (Some x) e = absurd (let differ : None ≡ Some x = e in cc)
unknown_read a None e = refl

-- what is unknown is saved at a place that can't be read
pub unknown_is : (memory : List Region) (present : ℕ) (place : Option ℕ) (a : ℕ) → None ≡ known (saved_or_kept memory present place) → ((p : ℕ) → place ≡ Some p → p ≡ a)
    → saved_or_kept memory present place ≡ Value.Unreadable a
unknown_is memory present (Some p) a e is = unknown_read p (read_eight memory p) e ∙ ap (λ (x : ℕ). Value.Unreadable x) (is p refl)
unknown_is memory present None a e is = absurd (let differ : None ≡ Some present = e in cc)

-- ---- to the caller, by what a row recovers
known_address : (content : Content) (key : Key) (regs : Regs) (memory : List Region) (r : Recovered) (address : ℕ) → r ≡ recovered (recovery content key regs memory) → r.ra ≡ Some address
    → (recovery content key regs memory).return_address ≡ Known address
known_address content key regs memory r address e is = known_is (recovery content key regs memory).return_address address (sym is ∙ ap (λ (x : Recovered). x.ra) e)

pub no_address : (go : Going) (mask : Option ℕ) (content : Content) (key : Key) (regs : Regs) (memory : List Region) (r : Recovered) (a : ℕ)
    → r ≡ recovered (recovery content key regs memory) → r.ra ≡ None → ((p : ℕ) → return_place content.ra r.cfa ≡ Some p → p ≡ a)
    → on_by go mask (recovery content key regs memory) (recovery content key regs memory).return_address ≡ stopped (Unreadable a)
unfolding recovery
no_address go mask content key regs memory r a e none is =
    let base = frame_address_of content regs in
    let unknown : None ≡ known (saved_or_kept memory regs.lr (return_place content.ra base)) = sym none ∙ ap (λ (x : Recovered). x.ra) e in
    let cfa : r.cfa ≡ base = ap (λ (x : Recovered). x.cfa) e in
    ap (on_by go mask (recovery content key regs memory)) (unknown_is memory regs.lr (return_place content.ra base) a unknown (λ p h. is p (ap (return_place content.ra) cfa ∙ h)))

pub no_pointer : (go : Going) (mask : Option ℕ) (content : Content) (key : Key) (regs : Regs) (memory : List Region) (r : Recovered) (address a : ℕ)
    → r ≡ recovered (recovery content key regs memory) → r.ra ≡ Some address → r.fp ≡ None → ((p : ℕ) → pointer_place content.fp r.cfa ≡ Some p → p ≡ a)
    → on_by go mask (recovery content key regs memory) (recovery content key regs memory).return_address ≡ stopped (Unreadable a)
unfolding recovery
no_pointer go mask content key regs memory r address a e some none is =
    let base = frame_address_of content regs in
    let unknown : None ≡ known (saved_or_kept memory regs.fp (pointer_place content.fp base)) = sym none ∙ ap (λ (x : Recovered). x.fp) e in
    let cfa : r.cfa ≡ base = ap (λ (x : Recovered). x.cfa) e in
    ap (on_by go mask (recovery content key regs memory)) (known_address content key regs memory r address e some)
    ∙ ap (on_by_pointer go mask (recovery content key regs memory) address) (unknown_is memory regs.fp (pointer_place content.fp base) a unknown (λ p h. is p (ap (pointer_place content.fp) cfa ∙ h)))

pub both_known : (go : Going) (mask : Option ℕ) (content : Content) (key : Key) (regs : Regs) (memory : List Region) (r : Recovered) (address pointer : ℕ) (pc : Option ℕ)
    → r ≡ recovered (recovery content key regs memory) → r.ra ≡ Some address → r.fp ≡ Some pointer → pc ≡ unsigned_address r.signed mask address
    → on_by go mask (recovery content key regs memory) (recovery content key regs memory).return_address ≡ on_by_address go r.cfa pointer address pc
unfolding recovery
both_known go mask content key regs memory r address pointer pc e some also unsigned =
    let all = recovery content key regs memory in
    let cfa : all.stack_pointer ≡ r.cfa = sym (ap (λ (x : Recovered). x.cfa) e) in
    let signed : all.signed ≡ r.signed = sym (ap (λ (x : Recovered). x.signed) e) in
    ap (on_by go mask all) (known_address content key regs memory r address e some)
    ∙ ap (on_by_pointer go mask all address) (known_is all.frame_pointer pointer (sym also ∙ ap (λ (x : Recovered). x.fp) e))
    ∙ ap (λ (s : Option Key). on_by_address go all.stack_pointer pointer address (unsigned_address s mask address)) signed
    ∙ ap (λ (n : ℕ). on_by_address go n pointer address (unsigned_address r.signed mask address)) cfa
    ∙ ap (on_by_address go r.cfa pointer address) (sym unsigned)
