-- The inputs and the machines that functions are of.
use Rattle.std.specs.List.{AllByRecursion}
use Rattle.std.proofs.Common.{◌≡◌, ℕ, ◌+◌, ◌<◌, ◌≤◌, Bool, true, false, cond, All, List, [], ◌∷◌, ◌++◌, length, map, Result, Ok, Err, refl, sym, ap, subst, ◌∙◌, arith}
use Rattle.std.proofs.lemmas.List.Elements.{All-from_recursion}
use Rattle.std.proofs.lemmas.List.Sorted.{All-permutation}
use Rattle.sf_model.specs.declared.machine.Arch.{Arch}
use Rattle.eh_records.specs.Fde.{FdeView}
use Rattle.eh_records.specs.Section.{entries_of, frames, pointer_fields}
use Rattle.frame_functions.specs.declared.read_function.ReadFunction.{ReadFunction}
use Rattle.frame_functions.specs.declared.fault.AsmFault.{AsmFault}
use Rattle.frame_functions.specs.declared.fault.AsmFault.TheVariants as asm
use Rattle.sf_asm.specs.declared.fault.GatherFault.TheVariants as gather
use Rattle.frame_functions.specs.CallFrames.{CallFrames}
use Rattle.frame_functions.specs.Functions.{Function, fault_in, function_at, function_in, functions_in, section_functions, sections_functions, span_in}
use Rattle.sf_asm.specs.Functions.{◌>>=◌, Object, functions_after, machine_of, named, object_functions, sections_of, seen_behind, unless}
use Rattle.frame_functions.specs.Kept.{read_of}
use Rattle.frame_functions.specs.Order.{InOrder}
use Rattle.frame_functions.specs.Relocated.{Values, on_pointers, patched_values}
use Rattle.sf_asm.proofs.ReadInputs.{functions_after-cons, functions_after-nil}

-- the value behind a step
pub record IsBehind {A B F : Type 0} (first : Result A F) (next : A → Result B F) (end : B) : Type 0 where
  pub value : A
  pub first_is : first ≡ Ok value
  pub next_is : next value ≡ Ok end

pub behind : {A B F : Type 0} (first : Result A F) (next : A → Result B F) (end : B) → (first >>= next) ≡ Ok end → IsBehind first next end
behind (Ok x) next end e = record { value = x; first_is = refl; next_is = e }
behind (Err fault) next end e = cc

abbrev pub list_in : {F : Type 0} → Result (List Function) F → List Function
list_in (Ok fs) = fs
list_in (Err fault) = []

-- ---- all functions of an input are of that input, and of its machine
pub record IsOf (arch : Arch) (item : ℕ) (f : Function) : Type 0 where
  pub arch_is : f.arch ≡ arch
  pub item_is : f.origin.item ≡ item

abbrev pub AreOf : (arch : Arch) (item : ℕ) → List Function → Type 0
AreOf arch item fs = AllByRecursion (IsOf arch item) fs

both_of : (arch : Arch) (item : ℕ) (fs gs : List Function) → AreOf arch item fs → AreOf arch item gs → AreOf arch item (fs ++ gs)
both_of arch item [] gs h k = k
both_of arch item (f ∷ fs) gs h k = (h.0, both_of arch item fs gs h.1 k)

abbrev arch_in : (other : Arch) → Result Function AsmFault → Arch
arch_in other (Ok f) = f.arch
arch_in other (Err fault) = other

abbrev item_in : (other : ℕ) → Result Function AsmFault → ℕ
item_in other (Ok f) = f.origin.item
item_in other (Err fault) = other

function_of_item : (arch : Arch) (item : ℕ) (section : CallFrames) (values : Values) (f : FdeView) (g : Function) → function_in arch item section values f ≡ Ok g → IsOf arch item g
unfolding function_in
function_of_item arch item section values f g e =
    let spanned = behind (named (asm.Record section.number) (span_in section values f)) (λ span. named (asm.Machine section.number) (unless (fault_in arch f)) >>= λ _. Ok (function_at arch item section f span)) g e in
    let run = behind (named (asm.Machine section.number) (unless (fault_in arch f))) (λ _. Ok (function_at arch item section f spanned.value)) g spanned.next_is in
    record { arch_is = sym (ap (arch_in arch) run.next_is); item_is = sym (ap (item_in item) run.next_is) }

functions_of_item : (arch : Arch) (item : ℕ) (section : CallFrames) (values : Values) (views : List FdeView) (fs : List Function) → functions_in arch item section values views ≡ Ok fs → AreOf arch item fs
functions_of_item arch item section values [] fs e = subst (AreOf arch item) (ap list_in e) tt
functions_of_item arch item section values (f ∷ views) fs e = at_dropped (values.dropped f.begin) e (functions_of_item arch item section values views)
  where
    at_dropped : (b : Bool) → cond b (functions_in arch item section values views) (function_in arch item section values f >>= λ g. functions_in arch item section values views >>= λ gs. Ok (g ∷ gs)) ≡ Ok fs
        → ((gs : List Function) → functions_in arch item section values views ≡ Ok gs → AreOf arch item gs) → AreOf arch item fs
    at_dropped true e others = others fs e
    at_dropped false e others =
        let first = behind (function_in arch item section values f) (λ g. functions_in arch item section values views >>= λ gs. Ok (g ∷ gs)) fs e in
        let rest = behind (functions_in arch item section values views) (λ gs. Ok (first.value ∷ gs)) fs first.next_is in
        subst (AreOf arch item) (ap list_in rest.next_is) (function_of_item arch item section values f first.value first.first_is, others rest.value rest.first_is)

section_of_item : (arch : Arch) (item : ℕ) (section : CallFrames) (fs : List Function) → section_functions arch item section ≡ Ok fs → AreOf arch item fs
unfolding section_functions
section_of_item arch item section fs e =
    let records = behind (named (asm.Record section.number) (entries_of arch section.bytes))
    (λ es. named (asm.Reloc section.number) (section.relocations >>= on_pointers (pointer_fields es)) >>= λ fixes. functions_in arch item section (patched_values fixes section.bytes) (frames es)) fs e in
    let relocated = behind (named (asm.Reloc section.number) (section.relocations >>= on_pointers (pointer_fields records.value))) (λ fixes. functions_in arch item section (patched_values fixes section.bytes) (frames records.value)) fs records.next_is in
    functions_of_item arch item section (patched_values relocated.value section.bytes) (frames records.value) fs relocated.next_is

sections_of_item : (arch : Arch) (item : ℕ) (sections : List CallFrames) (fs : List Function) → sections_functions arch item sections ≡ Ok fs → AreOf arch item fs
sections_of_item arch item [] fs e = subst (AreOf arch item) (ap list_in e) tt
sections_of_item arch item (s ∷ sections) fs e =
    let first = behind (section_functions arch item s) (λ gs. sections_functions arch item sections >>= λ hs. Ok (gs ++ hs)) fs e in
    let rest = behind (sections_functions arch item sections) (λ hs. Ok (first.value ++ hs)) fs first.next_is in
    subst (AreOf arch item) (ap list_in rest.next_is)
    (both_of arch item first.value rest.value (section_of_item arch item s first.value first.first_is) (sections_of_item arch item sections rest.value rest.first_is))

pub object_of_item : (item : ℕ) (seen : List (List ℕ)) (object : Object) (fs : List Function) → object_functions item seen object ≡ Ok fs → AreOf (machine_of object) item fs
object_of_item item seen object fs e =
    let sections = behind (sections_of seen object) (sections_functions (machine_of object) item) fs e in
    sections_of_item (machine_of object) item sections.value fs sections.next_is

pub unnamed : (item : ℕ) (given : Result (List Function) AsmFault) (fs : List Function) → named (gather.Input item) given ≡ Ok fs → given ≡ Ok fs
unnamed item (Ok gs) fs e = ap Ok (let is : gs ≡ fs = cc in is)
unnamed item (Err fault) fs e = cc

-- ---- all functions are of inputs from one number on, and below another
abbrev AreWithin : (from to : ℕ) → List Function → Type 0
AreWithin from to fs = AllByRecursion (λ (f : Function). (from ≤ f.origin.item) × (f.origin.item < to)) fs

wider : (from to from' to' : ℕ) (fs : List Function) → from' ≤ from → to ≤ to' → AreWithin from to fs → AreWithin from' to' fs
wider from to from' to' [] le le' h = tt
wider from to from' to' (f ∷ fs) le le' h = ((omega (arith, h.0.0), omega (arith, h.0.1)), wider from to from' to' fs le le' h.1)

of_within : (arch : Arch) (item : ℕ) (fs : List Function) → AreOf arch item fs → AreWithin item (item + 1) fs
of_within arch item [] h = tt
of_within arch item (f ∷ fs) h = ((omega (arith, h.0.item_is), omega (arith, h.0.item_is)), of_within arch item fs h.1)

both_within : (from to : ℕ) (fs gs : List Function) → AreWithin from to fs → AreWithin from to gs → AreWithin from to (fs ++ gs)
both_within from to [] gs h k = k
both_within from to (f ∷ fs) gs h k = (h.0, both_within from to fs gs h.1 k)

all_within : (seen : List (List ℕ)) (item : ℕ) (objects : List Object) (fs : List Function) → functions_after seen item objects ≡ Ok fs → AreWithin item (item + length objects) fs
all_within seen item [] fs e = subst (AreWithin item (item + 0)) (ap list_in (sym (functions_after-nil seen item) ∙ e)) tt
all_within seen item (object ∷ objects) fs e =
    let first = behind (named (gather.Input item) (object_functions item seen object)) (λ gs. functions_after (seen_behind seen object) (item + 1) objects >>= λ hs. Ok (gs ++ hs)) fs (sym (functions_after-cons seen item object objects) ∙ e) in
    let rest = behind (functions_after (seen_behind seen object) (item + 1) objects) (λ hs. Ok (first.value ++ hs)) fs first.next_is in
    let here = of_within (machine_of object) item first.value (object_of_item item seen object first.value (unnamed item (object_functions item seen object) first.value first.first_is)) in
    let there = all_within (seen_behind seen object) (item + 1) objects rest.value rest.first_is in
    subst (AreWithin item (item + length (object ∷ objects))) (ap list_in rest.next_is)
    (both_within item (item + length (object ∷ objects)) first.value rest.value (wider item (item + 1) item (item + length (object ∷ objects)) first.value (omega arith) (omega arith) here)
    (wider (item + 1) (item + 1 + length objects) item (item + length (object ∷ objects)) rest.value (omega arith) (omega arith) there))

-- the same of what becomes of them, in any order
abbrev pub IsWithin : (from to : ℕ) → ReadFunction → Type 0
IsWithin from to e = (from ≤ e.span.origin.item) × (e.span.origin.item < to)

entries_within : (from to : ℕ) (fs : List Function) → AreWithin from to fs → AllByRecursion (IsWithin from to) (map read_of fs)
entries_within from to [] h = tt
entries_within from to (f ∷ fs) h = (h.0, entries_within from to fs h.1)

pub ordered_within : (item : ℕ) (objects : List Object) (fs : List Function) (ordered : List ReadFunction) → functions_after [] item objects ≡ Ok fs → InOrder (map read_of fs) ordered → All (IsWithin item (item + length objects)) ordered
ordered_within item objects fs ordered e order =
    All-permutation (IsWithin item (item + length objects)) (map read_of fs) ordered order.moved
    (All-from_recursion (IsWithin item (item + length objects)) (map read_of fs) (entries_within item (item + length objects) fs (all_within [] item objects fs e)))
