-- The functions of inputs, one behind the other.
use Rattle.std.specs.Prelude.{◌⊎◌}
use Rattle.std.proofs.Common.{◌≡◌, ℕ, ◌+◌, ◌<◌, ◌≤◌, Bool, List, [], ◌∷◌, ◌++◌, length, get_or, take, drop, map, Result, Ok, Err, refl, sym, ap, subst, ◌∙◌, add-one, arith, inl, inr}
use Rattle.std.proofs.Math.Seq.{drop-cons}
use Rattle.std.proofs.lemmas.List.{append-nil, drop_all, map-append, take_more}
use Rattle.frame_functions.specs.declared.fault.AsmFault.{AsmFault}
use Rattle.frame_functions.specs.declared.fault.AsmFault.TheVariants as asm
use Rattle.sf_asm.specs.declared.fault.GatherFault.{GatherFault}
use Rattle.sf_asm.specs.declared.fault.GatherFault.TheVariants as gather
use Rattle.elf_groups.specs.declared.groups.SeenSignatures.{SeenSignatures}
use Rattle.sf_asm.specs.declared.input.Input.{Input}
use Rattle.frame_functions.specs.declared.read.ReadFunctions.{ReadFunctions}
use Rattle.frame_functions.specs.Answers.{after_read}
use Rattle.sf_asm.specs.Fault.{wraps_input}
use Rattle.frame_functions.specs.Functions.{Function}
use Rattle.sf_asm.specs.Functions.{◌>>=◌, Object, functions_after, functions_of, machine_of, named, object_functions, object_of, seen_behind}
use Rattle.frame_functions.specs.ReadSoFar.{AreReadSoFar, ReadsAll}
use Rattle.elf_groups.specs.SeenSignatures.{HasSeen}
use Rattle.frame_functions.proofs.ReadSoFar.{after_both, after_none, then_others}

-- ---- the fault of one input
wrapped : (item : ℕ) (given : Result (List Function) AsmFault) (fault : AsmFault) → wraps_input item fault ≡ gather.Input item fault → (fault ≡ asm.NoMemory → ⊥) → (fault ≡ asm.NoMemory) ⊎ (given ≡ Err fault)
    → (wraps_input item fault ≡ gather.NoMemory) ⊎ (named (gather.Input item) given ≡ Err (wraps_input item fault))
wrapped item given fault is other (inl e) = absurd (other e)
wrapped item given fault is other (inr e) = inr (ap (named (gather.Input item)) e ∙ ap Err (sym is))

pub input_wrapped : (item : ℕ) (given : Result (List Function) AsmFault) (fault : AsmFault) → (fault ≡ asm.NoMemory) ⊎ (given ≡ Err fault)
    → (wraps_input item fault ≡ gather.NoMemory) ⊎ (named (gather.Input item) given ≡ Err (wraps_input item fault))
input_wrapped item given asm.NoMemory h = inl refl
input_wrapped item given (asm.Elf fault) h = wrapped item given (asm.Elf fault) refl (λ e. cc) h
input_wrapped item given (asm.Place fault) h = wrapped item given (asm.Place fault) refl (λ e. cc) h
input_wrapped item given (asm.Reloc section fault) h = wrapped item given (asm.Reloc section fault) refl (λ e. cc) h
input_wrapped item given (asm.Record section fault) h = wrapped item given (asm.Record section fault) refl (λ e. cc) h
input_wrapped item given (asm.Machine section fault) h = wrapped item given (asm.Machine section fault) refl (λ e. cc) h

-- ---- inputs
-- what is left, after the functions that were read, comes to what all inputs come to
pub record AreReadUpTo (lending : Bool) (set : SeenSignatures) (read : ReadFunctions) (item : ℕ) (left : List Object) (given : Result (List Function) GatherFault) : Type 0 where
  pub seen : List (List ℕ)
  pub has : HasSeen set seen
  pub functions : List Function
  pub are : AreReadSoFar lending read functions
  pub comes : after_read functions (functions_after seen item left) ≡ given

pub starts : (lending : Bool) (set : SeenSignatures) (read : ReadFunctions) (item : ℕ) (objects : List Object) → HasSeen set [] → AreReadSoFar lending read [] → AreReadUpTo lending set read item objects (functions_of item objects)
starts lending set read item objects h none = record { seen = []; has = h; functions = []; are = none; comes = after_none (functions_of item objects) }

pub functions_after-cons : (seen : List (List ℕ)) (item : ℕ) (object : Object) (left : List Object)
    → functions_after seen item (object ∷ left) ≡ (named (gather.Input item) (object_functions item seen object) >>= λ fs. functions_after (seen_behind seen object) (item + 1) left >>= λ gs. Ok (fs ++ gs))
unfolding functions_after
functions_after-cons seen item object left = refl

pub functions_after-nil : (seen : List (List ℕ)) (item : ℕ) → functions_after seen item [] ≡ Ok []
unfolding functions_after
functions_after-nil seen item = refl

pub goes_on : (lending : Bool) (set set' : SeenSignatures) (read read' : ReadFunctions) (item : ℕ) (object : Object) (left : List Object) (given : Result (List Function) GatherFault) → AreReadUpTo lending set read item (object ∷ left) given
    → ((signatures : List (List ℕ)) → HasSeen set signatures → ReadsAll lending read read' (object_functions item signatures object))
    → ((signatures : List (List ℕ)) → HasSeen set signatures → HasSeen set' (seen_behind signatures object)) → AreReadUpTo lending set' read' (item + 1) left given
goes_on lending set set' read read' item object left given h reads sees =
    let one = reads h.seen h.has in
    let others = functions_after (seen_behind h.seen object) (item + 1) left in
    record {
      seen = seen_behind h.seen object;
      has = sees h.seen h.has;
      functions = h.functions ++ one.0;
      are = one.2 h.functions h.are;
      comes = after_both h.functions one.0 others
          ∙ ap (after_read h.functions) (sym (functions_after-cons h.seen item object left ∙ then_others (named (gather.Input item) (object_functions item h.seen object)) one.0 others (ap (named (gather.Input item)) one.1)))
          ∙ h.comes;
    }

first_fault : (item : ℕ) (one : Result (List Function) AsmFault) (left : Result (List Function) GatherFault) (fault : GatherFault) → named (gather.Input item) one ≡ Err fault
    → (named (gather.Input item) one >>= λ fs. left >>= λ gs. Ok (fs ++ gs)) ≡ Err fault
first_fault item one left fault e = ap (λ (r : Result (List Function) GatherFault). r >>= λ fs. left >>= λ gs. Ok (fs ++ gs)) e

pub stops : (lending : Bool) (set : SeenSignatures) (read : ReadFunctions) (item : ℕ) (object : Object) (left : List Object) (given : Result (List Function) GatherFault) (fault : GatherFault) → AreReadUpTo lending set read item (object ∷ left) given
    → ((signatures : List (List ℕ)) → HasSeen set signatures → (fault ≡ gather.NoMemory) ⊎ (named (gather.Input item) (object_functions item signatures object) ≡ Err fault)) → (fault ≡ gather.NoMemory) ⊎ (given ≡ Err fault)
stops lending set read item object left given fault h refused =
    elim (refused h.seen h.has) [
      | inl wanting ↦ inl wanting
      | inr e ↦
          inr (sym h.comes
          ∙ ap (after_read h.functions) (functions_after-cons h.seen item object left ∙ first_fault item (object_functions item h.seen object) (functions_after (seen_behind h.seen object) (item + 1) left) fault e))
    ]

pub ends : (lending : Bool) (set : SeenSignatures) (read : ReadFunctions) (item : ℕ) (given : Result (List Function) GatherFault) → AreReadUpTo lending set read item [] given → (functions : List Function) × (given ≡ Ok functions) × AreReadSoFar lending read functions
ends lending set read item given h = (h.functions, sym h.comes ∙ ap (after_read h.functions) (functions_after-nil h.seen item) ∙ ap Ok (append-nil h.functions), h.are)

-- ---- the inputs from a place on
left_is : (inputs : List Input) (k : ℕ) (input : Input) → k < length inputs → input ≡ get_or inputs k input → map object_of (drop k inputs) ≡ object_of input ∷ map object_of (drop (k + 1) inputs)
left_is inputs k input lt is =
    ap (map object_of) (drop-cons inputs k input lt) ∙ ap (λ (n : ℕ). object_of (get_or inputs k input) ∷ map object_of (drop n inputs)) (sym (add-one k))
    ∙ ap (λ (i : Input). object_of i ∷ map object_of (drop (k + 1) inputs)) (sym is)

pub goes_on_at : (lending : Bool) (set set' : SeenSignatures) (read read' : ReadFunctions) (first k : ℕ) (inputs : List Input) (input : Input) (given : Result (List Function) GatherFault) → k < length inputs → input ≡ get_or inputs k input
    → AreReadUpTo lending set read (first + k) (map object_of (drop k inputs)) given
    → ((signatures : List (List ℕ)) → HasSeen set signatures → ReadsAll lending read read' (object_functions (first + k) signatures (object_of input)))
    → ((signatures : List (List ℕ)) → HasSeen set signatures → HasSeen set' (seen_behind signatures (object_of input))) → AreReadUpTo lending set' read' (first + (k + 1)) (map object_of (drop (k + 1) inputs)) given
goes_on_at lending set set' read read' first k inputs input given lt is h reads sees =
    subst (λ (item : ℕ). AreReadUpTo lending set' read' item (map object_of (drop (k + 1) inputs)) given) (omega arith)
    (goes_on lending set set' read read' (first + k) (object_of input) (map object_of (drop (k + 1) inputs)) given
    (subst (λ (left : List Object). AreReadUpTo lending set read (first + k) left given) (left_is inputs k input lt is) h) reads sees)

pub stops_at : (lending : Bool) (set : SeenSignatures) (read : ReadFunctions) (first k : ℕ) (inputs : List Input) (input : Input) (given : Result (List Function) GatherFault) (fault : GatherFault) → k < length inputs → input ≡ get_or inputs k input
    → AreReadUpTo lending set read (first + k) (map object_of (drop k inputs)) given
    → ((signatures : List (List ℕ)) → HasSeen set signatures → (fault ≡ gather.NoMemory) ⊎ (named (gather.Input (first + k)) (object_functions (first + k) signatures (object_of input)) ≡ Err fault))
    → (fault ≡ gather.NoMemory) ⊎ (given ≡ Err fault)
stops_at lending set read first k inputs input given fault lt is h refused =
    stops lending set read (first + k) (object_of input) (map object_of (drop (k + 1) inputs)) given fault
    (subst (λ (left : List Object). AreReadUpTo lending set read (first + k) left given) (left_is inputs k input lt is) h) refused

pub ends_at : (lending : Bool) (set : SeenSignatures) (read : ReadFunctions) (item k : ℕ) (inputs : List Input) (given : Result (List Function) GatherFault) → length inputs ≤ k → AreReadUpTo lending set read item (map object_of (drop k inputs)) given
    → (functions : List Function) × (given ≡ Ok functions) × AreReadSoFar lending read functions
ends_at lending set read item k inputs given le h =
    ends lending set read item given (subst (λ (left : List Object). AreReadUpTo lending set read item left given) (ap (map object_of) (drop_all k inputs le)) h)

-- the machines up to a place
pub machines_more : (inputs : List Input) (k : ℕ) (input : Input) → k < length inputs → input ≡ get_or inputs k input
    → map machine_of (map object_of (take k inputs)) ++ machine_of (object_of input) ∷ [] ≡ map machine_of (map object_of (take (k + 1) inputs))
machines_more inputs k input lt is =
    ap (λ (i : Input). map machine_of (map object_of (take k inputs)) ++ machine_of (object_of i) ∷ []) is
    ∙ sym (ap (λ (xs : List Input). map machine_of (map object_of xs)) (take_more inputs k input lt)
    ∙ ap (map machine_of) (map-append object_of (take k inputs) (get_or inputs k input ∷ []))
    ∙ map-append machine_of (map object_of (take k inputs)) (object_of (get_or inputs k input) ∷ []))
