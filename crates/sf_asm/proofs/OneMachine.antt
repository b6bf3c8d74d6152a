-- All functions of inputs of one machine are of that machine.
use Rattle.std.specs.List.{AllByRecursion}
use Rattle.std.proofs.Common.{◌≡◌, ℕ, ◌+◌, All, List, [], ◌∷◌, ◌++◌, map, Option, Ok, sym, ap, subst, ◌∙◌}
use Rattle.std.proofs.lemmas.List.Elements.{All-from_recursion, recursion_from_All}
use Rattle.sf_model.specs.declared.machine.Arch.{Arch}
use Rattle.sf_asm.specs.declared.fault.GatherFault.TheVariants as gather
use Rattle.frame_functions.specs.Functions.{Function}
use Rattle.sf_asm.specs.Functions.{◌>>=◌, Object, functions_after, functions_of, machine_of, named, object_functions, seen_behind}
use Rattle.sf_asm.specs.Inputs.{HaveMachine, first_item}
use Rattle.sf_asm.proofs.InputsOfFunctions.{AreOf, behind, list_in, object_of_item, unnamed}
use Rattle.sf_asm.proofs.Machines.{inputs_have}
use Rattle.sf_asm.proofs.ReadInputs.{functions_after-cons, functions_after-nil}

abbrev Have : Arch → List Function → Type 0
Have arch fs = AllByRecursion (λ (f : Function). f.arch ≡ arch) fs

both_have : (arch : Arch) (fs gs : List Function) → Have arch fs → Have arch gs → Have arch (fs ++ gs)
both_have arch [] gs h k = k
both_have arch (f ∷ fs) gs h k = (h.0, both_have arch fs gs h.1 k)

of_machine : (arch : Arch) (item : ℕ) (fs : List Function) → AreOf arch item fs → Have arch fs
of_machine arch item [] h = tt
of_machine arch item (f ∷ fs) h = (h.0.arch_is, of_machine arch item fs h.1)

objects_have : (arch : Arch) (seen : List (List ℕ)) (item : ℕ) (objects : List Object) (fs : List Function) → AllByRecursion (λ (m : Arch). m ≡ arch) (map machine_of objects) → functions_after seen item objects ≡ Ok fs → Have arch fs
objects_have arch seen item [] fs h e = subst (Have arch) (ap list_in (sym (functions_after-nil seen item) ∙ e)) tt
objects_have arch seen item (object ∷ objects) fs h e =
    let first = behind (named (gather.Input item) (object_functions item seen object)) (λ gs. functions_after (seen_behind seen object) (item + 1) objects >>= λ hs. Ok (gs ++ hs)) fs (sym (functions_after-cons seen item object objects) ∙ e) in
    let rest = behind (functions_after (seen_behind seen object) (item + 1) objects) (λ hs. Ok (first.value ++ hs)) fs first.next_is in
    let here = subst (λ (m : Arch). Have m first.value) h.0 (of_machine (machine_of object) item first.value (object_of_item item seen object first.value (unnamed item (object_functions item seen object) first.value first.first_is))) in
    subst (Have arch) (ap list_in rest.next_is) (both_have arch first.value rest.value here (objects_have arch (seen_behind seen object) (item + 1) objects rest.value h.1 rest.first_is))

pub machine_of_functions : (before : Option Arch) (objects : List Object) (arch : Arch) (fs : List Function) → functions_of (first_item before) objects ≡ Ok fs → HaveMachine before objects arch → All (λ (f : Function). f.arch ≡ arch) fs
machine_of_functions before objects arch fs e h =
    All-from_recursion (λ (f : Function). f.arch ≡ arch) fs
    (objects_have arch [] (first_item before) objects fs (recursion_from_All (λ (m : Arch). m ≡ arch) (map machine_of objects) (inputs_have before arch (map machine_of objects) h)) e)
