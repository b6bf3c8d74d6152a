-- Functions of inputs by rising start: what becomes of them, and those that are omitted, are in that order too.
use Rattle.std.specs.Prelude.{not}
use Rattle.std.proofs.Common.{◌≡◌, List, map, refl, sym, ap, ◌∙◌}
use Rattle.sf_functions.proofs.ByStart.{by_key, by_key-filter, by_key-map, by_key-only, in_order}
use Rattle.frame_functions.specs.declared.read_function.ReadFunction.{ReadFunction}
use Rattle.frame_functions.specs.Functions.{Function}
use Rattle.frame_functions.specs.Kept.{read_of, is_kept, omitted_functions}
use Rattle.frame_functions.specs.Order.{InOrder, start_of}
use Rattle.frame_functions.specs.Descriptions.{AreByStart, function_start}

abbrev pub sorted_functions : List Function → List Function
sorted_functions functions = by_key function_start functions

pub are_by_start : (functions : List Function) → AreByStart functions (sorted_functions functions)
are_by_start functions = in_order function_start functions

pub ordered_are : (functions : List Function) (ordered : List ReadFunction) → InOrder (map read_of functions) ordered → ordered ≡ map read_of (sorted_functions functions)
ordered_are functions ordered h =
    by_key-only start_of (map read_of functions) ordered h.rising h.stable ∙ sym (by_key-map read_of function_start start_of functions (λ k d lt. refl))

pub descriptions_are : (functions read descriptions : List Function) → read ≡ omitted_functions functions → AreByStart read descriptions → descriptions ≡ omitted_functions (sorted_functions functions)
descriptions_are functions read descriptions lent h =
    by_key-only function_start read descriptions h.rising h.stable ∙ ap (by_key function_start) lent ∙ sym (by_key-filter function_start (λ (f : Function). not (is_kept f)) functions)
