-- There is one order of functions by rising start, in which those of one start stay in their order.
use Rattle.std.proofs.Common.{◌≡◌, ℕ, List, map, Option, Result, Ok, Err, sym, ap, ◌∙◌}
use Rattle.sf_model.specs.declared.machine.Arch.{Arch}
use Rattle.sf_functions.proofs.ByStart.{one_order as one_by_start}
use Rattle.frame_functions.specs.declared.read_function.ReadFunction.{ReadFunction}
use Rattle.sf_asm.specs.declared.fault.GatherFault.{GatherFault}
use Rattle.sf_asm.specs.declared.fault.LinkFault.{LinkFault}
use Rattle.frame_functions.specs.Functions.{Function}
use Rattle.sf_asm.specs.Functions.{Object}
use Rattle.sf_asm.specs.Inputs.{all_functions}
use Rattle.frame_functions.specs.Kept.{read_of}
use Rattle.frame_functions.specs.Order.{start_of, InOrder}
use Rattle.sf_asm.specs.Linking.{link_fault, unless_fault, Links, LinksFrom}
use Rattle.sf_asm.proofs.Described.{from_links}

pub one_order : (all es fs : List ReadFunction) → InOrder all es → InOrder all fs → es ≡ fs
one_order all es fs a b = one_by_start start_of all es fs a b

-- ---- linking
result_from : (at : ℕ) (given : Result (List Function) GatherFault) (r r' : Result (List ReadFunction) LinkFault) → LinksFrom at given r → LinksFrom at given r' → r ≡ r'
result_from at (Ok functions) r r' (es, order, e) (fs, order', e') =
    let same = one_order (map read_of functions) es fs order order' in
    e ∙ ap (λ (xs : List ReadFunction). unless_fault (link_fault at xs) xs) same ∙ sym e'
result_from at (Err fault) r r' e e' = e ∙ sym e'

pub one_result : (before : Option Arch) (objects : List Object) (at : ℕ) (r r' : Result (List ReadFunction) LinkFault) → Links before objects at r → Links before objects at r' → r ≡ r'
one_result before objects at r r' h h' = result_from at (all_functions before objects) r r' (from_links before objects at r h) (from_links before objects at r' h')
