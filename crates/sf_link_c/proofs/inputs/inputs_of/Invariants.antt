use Rattle.std.proofs.Common.{◌≡◌, ◌<◌, ◌^◌, All, map, take, length}
use Rattle.sf_asm.specs.declared.input.Input.{Input}
use Rattle.sf_asm.specs.Functions.{object_of}
use Rattle.sf_link_c.specs.Inputs.{object_of_input}
use Rattle.sf_link_c.proofs.inputs.inputs_of.Given as goal

abbrev pub invariant-loop-input : goal.invariant-loop-input
invariant-loop-input l =
    (map object_of l.all.items ≡ map object_of_input (take l.input-index l.inputs)) × All (λ (input : Input). length (object_of input).bytes < 2 ^ 32) l.all.items
