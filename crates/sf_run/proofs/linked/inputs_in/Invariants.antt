use Rattle.std.proofs.Common.{◌≡◌, map, take}
use Rattle.sf_asm.specs.Functions.{object_of}
use Rattle.sf_run.proofs.Inputs.{loaded_object}
use Rattle.sf_run.proofs.linked.inputs_in.Given as goal

-- the inputs so far are those of the items so far
abbrev pub invariant-loop-file : goal.invariant-loop-file
invariant-loop-file l = map object_of l.inputs.items ≡ map loaded_object (take l.file-index l.loaded)
