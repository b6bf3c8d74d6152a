use Rattle.std.proofs.Common.{◌≡◌, ◌+◌, All, drop, take, map}
use Rattle.sf_model.specs.declared.machine.Arch.{Arch}
use Rattle.sf_asm.specs.Functions.{functions_of, machine_of, object_of}
use Rattle.frame_functions.specs.ReadSoFar.{AreSound}
use Rattle.sf_asm.proofs.ReadInputs.{AreReadUpTo}
use Rattle.sf_asm.proofs.inputs.read_all.Given as goal

abbrev pub invariant-loop-index : goal.invariant-loop-index
invariant-loop-index l = record {
  reads : AreReadUpTo l.lending l.seen l.all.read (l.first + l.index) (map object_of (drop l.index l.inputs)) (functions_of l.first (map object_of l.inputs));
  machines : l.all.machines.items ≡ map machine_of (map object_of (take l.index l.inputs));
  sound : (arch : Arch) → All (λ (machine : Arch). machine ≡ arch) l.all.machines.items → AreSound arch l.all.read;
}
