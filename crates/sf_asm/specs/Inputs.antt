-- All inputs of a run: their numbers, their one machine, and their functions. An item may come before the inputs; it is then item 0.
use Rattle.std.specs.Prelude.{◌≡◌, ℕ, Bool, true, false, not, List, [], ◌∷◌, ◌++◌, map, position, All, Option, Some, None, option_to_list, Result, Ok}
use Rattle.std.specs.Option.{option_map}
use Rattle.sf_model.specs.declared.machine.Arch.{Arch}
use Rattle.sf_model.specs.declared.machine.Arch.TheVariants.{Amd64, Aarch64}
use Rattle.sf_asm.specs.declared.fault.GatherFault.{GatherFault}
use Rattle.sf_asm.specs.declared.fault.GatherFault.TheVariants.{MixedArch}
use Rattle.frame_functions.specs.Functions.{Function}
use Rattle.sf_asm.specs.Functions.{Object, functions_of, machine_of, unless}
use Rattle.sf_bytes.specs.Steps.{◌>>=◌}

-- the number of the first input, after an item of this machine or of none
abbrev pub first_item : (before : Option Arch) → ℕ
first_item None = 0
first_item (Some arch) = 1

-- ---- one machine
-- the machine of each item, in order: that of an item before the inputs, if there is one, and those of the inputs
abbrev pub machines_of : (before : Option Arch) → List Object → List Arch
machines_of before objects = option_to_list before ++ map machine_of objects

-- both machines are the same
abbrev pub is_same : Arch → Arch → Bool
is_same Amd64 Amd64 = true
is_same Aarch64 Aarch64 = true
is_same one other = false

-- the least item whose machine differs from that of item 0
abbrev pub differing : List Arch → Option ℕ
differing [] = None
differing (first ∷ others) = position (λ machine. not (is_same first machine)) (first ∷ others)

-- the fault of two machines among these
abbrev pub mixed_among : List Arch → Option GatherFault
mixed_among machines = option_map (MixedArch 0) (differing machines)

-- the fault of two items of different machines
abbrev pub mixed_fault : (before : Option Arch) → List Object → Option GatherFault
mixed_fault before objects = mixed_among (machines_of before objects)

-- it is the machine of all items
abbrev pub HaveMachine : (before : Option Arch) → List Object → Arch → Type 0
HaveMachine before objects arch = All (λ (machine : Arch). machine ≡ arch) (machines_of before objects)

-- ---- all functions
-- ---- Inside the crate
-- the machine of an item before the inputs, if there is one, and these
abbrev pub with_before : (before : Option Arch) → List Arch → List Arch
with_before before machines = option_to_list before ++ machines

-- those of all inputs, if none is refused and all items have one machine
abbrev pub all_functions : (before : Option Arch) → List Object → Result (List Function) GatherFault
all_functions before objects = do
  functions ← functions_of (first_item before) objects
  _ ← unless (mixed_fault before objects)
  Ok functions
