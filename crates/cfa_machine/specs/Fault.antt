-- What a call on instructions returned, next to what a definition gives.
use Rattle.std.specs.Prelude.{Option, Some, None, Result}
use Rattle.sf_model.specs.Answers as answers
use Rattle.cfa_machine.specs.declared.fault.MachineFault.{MachineFault}
use Rattle.cfa_machine.specs.declared.fault.MachineFault.TheVariants.{NoMemory}

-- the faults that a definition gives: all but out of memory
abbrev pub machine_refusal : MachineFault → Option MachineFault
machine_refusal NoMemory = None
machine_refusal fault = Some fault

-- the definition gives this fault, or memory ran out
abbrev pub Fails : {Y : Type 0} → MachineFault → Result Y MachineFault → Type 0
Fails fault given = answers.Fails machine_refusal fault given

-- the result, seen by view, is what the definition gives, unless memory ran out
abbrev pub Gives : {X Y : Type 0} → (X → Y) → Result X MachineFault → Result Y MachineFault → Type 0
Gives view result given = answers.Gives machine_refusal view result given
