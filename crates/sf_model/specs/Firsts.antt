-- The first of several possible faults, and what is given if there is none.
use Rattle.std.specs.Prelude.{Option, Some, None, Result, Ok, Err}

-- the first of two possible faults
abbrev pub or_later : {F : Type 0} → Option F → Option F → Option F
or_later (Some fault) later = Some fault
or_later None later = later

-- this value, or the fault if there is one
abbrev pub unless_fault : {X F : Type 0} → Option F → X → Result X F
unless_fault None x = Ok x
unless_fault (Some fault) x = Err fault

-- nothing, or the fault if there is one
abbrev pub unless : {F : Type 0} → Option F → Result (Unit {0}) F
unless fault = unless_fault fault tt
