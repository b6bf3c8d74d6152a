-- Consecutive checks: the first that fails gives the fault.
use Rattle.std.specs.Prelude.{Bool, Result, Ok, Err, if◌then◌else◌}

-- a test that must hold
abbrev pub unless : {E : Type 0} → Bool → E → Result (Unit {0}) E
unless test fault = if test then Ok tt else Err fault

-- a check that is made only if a test holds
abbrev pub where_so : {E : Type 0} → Bool → Result (Unit {0}) E → Result (Unit {0}) E
where_so test check = if test then check else Ok tt

-- two checks in order: the first fault counts
infixl 10 ◌>>◌
abbrev pub ◌>>◌ : {E : Type 0} → Result (Unit {0}) E → Result (Unit {0}) E → Result (Unit {0}) E
(Ok x) >> next = next
(Err e) >> next = Err e

-- what a call returned, without its value
abbrev pub verdict : {X E : Type 0} → Result X E → Result (Unit {0}) E
verdict (Ok x) = Ok tt
verdict (Err e) = Err e
