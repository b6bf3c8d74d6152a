-- Checks whose fault says why a process's modules aren't found.
use Rattle.std.specs.Prelude.{◌≡◌, Option, Some, None, Result, IfErr}
use Rattle.sf_model.specs.Answers.{Fails, Gives}
pub use Rattle.sf_model.specs.Checking.{verdict}
use Rattle.sf_modules.specs.declared.fault.ModuleFault.{ModuleFault}
use Rattle.sf_modules.specs.declared.fault.ModuleFault.TheVariants.{Unread, NoMemory}

-- what a check comes to: it passes, or has a fault
abbrev pub Check : Type 0
Check = Result (Unit {0}) ModuleFault

-- the fault, if it is one that a check has: any but out of memory and a part that wasn't read
abbrev pub module_refusal : ModuleFault → Option ModuleFault
module_refusal (Unread address) = None
module_refusal NoMemory = None
module_refusal fault = Some fault

-- Inside the crate: a call's fault, if it has one, is one that a check has
abbrev pub OnlyRefuses : {X : Type 0} → Result X ModuleFault → Type 0
OnlyRefuses result = IfErr result (λ fault. module_refusal fault ≡ Some fault)

-- Inside the crate: a fault is the check's, or out of memory, or a part that wasn't read
abbrev pub IsFaultOf : Check → ModuleFault → Type 0
IsFaultOf check fault = Fails module_refusal fault check

-- a call returns a value exactly where the check passes, and else the check's fault, unless it is out of memory or a part wasn't read
abbrev pub FollowsCheck : {X : Type 0} → Check → Result X ModuleFault → Type 0
FollowsCheck check result = Gives module_refusal (λ x. tt) result check
