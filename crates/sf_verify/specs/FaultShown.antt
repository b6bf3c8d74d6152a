-- What the line of a fault of verifying prints, and which faults have one.
use Rattle.std.specs.Prelude.{ℕ, Bool, true, false, Option, None}
use Rattle.sf_model.specs.declared.notice.Group.TheVariants as group
use Rattle.sf_model.specs.FaultShown.{FaultShown, not_shown}
use Rattle.sf_decode.specs.declared.fault.DecodeFault.TheVariants as decode
use Rattle.sf_decode.specs.FaultShown.{shown_of_section}
use Rattle.sf_asm.specs.Fault.{is_gather_refusal, is_wrapped_answered}
use Rattle.sf_asm.specs.FaultShown.{shown_of_gathering}
use Rattle.sf_verify.specs.declared.fault.VerifyFault.{VerifyFault}
use Rattle.sf_verify.specs.declared.fault.VerifyFault.TheVariants.{Gather, Overlap, NoMemory}

-- what the line prints: a fault of the inputs as in linking, and two functions of the section that share an address as a fault of
-- the section, as in a section with the flag SFRAME_F_FDE_SORTED; out of memory has no line
abbrev pub shown_of_verifying : Option ℕ → VerifyFault → FaultShown
shown_of_verifying item (Gather fault) = shown_of_gathering None fault
shown_of_verifying item (Overlap place) = shown_of_section item (decode.Overlap place)
shown_of_verifying item NoMemory = record { item = item; fault = not_shown group.Link }

-- the fault has a line: it is not a limit and not out of memory
abbrev pub is_verify_refusal : VerifyFault → Bool
is_verify_refusal (Gather fault) = is_gather_refusal fault
is_verify_refusal (Overlap place) = true
is_verify_refusal NoMemory = false

-- the call can return the fault: a refusal, a limit, or out of memory
abbrev pub is_returned : VerifyFault → Bool
is_returned (Gather fault) = is_wrapped_answered fault
is_returned (Overlap place) = true
is_returned NoMemory = true
