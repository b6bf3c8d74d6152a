-- Return addresses of a process in which no thread has a mask (AArch64 pointer authentication; Linux core files, NT_ARM_PAC_MASK; GNU
-- SFrame specification, Version 2, frame row entries). A kernel reports a mask for each thread on a processor that signs return
-- addresses. One that signs nothing leaves a return address in the address space, whatever its row says; an address above it is signed.
use Rattle.std.specs.Prelude.{◌≡◌, ◌<◌, ◌^◌, ◌++◌, ◌⊎◌, ℕ, Bool, true, false, ◌&&◌, List, Option, Some, None, is_none, is_some, Result, Ok, Err}
use Rattle.std.specs.List.{list_all}
use Rattle.std.specs.Option.{option_map}
use Rattle.core_notes.specs.declared.status.Thread.{Thread}
use Rattle.core_walk.specs.declared.step.Caller.{Caller}
use Rattle.sample_walk.specs.Signature.{in_address_space}
use Rattle.sf_model.specs.declared.machine.Key.{Key}
use Rattle.sf_model.specs.declared.walk.Stop.{Stop}
use Rattle.sf_model.specs.declared.walk.Stop.TheVariants.{Depth, Outside, Unreadable, Signed}
use Rattle.sf_model.specs.Recovery.{Recovery, Value, Known}
use Rattle.sf_model.specs.Walk.{Recovering}
use Rattle.process_walk.specs.declared.stepping.ProcessFrame.{ProcessFrame}
use Rattle.process_walk.specs.Walk.{ProcessListing}

-- a thread has no mask
abbrev pub has_no_mask : Thread → Bool
has_no_mask thread = is_none thread.mask

-- no thread has a mask
abbrev pub are_unmasked : List Thread → Bool
are_unmasked threads = list_all has_no_mask threads

-- the key that signed an address: none if the address is in the address space
abbrev pub key_above_space : (in_space : Option ℕ) → (signed : Option Key) → Option Key
key_above_space (Some address) signed = None
key_above_space None signed = signed

-- the key that signed a return address
abbrev pub key_of_value : Value → (signed : Option Key) → Option Key
key_of_value (Known address) signed = key_above_space (in_address_space address) signed
key_of_value (Value.Unreadable address) signed = signed

-- what is recovered, with a return address in the address space as an unsigned one
abbrev pub unsigned_in_space : Recovery → Recovery
unsigned_in_space r = record {
  frame_address = r.frame_address;
  return_address = r.return_address;
  frame_pointer = r.frame_pointer;
  stack_pointer = r.stack_pointer;
  signed = key_of_value r.return_address r.signed;
}

-- what is recovered, by whether no thread of the process has a mask, and the mask of the thread that is walked
abbrev pub recovered_unmasked : (is_unmasked : Bool) → (mask : Option ℕ) → Option Recovery → Option Recovery
recovered_unmasked true None recovered = option_map unsigned_in_space recovered
recovered_unmasked true (Some mask) recovered = recovered
recovered_unmasked false mask recovered = recovered

abbrev pub recover_unmasked : (is_unmasked : Bool) → (mask : Option ℕ) → Recovering → Recovering
recover_unmasked is_unmasked mask recover_at asked regs = recovered_unmasked is_unmasked mask (recover_at asked regs)

-- a walk is another one; or it goes on where that one stops at a signed return address in the address space, so the frames of that one are its first
abbrev pub GoesOnUnsigned : (on once : ProcessListing) → Type 0
GoesOnUnsigned on once =
    (on ≡ once) ⊎ ((address : ℕ) × ((once.stop ≡ Signed address) × ((address < 2 ^ 48) × ((more : List ProcessFrame) × (on.frames ≡ once.frames ++ more)))))

-- ---- Inside the crate
-- a step stops at a return address in the address space, though no thread has a mask
abbrev pub stops_unsigned : (is_unmasked : Bool) → Result Caller Stop → Bool
stops_unsigned is_unmasked (Ok caller) = false
stops_unsigned is_unmasked (Err Depth) = false
stops_unsigned is_unmasked (Err (Outside address)) = false
stops_unsigned is_unmasked (Err (Unreadable address)) = false
stops_unsigned is_unmasked (Err (Signed address)) = is_unmasked && is_some (in_address_space address)
