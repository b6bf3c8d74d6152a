-- A sample of a thread: its registers, the mask of its return addresses, and one run of bytes that was copied from its
-- stack.
use Rattle.std.specs.Prelude.{ℕ, List, [], ◌∷◌, Option, Some, None, ◌==◌, if◌then◌else◌}
use Rattle.sf_model.specs.declared.recovery.Regs.{Regs}
use Rattle.sf_model.specs.Memory.{Region}
use Rattle.sf_model.specs.Walk.{ThreadState}
use Rattle.sf_c.specs.declared.sample.KiblawenSample.{KiblawenSample}
use Rattle.sf_c.specs.declared.sample.Stack.{Stack}

-- the registers that a row reads
abbrev pub registers_of : KiblawenSample → Regs
registers_of sample = record { sp = sample.sp; fp = sample.fp; lr = sample.lr }

-- the mask, if `has_mask` isn't 0
abbrev pub mask_of : KiblawenSample → Option ℕ
mask_of sample = if sample.has_mask == 0 then None else Some sample.mask

-- the sample's thread
abbrev pub sample_thread : KiblawenSample → ThreadState
sample_thread sample = record { pc = sample.pc; regs = registers_of sample; mask = mask_of sample }

-- Inside the crate: the memory of a copied stack is one run of bytes
abbrev pub one_region : Stack → List Region
one_region stack = record { start = stack.start; bytes = stack.bytes.now } ∷ []

-- the memory of a sample is the one run of bytes of its stack
abbrev pub stack_memory : KiblawenSample → List Region
stack_memory sample = record { start = sample.stack_start; bytes = sample.stack.now } ∷ []
