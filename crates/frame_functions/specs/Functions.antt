-- The functions that a call frame section describes, as they are read: in the order of its records (LSB Core, "The .eh_frame section";
-- DWARF 5, section 6.4), or the first fault.
use Rattle.std.specs.Prelude.{◌&&◌, nat_le, nat_lt, ℕ, ◌+◌, ℤ, Bool, List, [], ◌∷◌, ◌++◌, Option, Result, Ok, if◌then◌else◌}
use Rattle.sf_model.specs.declared.machine.Arch.{Arch}
use Rattle.sf_model.specs.declared.machine.Key.{Key}
use Rattle.sf_model.specs.declared.omission.Origin.{Origin}
use Rattle.cfa_insn.specs.Listing.{Item, listing}
use Rattle.cfa_machine.specs.declared.fault.MachineFault.{MachineFault}
use Rattle.cfa_machine.specs.FirstFault.{first_fault}
use Rattle.eh_records.specs.declared.fault.RecordFault.{RecordFault}
use Rattle.eh_records.specs.Fde.{FdeView}
use Rattle.eh_records.specs.Section.{entries_of, frames, pointer_fields}
use Rattle.eh_records.specs.Span.{span_of}
use Rattle.frame_functions.specs.declared.fault.AsmFault.{AsmFault}
use Rattle.frame_functions.specs.declared.fault.AsmFault.TheVariants.{Reloc, Record, Machine}
use Rattle.frame_functions.specs.Relocated.{Values, on_pointers, patched_values}
pub use Rattle.frame_functions.specs.CallFrames.{CallFrames, bare_section}
pub use Rattle.sf_bytes.specs.Steps.{◌>>=◌, named}
pub use Rattle.sf_model.specs.Firsts.{unless}

-- a function by its call frame information
pub record Function : Type 0 where
  pub arch : Arch
  pub start : ℕ
  pub size : ℕ
  -- the return address column
  pub column : ℕ
  -- whether its frame is a signal frame's
  pub signal : Bool
  -- the key of its signed return addresses
  pub key : Key
  -- the code and data alignment factors
  pub code : ℕ
  pub factor : ℤ
  -- the instructions of its common information entry, and its own, each with its place
  pub initial : List Item
  pub own : List Item
  pub origin : Origin

-- the address is one of the function's
abbrev pub holds_address : (address : ℕ) → Function → Bool
holds_address address f = nat_le f.start address && nat_lt address (f.start + f.size)

-- ---- one function
-- its start and size
abbrev pub span_in : CallFrames → Values → FdeView → Result (ℕ × ℕ) RecordFault
span_in section values f = span_of f.cie.encoding f.begin.place section.address section.shift (values.bits f.begin) (values.bits f.range)

-- with these instructions, its start and its size
abbrev pub function_with : Arch → (item : ℕ) → CallFrames → FdeView → (initial own : List Item) → ℕ × ℕ → Function
function_with arch item section f initial own span = record {
  arch = arch;
  start = span.0;
  size = span.1;
  column = f.cie.return_address_register;
  signal = f.cie.signal;
  key = f.cie.key;
  code = f.cie.code_alignment_factor;
  factor = f.cie.data_alignment_factor;
  initial = initial;
  own = own;
  origin = record { item = item; section = section.number; place = f.place };
}

-- the function of a frame description entry with these instructions: its start and size are known, and each instruction can be run
abbrev pub by_instructions : Arch → (item : ℕ) → CallFrames → Values → FdeView → (initial own : List Item) → Result Function AsmFault
by_instructions arch item section values f initial own = do
  span ← named (Record section.number) (span_in section values f)
  _ ← named (Machine section.number) (unless (first_fault arch f.cie.data_alignment_factor initial own))
  Ok (function_with arch item section f initial own span)

-- with those that are read
unfoldable pub function_in : Arch → (item : ℕ) → CallFrames → Values → FdeView → Result Function AsmFault
function_in arch item section values f = by_instructions arch item section values f (listing f.cie.insns) (listing f.insns)

-- ---- all functions, or the first fault
-- an entry whose start lies in a dropped section describes no function
abbrev pub functions_in : Arch → (item : ℕ) → CallFrames → Values → List FdeView → Result (List Function) AsmFault
functions_in arch item section values [] = Ok []
functions_in arch item section values (f ∷ fs) =
    if values.dropped f.begin then functions_in arch item section values fs
    else (function_in arch item section values f >>= λ g. functions_in arch item section values fs >>= λ gs. Ok (g ∷ gs))

-- those of a section: all its records come first, and then its relocations, each of which is applied to a pointer field
unfoldable pub section_functions : Arch → (item : ℕ) → CallFrames → Result (List Function) AsmFault
section_functions arch item section = do
  entries ← named (Record section.number) (entries_of arch section.bytes)
  fixes ← named (Reloc section.number) (section.relocations >>= on_pointers (pointer_fields entries))
  functions_in arch item section (patched_values fixes section.bytes) (frames entries)

-- those of consecutive sections
abbrev pub sections_functions : Arch → (item : ℕ) → List CallFrames → Result (List Function) AsmFault
sections_functions arch item [] = Ok []
sections_functions arch item (s ∷ ss) = section_functions arch item s >>= λ fs. sections_functions arch item ss >>= λ gs. Ok (fs ++ gs)

-- ---- Inside the crate: parts of these
-- the first instruction that can't be read or run
abbrev pub fault_in : Arch → FdeView → Option MachineFault
fault_in arch f = first_fault arch f.cie.data_alignment_factor (listing f.cie.insns) (listing f.insns)

-- with the instructions that are read
abbrev pub function_at : Arch → (item : ℕ) → CallFrames → FdeView → ℕ × ℕ → Function
function_at arch item section f span = function_with arch item section f (listing f.cie.insns) (listing f.insns) span
