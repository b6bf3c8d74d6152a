-- What is seen of a file whose sections are placed.
use Rattle.std.specs.Prelude.{ℕ, false, Bool, List, Option, None, slice_index_or}
use Rattle.elf_read.specs.Input.{file as file_of}
use Rattle.elf_place.specs.declared.placed.Placed.{Placed}

-- the bytes of the whole file
abbrev pub placed_file : Placed → List ℕ
placed_file p = file_of p.elf

-- the address of each section, where it has one
abbrev pub addresses : Placed → List (Option ℕ)
addresses p = p.addresses.items

-- for each section whether it is dropped
abbrev pub dropped : Placed → List Bool
dropped p = p.dropped.items

-- the numbers of the sections with call frame information
abbrev pub eh_frames : Placed → List ℕ
eh_frames p = p.eh_frames.items

-- Inside the crate: how far the addresses are moved
abbrev pub shift_in : Placed → ℕ
shift_in p = p.shift

-- the address of a section, where it has one
abbrev pub address_in : Placed → ℕ → Option ℕ
address_in p i = slice_index_or p.addresses.items i None

-- whether a section is dropped
abbrev pub is_dropped_in : Placed → ℕ → Bool
is_dropped_in p i = slice_index_or p.dropped.items i false

-- a file with its sections' addresses and what is dropped, seen without where its bytes lie in memory
pub record Placing : Type 0 where
  pub file : List ℕ
  pub addresses : List (Option ℕ)
  pub dropped : List Bool

-- Inside the crate: the view of a placed file
abbrev pub placing : Placed → Placing
placing p = record { file = placed_file p; addresses = addresses p; dropped = dropped p }

-- the address of a section in such a view, where it has one
abbrev pub address_at : Placing → ℕ → Option ℕ
address_at p i = slice_index_or p.addresses i None

-- Inside the crate: whether a section is dropped in such a view
abbrev pub is_dropped_at : Placing → ℕ → Bool
is_dropped_at p i = slice_index_or p.dropped i false
