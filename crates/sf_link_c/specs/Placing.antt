-- Where a file is loaded, as C has it (ELF64 gABI, "Program Header" and "Note Section").
use Rattle.std.specs.Prelude.{ℕ, ◌^◌, ◌==◌, nat_lt, ◌&&◌, Bool, List, length, Option, Some, None, Result, Ok, Err, is_some, unwrap_or, if◌then◌else◌}
use Rattle.std.specs.Option.{option_map_or}
use Rattle.sf_bytes.specs.Cursor.{Cursor}
use Rattle.elf_read.specs.declared.fault.ElfFault.{ElfFault}
use Rattle.elf_read.specs.FaultShown.{shown_of_elf}
use Rattle.elf_load.specs.declared.fault.LoadFault.{LoadFault}
use Rattle.elf_load.specs.declared.fault.LoadFault.TheVariants.{Elf, NotLoaded}
use Rattle.elf_load.specs.Loading.{LoadingView, loading_of}
use Rattle.sf_link_c.specs.declared.placing.KiblawenPlaced.{KiblawenPlaced}
use Rattle.sf_link_c.specs.declared.refusals.KiblawenRefusal.{KiblawenRefusal}
use Rattle.sf_link_c.specs.Omissions.{flag}
use Rattle.sf_link_c.specs.Refusals.{no_refusal, refusal_shown}

-- a page has bytes, and the file has fewer than 2^32
abbrev pub is_fit : (bytes : List ℕ) → (page : ℕ) → Bool
is_fit bytes page = nat_lt 0 page && nat_lt (length bytes) (2 ^ 32)

-- the file has no place, for this reason
abbrev pub no_place : KiblawenRefusal → KiblawenPlaced
no_place why = record { first = 0; after = 0; load = 0; has_load = 0; build_id = 0; build_id_len = 0; why = why }

-- a place, as C has it
abbrev pub place_shown : LoadingView → KiblawenPlaced
place_shown loading = record {
  first = loading.first;
  after = loading.after;
  load = unwrap_or loading.load 0;
  has_load = flag (is_some loading.load);
  build_id = option_map_or (λ (id : Cursor). id.place) loading.build_id 0;
  build_id_len = option_map_or (λ (id : Cursor). length id.left) loading.build_id 0;
  why = no_refusal;
}

-- the load address that C has, if there is one
abbrev pub load_in : KiblawenPlaced → Option ℕ
load_in place = if place.has_load == 0 then None else Some place.load

-- the file is refused for a fault; it is the only item
abbrev pub refused_file : ElfFault → KiblawenPlaced
refused_file fault = no_place (refusal_shown (shown_of_elf (Some 0) fault))

-- what is returned and written
abbrev pub loading_answer : Result LoadingView LoadFault → ℕ × KiblawenPlaced
loading_answer (Ok loading) = (0, place_shown loading)
loading_answer (Err NotLoaded) = (1, no_place no_refusal)
loading_answer (Err (Elf fault)) = (2, refused_file fault)

-- the answer to a file, the size of a page and an executable mapping
abbrev pub placing_answer : (bytes : List ℕ) → (page : ℕ) → (start offset : ℕ) → ℕ × KiblawenPlaced
placing_answer bytes page start offset =
    if is_fit bytes page then loading_answer (loading_of page (record { start = start; offset = offset }) bytes) else (6, no_place no_refusal)
