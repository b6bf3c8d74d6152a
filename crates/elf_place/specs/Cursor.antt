-- Inside the crate. How placing is computed: a cursor goes over the sections. What it computes is in `Place.antt`.
use Rattle.std.specs.Prelude.{◌≡◌, ℕ, ◌+◌, Bool, true, List, Option, Some, None, Result, if◌then◌else◌}
use Rattle.std.specs.List.{filter}
use Rattle.elf_read.specs.Checking.{unless, where_so, numbers_below}
use Rattle.elf_read.specs.Header.{is_rel}
use Rattle.elf_read.specs.Sections.{section_fields}
use Rattle.elf_place.specs.declared.fault.PlaceFault.{PlaceFault}
use Rattle.elf_place.specs.declared.fault.PlaceFault.TheVariants.{AddressOverflow}
use Rattle.elf_place.specs.Place.{is_placed, aligned, has_addresses, end_of}

-- where a section starts: in an object at the cursor, as its alignment asks; else at its own address, moved by the base
unfoldable pub start_from : List ℕ → (base cursor : ℕ) → ℕ → ℕ
start_from file base cursor i = if is_rel file then aligned cursor (section_fields file i).sh_addralign else base + (section_fields file i).sh_addr

-- the cursor after a section
unfoldable pub cursor_from : List ℕ → List Bool → (base cursor : ℕ) → ℕ → ℕ
cursor_from file dropped base cursor i = if is_placed file dropped i then start_from file base cursor i + (section_fields file i).sh_size else cursor

-- the section's address, where it has one
unfoldable pub address_from : List ℕ → List Bool → (base cursor : ℕ) → ℕ → Option ℕ
address_from file dropped base cursor i = if is_placed file dropped i then Some (start_from file base cursor i) else None

-- a section lies in memory from the cursor on
unfoldable pub overflow_from : List ℕ → List Bool → (base cursor : ℕ) → ℕ → Result (Unit {0}) PlaceFault
overflow_from file dropped base cursor i =
    where_so (is_placed file dropped i) (unless (has_addresses (start_from file base cursor i) (section_fields file i).sh_size) (AddressOverflow i))

-- the numbers below n of sections that get an address, in order
abbrev pub placed_below : List ℕ → List Bool → ℕ → List ℕ
placed_below file dropped n = filter (is_placed file dropped) (numbers_below n)

-- in an object the cursor is where the sections before number i end
abbrev pub IsCursor : List ℕ → List Bool → (base i cursor : ℕ) → Type 0
IsCursor file dropped base i cursor = is_rel file ≡ true → cursor ≡ end_of file base (placed_below file dropped i)
