-- What a symbol names once sections are placed (ELF64 gABI, "Symbol Table", st_shndx and st_value).
use Rattle.std.specs.Prelude.{ℕ, ◌+◌, ◌%◌, ◌^◌, ◌==◌, ◌||◌, false, nat_le, slice_index_or, if◌then◌else◌}
use Rattle.std.specs.Option.{option_map_or}
use Rattle.elf_read.specs.Sections.{symbol_fields}
use Rattle.elf_place.specs.Views.{Placing, address_at, is_dropped_at}
use Rattle.elf_reloc.specs.declared.target.Target.{Target}
use Rattle.elf_reloc.specs.declared.target.Target.TheVariants.{Address, Unresolved, Dropped}

-- The target of symbol k of a table. Symbol 0 has none. SHN_ABS 0xfff1 is no section: the value is the address. SHN_UNDEF 0 and what is
-- reserved from SHN_LORESERVE 0xff00 on is in no section of the file. Others are as far in their section as the value says.
unfoldable pub symbol_target : Placing → (table k : ℕ) → Target
symbol_target p table k =
    let symbol = symbol_fields p.file table k in
    if k == 0 then Unresolved
    else (if symbol.st_shndx == 0xfff1 then Address symbol.st_value
    else (if (symbol.st_shndx == 0) || nat_le 0xff00 symbol.st_shndx then Unresolved
    else (if slice_index_or p.dropped symbol.st_shndx false then Dropped
    else option_map_or (λ (address : ℕ). Address ((address + symbol.st_value) % 2 ^ 64)) (address_at p symbol.st_shndx) Unresolved)))

-- ---- Inside the crate: its parts
-- a value in a section of the file
unfoldable pub section_target : Placing → ℕ → ℕ → Target
section_target p section value =
    if is_dropped_at p section then Dropped else option_map_or (λ (address : ℕ). Address ((address + value) % 2 ^ 64)) (address_at p section) Unresolved

-- a value in the section of this index
unfoldable pub index_target : Placing → ℕ → ℕ → Target
index_target p index value =
    if index == 0xfff1 then Address value
    else (if (index == 0) || nat_le 0xff00 index then Unresolved else section_target p index value)
