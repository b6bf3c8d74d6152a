-- GNU SFrame specification, Version 3: the bytes of a whole section, as this writer lays it out.
use Rattle.std.specs.Prelude.{◌+◌, ◌*◌, ◌++◌, ℕ, List, [], ◌∷◌, length, map}
use Rattle.std.specs.List.{flat_map}
use Rattle.sf_model.specs.declared.machine.Arch.{Arch}
use Rattle.sf_model.specs.declared.function.Func.{Func}
use Rattle.sf_model.specs.Table as version_2
use Rattle.sf_model.specs.Section.{abi_number, fixed_return_byte}
use Rattle.sf_write.specs.Number.{word_bytes}
use Rattle.sf_write.specs.Section.{row_section_len}
use Rattle.sf3_model.specs.Described.{Table, ordinary}
use Rattle.sf3_write.specs.Entry.{entries_bytes}
use Rattle.sf3_write.specs.Attributes.{data_bytes}

-- the table that is written: these functions, none of signal frames, sorted (0x1), with starts that count from their own fields (0x4)
abbrev pub table_of : Arch → List Func → Table
table_of arch functions = record { arch = arch; flags = 5; functions = map ordinary functions }

-- magic, version 3, the flags 0x1 (sorted) and 0x4 (starts count from their own field), the abi, no fixed frame pointer, the
-- fixed return address, no auxiliary header
unfoldable pub preamble : Arch → List ℕ
preamble arch = 0xe2 ∷ 0xde ∷ 3 ∷ 5 ∷ abi_number arch ∷ 0 ∷ fixed_return_byte arch ∷ 0 ∷ []

-- the length of the sub-section of rows: the attributes and the rows of all functions
abbrev pub data_section_len : List Func → ℕ
data_section_len functions = 5 * length functions + row_section_len functions

-- the header: the preamble, the numbers of functions and of rows, the length of the sub-section of rows, and the places of the entries
-- and of that sub-section after the header
unfoldable pub header_bytes : Arch → (functions rows len : ℕ) → List ℕ
header_bytes arch functions rows len =
    preamble arch ++ word_bytes functions ++ word_bytes rows ++ word_bytes len ++ word_bytes 0
    ++ word_bytes (16 * functions)

-- the header, the entries and the data of all functions in one order, and nothing else
unfoldable pub section_bytes : Arch → (at : ℕ) → List Func → List ℕ
section_bytes arch at functions =
    header_bytes arch (length functions) (version_2.row_count functions) (data_section_len functions)
    ++ entries_bytes at 0 0 functions ++ flat_map data_bytes functions

-- the length of the section
abbrev pub section_len : List Func → ℕ
section_len functions = 28 + 16 * length functions + data_section_len functions
