-- GNU SFrame specification, Version 2: the bytes of a whole section, as this writer lays it out.
use Rattle.std.specs.Prelude.{◌+◌, ◌*◌, ◌++◌, ℕ, List, [], ◌∷◌, length, sum_by}
use Rattle.std.specs.List.{flat_map}
use Rattle.sf_model.specs.declared.machine.Arch.{Arch}
use Rattle.sf_model.specs.declared.function.Func.{Func}
use Rattle.sf_model.specs.Table.{Table, row_count}
use Rattle.sf_model.specs.Section.{abi_number, fixed_return_byte}
use Rattle.sf_write.specs.Number.{word_bytes}
use Rattle.sf_write.specs.Row.{rows_bytes, rows_len}
use Rattle.sf_write.specs.Entry.{entries_bytes}

-- the table that is written: these functions, sorted (0x1), with starts that count from their own fields (0x4)
abbrev pub table_of : Arch → List Func → Table
table_of arch functions = record { arch = arch; flags = 5; functions = functions }

-- magic, version 2, the flags 0x1 (sorted) and 0x4 (starts count from their own field), the abi, no fixed frame pointer, the
-- fixed return address, no auxiliary header
unfoldable pub preamble : Arch → List ℕ
preamble arch = 0xe2 ∷ 0xde ∷ 2 ∷ 5 ∷ abi_number arch ∷ 0 ∷ fixed_return_byte arch ∷ 0 ∷ []

-- the length of the rows of all functions in bytes
abbrev pub row_section_len : List Func → ℕ
row_section_len functions = sum_by (λ (f : Func). rows_len f.rows) functions

-- the header: the preamble, the numbers of functions and of rows, the length of the rows, and the places of the entries and
-- of the rows after the header
unfoldable pub header_bytes : Arch → (functions rows rows_len : ℕ) → List ℕ
header_bytes arch functions rows rows_len =
    preamble arch ++ word_bytes functions ++ word_bytes rows ++ word_bytes rows_len ++ word_bytes 0
    ++ word_bytes (20 * functions)

-- the header, the entries and the rows of all functions in one order, and nothing else
unfoldable pub section_bytes : Arch → (at : ℕ) → List Func → List ℕ
section_bytes arch at functions =
    header_bytes arch (length functions) (row_count functions) (row_section_len functions)
    ++ entries_bytes at 0 0 functions ++ flat_map (λ (f : Func). rows_bytes f.rows) functions

-- the length of the section
abbrev pub section_len : List Func → ℕ
section_len functions = 28 + 20 * length functions + row_section_len functions
