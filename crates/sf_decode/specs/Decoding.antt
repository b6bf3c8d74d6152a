-- GNU SFrame specification, Version 2: what is checked of a section, in order, and the table that its
-- bytes describe.
use Rattle.std.specs.Prelude.{ℕ, ◌==◌, List}
use Rattle.sf_model.specs.Table.{Table}
use Rattle.sf_decode.specs.declared.fault.DecodeFault.TheVariants.{Count}
use Rattle.sf_decode.specs.Checking.{Check, unless, ◌>>◌, each_from, sum_from}
use Rattle.sf_decode.specs.Header.{function_count_in, row_count_in, header_check}
use Rattle.sf_decode.specs.Entry.{flags_in, arch_in, entry_place, row_count_at, entry_check, functions_in}

-- how many rows an entry has
unfoldable pub rows_of_entry : List ℕ → (i : ℕ) → ℕ
rows_of_entry bytes i = row_count_at bytes (entry_place bytes i)

-- the entries' numbers of rows add up to the header's
unfoldable pub count_check : List ℕ → Check
count_check bytes = unless (sum_from 0 (function_count_in bytes) (rows_of_entry bytes) == row_count_in bytes) (Count 12)

-- all checks of a section at an address: the first that fails is its fault
unfoldable pub section_check : List ℕ → (at : ℕ) → Check
section_check bytes at = header_check bytes >> count_check bytes >> each_from 0 (function_count_in bytes) (entry_check bytes at)

-- the table that the bytes describe, where they are a section
abbrev pub table_in : List ℕ → (at : ℕ) → Table
table_in bytes at = record { arch = arch_in bytes; flags = flags_in bytes; functions = functions_in bytes at 0 (function_count_in bytes) }
