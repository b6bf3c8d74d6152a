-- GNU SFrame specification, Version 2, preamble and header: what is checked of them.
use Rattle.std.specs.Prelude.{ℕ, ◌+◌, ◌*◌, ◌==◌, Bool, ◌||◌, List, length, slice_index, nat_le, nat_lt}
use Rattle.sf_model.specs.Section.{number_in, header_end, functions_place, rows_place, rows_len, fixed_return_byte}
use Rattle.sf_model.specs.Limits.{most_functions, most_rows}
use Rattle.sf_decode.specs.declared.fault.DecodeFault.TheVariants.{Short, Magic, Version, Flags, Abi, FixedOffset, Layout, TooManyFunctions, TooManyRows}
use Rattle.sf_decode.specs.Checking.{Check, unless, ◌>>◌}
use Rattle.sf_decode.specs.Entry.{arch_in}

-- the header's number of functions
abbrev pub function_count_in : List ℕ → ℕ
function_count_in bytes = number_in 4 8 bytes

-- the header's number of rows
abbrev pub row_count_in : List ℕ → ℕ
row_count_in bytes = number_in 4 12 bytes

-- the abi and architecture is AArch64 little-endian, 2, or AMD64, 3
abbrev pub is_known_abi : ℕ → Bool
is_known_abi abi = (abi == 2) || (abi == 3)

-- the check of the preamble: magic, version, flags
unfoldable pub preamble_check : List ℕ → Check
preamble_check bytes =
    unless (nat_le 28 (length bytes)) (Short (length bytes))
    >> unless (number_in 2 0 bytes == 0xdee2) (Magic 0)
    >> unless (slice_index bytes 2 == 2) (Version 2)
    >> unless (nat_lt (slice_index bytes 3) 8) (Flags 3)

-- the check of the machine, its fixed offsets, and the auxiliary header
unfoldable pub machine_check : List ℕ → Check
machine_check bytes =
    unless (is_known_abi (slice_index bytes 4)) (Abi 4)
    >> unless (slice_index bytes 5 == 0) (FixedOffset 5)
    >> unless (slice_index bytes 6 == fixed_return_byte (arch_in bytes)) (FixedOffset 6)
    >> unless (nat_le (header_end bytes) (length bytes)) (Short (length bytes))

-- the check that the counts are within the limits, and that both sub-sections lie in the bytes
unfoldable pub layout_check : List ℕ → Check
layout_check bytes =
    unless (nat_le (function_count_in bytes) most_functions) (TooManyFunctions 8)
    >> unless (nat_le (row_count_in bytes) most_rows) (TooManyRows 12)
    >> unless (nat_le (functions_place bytes + 20 * function_count_in bytes) (length bytes)) (Layout 20)
    >> unless (nat_le (rows_place bytes + rows_len bytes) (length bytes)) (Layout 24)

-- all checks of the header
unfoldable pub header_check : List ℕ → Check
header_check bytes = preamble_check bytes >> machine_check bytes >> layout_check bytes
