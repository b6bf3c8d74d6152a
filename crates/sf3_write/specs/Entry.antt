-- GNU SFrame specification, Version 3, struct sframe_func_desc_idx_v3 and the flag SFRAME_F_FDE_FUNC_START_PCREL: the bytes of the
-- index. A function's start counts from the address of its start field, in eight bytes, modulo 2^64: no start is out of reach.
use Rattle.std.specs.Prelude.{◌+◌, ◌-◌, ◌*◌, ◌%◌, ◌^◌, ◌++◌, ℕ, List, [], ◌∷◌}
use Rattle.byteorder.specs.Endian.{little_bytes}
use Rattle.sf_model.specs.declared.function.Func.{Func}
use Rattle.sf_write.specs.Number.{word_bytes}
use Rattle.sf_write.specs.Row.{rows_len}

-- the address of the start field of the function with this number, in a section at `at`: after the header's 28 bytes and
-- the entries before, of 16 bytes each
abbrev pub field_address : (at number : ℕ) → ℕ
field_address at number = (at + (28 + 16 * number)) % 2 ^ 64

-- a start, counted from an address
unfoldable pub distance_from : (origin start : ℕ) → ℕ
distance_from origin start = (start + 2 ^ 64 - origin) % 2 ^ 64

-- a number from 0 in eight bytes
unfoldable pub long_bytes : ℕ → List ℕ
long_bytes n = little_bytes 8 n

-- an entry: start, size and the place of the function's data among those of all functions
unfoldable pub entry_bytes : (at number place start size : ℕ) → List ℕ
entry_bytes at number place start size = long_bytes (distance_from (field_address at number) start) ++ word_bytes size ++ word_bytes place

-- how many bytes the data of a function are: five bytes of attributes, and its rows
abbrev pub data_len : Func → ℕ
data_len f = 5 + rows_len f.rows

-- the entries of consecutively numbered functions from `number` on, with consecutive data from the place on
abbrev pub entries_bytes : (at number place : ℕ) → List Func → List ℕ
entries_bytes at number place [] = []
entries_bytes at number place (f ∷ functions) =
    entry_bytes at number place f.start f.size ++ entries_bytes at (number + 1) (place + data_len f) functions
