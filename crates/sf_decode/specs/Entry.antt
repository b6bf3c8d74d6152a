-- GNU SFrame specification, Version 2, function descriptor entries: the numbers of an entry, what is checked of them, and which
-- function they are.
use Rattle.std.specs.Prelude.{ℕ, zero, suc, ◌+◌, ◌-◌, ◌*◌, ◌/◌, ◌%◌, ◌^◌, ◌==◌, Bool, not, ◌&&◌, ◌||◌, List, [], ◌∷◌, slice_index, nat_le, nat_lt, if◌then◌else◌}
use Rattle.sf_model.specs.declared.machine.Arch.{Arch}
use Rattle.sf_model.specs.declared.machine.Arch.TheVariants.{Amd64, Aarch64}
use Rattle.sf_model.specs.declared.machine.Key.{Key}
use Rattle.sf_model.specs.declared.machine.Key.TheVariants.{A, B}
use Rattle.sf_model.specs.declared.function.Shape.{Shape}
use Rattle.sf_model.specs.declared.function.Shape.TheVariants.{Plain, Repeat}
use Rattle.sf_model.specs.declared.function.Func.{Func}
use Rattle.sf_model.specs.Function.{key_fits}
use Rattle.sf_model.specs.Section.{number_in, functions_place, rows_place, row_bytes_of, is_sorted, start_origin, start_width_at, row_offset_at}
use Rattle.sf_decode.specs.declared.fault.DecodeFault.TheVariants.{RowType, Reserved, RepeatZero, Unsorted, Overlap, AddressRange}
use Rattle.sf_decode.specs.Checking.{Check, unless, where_so, ◌>>◌}
use Rattle.sf_decode.specs.Row.{rows_check, rows_in}

-- the preamble's flags
abbrev pub flags_in : List ℕ → ℕ
flags_in bytes = slice_index bytes 3

-- the machine by the preamble's abi and architecture: 3 is AMD64, any other is AArch64
abbrev pub arch_in : List ℕ → Arch
arch_in bytes = if slice_index bytes 4 == 3 then Amd64 else Aarch64

-- the place of an entry
abbrev pub entry_place : List ℕ → (i : ℕ) → ℕ
entry_place bytes i = functions_place bytes + 20 * i

-- the function's size in the entry at a place
abbrev pub size_at : List ℕ → (place : ℕ) → ℕ
size_at bytes place = number_in 4 (place + 4) bytes

-- how many rows the function of the entry at a place has
abbrev pub row_count_at : List ℕ → (place : ℕ) → ℕ
row_count_at bytes place = number_in 4 (place + 12) bytes

-- the info byte of the entry at a place
abbrev pub info_at : List ℕ → (place : ℕ) → ℕ
info_at bytes place = slice_index bytes (place + 16)

-- the repeat size of the entry at a place
abbrev pub repeat_size_at : List ℕ → (place : ℕ) → ℕ
repeat_size_at bytes place = slice_index bytes (place + 17)

-- The start moved up by 2^31, so that it is never below 0: where it counts from, and the signed field moved up.
unfoldable pub raised_start : List ℕ → (at place : ℕ) → ℕ
raised_start bytes at place = start_origin (flags_in bytes) at place + (number_in 4 place bytes + 2 ^ 31) % 2 ^ 32

-- the info byte's bit 4: the rows repeat
abbrev pub is_repeated : (info : ℕ) → Bool
is_repeated info = info / 16 % 2 == 1

-- the info byte's bit 5: the key
abbrev pub key_in : (info : ℕ) → Key
key_in info = if info / 32 % 2 == 0 then A else B

-- the info byte's bits 6 and 7 are not set, and the machine has the key
abbrev pub is_known_info : Arch → (info : ℕ) → Bool
is_known_info arch info = nat_lt info 64 && key_fits arch (key_in info)

-- a function whose rows repeat has a repeat size
abbrev pub has_repeat_size : (info size : ℕ) → Bool
has_repeat_size info size = not (is_repeated info) || not (size == 0)

-- the end, moved up by 2^31 like the start
abbrev pub raised_end : List ℕ → (at place : ℕ) → ℕ
raised_end bytes at place = raised_start bytes at place + size_at bytes place

-- the start is an address, and the function's end is at most 2^64; both are moved up
abbrev pub lies_in_memory : (start end : ℕ) → Bool
lies_in_memory start end = nat_le (2 ^ 31) start && nat_lt start (2 ^ 64 + 2 ^ 31) && nat_le end (2 ^ 64 + 2 ^ 31)

-- the function of the entry at a place lies in memory
unfoldable pub is_in_memory : List ℕ → (at place : ℕ) → Bool
is_in_memory bytes at place = lies_in_memory (raised_start bytes at place) (raised_end bytes at place)

-- the check of an entry's order: its function starts where that of the entry before ends, or after; all are moved up
abbrev pub behind_check : (start_before end_before start place : ℕ) → Check
behind_check start_before end_before start place =
    unless (nat_le start_before start) (Unsorted place)
    >> unless (nat_le end_before start) (Overlap place)

-- the check of the order of two entries, by their places
unfoldable pub order_check : List ℕ → (at before place : ℕ) → Check
order_check bytes at before place = behind_check (raised_start bytes at before) (raised_end bytes at before) (raised_start bytes at place) place

-- the check of an entry's rows
unfoldable pub entry_rows_check : List ℕ → (place : ℕ) → Check
entry_rows_check bytes place =
    rows_check (arch_in bytes) (row_bytes_of bytes) (rows_place bytes) (start_width_at bytes place) (row_offset_at bytes place) 0 (row_count_at bytes place)

-- the checks of an entry's own fields
unfoldable pub entry_fields_check : List ℕ → (at place : ℕ) → Check
entry_fields_check bytes at place =
    unless (nat_le (start_width_at bytes place) 2) (RowType place)
    >> unless (is_known_info (arch_in bytes) (info_at bytes place)) (Reserved place)
    >> unless (has_repeat_size (info_at bytes place) (repeat_size_at bytes place)) (RepeatZero place)
    >> unless (is_in_memory bytes at place) (AddressRange place)

-- the check of the order of an entry that isn't the first, where functions are sorted
unfoldable pub follows_check : List ℕ → (at i : ℕ) → Check
follows_check bytes at i =
    where_so (is_sorted (flags_in bytes) && not (i == 0)) (order_check bytes at (entry_place bytes (i - 1)) (entry_place bytes i))

-- the checks of an entry: its fields, its order, its rows
unfoldable pub entry_check : List ℕ → (at i : ℕ) → Check
entry_check bytes at i =
    entry_fields_check bytes at (entry_place bytes i)
    >> follows_check bytes at i
    >> entry_rows_check bytes (entry_place bytes i)

-- how the rows are looked up
abbrev pub shape_in : (info size : ℕ) → Shape
shape_in info size = if is_repeated info then Repeat size else Plain

-- the start, as an address
abbrev pub start_in : List ℕ → (at place : ℕ) → ℕ
start_in bytes at place = raised_start bytes at place - 2 ^ 31

-- the function of the entry at a place
unfoldable pub function_in : List ℕ → (at place : ℕ) → Func
function_in bytes at place = record {
  start = start_in bytes at place;
  size = size_at bytes place;
  shape = shape_in (info_at bytes place) (repeat_size_at bytes place);
  key = key_in (info_at bytes place);
  rows = rows_in (arch_in bytes) (row_bytes_of bytes) (start_width_at bytes place) (row_offset_at bytes place) (row_count_at bytes place);
}

-- the functions of `count` entries, from the first number on
unfoldable pub functions_in : List ℕ → (at first count : ℕ) → List Func
functions_in bytes at first zero = []
functions_in bytes at first (suc count) = function_in bytes at (entry_place bytes first) ∷ functions_in bytes at (first + 1) count
