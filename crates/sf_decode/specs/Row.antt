-- GNU SFrame specification, Version 2, frame row entries: the numbers of a row at a place of the sub-section of rows, what is
-- checked of them, and which row they are.
use Rattle.std.specs.Prelude.{ℕ, ℤ, zero, suc, ◌+◌, ◌*◌, ◌/◌, ◌%◌, ◌==◌, Bool, true, not, ◌&&◌, List, [], ◌∷◌, length, slice_index, Option, Some, None, Ok, nat_le, if◌then◌else◌}
use Rattle.byteorder.specs.Endian.{little_from, twos_complement}
use Rattle.sf_model.specs.declared.machine.Arch.{Arch}
use Rattle.sf_model.specs.declared.machine.Arch.TheVariants.{Amd64, Aarch64}
use Rattle.sf_model.specs.declared.machine.Base.{Base}
use Rattle.sf_model.specs.declared.machine.Base.TheVariants.{Fp, Sp}
use Rattle.sf_model.specs.declared.content.Ra.{Ra}
use Rattle.sf_model.specs.declared.content.Ra.TheVariants.{Fixed, Link, At}
use Rattle.sf_model.specs.declared.content.Content.{Content}
use Rattle.sf_model.specs.declared.rows.Row.{Row}
use Rattle.sf_decode.specs.declared.fault.DecodeFault.TheVariants.{Layout, Reserved, OffsetCount, OffsetSize, RowOrder}
use Rattle.sf_decode.specs.Checking.{Check, unless, ◌>>◌}

-- the widths 0, 1 and 2 are 1, 2 and 4 bytes; a greater one is refused, whatever its length
abbrev pub number_len : (width : ℕ) → ℕ
number_len width = if width == 0 then 1 else (if width == 1 then 2 else 4)

-- the unsigned number of a width at a place
unfoldable pub unsigned_in : (width place : ℕ) → List ℕ → ℕ
unsigned_in width place bytes = little_from place (number_len width) bytes

-- the signed number of a width at a place
unfoldable pub signed_in : (width place : ℕ) → List ℕ → ℤ
signed_in width place bytes = twos_complement (number_len width) (little_from place (number_len width) bytes)

-- the place of a row's info byte, after its start
abbrev pub info_place : (start_width place : ℕ) → ℕ
info_place start_width place = place + number_len start_width

-- the place of a row's first offset
abbrev pub offsets_place : (start_width place : ℕ) → ℕ
offsets_place start_width place = info_place start_width place + 1

-- the info byte's bit 0: the base of the canonical frame address
abbrev pub base_in : (info : ℕ) → Base
base_in info = if info % 2 == 0 then Fp else Sp

-- the info byte's bits 1 to 4: the number of offsets
abbrev pub offset_count_in : (info : ℕ) → ℕ
offset_count_in info = info / 2 % 16

-- the info byte's bits 5 and 6: the width of the offsets
abbrev pub offset_width_in : (info : ℕ) → ℕ
offset_width_in info = info / 32 % 4

-- the info byte's bit 7: the return address is signed
abbrev pub is_signed_in : (info : ℕ) → Bool
is_signed_in info = nat_le 128 info

-- a row's info byte
abbrev pub row_info : List ℕ → (start_width place : ℕ) → ℕ
row_info rows start_width place = slice_index rows (info_place start_width place)

-- where the row ends by its info byte
abbrev pub row_end : (start_width place info : ℕ) → ℕ
row_end start_width place info = offsets_place start_width place + offset_count_in info * number_len (offset_width_in info)

-- rows of the machine can have `count` offsets: one or two on AMD64, one to three on AArch64
abbrev pub has_offset_count : Arch → (count : ℕ) → Bool
has_offset_count Amd64 count = nat_le 1 count && nat_le count 2
has_offset_count Aarch64 count = nat_le 1 count && nat_le count 3

-- the return address is not signed, or the machine is AArch64: only AArch64 signs return addresses
abbrev pub may_be_signed : Arch → (signed : Bool) → Bool
may_be_signed Amd64 signed = not signed
may_be_signed Aarch64 signed = true

-- The checks of a row. `origin` is the place of the sub-section of rows, `least` the least start that the row may have.
unfoldable pub row_check : Arch → List ℕ → (origin start_width place least : ℕ) → Check
row_check arch rows origin start_width place least =
    let info = row_info rows start_width place in
    unless (nat_le (offsets_place start_width place) (length rows)) (Layout (origin + place))
    >> unless (nat_le (offset_width_in info) 2) (OffsetSize (origin + place))
    >> unless (has_offset_count arch (offset_count_in info)) (OffsetCount (origin + place))
    >> unless (nat_le (row_end start_width place info) (length rows)) (Layout (origin + place))
    >> unless (may_be_signed arch (is_signed_in info)) (Reserved (origin + place))
    >> unless (nat_le least (unsigned_in start_width place rows)) (RowOrder (origin + place))

-- the checks of `count` consecutive rows: each start is above the one before
unfoldable pub rows_check : Arch → List ℕ → (origin start_width place least count : ℕ) → Check
rows_check arch rows origin start_width place least zero = Ok tt
rows_check arch rows origin start_width place least (suc count) =
    row_check arch rows origin start_width place least
    >> rows_check arch rows origin start_width (row_end start_width place (row_info rows start_width place)) (unsigned_in start_width place rows + 1) count

-- the return address, by the machine, the number of offsets, and the second offset
abbrev pub ra_in : Arch → (count : ℕ) → (second : ℤ) → Ra
ra_in Amd64 count second = Fixed
ra_in Aarch64 count second = if nat_le 2 count then At second else Link

-- the frame pointer, by the machine, the number of offsets, and the second and third offset
abbrev pub fp_in : Arch → (count : ℕ) → (second third : ℤ) → Option ℤ
fp_in Amd64 count second third = if nat_le 2 count then Some second else None
fp_in Aarch64 count second third = if nat_le 3 count then Some third else None

-- a row's content, by its info byte and the place of its first offset
unfoldable pub content_in : Arch → List ℕ → (info first : ℕ) → Content
content_in arch rows info first =
    let width = offset_width_in info in
    let second = signed_in width (first + number_len width) rows in
    record {
      base = base_in info;
      cfa = signed_in width first rows;
      ra = ra_in arch (offset_count_in info) second;
      fp = fp_in arch (offset_count_in info) second (signed_in width (first + number_len width + number_len width) rows);
      signed = is_signed_in info;
    }

-- the row at a place
unfoldable pub row_in : Arch → List ℕ → (start_width place : ℕ) → Row
row_in arch rows start_width place = record {
  start = unsigned_in start_width place rows;
  content = content_in arch rows (row_info rows start_width place) (offsets_place start_width place);
}

-- `count` consecutive rows
unfoldable pub rows_in : Arch → List ℕ → (start_width place count : ℕ) → List Row
rows_in arch rows start_width place zero = []
rows_in arch rows start_width place (suc count) =
    row_in arch rows start_width place
    ∷ rows_in arch rows start_width (row_end start_width place (row_info rows start_width place)) count
