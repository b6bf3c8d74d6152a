-- GNU SFrame specification, Version 2, with Errata 1 (the flag 0x4): when bytes at an address are a section with the content of a table.
-- The numbers of the header and of the function descriptor entries are those at their places; the frame row entries are spelled.
use Rattle.std.specs.Prelude.{◌≡◌, ◌+◌, ◌*◌, ◌/◌, ◌%◌, ◌^◌, ◌<◌, ◌≤◌, ◌+ℤ◌, ℕ, pos, Bool, IsTrue, ◌==◌, List, [], ◌∷◌, length, take, drop, slice_index, if◌then◌else◌, ⊤}
use Rattle.std.specs.List.{AllAdjacentBelow}
use Rattle.byteorder.specs.Endian.{little_from, twos_complement}
use Rattle.sf_model.specs.declared.machine.Arch.{Arch}
use Rattle.sf_model.specs.declared.machine.Arch.TheVariants.{Amd64, Aarch64}
use Rattle.sf_model.specs.declared.machine.Key.{Key}
use Rattle.sf_model.specs.declared.machine.Key.TheVariants.{A, B}
use Rattle.sf_model.specs.declared.content.Content.{Content}
use Rattle.sf_model.specs.declared.rows.Row.{Row}
use Rattle.sf_model.specs.declared.function.Shape.{Shape}
use Rattle.sf_model.specs.declared.function.Shape.TheVariants.{Plain, Repeat}
use Rattle.sf_model.specs.declared.function.Func.{Func}
use Rattle.sf_model.specs.Content.{content_fits}
use Rattle.sf_model.specs.Function.{key_fits, RowsRise}
use Rattle.sf_model.specs.Limits.{most_functions, most_rows}
use Rattle.sf_model.specs.Width.{holds_unsigned, IsWidth}
use Rattle.sf_model.specs.RowBytes.{holds_row_offsets, spelled_row, StandsAt}
use Rattle.sf_model.specs.Table.{Table, row_count}

-- every number of the list is a byte
abbrev pub AreBytes : List ℕ → Type 0
AreBytes bytes = (k : ℕ) → slice_index bytes k < 256

-- the little-endian number in `len` bytes at a place
abbrev pub number_in : (len place : ℕ) → List ℕ → ℕ
number_in len place bytes = little_from place len bytes

-- sfh_auxhdr_len, a number of the header (struct sframe_header), as are the next three
abbrev pub auxiliary_len : List ℕ → ℕ
auxiliary_len bytes = slice_index bytes 7

-- sfh_fre_len
abbrev pub rows_len : List ℕ → ℕ
rows_len bytes = number_in 4 16 bytes

-- sfh_fdeoff
abbrev pub functions_offset : List ℕ → ℕ
functions_offset bytes = number_in 4 20 bytes

-- sfh_freoff
abbrev pub rows_offset : List ℕ → ℕ
rows_offset bytes = number_in 4 24 bytes

-- where the header and the auxiliary header end, from which the offsets of both sub-sections count
abbrev pub header_end : List ℕ → ℕ
header_end bytes = 28 + auxiliary_len bytes

-- the place of the first function descriptor entry
abbrev pub functions_place : List ℕ → ℕ
functions_place bytes = header_end bytes + functions_offset bytes

-- the place of the sub-section of rows
abbrev pub rows_place : List ℕ → ℕ
rows_place bytes = header_end bytes + rows_offset bytes

-- the bytes of the sub-section of rows
abbrev pub row_bytes_of : List ℕ → List ℕ
row_bytes_of bytes = take (rows_len bytes) (drop (rows_place bytes) bytes)

-- sfh_abi_arch: AArch64 little-endian, or AMD64
abbrev pub abi_number : Arch → ℕ
abi_number Aarch64 = 2
abi_number Amd64 = 3

-- sfh_cfa_fixed_ra_offset as a byte: -8 on AMD64, none on AArch64
abbrev pub fixed_return_byte : Arch → ℕ
fixed_return_byte Amd64 = 0xf8
fixed_return_byte Aarch64 = 0

-- The header: the preamble (sfp_magic, sfp_version, sfp_flags), sfh_cfa_fixed_fp_offset, the counts (sfh_num_fdes, sfh_num_fres), and both
-- sub-sections within the bytes.
pub record IsHeader (bytes : List ℕ) (table : Table) : Type 0 where
  pub magic : number_in 2 0 bytes ≡ 0xdee2
  pub version : slice_index bytes 2 ≡ 2
  pub flags : slice_index bytes 3 ≡ table.flags
  pub flags_known : table.flags < 8
  pub abi : slice_index bytes 4 ≡ abi_number table.arch
  pub fixed_frame_pointer : slice_index bytes 5 ≡ 0
  pub fixed_return : slice_index bytes 6 ≡ fixed_return_byte table.arch
  pub function_count : number_in 4 8 bytes ≡ length table.functions
  pub function_limit : length table.functions ≤ most_functions
  pub rows : number_in 4 12 bytes ≡ row_count table.functions
  pub row_limit : row_count table.functions ≤ most_rows
  pub header_within : header_end bytes ≤ length bytes
  pub functions_within : functions_place bytes + 20 * length table.functions ≤ length bytes
  pub rows_within : rows_place bytes + rows_len bytes ≤ length bytes

-- the flag 0x1, SFRAME_F_FDE_SORTED: the functions are sorted by rising start
abbrev pub is_sorted : (flags : ℕ) → Bool
is_sorted flags = flags % 2 == 1

-- the flag 0x4, SFRAME_F_FDE_FUNC_START_PCREL: a start counts from the address of its own field
abbrev pub counts_from_field : (flags : ℕ) → Bool
counts_from_field flags = flags / 4 % 2 == 1

-- the address that the start of the entry at a place counts from, in a section at `at`
abbrev pub start_origin : (flags at place : ℕ) → ℕ
start_origin flags at place = if counts_from_field flags then at + place else at

-- the FRE type, the low four bits of sfde_func_info: 0, 1 and 2 for ADDR1, ADDR2 and ADDR4. It is a number of a function descriptor entry
-- at a place (struct sframe_func_desc_entry), as are the next three.
abbrev pub start_width_at : List ℕ → (place : ℕ) → ℕ
start_width_at bytes place = slice_index bytes (place + 16) % 16

-- sfde_func_start_fre_off
abbrev pub row_offset_at : List ℕ → (place : ℕ) → ℕ
row_offset_at bytes place = number_in 4 (place + 8) bytes

-- the FDE type, bit 4 of sfde_func_info: rows by the offset (PCINC), or by the offset modulo the repeat size (PCMASK)
abbrev pub shape_number : Shape → ℕ
shape_number Plain = 0
shape_number (Repeat size) = 1

-- pauth_key, bit 5 of sfde_func_info: the key of signed return addresses
abbrev pub key_number : Key → ℕ
key_number A = 0
key_number B = 1

-- the repeat size of a function of repeated blocks is not 0; a plain function's may be any byte
abbrev pub IsRepeatSize : Shape → (byte : ℕ) → Type 0
IsRepeatSize Plain byte = ⊤
IsRepeatSize (Repeat size) byte = (byte ≡ size) × (0 < size)

-- A row is at a place of the sub-section of rows, with the start width of its function and a width of its own.
pub record RowStands (arch : Arch) (rows : List ℕ) (start_width offset_width place : ℕ) (row : Row) : Type 0 where
  pub fits : IsTrue (content_fits arch row.content)
  pub start_width_fits : IsWidth (holds_unsigned row.start) start_width
  pub offset_width_fits : IsWidth (holds_row_offsets row.content) offset_width
  pub spelled : StandsAt rows place (spelled_row start_width offset_width row)

-- These rows are consecutive from a place up to an end, each with an offset width that it may have.
abbrev pub RowsStand : (MayHave : Content → (offset_width : ℕ) → Type 0) → Arch → (rows : List ℕ) → (start_width place end : ℕ) → List Row → Type 0
RowsStand MayHave arch rows start_width place end [] = place ≡ end
RowsStand MayHave arch rows start_width place end (row ∷ later) =
    (offset_width : ℕ) × MayHave row.content offset_width × RowStands arch rows start_width offset_width place row
    × RowsStand MayHave arch rows start_width (place + length (spelled_row start_width offset_width row)) end later

-- a row may have any offset width
abbrev pub AnyWidth : Content → (offset_width : ℕ) → Type 0
AnyWidth content offset_width = ⊤

-- The function descriptor entry of 20 bytes at a place describes this function, apart from its rows: sfde_func_start_address,
-- sfde_func_size, sfde_func_num_fres, sfde_func_info and sfde_func_rep_size.
pub record EntryStands (arch : Arch) (bytes : List ℕ) (origin place : ℕ) (f : Func) : Type 0 where
  pub start : pos f.start ≡ pos origin +ℤ twos_complement 4 (number_in 4 place bytes)
  pub end : f.start + f.size ≤ 2 ^ 64
  pub start_below : f.start < 2 ^ 64
  pub size : number_in 4 (place + 4) bytes ≡ f.size
  pub row_count : number_in 4 (place + 12) bytes ≡ length f.rows
  pub start_width : start_width_at bytes place ≤ 2
  pub info : slice_index bytes (place + 16) / 16 ≡ shape_number f.shape + 2 * key_number f.key
  pub repeat_size : IsRepeatSize f.shape (slice_index bytes (place + 17))
  pub key : IsTrue (key_fits arch f.key)
  pub rows_rise : RowsRise f.rows

-- the function's rows are in the sub-section of rows, from the offset in its entry on
abbrev pub FunctionRowsStand : Arch → List ℕ → (place : ℕ) → Func → Type 0
FunctionRowsStand arch bytes place f =
    (end : ℕ) × RowsStand AnyWidth arch (row_bytes_of bytes) (start_width_at bytes place) (row_offset_at bytes place) end f.rows

-- the functions' entries are consecutive from a place on
abbrev pub FunctionsStand : Arch → List ℕ → (flags at place : ℕ) → List Func → Type 0
FunctionsStand arch bytes flags at place [] = ⊤
FunctionsStand arch bytes flags at place (f ∷ later) =
    EntryStands arch bytes (start_origin flags at place) place f × FunctionRowsStand arch bytes place f
    × FunctionsStand arch bytes flags at (place + 20) later

-- the bytes at this address are a section with this table's content
pub record Section (bytes : List ℕ) (at : ℕ) (table : Table) : Type 0 where
  pub header : IsHeader bytes table
  pub functions : FunctionsStand table.arch bytes table.flags at (functions_place bytes) table.functions
  pub sorted : IsTrue (is_sorted table.flags) → AllAdjacentBelow (λ (f : Func) (g : Func). f.start + f.size ≤ g.start) table.functions (length table.functions)
