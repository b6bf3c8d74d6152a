-- GNU SFrame specification, Version 3: when bytes at an address are a section with the content of a table, all of whose function
-- descriptor entries are of the default type (SFRAME_FDE_TYPE_DEFAULT), and all of whose rows have a canonical frame address.
-- The header is that of Version 2 but for the version and the flags. The frame row entries are spelled as in Version 2.
use Rattle.std.specs.Prelude.{◌≡◌, ◌+◌, ◌*◌, ◌/◌, ◌%◌, ◌^◌, ◌<◌, ◌≤◌, ℕ, Bool, true, false, IsTrue, List, [], ◌∷◌, length, slice_index, ⊤}
use Rattle.std.specs.List.{AllAdjacentBelow}
use Rattle.sf_model.specs.declared.machine.Arch.{Arch}
use Rattle.sf_model.specs.declared.function.Func.{Func}
use Rattle.sf_model.specs.Function.{key_fits, RowsRise}
use Rattle.sf_model.specs.Limits.{most_functions, most_rows}
use Rattle.sf_model.specs.Section.{number_in, header_end, functions_place, rows_place, rows_len, row_bytes_of, abi_number, fixed_return_byte, is_sorted, start_origin, shape_number, key_number, IsRepeatSize, AnyWidth, RowsStand}
use Rattle.sf3_model.specs.Described.{Described, Table, row_count}

-- the flags of Version 3: 0x1 (SFRAME_F_FDE_SORTED) and 0x4 (SFRAME_F_FDE_FUNC_START_PCREL), and no other
pub record AreKnownFlags (flags : ℕ) : Type 0 where
  pub below : flags < 8
  pub no_frame_pointer : flags / 2 % 2 ≡ 0

-- The header: the preamble (sfp_magic, sfp_version, sfp_flags), sfh_cfa_fixed_fp_offset, the counts (sfh_num_fdes, sfh_num_fres), and both
-- sub-sections within the bytes.
pub record IsHeader (bytes : List ℕ) (table : Table) : Type 0 where
  pub magic : number_in 2 0 bytes ≡ 0xdee2
  pub version : slice_index bytes 2 ≡ 3
  pub flags : slice_index bytes 3 ≡ table.flags
  pub flags_known : AreKnownFlags table.flags
  pub abi : slice_index bytes 4 ≡ abi_number table.arch
  pub fixed_frame_pointer : slice_index bytes 5 ≡ 0
  pub fixed_return : slice_index bytes 6 ≡ fixed_return_byte table.arch
  pub function_count : number_in 4 8 bytes ≡ length table.functions
  pub function_limit : length table.functions ≤ most_functions
  pub rows : number_in 4 12 bytes ≡ row_count table.functions
  pub row_limit : row_count table.functions ≤ most_rows
  pub header_within : header_end bytes ≤ length bytes
  pub functions_within : functions_place bytes + 16 * length table.functions ≤ length bytes
  pub rows_within : rows_place bytes + rows_len bytes ≤ length bytes

-- sfdi_func_start_fre_off: where a function's data begin in the sub-section of rows
abbrev pub data_offset_at : List ℕ → (place : ℕ) → ℕ
data_offset_at bytes place = number_in 4 (place + 12) bytes

-- The function descriptor entry of 16 bytes at a place (struct sframe_func_desc_idx_v3): sfdi_func_start_offset, whose eight bytes are
-- added to the address that it counts from modulo 2^64, and sfdi_func_size.
pub record EntryStands (bytes : List ℕ) (origin place : ℕ) (f : Func) : Type 0 where
  pub start : f.start ≡ (origin + number_in 8 place bytes) % 2 ^ 64
  pub end : f.start + f.size ≤ 2 ^ 64
  pub size : number_in 4 (place + 8) bytes ≡ f.size

-- signal_p, bit 7 of sfda_func_info: a signal frame
abbrev pub signal_number : Bool → ℕ
signal_number false = 0
signal_number true = 1

-- fre_type, the low four bits of sfda_func_info, of the attributes at a place of the sub-section of rows
abbrev pub start_width_in : (rows : List ℕ) → (place : ℕ) → ℕ
start_width_in rows place = slice_index rows (place + 2) % 16

-- The function's attributes of five bytes at a place of the sub-section of rows (struct sframe_func_desc_attr_v3): sfda_func_num_fres,
-- sfda_func_info with fde_pctype, pauth_key, bit 6 unused, and signal_p; sfda_func_info2 with the default type; sfda_func_rep_size.
pub record AttributesStand (arch : Arch) (rows : List ℕ) (place : ℕ) (d : Described) : Type 0 where
  pub within : place + 5 ≤ length rows
  pub row_count : number_in 2 place rows ≡ length d.func.rows
  pub start_width : start_width_in rows place ≤ 2
  pub info : slice_index rows (place + 2) / 16 ≡ shape_number d.func.shape + 2 * key_number d.func.key + 8 * signal_number d.is_signal
  pub default_type : slice_index rows (place + 3) ≡ 0
  pub repeat_size : IsRepeatSize d.func.shape (slice_index rows (place + 4))
  pub key : IsTrue (key_fits arch d.func.key)
  pub rows_rise : RowsRise d.func.rows

-- the function's rows come after its attributes
abbrev pub FunctionRowsStand : Arch → (rows : List ℕ) → (place : ℕ) → Func → Type 0
FunctionRowsStand arch rows place f = (end : ℕ) × RowsStand AnyWidth arch rows (start_width_in rows place) (place + 5) end f.rows

-- the entry at a place, the attributes and the rows describe this function
pub record FunctionStands (arch : Arch) (bytes : List ℕ) (origin place : ℕ) (d : Described) : Type 0 where
  pub entry : EntryStands bytes origin place d.func
  pub attributes : AttributesStand arch (row_bytes_of bytes) (data_offset_at bytes place) d
  pub rows : FunctionRowsStand arch (row_bytes_of bytes) (data_offset_at bytes place) d.func

-- the functions' entries are consecutive from a place on
abbrev pub FunctionsStand : Arch → List ℕ → (flags at place : ℕ) → List Described → Type 0
FunctionsStand arch bytes flags at place [] = ⊤
FunctionsStand arch bytes flags at place (d ∷ later) =
    FunctionStands arch bytes (start_origin flags at place) place d × FunctionsStand arch bytes flags at (place + 16) later

-- a function ends where the next one begins, or before
abbrev pub EndsBy : Described → Described → Type 0
EndsBy d e = d.func.start + d.func.size ≤ e.func.start

-- the bytes at this address are a section with this table's content
pub record Section (bytes : List ℕ) (at : ℕ) (table : Table) : Type 0 where
  pub header : IsHeader bytes table
  pub functions : FunctionsStand table.arch bytes table.flags at (functions_place bytes) table.functions
  pub sorted : IsTrue (is_sorted table.flags) → AllAdjacentBelow EndsBy table.functions (length table.functions)
