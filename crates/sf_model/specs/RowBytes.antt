-- GNU SFrame specification, Version 2, frame row entries: how a row is spelled.
use Rattle.std.specs.Prelude.{◌≡◌, ◌+◌, ◌*◌, ℕ, ℤ, Bool, true, false, List, [], ◌∷◌, ◌++◌, length, take, drop, option_to_list}
use Rattle.std.specs.List.{flat_map, list_all}
use Rattle.sf_model.specs.declared.machine.Base.{Base}
use Rattle.sf_model.specs.declared.machine.Base.TheVariants.{Fp, Sp}
use Rattle.sf_model.specs.declared.content.Ra.{Ra}
use Rattle.sf_model.specs.declared.content.Ra.TheVariants.{Fixed, Link, At}
use Rattle.sf_model.specs.declared.content.Content.{Content}
use Rattle.sf_model.specs.declared.rows.Row.{Row}
use Rattle.sf_model.specs.Width.{holds_signed, signed_bytes, unsigned_bytes}

-- the return address's offset, if the row has one
abbrev pub return_offset : Ra → List ℤ
return_offset Fixed = []
return_offset Link = []
return_offset (At offset) = offset ∷ []

-- the offsets in their order: of the canonical frame address, of the return address, of the frame pointer
abbrev pub row_offsets : Content → List ℤ
row_offsets content = content.cfa ∷ (return_offset content.ra ++ option_to_list content.fp)

-- a width holds each of a row's offsets
abbrev pub holds_row_offsets : Content → (width : ℕ) → Bool
holds_row_offsets content width = list_all (λ offset. holds_signed offset width) (row_offsets content)

-- fre_cfa_base_reg_id, bit 0 of the info byte: the base of the canonical frame address
abbrev pub base_number : Base → ℕ
base_number Fp = 0
base_number Sp = 1

-- fre_mangled_ra_p, bit 7 of the info byte: the return address is signed
abbrev pub signed_number : Bool → ℕ
signed_number false = 0
signed_number true = 1

-- sfre_info: bit 0 the base, bits 1 to 4 the number of offsets (fre_offset_count), bits 5 and 6 their width (fre_offset_size: 1B, 2B, 4B),
-- bit 7 a signed return address
abbrev pub row_info_byte : (offset_width : ℕ) → Content → ℕ
row_info_byte offset_width content =
    base_number content.base + 2 * length (row_offsets content) + 32 * offset_width + 128 * signed_number content.signed

-- a row: its start (sfre_start_address), the info byte, the offsets
unfoldable pub spelled_row : (start_width offset_width : ℕ) → Row → List ℕ
spelled_row start_width offset_width row =
    unsigned_bytes start_width row.start
    ++ (row_info_byte offset_width row.content ∷ flat_map (signed_bytes offset_width) (row_offsets row.content))

-- a run of bytes is at a place
abbrev pub StandsAt : List ℕ → (place : ℕ) → (run : List ℕ) → Type 0
StandsAt bytes place run = take (length run) (drop place bytes) ≡ run
