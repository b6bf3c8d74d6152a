-- The section .eh_frame of the made object (LSB, "The .eh_frame section").
use Rattle.std.specs.Prelude.{◌+◌, ◌*◌, ◌++◌, ℕ, List, [], ◌∷◌, codes}
use Rattle.std.specs.List.{flat_map, range_with_len}
use Rattle.sf_gen.specs.Number.{word}
use Rattle.sf_gen.specs.Pattern.{kind}
use Rattle.sf_gen.specs.Instruction.{def_cfa, filled, instructions, offset, return_address_column, rsp}

-- The fields of the common information entry after its length and its id: version 1, augmentation "zR", code alignment 1, data
-- alignment -8 as a LEB128 number, the return address's column, one byte of augmentation data (DW_EH_PE_pcrel and
-- DW_EH_PE_sdata4), and the instructions: the CFA is rsp+8, with the return address saved below it.
abbrev pub cie_fields : List ℕ
cie_fields =
    (1 ∷ []) ++ codes "zR" ++ (0 ∷ []) ++ (1 ∷ 0x78 ∷ return_address_column ∷ []) ++ (1 ∷ 0x1b ∷ [])
    ++ filled 7 (def_cfa rsp 8 ++ offset return_address_column 1)

-- the one common information entry, of 24 bytes
unfoldable pub cie : List ℕ
cie = word 20 ++ word 0 ++ cie_fields

-- The frame description entry of a function, of 32 bytes, which follows those before it: length 28, the distance back
-- to the CIE, PC begin, which a relocation fills, the size, no augmentation data, and 15 bytes of instructions.
unfoldable pub fde : (i kind : ℕ) → List ℕ
fde i kind = word 28 ++ word (28 + 32 * i) ++ word 0 ++ word 32 ++ (0 ∷ []) ++ filled 15 (instructions kind)

-- the section for n functions
abbrev pub eh_frame : (n : ℕ) → List ℕ
eh_frame n = cie ++ flat_map (λ i. fde i (kind n i)) (range_with_len 0 n)
