-- Call frame instructions of the made functions (DWARF 5, section 6.4.2), by their bytes.
use Rattle.std.specs.Prelude.{◌+◌, ◌-◌, ◌++◌, ◌==◌, ℕ, List, [], ◌∷◌, length, replicate, if◌then◌else◌}

-- rbp, by its number on AMD64 (System V psABI, "DWARF Register Number Mapping")
abbrev pub rbp : ℕ
rbp = 6

-- rsp
abbrev pub rsp : ℕ
rsp = 7

-- r10
abbrev pub r10 : ℕ
r10 = 10

-- the return address's column
abbrev pub return_address_column : ℕ
return_address_column = 16

-- DW_CFA_advance_loc
abbrev pub advance_loc : (delta : ℕ) → List ℕ
advance_loc delta = (0x40 + delta) ∷ []

-- DW_CFA_offset, with an offset that the data alignment still multiplies
abbrev pub offset : (register factored : ℕ) → List ℕ
offset register factored = (0x80 + register) ∷ factored ∷ []

-- DW_CFA_def_cfa
abbrev pub def_cfa : (register distance : ℕ) → List ℕ
def_cfa register distance = 0x0c ∷ register ∷ distance ∷ []

-- DW_CFA_def_cfa_register
abbrev pub def_cfa_register : (register : ℕ) → List ℕ
def_cfa_register register = 0x0d ∷ register ∷ []

-- DW_CFA_def_cfa_offset
abbrev pub def_cfa_offset : (distance : ℕ) → List ℕ
def_cfa_offset distance = 0x0e ∷ distance ∷ []

-- `count` DW_CFA_nop
abbrev pub nops : (count : ℕ) → List ℕ
nops count = replicate count 0

-- rbp is saved and becomes the frame's base; the last byte of the function returns
abbrev pub frame_pointer_instructions : List ℕ
frame_pointer_instructions =
    advance_loc 1 ++ def_cfa_offset 16 ++ offset rbp 2 ++ advance_loc 3 ++ def_cfa_register rbp ++ advance_loc 27 ++ def_cfa rsp 8

-- the stack pointer moves by 40 and back
abbrev pub locals : List ℕ
locals = advance_loc 4 ++ def_cfa_offset 48 ++ advance_loc 27 ++ def_cfa_offset 8

-- the frame's base is r10; SFrame has no row by that base
abbrev pub other_register : List ℕ
other_register = advance_loc 5 ++ def_cfa r10 0

-- the instructions of a function of this kind
abbrev pub instructions : (kind : ℕ) → List ℕ
instructions kind =
    if kind == 0 then [] else (if kind == 1 then frame_pointer_instructions else (if kind == 2 then locals else other_register))

-- instructions with nops after them, up to this length
abbrev pub filled : (len : ℕ) → List ℕ → List ℕ
filled len bytes = bytes ++ nops (len - length bytes)
