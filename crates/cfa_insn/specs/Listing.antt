-- The instructions of a run of bytes with their places, up to the end or up to the first that can't be read, and then
-- its fault (DWARF 5, section 6.4.2).
use Rattle.std.specs.Prelude.{◌≡◌, ℕ, zero, suc, ◌+◌, ◌-◌, List, [], ◌∷◌, length, Option, Some, None, Result, Ok, Err}
use Rattle.sf_bytes.specs.Cursor.{Cursor, cursor}
use Rattle.sf_bytes.specs.declared.part.Part.{Part}
use Rattle.cfa_insn.specs.declared.fault.InsnFault.{InsnFault}
use Rattle.cfa_insn.specs.declared.insn.Insn.{Insn}
use Rattle.cfa_insn.specs.Instruction.{Instruction, instruction}
use Rattle.cfa_insn.specs.Table.{instruction_at}

-- an instruction with its place, or the fault if it can't be read
abbrev pub Item : Type 0
Item = Result (ℕ × Instruction) InsnFault

-- how many bytes are left after the instruction
abbrev pub left_behind : Result (Instruction × Cursor) InsnFault → ℕ
left_behind (Ok (i, after)) = length after.left
left_behind (Err e) = 0

-- the instruction and those after it, or the fault alone
abbrev pub front_of : ℕ → Result (Instruction × Cursor) InsnFault → List Item → List Item
front_of place (Ok (i, after)) others = Ok (place, i) ∷ others
front_of place (Err e) others = Err e ∷ []

-- the items after that many further bytes of an instruction that was read
unfoldable pub listing_after : (skipped place : ℕ) → List ℕ → List Item
listing_after skipped place [] = []
listing_after (suc n) place (b ∷ bs) = listing_after n (place + 1) bs
listing_after zero place (b ∷ bs) =
    let read = instruction_at (record { place = place; left = b ∷ bs }) in
    front_of place read (listing_after (length bs - left_behind read) (place + 1) bs)

-- the instructions from a cursor on
abbrev pub listing : Cursor → List Item
listing at = listing_after 0 at.place at.left

-- a lent item, apart from where its bytes are in memory
abbrev pub item : Result (ℕ × Insn) InsnFault → Item
item (Ok x) = Ok (x.0, instruction x.1)
item (Err e) = Err e

-- ---- Inside the crate
-- none if no item is left; else the first item, and a part with the others
abbrev pub GivesFirst : Option (Result (ℕ × Insn) InsnFault × Part) → List Item → Type 0
GivesFirst None items = items ≡ []
GivesFirst (Some (first, rest)) items = items ≡ item first ∷ listing (cursor rest)
