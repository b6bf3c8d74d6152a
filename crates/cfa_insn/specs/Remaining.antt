-- What an iterator over instructions has left, and what a call takes from its front.
use Rattle.std.specs.Prelude.{◌≡◌, ℕ, Bool, true, false, List, ◌∷◌, Option, Some, None, Ok}
use Rattle.sf_bytes.specs.Cursor.{cursor}
use Rattle.cfa_insn.specs.declared.insns.Insns.{Insns}
use Rattle.cfa_insn.specs.Instruction.{Instruction}
use Rattle.cfa_insn.specs.Listing.{Item, listing}

-- the items that are left
abbrev pub items_left : Insns → List Item
items_left insns = listing (cursor insns.part)

-- the bytes that are left
abbrev pub bytes_left : Insns → List ℕ
bytes_left insns = insns.part.bytes.now

-- the place of the first byte that is left
abbrev pub place_left : Insns → ℕ
place_left insns = insns.part.place

-- this instruction is the first item, and the others are left
abbrev pub TakesFirst : Instruction → (old new : Insns) → Type 0
TakesFirst i old new = items_left old ≡ Ok (place_left old, i) ∷ items_left new

-- if something was returned, its instruction is taken, and else nothing is
abbrev pub Takes : {X : Type 0} → (X → Instruction) → (old new : Insns) → Option X → Type 0
Takes make old new None = new ≡ old
Takes make old new (Some x) = TakesFirst (make x) old new

-- if the call returned true, this instruction is taken, and else nothing is
abbrev pub TakesIf : Instruction → (old new : Insns) → Bool → Type 0
TakesIf i old new false = new ≡ old
TakesIf i old new true = TakesFirst i old new
