-- Worked rows of the flexible type, as the GNU assembler 2.47 spells them for a function whose stack is realigned.
use Rattle.std.proofs.Common.{◌≡◌, pos, true, false, Some, None, [], ◌∷◌, refl}
use Rattle.std.specs.Prelude.{negsuc}
use Rattle.sf3_model.specs.Flexible.{Flexible, Register, Rule, spelled_flexible}

-- the frame pointer is saved where it points to
abbrev saved : Rule
saved = record { origin = Register 6; is_dereferenced = true; offset = pos 0 }

-- the canonical frame address is in r10
abbrev in_register : Flexible
in_register = record { cfa = record { origin = Register 10; is_dereferenced = false; offset = pos 0 }; ra = None; fp = Some saved }

-- the canonical frame address is saved at 24 below the frame pointer
abbrev in_memory : Flexible
in_memory = record { cfa = record { origin = Register 6; is_dereferenced = true; offset = negsuc 23 }; ra = None; fp = Some saved }

pub first : spelled_flexible 0 0 0x14 in_register ≡ 0x14 ∷ 0x0a ∷ 0x51 ∷ 0 ∷ 0 ∷ 0x33 ∷ 0 ∷ []
unfolding spelled_flexible
first = refl

pub second : spelled_flexible 0 0 0x2c in_memory ≡ 0x2c ∷ 0x0a ∷ 0x33 ∷ 0xe8 ∷ 0 ∷ 0x33 ∷ 0 ∷ []
unfolding spelled_flexible
second = refl
