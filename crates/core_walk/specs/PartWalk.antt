-- Walks by a part of a memory, as of a core file of which only some bytes were read (ELF64 gABI, "Program Header", PT_LOAD).
use Rattle.std.specs.Prelude.{◌≡◌, ℕ, List, Some, None}
use Rattle.sf_model.specs.declared.walk.Stop.{Stop}
use Rattle.sf_model.specs.declared.walk.Stop.TheVariants.{Depth, Outside, Unreadable, Signed}
use Rattle.sf_model.specs.Memory.{Region, read_eight}

-- each number that is read of the part is read of the whole
abbrev pub IsPartOf : (part whole : List Region) → Type 0
IsPartOf part whole = (address value : ℕ) → read_eight part address ≡ Some value → read_eight whole address ≡ Some value

-- a walk did not stop at eight bytes that the whole has
abbrev pub MissedNothing : (whole : List Region) → Stop → Type 0
MissedNothing whole Depth = Unit {0}
MissedNothing whole (Outside address) = Unit {0}
MissedNothing whole (Unreadable address) = read_eight whole address ≡ None
MissedNothing whole (Signed address) = Unit {0}
