-- Walks by a core file that was read, whole or by parts.
use Rattle.std.specs.Prelude.{◌≡◌, Bool, true, List}
use Rattle.sf_model.specs.Memory.{Region}
use Rattle.sf_model.specs.Walk.{Listing}
use Rattle.core_walk.specs.Walk.{walk_listing}
use Rattle.core_parts.specs.declared.walking.Walked.{Walked}
use Rattle.core_parts.specs.declared.walking.Walked.TheVariants.{Whole, Missed}

-- the walk is the one by the whole memory, or more of the memory has to be read: only where parts of it were
abbrev pub IsWalked : (walk_by : List Region → Listing) → (whole : List Region) → (is_part : Bool) → Walked → Type 0
IsWalked walk_by whole is_part (Whole walk) = walk_listing walk ≡ walk_by whole
IsWalked walk_by whole is_part (Missed address) = is_part ≡ true
