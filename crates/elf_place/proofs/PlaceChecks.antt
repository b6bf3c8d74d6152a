-- The check of a placing is those of its sections, one after the other.
use Rattle.std.proofs.Common.{◌≡◌, ℕ, Bool, List, refl}
use Rattle.elf_read.specs.Checking.{◌>>◌, each_below}
use Rattle.elf_read.specs.Sections.{section_count}
use Rattle.elf_place.specs.Place.{align_check, bits_check, overflow_check, place_check}

pub place_check_is : (file : List ℕ) (dropped : List Bool) (base : ℕ)
    → place_check file dropped base ≡ (each_below (section_count file) (align_check file dropped) >> each_below (section_count file) (overflow_check file dropped base) >> each_below (section_count file) (bits_check file dropped))
unfolding place_check align_check overflow_check bits_check
place_check_is file dropped base = refl
