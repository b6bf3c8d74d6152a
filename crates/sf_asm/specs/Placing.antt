-- Inside the crate. What a placed file is by the definitions of sections.
use Rattle.std.specs.Prelude.{◌≡◌, ℕ, List}
use Rattle.elf_read.specs.Sections.{section_count}
use Rattle.elf_groups.specs.Groups.{dropped_groups}
use Rattle.elf_place.specs.declared.placed.Placed.{Placed}
use Rattle.elf_place.specs.Place.{eh_frames_below, shift_of}
use Rattle.elf_place.specs.Views as view
use Rattle.sf_asm.specs.Sections.{dropped_after, placing_of}

-- the file is placed at this base, where these signatures were seen before
pub record IsPlacing (seen : List (List ℕ)) (file : List ℕ) (base : ℕ) (p : Placed) : Type 0 where
  pub placing : view.placing p ≡ placing_of (dropped_groups seen file) file base
  pub shift : view.shift_in p ≡ shift_of file base
  pub sections : view.eh_frames p ≡ eh_frames_below file (dropped_after seen file) (section_count file)
