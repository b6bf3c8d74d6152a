-- Only an object has groups.
use Rattle.std.specs.Prelude.{IsTrue}
use Rattle.std.proofs.Common.{◌≡◌, ◌&&◌, ◌==◌, ℕ, Bool, true, false, cond, List, Some, None, refl}
use Rattle.elf_read.specs.Header.{is_rel}
use Rattle.elf_read.specs.Sections.{section_fields}
use Rattle.elf_read.specs.Used.{is_group}
use Rattle.elf_read.specs.Views.{GroupView, group_of}

by_type : (object group : Bool) (view other : GroupView) → cond (object && group) (Some other) None ≡ Some view → IsTrue object
by_type true group view other h = refl
by_type false group view other h = absurd (cc h)

pub group_in_object : (file : List ℕ) (i : ℕ) (view : GroupView) → group_of file i ≡ Some view → IsTrue (is_rel file)
unfolding group_of is_group
group_in_object file i view h = by_type (is_rel file) ((section_fields file i).sh_type == 17) view _ h
