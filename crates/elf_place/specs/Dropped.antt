-- Which sections are dropped with their groups (ELF64 gABI, "Section Groups").
use Rattle.std.specs.Prelude.{ℕ, ◌==◌, Bool, ◌&&◌, List, map}
use Rattle.std.specs.List.{list_any}
use Rattle.elf_read.specs.Checking.{numbers_below}
use Rattle.elf_read.specs.Sections.{section_count, group_member, member_count}
use Rattle.elf_read.specs.Used.{is_group}

-- whether one of these groups has a section among its members
unfoldable pub is_dropped : (file groups : List ℕ) → ℕ → Bool
is_dropped file groups i =
    list_any (λ group. is_group file group && list_any (λ k. group_member file group k == i) (numbers_below (member_count file group))) groups

-- for each section whether it is dropped with one of these groups
abbrev pub dropped_sections : (file groups : List ℕ) → List Bool
dropped_sections file groups = map (is_dropped file groups) (numbers_below (section_count file))

-- ---- Inside the crate
-- whether a section is among the first n members of a group
abbrev pub is_member : List ℕ → ℕ → ℕ → ℕ → Bool
is_member file group n i = list_any (λ k. group_member file group k == i) (numbers_below n)

-- whether a section is among all members of a group
unfoldable pub is_named : List ℕ → ℕ → ℕ → Bool
is_named file group i = is_group file group && is_member file group (member_count file group) i
