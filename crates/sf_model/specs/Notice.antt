-- Which faults have a line.
use Rattle.std.specs.Prelude.{◌≤◌, Bool, true, false, is_some, length, IsTrue}
use Rattle.sf_model.specs.declared.notice.Group.{Group}
use Rattle.sf_model.specs.declared.notice.Group.TheVariants.{Elf, Place, Reloc, Record, Insn, Machine, Section, Core, Module, Link}
use Rattle.sf_model.specs.declared.notice.Notice.{Notice}

-- whether a line of this group begins with an item
abbrev pub shows_item : Group → Bool
shows_item Elf = true
shows_item Place = true
shows_item Reloc = true
shows_item Record = true
shows_item Insn = true
shows_item Machine = true
shows_item Section = true
shows_item Core = true
shows_item Module = true
shows_item Link = false

-- the notice has a line: a name of at most 16 bytes, and an item if the line shows one
pub record HasLine (notice : Notice) : Type 0 where
  pub name : length notice.fault.name.now ≤ 16
  pub item : IsTrue (shows_item notice.fault.group) → IsTrue (is_some notice.item)
