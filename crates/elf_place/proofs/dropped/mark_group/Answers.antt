use Rattle.std.proofs.Common.{sym}
use Rattle.elf_read.specs.Input.{file}
use Rattle.elf_read.specs.Views.{group_view}
use Rattle.elf_place.proofs.Groups.{group_in_object}
use Rattle.elf_place.proofs.dropped.mark_group.Goals as goal

pub mark_members-requires : goal.mark_members-requires
mark_members-requires c = group_in_object (file c.args.elf.now) c.args.group (group_view c.in-Some.head) (sym c.in-Some.ensures.group)
