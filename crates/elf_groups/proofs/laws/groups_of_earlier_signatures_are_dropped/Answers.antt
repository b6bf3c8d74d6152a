use Rattle.std.proofs.Common.{[]}
use Rattle.elf_groups.proofs.Dropped.{lists_no_other, lists_dropped, one_file_more}
use Rattle.elf_groups.proofs.laws.groups_of_earlier_signatures_are_dropped.Goals as goal

pub returns-clause-next : goal.returns-clause-next
returns-clause-next c = one_file_more []

pub returns-clause-dropped : goal.returns-clause-dropped
returns-clause-dropped c = lists_dropped

pub returns-clause-only : goal.returns-clause-only
returns-clause-only c = lists_no_other
