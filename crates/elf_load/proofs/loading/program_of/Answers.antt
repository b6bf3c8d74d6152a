use Rattle.std.proofs.Common.{sym}
use Rattle.elf_read.specs.Views.{file}
use Rattle.elf_load.proofs.Headers.{headers_lie}
use Rattle.elf_load.proofs.loading.program_of.Goals as goal

pub check_room-requires-clause-lie : goal.check_room-requires-clause-lie
check_room-requires-clause-lie c = headers_lie (file c.in_ok-elf.elf) c.in_ok-count.count (sym c.in_ok-count.ensures.exact) c.in_ok-count.ensures.count
