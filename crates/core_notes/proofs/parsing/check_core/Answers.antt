use Rattle.std.proofs.Common.{arith}
use Rattle.core_notes.proofs.Rooms.{header_lies}
use Rattle.core_notes.proofs.parsing.check_core.Goals as goal

pub check_room-requires-clause-lie : goal.check_room-requires-clause-lie
check_room-requires-clause-lie c = λ i lt. header_lies c.args.elf.now i (omega (lt, c.segments.ensures, arith))
