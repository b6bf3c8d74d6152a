use Rattle.std.proofs.Common.{arith}
use Rattle.elf_load.proofs.segments.greater.Goals as goal

pub returns-then-a-b : goal.returns-then-a-b
returns-then-a-b c = omega (c.if-a-b.true, arith)

pub returns-else-a-b : goal.returns-else-a-b
returns-else-a-b c = omega (c.if-a-b.false, arith)
