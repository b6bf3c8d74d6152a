use Rattle.std.proofs.Common.{sym}
use Rattle.elf_mapped.specs.Program.{program_bytes}
use Rattle.sf_modules.proofs.Headers.{headers_lie}
use Rattle.sf_modules.proofs.file.program_of.Goals as goal

pub invariant_of-result-clause-lie : goal.invariant_of-result-clause-lie
invariant_of-result-clause-lie c = headers_lie (program_bytes c.args.elf.now) c.in_ok-count.count (sym c.in_ok-count.ensures.check) c.in_ok-count.ensures.value
