use Rattle.std.proofs.Common.{sym, ◌∙◌}
use Rattle.elf_read.proofs.Rules.{file_check_is}
use Rattle.elf_read.proofs.parsing.check_file.Goals as goal

pub returns-clause-check : goal.returns-clause-check
returns-clause-check c = c.check_in_turn.ensures.check ∙ sym (file_check_is c.args.file.now)
