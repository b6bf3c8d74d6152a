use Rattle.elf_read.proofs.Texts.{empty_at_end, empty_at_zero}
use Rattle.elf_read.proofs.text.Text.is_empty.Goals as goal

pub returns-in-empty : goal.returns-in-empty
returns-in-empty c = empty_at_end c.args.self.now.rest.now c.in-empty.len_below

pub returns-in-len1-up : goal.returns-in-len1-up
returns-in-len1-up c = empty_at_zero c.args.self.now.rest.now c.in-len1-up.len_at_least
