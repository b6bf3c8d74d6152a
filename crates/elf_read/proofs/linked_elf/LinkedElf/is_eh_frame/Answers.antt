use Rattle.elf_read.specs.Linked.{linked_file}
use Rattle.elf_read.proofs.OnlyEhFrame.{number_is}
use Rattle.elf_read.proofs.linked_elf.LinkedElf.is_eh_frame.Goals as goal

pub returns : goal.returns
returns c = number_is (linked_file c.args.self.now) c.args.i c.args.self.now.eh_frame c.args.self.now.is c.args.self.now.only c.requires
