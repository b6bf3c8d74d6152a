use Rattle.std.proofs.Common.{ap, ◌∙◌}
use Rattle.elf_read.specs.Header.{arch_of}
use Rattle.elf_read.specs.Linked.{linked_file}
use Rattle.elf_read.proofs.HeadersKept.{arch_kept}
use Rattle.elf_read.proofs.linked_elf.LinkedElf.arch.Goals as goal

pub returns : goal.returns
returns c = c.arch_of.ensures ∙ ap arch_of c.deref.ensures.value ∙ arch_kept (linked_file c.args.self.now) c.args.self.now.header.items c.args.self.now.header_is
