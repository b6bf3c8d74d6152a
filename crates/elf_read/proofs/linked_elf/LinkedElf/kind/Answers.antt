use Rattle.std.proofs.Common.{ap, ◌∙◌}
use Rattle.elf_read.specs.Header.{kind_of}
use Rattle.elf_read.specs.Linked.{linked_file}
use Rattle.elf_read.proofs.HeadersKept.{kind_kept}
use Rattle.elf_read.proofs.linked_elf.LinkedElf.kind.Goals as goal

pub returns : goal.returns
returns c = c.kind_of.ensures ∙ ap kind_of c.deref.ensures.value ∙ kind_kept (linked_file c.args.self.now) c.args.self.now.header.items c.args.self.now.header_is
