use Rattle.std.proofs.Common.{rules}
use Rattle.elf_read.proofs.HeadersKept.{header_in}
use Rattle.elf_read.proofs.section_header.SectionHeader.of.Goals as goal

pub returns : goal.returns
returns c = header_in c.args.i c.args.file.now c.bytes_from.result.now c.at.result.bytes.now (search rules) c.at.ensures
