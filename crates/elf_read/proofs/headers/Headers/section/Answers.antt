use Rattle.elf_read.specs.Linked.{whole_of}
use Rattle.elf_read.proofs.HeadersKept.{header_kept}
use Rattle.elf_read.proofs.headers.Headers.section.Goals as goal

pub returns : goal.returns
returns c =
    let headers = c.args.self.now in
    header_kept c.args.i headers.count (whole_of headers) headers.sections.now c.at.result.bytes.now headers.sections_are c.at.ensures c.requires
