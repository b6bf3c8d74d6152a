use Rattle.std.proofs.Common.{rules}
use Rattle.elf_read.specs.Linked.{whole_of}
use Rattle.elf_read.proofs.HeadersKept.{name_is}
use Rattle.elf_read.proofs.linked.is_named.Goals as goal

pub returns : goal.returns
returns c =
    let is = name_is (whole_of c.args.headers.now) c.args.i c.requires.head in
    search (rules, is)
