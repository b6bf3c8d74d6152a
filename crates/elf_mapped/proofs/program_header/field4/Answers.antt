use Rattle.std.proofs.Common.{rules}
use Rattle.elf_mapped.specs.Parts.{table_file}
use Rattle.elf_mapped.proofs.Kept.{table_kept}
use Rattle.elf_mapped.proofs.program_header.field4.Goals as goal

pub returns : goal.returns
returns c =
    let table = c.args.table.now in
    let kept = table_kept 4 c.args.place c.args.i table.count (table_file table) table.bytes.now table.bytes_are c.requires.index c.requires.place in
    search (rules, kept)
