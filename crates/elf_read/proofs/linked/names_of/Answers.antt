use Rattle.std.proofs.Common.{◌≡◌, rules, true, sym, ap, ◌∙◌}
use Rattle.std.proofs.lemmas.Option.{IfSome_then}
use Rattle.elf_read.specs.Checks.{is_string_table}
use Rattle.elf_read.specs.Linked.{whole_of}
use Rattle.elf_read.specs.Sections.{name_table, section_bytes}
use Rattle.elf_read.proofs.HeadersKept.{string_table, table_kept}
use Rattle.elf_read.proofs.linked.names_of.Goals as goal

pub returns-clause-bytes : goal.returns-clause-bytes
returns-clause-bytes c =
    let headers = c.args.headers.now in
    let same : c.from-table.result ≡ name_table (whole_of headers) = c.from-table.ensures ∙ c.e_shstrndx.ensures ∙ table_kept (whole_of headers) headers.header.now headers.header_is c.requires.head in
    IfSome_then c.section_bytes.result c.section_bytes.ensures.bytes (λ names is. is ∙ ap (section_bytes (whole_of headers)) same)

pub returns-clause-kind : goal.returns-clause-kind
returns-clause-kind c =
    let headers = c.args.headers.now in
    let same : c.from-table.result ≡ name_table (whole_of headers) = c.from-table.ensures ∙ c.e_shstrndx.ensures ∙ table_kept (whole_of headers) headers.header.now headers.header_is c.requires.head in
    let kind : is_string_table (whole_of headers) c.from-table.result ≡ true = string_table (whole_of headers) c.from-table.result (search rules) (search rules) in
    IfSome_then c.section_bytes.result c.section_bytes.ensures.bytes (λ names is. ap (is_string_table (whole_of headers)) (sym same) ∙ kind)
