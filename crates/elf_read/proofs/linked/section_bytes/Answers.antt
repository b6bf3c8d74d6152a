use Rattle.std.proofs.Common.{◌≡◌, rules, ◌∙◌}
use Rattle.std.proofs.lemmas.Option.{IfSome_then}
use Rattle.elf_read.specs.Linked.{whole_of}
use Rattle.elf_read.specs.Number.{window}
use Rattle.elf_read.specs.Sections.{has_bytes, section_bytes as bytes_of}
use Rattle.elf_read.proofs.linked.section_bytes.Goals as goal

pub returns-clause-bytes : goal.returns-clause-bytes
unfolding has_bytes bytes_of
returns-clause-bytes c =
    let whole = whole_of c.args.headers.now in
    let all : window c.offset.result c.size.result whole ≡ bytes_of whole c.args.i = search rules in
    IfSome_then c.bytes_if_at.result (c.bytes_if_at.ensures.window whole c.requires.part) (λ bytes is. is ∙ all)
