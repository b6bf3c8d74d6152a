use Rattle.std.specs.Prelude.{bytes_eq}
use Rattle.std.proofs.Common.{◌≡◌, ℕ, List, sym, ap, ◌∙◌}
use Rattle.elf_read.specs.Linked.{linked_file}
use Rattle.elf_read.specs.Number.{text_in}
use Rattle.elf_read.specs.Sections.{section_fields}
use Rattle.elf_read.proofs.Texts.{text_told}
use Rattle.elf_mapped.proofs.names.is_named.Goals as goal

pub returns : goal.returns
returns c =
    let names = c.args.names.now in
    let name = c.args.name.now in
    let place : c.from-place.result ≡ (section_fields (linked_file c.args.linked.now) c.args.i).sh_name = c.from-place.ensures ∙ c.sh_name.ensures in
    c.eq.ensures
    ∙ ap (λ (ys : List ℕ). bytes_eq ys name) (c.bytes.ensures ∙ ap (text_in 0) c.front_from.ensures)
    ∙ text_told c.from-place.result names name
    ∙ ap (λ (ys : List ℕ). bytes_eq ys name) (ap (λ (n : ℕ). text_in n names) place ∙ sym (c.requires.names c.args.i))
