use Rattle.std.proofs.Common.{◌≡◌, ◌==◌, ℕ, length, take, drop, sym, ap, ◌∙◌, ne_eqb, arith}
use Rattle.elf_read.specs.declared.entry.Section.{Section}
use Rattle.elf_read.specs.Linked.{linked_file}
use Rattle.elf_read.specs.Sections.{section_fields}
use Rattle.elf_mapped.proofs.Named.{names_are}
use Rattle.elf_mapped.proofs.names.names_of.Goals as goal

pub returns : goal.returns
returns c =
    let f = linked_file c.args.linked.now in
    let part = c.args.part.now in
    let n = c.from-2.result in
    let same : c.from-2.result ≡ c.e_shstrndx-table.result = c.from-2.ensures in
    let header = c.section-section.ensures in
    let place : part.place ≡ (section_fields f n).sh_offset = c.if-part-section.false ∙ ap (λ (s : Section). s.offset) header in
    let size = ap (λ (s : Section). s.size) header in
    let len : length part.bytes.items ≡ (section_fields f n).sh_size = omega (arith, c.len.ensures, c.if-len-section.false, size) in
    names_are f c.deref.result.now n (same ∙ c.e_shstrndx-table.ensures) (ap (λ (k : ℕ). k == 0) same ∙ ne_eqb _ _ c.if-table-eq0.false) (ap (λ (k : ℕ). k == 0xffff) same ∙ ne_eqb _ _ c.if-table.false)
    (sym (ap (λ (s : Section). s.kind) header) ∙ c.if-section-ne-SHT_STRTAB.false)
    (c.deref.ensures.value ∙ c.requires ∙ ap (λ (k : ℕ). take k (drop part.place f)) len ∙ ap (λ (p : ℕ). take (section_fields f n).sh_size (drop p f)) place)
