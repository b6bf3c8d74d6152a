use Rattle.std.proofs.Common.{ℕ, ◌≡◌, ◌<◌, ◌-◌, length, ap, ◌∙◌, drop, arith, rules}
use Rattle.elf_read.specs.Number.{text_in}
use Rattle.elf_read.specs.Sections.{section_bytes, section_fields}
use Rattle.elf_read.proofs.Texts.{text_from, text_place}
use Rattle.elf_read.proofs.reading.text_in_table.Goals as goal

pub returns-clause-text : goal.returns-clause-text
returns-clause-text c =
    ap (text_in 0) (c.bytes_from.ensures.rest ∙ ap (λ (n : ℕ). drop n c.section_bytes.result.now) c.from-place.ensures ∙ ap (drop c.args.place) c.section_bytes.ensures.bytes)
    ∙ text_from c.args.place (section_bytes c.args.file.now c.args.table)

pub returns-clause-place : goal.returns-clause-place
returns-clause-place c =
    text_place c.args.file.now c.args.table c.args.place _ _
    (c.bytes_from.ensures.rest ∙ ap (λ (n : ℕ). drop n c.section_bytes.result.now) c.from-place.ensures ∙ ap (drop c.args.place) c.section_bytes.ensures.bytes)
    (λ some.
    let len : length c.bytes_from.result.now ≡ length c.section_bytes.result.now - c.from-place.result = c.bytes_from.ensures.len in
    let some_bytes : 0 < length c.section_bytes.result.now = omega (arith, some, len) in
    let within : (section_fields c.args.file.now c.args.table).sh_offset < length c.args.file.now = c.section_bytes.ensures.within some_bytes in
    let offset : c.offset.result ≡ (section_fields c.args.file.now c.args.table).sh_offset = search rules in
    let name : c.from-place.result ≡ c.args.place = c.from-place.ensures in
    let sum = c.saturating_add.ensures in
    omega (arith, within, offset, name, sum, c.requires, c.ranges.place))
