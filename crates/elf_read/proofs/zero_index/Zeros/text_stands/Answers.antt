use Rattle.std.proofs.Common.{◌≡◌, ◌+◌, ◌-◌, ℕ, List, length, sym, ap, ◌∙◌, arith, eq-eqb, rules}
use Rattle.elf_read.specs.Number.{has_text}
use Rattle.elf_read.specs.Sections.{section_bytes, section_fields}
use Rattle.elf_read.proofs.FirstZero.{zero_within}
use Rattle.elf_read.proofs.Texts.{none_stands, stands}
use Rattle.elf_read.proofs.zero_index.Zeros.text_stands.Goals as goal

pub returns-then-place-bytes : goal.returns-then-place-bytes
returns-then-place-bytes c =
    let bytes = c.section_bytes-bytes.result.now in
    sym (none_stands c.args.place bytes (λ k low within. absurd (omega (arith, low, within, c.if-place-bytes.true)))) ∙ ap (has_text c.args.place) c.section_bytes-bytes.ensures.bytes

pub returns-then-bytes-eq0 : goal.returns-then-bytes-eq0
returns-then-bytes-eq0 c =
    let bytes = c.section_bytes-bytes.result.now in
    sym (stands c.args.place (length bytes - 1) bytes (omega (arith, c.if-place-bytes.false)) (omega (arith, c.if-place-bytes.false)) (eq-eqb _ _ c.if-bytes-eq0.true))
    ∙ ap (has_text c.args.place) c.section_bytes-bytes.ensures.bytes

pub returns : goal.returns
returns c =
    let file = c.args.file.now in
    let len : length c.section_bytes-bytes.result.now ≡ length (section_bytes file c.args.table) = ap (λ (xs : List ℕ). length xs) c.section_bytes-bytes.ensures.bytes in
    let start = c.offset-start.result in
    let offset : start ≡ (section_fields file c.args.table).sh_offset = search rules in
    zero_within file c.args.table c.args.place (start + c.args.place) (start + length c.section_bytes-bytes.result.now) c.first_from.result
    (omega (arith, len, c.if-place-bytes.false)) (omega (arith, offset)) (omega (arith, offset, len)) c.first_from.ensures
