use Rattle.std.proofs.Common.{◌≡◌, ◌*◌, ℕ, drop, ap, ◌∙◌, rules}
use Rattle.std.proofs.lemmas.List.{drop-drop}
use Rattle.elf_read.specs.Header.{header_fields, p_type, p_offset, p_vaddr, p_filesz}
use Rattle.elf_read.specs.Number.{field_at, front_number}
use Rattle.elf_read.specs.SegmentFields.{p_flags, p_memsz}
use Rattle.elf_read.proofs.program_header.ProgramHeader.of.Goals as goal

pub returns : goal.returns
unfolding p_type p_flags p_offset p_vaddr p_filesz p_memsz
returns c =
    let i = c.args.i in
    let table = drop (header_fields c.args.file.now).e_phoff c.args.file.now in
    let bytes : c.bytes_from.result.now ≡ drop (56 * i) table = search rules in
    let same = λ (width place : ℕ). ap (field_at width place) bytes ∙ ap (front_number width) (drop-drop place (56 * i) table) in
    λ j. record { kind = same 4 0 j; flags = same 4 4 j; offset = same 8 8 j; vaddr = same 8 16 j; file_size = same 8 32 j; memory_size = same 8 40 j }
