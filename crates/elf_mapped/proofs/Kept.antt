-- Numbers in a part of a file are those of the whole file.
use Rattle.std.proofs.Common.{◌≡◌, ℕ, ◌+◌, ◌*◌, ◌<◌, ◌≤◌, List, drop, ap, ◌∙◌, arith}
use Rattle.elf_read.specs.Number.{field_at, window}
use Rattle.elf_read.specs.Header.{header_fields, p_field}
use Rattle.elf_read.proofs.HeadersKept.{number_kept}

-- a field of the file header, in that alone
pub head_kept : (w place : ℕ) (file header : List ℕ) → header ≡ window 0 64 file → place + w ≤ 64 → field_at w place header ≡ field_at w place file
head_kept w place file header is within = ap (field_at w place) is ∙ number_kept w place 64 file within

-- a field of a program header, in the program headers alone
pub table_kept : (w place i count : ℕ) (file table : List ℕ) → table ≡ window (header_fields file).e_phoff (56 * count) file → i < count → place + w ≤ 56
    → field_at w (56 * i + place) table ≡ p_field w place file i
table_kept w place i count file table is below within =
    ap (field_at w (56 * i + place)) is ∙ number_kept w (56 * i + place) (56 * count) (drop (header_fields file).e_phoff file) (omega (arith, below, within))

-- a field of a section header, in the section headers alone
pub section_kept : (w place i count : ℕ) (file sections : List ℕ) → sections ≡ window (header_fields file).e_shoff (64 * count) file → i < count → place + w ≤ 64
    → field_at w (64 * i + place) sections ≡ field_at w (64 * i + place) (drop (header_fields file).e_shoff file)
section_kept w place i count file sections is below within =
    ap (field_at w (64 * i + place)) is ∙ number_kept w (64 * i + place) (64 * count) (drop (header_fields file).e_shoff file) (omega (arith, below, within))
