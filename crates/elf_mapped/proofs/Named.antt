-- Sections have their names in the name table.
use Rattle.std.proofs.Common.{◌≡◌, ℕ, ◌==◌, [], Bool, false, true, cond, List, sym, ap, ◌∙◌}
use Rattle.elf_read.specs.Header.{header_fields}
use Rattle.elf_read.specs.Number.{text_in, window}
use Rattle.elf_read.specs.Sections.{has_bytes, name_table, section_bytes, section_fields, section_name}
use Rattle.elf_mapped.specs.Parts.{IsNameTable}

-- a string table has bytes in the file
strings_have_bytes : (file : List ℕ) (i : ℕ) → (section_fields file i).sh_type ≡ 3 → has_bytes file i ≡ true
unfolding has_bytes
strings_have_bytes file i kind = ap (λ (n : ℕ). cond (n == 0) false (cond (n == 8) false true)) kind

table_is : (file : List ℕ) (table : ℕ) → table ≡ (header_fields file).e_shstrndx → (table == 0xffff) ≡ false → name_table file ≡ table
unfolding name_table
table_is file table is plain =
    ap (λ (n : ℕ). cond (n == 0xffff) (section_fields file 0).sh_link n) (sym is)
    ∙ ap (λ (b : Bool). cond b (section_fields file 0).sh_link table) plain

bytes_are : (file : List ℕ) (i : ℕ) → has_bytes file i ≡ true → window (section_fields file i).sh_offset (section_fields file i).sh_size file ≡ section_bytes file i
unfolding section_bytes
bytes_are file i there = sym (ap (λ (b : Bool). cond b (window (section_fields file i).sh_offset (section_fields file i).sh_size file) []) there)

name_is : (file : List ℕ) (i : ℕ) → (name_table file == 0) ≡ false → section_name file i ≡ text_in (section_fields file i).sh_name (section_bytes file (name_table file))
unfolding section_name
name_is file i some = ap (λ (b : Bool). cond b [] (text_in (section_fields file i).sh_name (section_bytes file (name_table file)))) some

pub names_are : (file names : List ℕ) (table : ℕ) → table ≡ (header_fields file).e_shstrndx → (table == 0) ≡ false → (table == 0xffff) ≡ false
    → (section_fields file table).sh_type ≡ 3 → names ≡ window (section_fields file table).sh_offset (section_fields file table).sh_size file → IsNameTable file names
names_are file names table is some plain kind are i =
    let at : name_table file ≡ table = table_is file table is plain in
    let bytes : section_bytes file (name_table file) ≡ names = ap (section_bytes file) at ∙ sym (bytes_are file table (strings_have_bytes file table kind)) ∙ sym are in
    name_is file i (ap (λ (n : ℕ). n == 0) at ∙ some) ∙ ap (text_in (section_fields file i).sh_name) bytes
