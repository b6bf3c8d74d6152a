-- The parts of an executable or a shared object that a walk needs: its SFrame section, and its first loaded segment (ELF64 gABI,
-- "Sections" and "Program Header").
use Rattle.std.specs.Prelude.{ℕ, ◌==◌, Bool, true, false, List, Option}
use Rattle.std.specs.List.{find, range_with_len}
use Rattle.elf_read.specs.declared.kind.Kind.{Kind}
use Rattle.elf_read.specs.declared.kind.Kind.TheVariants.{Rel, Exec, Dyn, Core}
use Rattle.elf_read.specs.Header.{p_type}
use Rattle.elf_read.specs.Sections.{segment_total}
pub use Rattle.elf_mapped.specs.Sframe.{sframe_section}

-- the file is an executable or a shared object: ET_EXEC or ET_DYN
abbrev pub is_program : Kind → Bool
is_program Rel = false
is_program Exec = true
is_program Dyn = true
is_program Core = false

-- program header i is of a loaded segment: PT_LOAD 1
abbrev pub is_load_header : List ℕ → (i : ℕ) → Bool
is_load_header file i = p_type file i == 1

-- the number of the first loaded segment
unfoldable pub first_load : List ℕ → Option ℕ
first_load file = find (is_load_header file) (range_with_len 0 (segment_total file))
