-- The room in the file for the sections that are read whole: call frame information, its relocations, and groups (ELF64 gABI,
-- "Sections": "Sections in a file may not overlap. No byte in a file resides in more than one section.").
use Rattle.std.specs.Prelude.{◌≡◌, ℕ, zero, suc, true, ◌+◌, ◌/◌, ◌≤◌, Bool, ◌||◌, List, length, nat_le, if◌then◌else◌}
use Rattle.elf_read.specs.declared.fault.ElfFault.TheVariants.{OutOfFile}
use Rattle.elf_read.specs.Sections.{section_header, section_bytes, section_count, is_eh_frame, entry_count}
use Rattle.elf_read.specs.Checking.{unless}
use Rattle.elf_read.specs.Checks.{ElfCheck}
use Rattle.elf_read.specs.Used.{is_used_rela, is_group}

-- A section that is read whole: call frame information, an object's relocations of such a section, and each group of an object,
-- whose members say which sections it counts for.
unfoldable pub is_read : List ℕ → ℕ → Bool
is_read file i = is_eh_frame file i || (is_used_rela file i || is_group file i)

-- ---- for the law `room_law`
-- how many of a section's bytes are read: all or none
unfoldable pub read_size : List ℕ → ℕ → ℕ
read_size file i = if is_read file i then length (section_bytes file i) else 0

-- how many bytes of the first n sections are read
unfoldable pub read_size_below : List ℕ → ℕ → ℕ
read_size_below file zero = 0
read_size_below file (suc n) = read_size_below file n + read_size file n

-- what the sections that are read whole hold together, up to any of them, and what each of them holds
pub record HasRoom (file : List ℕ) : Type 0 where
  pub together : (n : ℕ) → n ≤ section_count file → read_size_below file n ≤ length file
  pub entries : (i : ℕ) → is_used_rela file i ≡ true → entry_count file i ≡ read_size file i / 24

-- ---- Inside the crate: the check in the order of the code
-- no byte is in two sections, so there is room in the file for those up to this one
unfoldable pub room_check : List ℕ → ℕ → ElfCheck
room_check file i = unless (nat_le (read_size_below file (suc i)) (length file)) (OutOfFile (section_header file i))
