-- Which COMDAT groups are dropped (ELF64 gABI, "Section Groups"): those whose signature one of an earlier place has. The places in a file
-- are after those in the files before it, and in a file they go by the number. Signatures are compared as bytes.
use Rattle.std.specs.Prelude.{◌≡◌, ◌⊎◌, ◌↔◌, ◌<◌, ◌%◌, ◌==◌, ◌&&◌, ℕ, List, Contains, Option, Some, None, if◌then◌else◌}
use Rattle.std.specs.List.Sorted.{IsStrictlyIncreasing}
use Rattle.elf_read.specs.Number.{field_at}
use Rattle.elf_read.specs.Sections.{section_bytes, section_count, section_fields}
use Rattle.elf_read.specs.Used.{is_group}
use Rattle.elf_read.specs.Views.{symbol_text}

-- the signature of a section that is a COMDAT group: GRP_COMDAT 0x1 is set in its first word
unfoldable pub signature_of : (file : List ℕ) → ℕ → Option (List ℕ)
signature_of file i =
    if is_group file i && (field_at 4 0 (section_bytes file i) % 2 == 1)
    then Some (symbol_text file (section_fields file i).sh_link (section_fields file i).sh_info)
    else None

-- one of the groups of a file, with a number below this, has the signature
abbrev pub HasBelow : (file : List ℕ) → (number : ℕ) → (signature : List ℕ) → Type 0
HasBelow file number signature = (n : ℕ) × (n < number) × (signature_of file n ≡ Some signature)

-- the group of this number is dropped, in a file that comes after these: one of their groups has its signature, or one before it in the
-- file
pub record IsDroppedGroup (earlier : List (List ℕ)) (file : List ℕ) (number : ℕ) : Type 0 where
  pub inside : number < section_count file
  pub signature : List ℕ
  pub has : signature_of file number ≡ Some signature
  pub before : ((other : List ℕ) × Contains earlier other × HasBelow other (section_count other) signature) ⊎ HasBelow file number signature

-- these are the dropped groups of the file, by rising number
pub record AreDroppedGroups (earlier : List (List ℕ)) (file : List ℕ) (numbers : List ℕ) : Type 0 where
  pub rising : IsStrictlyIncreasing numbers
  pub are : (number : ℕ) → Contains numbers number ↔ IsDroppedGroup earlier file number
