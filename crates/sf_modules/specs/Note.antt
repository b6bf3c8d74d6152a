-- The note on mapped files (Linux core files, NT_FILE): two numbers of eight bytes, how many entries there are and the page size;
-- for each entry three numbers of eight bytes, its start, its end and its offset in the file in pages; and then for each entry its
-- name, which a zero byte ends.
use Rattle.std.specs.Prelude.{◌≡◌, ℕ, ◌+◌, ◌-◌, ◌*◌, ◌^◌, ◌==◌, Bool, false, ◌&&◌, nat_le, nat_lt, bytes_eq, List, [], ◌∷◌, ◌++◌, length, map, take, drop, Option, Some, None, Err, if◌then◌else◌}
use Rattle.std.specs.Int.{is_power_of_two}
use Rattle.std.specs.List.{enumerate_from, filter, flat_map, list_any}
use Rattle.sf_bytes.specs.Cursor.{Cursor}
use Rattle.elf_read.specs.Checking.{unless, ◌>>◌, each_below}
use Rattle.elf_read.specs.Number.{field_at, lies_in}
use Rattle.sf_modules.specs.declared.fault.ModuleFault.TheVariants.{NoFileNote, FileNote}
use Rattle.sf_modules.specs.Entry.{EntryView}
use Rattle.sf_modules.specs.Fault.{Check}

-- ---- the fields
-- the number of entries
abbrev pub file_entry_count : List ℕ → ℕ
file_entry_count note = field_at 8 0 note

-- the page size
abbrev pub page_size : List ℕ → ℕ
page_size note = field_at 8 8 note

-- where entry k starts
abbrev pub entry_start : List ℕ → (k : ℕ) → ℕ
entry_start note k = field_at 8 (24 * k + 16) note

-- where entry k ends
abbrev pub entry_end : List ℕ → (k : ℕ) → ℕ
entry_end note k = field_at 8 (24 * k + 24) note

-- the offset of entry k in its file, in pages
abbrev pub entry_pages : List ℕ → (k : ℕ) → ℕ
entry_pages note k = field_at 8 (24 * k + 32) note

-- the bytes after the numbers
abbrev pub names_part : List ℕ → List ℕ
names_part note = drop (24 * file_entry_count note + 16) note

-- the byte is zero
abbrev pub is_zero_byte : ℕ → Bool
is_zero_byte byte = byte == 0

-- a name and the zero byte that ends it
abbrev pub zero_ended : List ℕ → List ℕ
zero_ended name = name ++ 0 ∷ []

-- n names are at the front of bytes, each ended by a zero byte; no name has a zero byte itself
pub record AreNames (n : ℕ) (bytes : List ℕ) (names : List (List ℕ)) : Type 0 where
  pub count : length names ≡ n
  pub no_zero : list_any (list_any is_zero_byte) names ≡ false
  pub rest : List ℕ
  pub are : bytes ≡ flat_map zero_ended names ++ rest

-- the bytes end n names or more: they have as many zero bytes
abbrev pub has_file_names : (n : ℕ) → List ℕ → Bool
has_file_names n bytes = nat_le n (length (filter is_zero_byte bytes))

-- ---- the entries
-- the text " (deleted)", which Linux adds to the name of a file that was deleted
abbrev pub deleted_text : List ℕ
deleted_text = 32 ∷ 40 ∷ 100 ∷ 101 ∷ 108 ∷ 101 ∷ 116 ∷ 101 ∷ 100 ∷ 41 ∷ []

-- a name without this text, which is removed once
unfoldable pub pathname_in : List ℕ → List ℕ
pathname_in text = if bytes_eq (drop (length text - 10) text) deleted_text then take (length text - 10) text else text

-- entry k, with this name
abbrev pub numbered_entry : List ℕ → (k : ℕ) → (text : List ℕ) → EntryView
numbered_entry note k text = record { start = entry_start note k; end = entry_end note k; offset = entry_pages note k * page_size note; name = pathname_in text }

-- the entries of these names, which are numbered from this number on
abbrev pub numbered_entries : List ℕ → (number : ℕ) → (texts : List (List ℕ)) → List EntryView
numbered_entries note number texts = map (λ (e : ℕ × List ℕ). numbered_entry note e.0 e.1) (enumerate_from number texts)

-- these are the page size and the entries of this note
pub record AreEntries (note : List ℕ) (page : ℕ) (entries : List EntryView) : Type 0 where
  pub size : page ≡ page_size note
  pub names : List (List ℕ)
  pub names_are : AreNames (file_entry_count note) (names_part note) names
  pub are : entries ≡ numbered_entries note 0 names

-- there is a note on mapped files, with this page size and these entries
abbrev pub HasEntries : Option Cursor → (page : ℕ) → (entries : List EntryView) → Type 0
HasEntries (Some note) page entries = AreEntries note.left page entries
HasEntries None page entries = ⊥

-- ---- the checks, in their order
-- entry k ends where it starts or after, and its offset in the file is a number of eight bytes
abbrev pub is_sound_entry : List ℕ → (k : ℕ) → Bool
is_sound_entry note k = nat_le (entry_start note k) (entry_end note k) && nat_lt (entry_pages note k * page_size note) (2 ^ 64)

-- an entry that doesn't fit is a fault
unfoldable pub file_entry_check : Cursor → (k : ℕ) → Check
file_entry_check note k = unless (is_sound_entry note.left k) (FileNote (note.place + (24 * k + 16)))

-- the note has the numbers and the names of its entries, and its page size is a power of two
unfoldable pub file_header_check : Cursor → Check
file_header_check note =
    unless (nat_le 16 (length note.left)) (FileNote note.place)
    >> unless (lies_in (length note.left) 16 (file_entry_count note.left) 24) (FileNote note.place)
    >> unless (has_file_names (file_entry_count note.left) (names_part note.left)) (FileNote note.place)
    >> unless (is_power_of_two (page_size note.left)) (FileNote (note.place + 8))

-- the checks of a note: those of its header, and then of each entry
unfoldable pub file_note_check : Cursor → Check
file_note_check note = file_header_check note >> each_below (file_entry_count note.left) (file_entry_check note)

-- the checks of the first note on mapped files; a core file without one has a fault
abbrev pub file_entries_check : Option Cursor → Check
file_entries_check (Some note) = file_note_check note
file_entries_check None = Err NoFileNote
