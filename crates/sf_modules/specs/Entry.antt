-- An entry of the note on mapped files (Linux core files, NT_FILE): a file, and the addresses at which the process had it.
use Rattle.std.specs.Prelude.{ℕ, ◌+◌, ◌-◌, ◌==◌, Bool, ◌&&◌, nat_le, nat_lt, bytes_eq, List}
use Rattle.sf_modules.specs.declared.entry.Entry.{Entry}

-- the addresses from start up to end are those of the file's bytes from offset on
pub record EntryView : Type 0 where
  pub start : ℕ
  pub end : ℕ
  pub offset : ℕ
  pub name : List ℕ

-- an entry as the code has it
abbrev pub mapping_view : Entry → EntryView
mapping_view e = record { start = e.start; end = e.end; offset = e.offset; name = e.name.now }

-- the address is one of the entry's
abbrev pub entry_contains : (pc : ℕ) → EntryView → Bool
entry_contains pc e = nat_le e.start pc && nat_lt pc e.end

-- the entry has this place of the file of this name at the address
abbrev pub maps : (name : List ℕ) → (address place : ℕ) → EntryView → Bool
maps name address place e = entry_contains address e && (e.offset + (address - e.start) == place) && bytes_eq e.name name
