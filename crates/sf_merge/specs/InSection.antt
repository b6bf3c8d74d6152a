-- GNU SFrame specification, Version 2, function descriptor entries: the functions of one section. Their rows stay in
-- the section.
use Rattle.std.specs.Prelude.{◌≡◌, ◌<◌, ℕ, All, List, map, length}
use Rattle.sf_decode.specs.declared.view.View.{View}
use Rattle.sf_decode.specs.View.{function_of, table_of}
use Rattle.sf_merge.specs.declared.in_section.SectionEntry.{SectionEntry}
use Rattle.sf_merge.specs.declared.located.Located.{Located}

-- the function of an entry of the section
abbrev pub located_at : View → SectionEntry → Located
located_at view e = record { func = function_of view e.number; item = 0; number = e.number }

-- the functions of entries of the section
abbrev pub all_at : View → List SectionEntry → List Located
all_at view entries = map (located_at view) entries

-- the section has this entry, with this start and size
pub record IsEntry (view : View) (e : SectionEntry) : Type 0 where
  pub within : e.number < length (table_of view).functions
  pub start : e.start ≡ (function_of view e.number).start
  pub size : e.size ≡ (function_of view e.number).size

-- these are the entries of these functions
pub record AreSectionEntries (entries : List SectionEntry) (functions : List Located) : Type 0 where
  pub view : View
  pub are : functions ≡ all_at view entries
  pub each : All (IsEntry view) entries

-- the first address of the entry's function
abbrev pub entry_start : SectionEntry → ℕ
entry_start e = e.start

-- the size of the entry's function in bytes
abbrev pub entry_size : SectionEntry → ℕ
entry_size e = e.size
