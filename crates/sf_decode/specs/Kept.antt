-- GNU SFrame specification, Version 2: the table of a section that is kept. The section was checked when it was taken,
-- and its bytes do not change.
use Rattle.std.specs.Prelude.{ℕ, List, [], Option, Some, None, if◌then◌else◌}
use Rattle.sf_model.specs.declared.function.Func.{Func}
use Rattle.sf_model.specs.Table.{Table}
use Rattle.sf_decode.specs.declared.kept.LentSection.{LentSection}
use Rattle.sf_decode.specs.declared.kept.OwnedSection.{OwnedSection}
use Rattle.sf_decode.specs.declared.view.View.{View}
use Rattle.sf_decode.specs.Decoding.{table_in}
use Rattle.sf_decode.specs.View.{table_of}

-- the table of a section that owns its bytes
abbrev pub table_owned : OwnedSection → Table
table_owned section = table_in section.bytes.items section.at

-- the bytes that such a section owns
abbrev pub bytes_owned : OwnedSection → List ℕ
bytes_owned section = section.bytes.items

-- the address of such a section
abbrev pub address_owned : OwnedSection → ℕ
address_owned section = section.at

-- the bytes of a section that the caller keeps
abbrev pub bytes_lent : LentSection → List ℕ
bytes_lent section = section.bytes.now

-- the address of a section whose bytes the caller keeps
abbrev pub address_lent : LentSection → ℕ
address_lent section = section.at

-- the table of a section whose bytes the caller keeps, or none while it is closed
abbrev pub table_lent : LentSection → Option Table
table_lent section = if section.is_open then Some (table_in section.bytes.now section.at) else None

-- the functions of a table, if there is one
abbrev pub functions_if : Option Table → List Func
functions_if (Some table) = table.functions
functions_if None = []

-- the functions of a section whose bytes the caller keeps: a closed one has none
abbrev pub functions_lent : LentSection → List Func
functions_lent section = functions_if (table_lent section)

-- the functions that a view shows, if there is one
abbrev pub functions_shown : Option View → List Func
functions_shown (Some view) = (table_of view).functions
functions_shown None = []
