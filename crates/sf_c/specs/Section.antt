-- Inside the crate. GNU SFrame specification, Version 2: the row that holds at an address by a section that C keeps.
use Rattle.std.specs.Prelude.{ℕ, Option}
use Rattle.sf_model.specs.Lookup.{FoundRow, found_at}
use Rattle.sf_decode.specs.declared.kept.LentSection.{LentSection}
use Rattle.sf_decode.specs.Kept.{functions_lent}

-- the row that holds at an address; a closed section has no functions, so that no row holds
abbrev pub section_row : LentSection → (address : ℕ) → Option FoundRow
section_row section address = found_at (functions_lent section) address
