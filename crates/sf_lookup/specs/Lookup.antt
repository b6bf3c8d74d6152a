-- GNU SFrame specification, Version 2: what a look-up returns.
use Rattle.sf_model.specs.Lookup.{FoundRow}
use Rattle.sf_decode.specs.View.{head_of}
use Rattle.sf_lookup.specs.declared.lookup.Found.{Found}

-- a function without its rows, and its row
abbrev pub shown : FoundRow → Found
shown found = record { func = head_of found.func; row = found.row }
