-- GNU SFrame specification, Version 2, function descriptor entries: the functions of one section, and two of them that share an
-- address.
use Rattle.std.specs.Prelude.{ℕ, List, Option}
use Rattle.std.specs.List.{filter}
use Rattle.std.specs.Option.{option_map}
use Rattle.sf_model.specs.Table.{Table}
use Rattle.sf_decode.specs.Entry.{entry_place}
use Rattle.sf_functions.specs.Neighbours.{first_overlap}
use Rattle.sf_merge.specs.declared.located.Located.{Located}
use Rattle.sf_merge.specs.Located.{is_sized, located, located_size, located_start}

-- the functions of a table that hold an address, each with the number of its entry
abbrev pub sized_in : Table → List Located
sized_in table = filter is_sized (located 0 table)

-- the place of the second function's entry in a section of these bytes
abbrev pub later_entry : (bytes : List ℕ) → Located × Located → ℕ
later_entry bytes pair = entry_place bytes pair.1.number

-- the place of the later entry of the first two neighbours that share an address, of functions in order
unfoldable pub shared_entry : (bytes : List ℕ) → List Located → Option ℕ
shared_entry bytes ordered = option_map (later_entry bytes) (first_overlap located_start located_size ordered)
