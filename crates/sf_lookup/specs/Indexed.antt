-- What a section that was put in order shows.
use Rattle.sf_model.specs.Table.{Table}
use Rattle.sf_decode.specs.declared.view.View.{View}
use Rattle.sf_decode.specs.View.{table_of}
use Rattle.sf_lookup.specs.declared.indexed.Indexed.{Indexed}

-- the section
abbrev pub view_in : Indexed → View
view_in indexed = indexed.view

-- the section's table
abbrev pub indexed_table : Indexed → Table
indexed_table indexed = table_of indexed.view
