-- Sections that were checked.
use Rattle.sf_model.specs.Section.{Section}
use Rattle.sf_decode.specs.declared.view.View.{View}
use Rattle.sf_decode.specs.View.{section_address, section_bytes, table_of}

-- the bytes of the view are a section of the table that the view shows
abbrev pub IsViewOfSection : View → Type 0
IsViewOfSection view = Section (section_bytes view) (section_address view) (table_of view)
