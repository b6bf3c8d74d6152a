-- The content of a section at each address (GNU SFrame specification, Version 2, function descriptor entries and frame row
-- entries). That of call frame information is in `sf_asm`.
use Rattle.std.specs.Prelude.{List, Option, Some, None}
use Rattle.std.specs.Option.{option_and_then}
use Rattle.sf_model.specs.declared.function.Func.{Func}
use Rattle.sf_model.specs.declared.function.Shape.{Shape}
use Rattle.sf_model.specs.declared.function.Shape.TheVariants.{Plain, Repeat}
use Rattle.sf_model.specs.Lookup.{FoundRow, found_at}
use Rattle.frame_functions.specs.declared.keyed_content.KeyedContent.{KeyedContent}
use Rattle.frame_functions.specs.ContentAt.{Answers, with_key}

-- the content of a plain function; functions of repeated blocks are not compared
abbrev pub unless_in_blocks : Shape → KeyedContent → Option KeyedContent
unless_in_blocks Plain said = Some said
unless_in_blocks (Repeat size) said = None

-- the content of a row that was found, with its function's key, if the function is plain
abbrev pub by_row : FoundRow → Option KeyedContent
by_row found = unless_in_blocks found.func.shape (with_key found.func.key found.row.content)

-- the content of the row that is looked up at an address, if its function is plain
unfoldable pub section_at : List Func → Answers
section_at functions pc = option_and_then by_row (found_at functions pc)
