-- What a run prints.
use Rattle.std.specs.Prelude.{ℕ, List, []}
use Rattle.sf_decode.specs.View.{table_of}
use Rattle.sf_text.specs.declared.output.Output.{Output}
use Rattle.sf_text.specs.declared.output.Output.TheVariants.{Text, Section, Noted}
use Rattle.sf_text.specs.Dump.{dump_text}

-- a text, or the whole content of a section
abbrev pub output_text : Output → List ℕ
output_text (Text text) = text.items
output_text (Section view) = dump_text (table_of view)
output_text (Noted text notes) = text.items

-- what is noted besides, on the errors
abbrev pub output_notes : Output → List ℕ
output_notes (Text text) = []
output_notes (Section view) = []
output_notes (Noted text notes) = notes.items
