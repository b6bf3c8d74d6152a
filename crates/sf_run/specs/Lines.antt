-- The lines on the error sink.
use Rattle.std.specs.Prelude.{◌⊎◌, ℕ, List, [], ◌∷◌, ◌++◌, codes}
use Rattle.sf_base.specs.Faults.{Rose}
use Rattle.sf_base.specs.Seen.{SinkSeen}
use Rattle.sf_base.specs.Written.{Appends, AppendsPrefix}
use Rattle.sf_text.specs.Merged.{file_limit_text}
use Rattle.sf_text.specs.ShownName.{shown_name}
use Rattle.sf_words.specs.declared.refusal.Limit.{Limit}
use Rattle.sf_words.specs.declared.refusal.Limit.TheVariants.{Inputs, File, Total, Functions, Rows, Threads}

-- a text and a line feed
abbrev pub line : List ℕ → List ℕ
line text = text ++ 10 ∷ []

-- the words have none of the forms
abbrev pub usage_line : List ℕ
usage_line = line (codes "usage")

-- the item of this name could not be read
abbrev pub read_line : List ℕ → List ℕ
read_line name = line (codes "read " ++ shown_name name)

-- the file of this name could not be written
abbrev pub write_file_line : List ℕ → List ℕ
write_file_line name = line (codes "write file " ++ shown_name name)

-- the text could not be written
abbrev pub write_output_line : List ℕ
write_output_line = line (codes "write output")

-- memory ran out
abbrev pub memory_line : List ℕ
memory_line = line (codes "memory")

-- what is exceeded: the number of items, the bytes of this one, the bytes of all, the functions, the rows, or the threads of a core
abbrev pub limit_line : Limit → List ℕ
limit_line Inputs = line (codes "limit inputs")
limit_line (File item) = file_limit_text item
limit_line Total = line (codes "limit total")
limit_line Functions = line (codes "limit functions")
limit_line Rows = line (codes "limit rows")
limit_line Threads = line (codes "limit threads")

-- the sink got the line, or a prefix of it where its count of faults rose
abbrev pub Says : (before after : SinkSeen) → (line : List ℕ) → Type 0
Says before after text = Appends before.written after.written text ⊎ (AppendsPrefix before.written after.written text × Rose before.faults after.faults)
