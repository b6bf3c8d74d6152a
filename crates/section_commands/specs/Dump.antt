-- `dump FILE@AT`: all that a section holds.
use Rattle.std.specs.Prelude.{◌≡◌, ℕ, List, [], ◌∷◌, codes, None}
use Rattle.sf_model.specs.Table.{Table}
use Rattle.sf_text.specs.Dump.{dump_text}
use Rattle.sf_words.specs.Files.{FilesWords}
use Rattle.sf_words.specs.Items.{Section}
use Rattle.sf_words.specs.Words.{IsSectionWord, SectionWords, words_of_section}
use Rattle.section_commands.specs.declared.dump.Dump.{Dump}
use Rattle.section_commands.specs.declared.made.Outcome.{Outcome}
use Rattle.section_commands.specs.declared.made.Outcome.TheVariants.{Done}
use Rattle.section_commands.specs.Coming.{Coming}
use Rattle.section_commands.specs.SectionComes.{ShowingComes}

-- the words ask for all that this section holds
pub record IsDump (words : List (List ℕ)) (section : SectionWords) : Type 0 where
  pub section_word : List ℕ
  pub words_are : words ≡ codes "dump" ∷ section_word ∷ []
  pub named : IsSectionWord section_word section

-- its files: one section
abbrev pub dump_files : SectionWords → FilesWords
dump_files section = record { out = None; first = Section section ∷ []; list = [] }

-- the text of a table
abbrev pub table_shown : Table → Outcome × List ℕ
table_shown table = (Done, dump_text table)

-- what it comes to
abbrev pub DumpComes : SectionWords → (items : List (List ℕ)) → Coming → Type 0
DumpComes section items coming = ShowingComes section.at table_shown items coming

-- what the words ask for, without where they are in memory
abbrev pub dump_of : Dump → SectionWords
dump_of dump = words_of_section dump.section
