-- `lookup FILE@AT PC`: the row of a section that holds at an address.
use Rattle.std.specs.Prelude.{◌≡◌, ℕ, List, [], ◌∷◌, codes, Option, Some, None}
use Rattle.std.specs.Option.{option_map}
use Rattle.sf_base.specs.Word.{SpellsHexadecimal}
use Rattle.sf_model.specs.declared.function.FuncHead.{FuncHead}
use Rattle.sf_model.specs.declared.rows.Row.{Row}
use Rattle.sf_model.specs.Lookup.{FoundRow, found_at}
use Rattle.sf_model.specs.Table.{Table}
use Rattle.sf_decode.specs.View.{head_of}
use Rattle.sf_text.specs.Found.{found_text}
use Rattle.sf_words.specs.Files.{FilesWords}
use Rattle.sf_words.specs.Items.{Section}
use Rattle.sf_words.specs.Words.{IsSectionWord, SectionWords, words_of_section}
use Rattle.section_commands.specs.declared.lookup.Lookup.{Lookup}
use Rattle.section_commands.specs.declared.made.Outcome.{Outcome}
use Rattle.section_commands.specs.declared.made.Outcome.TheVariants.{Done, Negative}
use Rattle.section_commands.specs.Coming.{Coming}
use Rattle.section_commands.specs.SectionComes.{ShowingComes}

-- what is asked of `lookup`: the section's file and address, and the address that is looked up
pub record LookupWords : Type 0 where
  pub section : SectionWords
  pub pc : ℕ

-- the words ask for the row of this section at this address
pub record IsLookup (words : List (List ℕ)) (lookup : LookupWords) : Type 0 where
  pub section_word : List ℕ
  pub address_word : List ℕ
  pub words_are : words ≡ codes "lookup" ∷ section_word ∷ address_word ∷ []
  pub named : IsSectionWord section_word lookup.section
  pub address : SpellsHexadecimal address_word lookup.pc

-- its files: one section
abbrev pub lookup_files : LookupWords → FilesWords
lookup_files lookup = record { out = None; first = Section lookup.section ∷ []; list = [] }

-- a function without its rows, and the row of it that was found
abbrev pub pair_of : FoundRow → FuncHead × Row
pair_of found = (head_of found.func, found.row)

-- a row was found, or none
abbrev pub found_outcome : Option FoundRow → Outcome
found_outcome None = Negative
found_outcome (Some found) = Done

-- the outcome and the text of the row that holds at an address
abbrev pub row_outcome : (pc : ℕ) → Table → Outcome × List ℕ
row_outcome pc table = (found_outcome (found_at table.functions pc), found_text pc (option_map pair_of (found_at table.functions pc)))

-- what it comes to
abbrev pub LookupComes : LookupWords → (items : List (List ℕ)) → Coming → Type 0
LookupComes lookup items coming = ShowingComes lookup.section.at (row_outcome lookup.pc) items coming

-- what the words ask for, without where they are in memory
abbrev pub lookup_of : Lookup → LookupWords
lookup_of lookup = record { section = words_of_section lookup.section; pc = lookup.pc }
