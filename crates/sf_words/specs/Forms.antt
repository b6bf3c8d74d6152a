-- Forms of words that several commands share, such as `link OUT@AT IN@BASE ..`. The dots stand for any number of further words of the
-- kind.
use Rattle.std.specs.Prelude.{◌≡◌, ℕ, ◌<◌, ◌≤◌, List, ◌∷◌, length}
use Rattle.std.specs.List.{AllZip}
use Rattle.sf_words.specs.declared.forms.SectionAndInputs.{SectionAndInputs as Parts}
use Rattle.sf_words.specs.Named.{inputs_of}
use Rattle.sf_words.specs.Words.{InputWords, IsInputWord, IsSectionWord, SectionWords, words_of_section}

-- what is asked of a command such as `link`: the section's file and address, and the inputs
pub record SectionAndInputs : Type 0 where
  pub section : SectionWords
  pub inputs : List InputWords

-- the words are a command with this name, this section and these inputs, one at least
pub record NameInputs (command : List ℕ) (words : List (List ℕ)) (named : SectionAndInputs) : Type 0 where
  pub section_word : List ℕ
  pub input_words : List (List ℕ)
  pub words_are : words ≡ command ∷ section_word ∷ input_words
  pub section : IsSectionWord section_word named.section
  pub some : 0 < length input_words
  pub inputs : AllZip IsInputWord input_words named.inputs

-- how many frames of a thread may be asked for: 1 to 1024
pub record IsDepth (depth : ℕ) : Type 0 where
  pub some : 0 < depth
  pub most : depth ≤ 1024

-- what the words ask for, without where they are in memory
abbrev pub section_and_inputs_of : Parts → SectionAndInputs
section_and_inputs_of parts = record { section = words_of_section parts.section; inputs = inputs_of parts.inputs }
