-- The files that lists of words name, as the code has them.
use Rattle.std.specs.Prelude.{List}
use Rattle.sf_words.specs.declared.named.NamedInputs.{NamedInputs}
use Rattle.sf_words.specs.declared.named.NamedSections.{NamedSections}
use Rattle.sf_words.specs.Words.{InputWords, SectionWords}

abbrev pub inputs_of : NamedInputs → List InputWords
inputs_of named = named.said.0

abbrev pub named_sections : NamedSections → List SectionWords
named_sections named = named.said.0
