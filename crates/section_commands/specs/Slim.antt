-- `slim OUT@AT FILE@AT`: a section without what no look-up needs.
use Rattle.std.specs.Prelude.{◌≡◌, ℕ, List, [], ◌∷◌, codes, get_or, length, Some, Result, Ok, Err}
use Rattle.sf_model.specs.declared.function.Func.{Func}
use Rattle.sf_model.specs.Section.{Section}
use Rattle.sf_model.specs.Table.{Table}
use Rattle.sf_decode.specs.declared.fault.DecodeFault.{DecodeFault}
use Rattle.sf_decode.specs.Decoding.{section_check}
use Rattle.sf_slim.specs.declared.fault.SlimFault.{SlimFault}
use Rattle.sf_slim.specs.Answers.{IsSlimmed}
use Rattle.sf_slim.specs.Slimming.{Slims}
use Rattle.sf_slim.specs.FaultShown.{shown_of_slimming}
use Rattle.sf_text.specs.Slim.{slim_text}
use Rattle.sf_words.specs.Files.{FilesWords}
use Rattle.sf_words.specs.Items as item
use Rattle.sf_words.specs.Words.{IsSectionWord, SectionWords, words_of_section}
use Rattle.section_commands.specs.declared.slim.Slim.{Slim}
use Rattle.section_commands.specs.declared.made.Outcome.TheVariants.{Done}
use Rattle.section_commands.specs.Coming.{Coming, Refused, Makes}
use Rattle.section_commands.specs.SectionComes.{coming_of_decoding}

-- what is asked of `slim`: the new section's file and address, and the section
pub record SlimWords : Type 0 where
  pub out : SectionWords
  pub section : SectionWords

-- the words ask for this section slimmed
pub record IsSlim (words : List (List ℕ)) (slim : SlimWords) : Type 0 where
  pub out_word : List ℕ
  pub section_word : List ℕ
  pub words_are : words ≡ codes "slim" ∷ out_word ∷ section_word ∷ []
  pub out : IsSectionWord out_word slim.out
  pub section : IsSectionWord section_word slim.section

-- its files: the section that it makes, and one section
abbrev pub slim_files : SlimWords → FilesWords
slim_files slim = record { out = Some slim.out.name; first = item.Section slim.section ∷ []; list = [] }

-- The section is that of what is needed of the section of these bytes, which has this table, without gaps and with the least widths. The
-- text has the lengths of both, and the counts of the new one's functions and rows.
pub record MakesSlim (bytes : List ℕ) (table : Table) (at : ℕ) (coming : Coming) : Type 0 where
  pub section : List ℕ
  pub text : List ℕ
  pub count : ℕ
  pub rows : ℕ
  pub slimmed : IsSlimmed bytes table at section count rows
  pub text_is : text ≡ slim_text (length bytes) (length section) count rows
  pub is : coming ≡ Makes Done (Some section) text

abbrev pub SlimmingComes : (bytes : List ℕ) → Table → (at : ℕ) → Result (List Func) SlimFault → Coming → Type 0
SlimmingComes bytes table at (Err fault) coming = coming ≡ Refused (shown_of_slimming (Some 0) fault)
SlimmingComes bytes table at (Ok functions) coming = MakesSlim bytes table at coming

-- what slimming comes to by the table whose section the bytes are at the address `from`
pub record TableComes (from : ℕ) (bytes : List ℕ) (at : ℕ) (coming : Coming) : Type 0 where
  pub table : Table
  pub of_bytes : Section bytes from table
  pub result : Result (List Func) SlimFault
  pub slims : Slims bytes table at result
  pub comes : SlimmingComes bytes table at result coming

abbrev pub SlimComesFrom : (from : ℕ) → (bytes : List ℕ) → (at : ℕ) → Result (Unit {0}) DecodeFault → Coming → Type 0
SlimComesFrom from bytes at (Err fault) coming = coming ≡ coming_of_decoding 0 fault
SlimComesFrom from bytes at (Ok u) coming = TableComes from bytes at coming

-- what slimming the first item, a section, comes to
abbrev pub SlimComes : SlimWords → (items : List (List ℕ)) → Coming → Type 0
SlimComes slim items coming = SlimComesFrom slim.section.at (get_or items 0 []) slim.out.at (section_check (get_or items 0 []) slim.section.at) coming

-- what the words ask for, without where they are in memory
abbrev pub slim_of : Slim → SlimWords
slim_of slim = record { out = words_of_section slim.out; section = words_of_section slim.section }
