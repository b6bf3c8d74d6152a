-- `upgrade OUT@AT FILE@AT`: a Version 2 section made into one of Version 3.
use Rattle.std.specs.Prelude.{◌≡◌, ℕ, List, [], ◌∷◌, codes, get_or, Some, Result, Ok, Err}
use Rattle.sf_model.specs.declared.function.Func.{Func}
use Rattle.sf_model.specs.Section.{Section}
use Rattle.sf_model.specs.Table.{Table}
use Rattle.sf_decode.specs.declared.fault.DecodeFault.{DecodeFault}
use Rattle.sf_decode.specs.Decoding.{section_check}
use Rattle.sf_text.specs.Upgraded.{upgraded_text}
use Rattle.sf_words.specs.Files.{FilesWords}
use Rattle.sf_words.specs.Items as item
use Rattle.sf_words.specs.Words.{IsSectionWord, SectionWords, words_of_section}
use Rattle.sf3_upgrade.specs.declared.fault.UpgradeFault.{UpgradeFault}
use Rattle.sf3_upgrade.specs.Answers.{IsUpgraded}
use Rattle.sf3_upgrade.specs.FaultShown.{shown_of_upgrading}
use Rattle.sf3_upgrade.specs.Upgrading.{Upgrades}
use Rattle.section_commands.specs.declared.upgrade.Upgrade.{Upgrade}
use Rattle.section_commands.specs.declared.made.Outcome.TheVariants.{Done}
use Rattle.section_commands.specs.Coming.{Coming, Refused, Makes}
use Rattle.section_commands.specs.SectionComes.{coming_of_decoding}

-- what is asked of `upgrade`: the new section's file and address, and the section
pub record UpgradeWords : Type 0 where
  pub out : SectionWords
  pub section : SectionWords

-- the words ask for this section upgraded
pub record IsUpgrade (words : List (List ℕ)) (upgrade : UpgradeWords) : Type 0 where
  pub out_word : List ℕ
  pub section_word : List ℕ
  pub words_are : words ≡ codes "upgrade" ∷ out_word ∷ section_word ∷ []
  pub out : IsSectionWord out_word upgrade.out
  pub section : IsSectionWord section_word upgrade.section

-- its files: the section that it makes, and one section
abbrev pub upgrade_files : UpgradeWords → FilesWords
upgrade_files upgrade = record { out = Some upgrade.out.name; first = item.Section upgrade.section ∷ []; list = [] }

-- The section is the Version 3 one of the functions that have rows, of the section of these bytes, which has this table. The text has the
-- counts of its functions and rows.
pub record MakesUpgraded (bytes : List ℕ) (table : Table) (at : ℕ) (coming : Coming) : Type 0 where
  pub section : List ℕ
  pub text : List ℕ
  pub count : ℕ
  pub rows : ℕ
  pub upgraded : IsUpgraded bytes table at section count rows
  pub text_is : text ≡ upgraded_text count rows
  pub is : coming ≡ Makes Done (Some section) text

abbrev pub UpgradingComes : (bytes : List ℕ) → Table → (at : ℕ) → Result (List Func) UpgradeFault → Coming → Type 0
UpgradingComes bytes table at (Err fault) coming = coming ≡ Refused (shown_of_upgrading (Some 0) fault)
UpgradingComes bytes table at (Ok functions) coming = MakesUpgraded bytes table at coming

-- what upgrading comes to by the table whose section the bytes are at the address `from`
pub record UpgradedTableComes (from : ℕ) (bytes : List ℕ) (at : ℕ) (coming : Coming) : Type 0 where
  pub table : Table
  pub of_bytes : Section bytes from table
  pub result : Result (List Func) UpgradeFault
  pub upgrades : Upgrades bytes table result
  pub comes : UpgradingComes bytes table at result coming

abbrev pub UpgradeComesFrom : (from : ℕ) → (bytes : List ℕ) → (at : ℕ) → Result (Unit {0}) DecodeFault → Coming → Type 0
UpgradeComesFrom from bytes at (Err fault) coming = coming ≡ coming_of_decoding 0 fault
UpgradeComesFrom from bytes at (Ok u) coming = UpgradedTableComes from bytes at coming

-- what upgrading the first item, a section, comes to
abbrev pub UpgradeComes : UpgradeWords → (items : List (List ℕ)) → Coming → Type 0
UpgradeComes upgrade items coming = UpgradeComesFrom upgrade.section.at (get_or items 0 []) upgrade.out.at (section_check (get_or items 0 []) upgrade.section.at) coming

-- what the words ask for, without where they are in memory
abbrev pub upgrade_of : Upgrade → UpgradeWords
upgrade_of upgrade = record { out = words_of_section upgrade.out; section = words_of_section upgrade.section }
