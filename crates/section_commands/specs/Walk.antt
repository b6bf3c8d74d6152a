-- `walk FILE@AT CORE DEPTH`: the walks of a core file's threads by a section.
use Rattle.std.specs.Prelude.{◌≡◌, ◌<◌, ℕ, Bool, true, false, List, [], ◌∷◌, codes, get_or, length, None, Result, Ok, Err}
use Rattle.sf_base.specs.Word.{SpellsDecimal}
use Rattle.sf_model.specs.Section.{Section}
use Rattle.sf_model.specs.Table.{Table}
use Rattle.sf_decode.specs.declared.fault.DecodeFault.{DecodeFault}
use Rattle.sf_decode.specs.Decoding.{section_check}
use Rattle.elf_read.specs.Header.{arch_of}
use Rattle.core_notes.specs.declared.fault.CoreFault.{CoreFault}
use Rattle.core_notes.specs.Checks.{core_check}
use Rattle.sf_merge.specs.Merging.{same_arch}
use Rattle.sf_words.specs.Files.{FilesWords}
use Rattle.sf_words.specs.Forms.{IsDepth}
use Rattle.sf_words.specs.Items as item
use Rattle.sf_words.specs.Words.{IsSectionWord, SectionWords, words_of_section}
use Rattle.section_commands.specs.declared.walk.Walk.{Walk}
use Rattle.section_commands.specs.declared.made.Outcome.TheVariants.{Done}
use Rattle.section_commands.specs.Coming.{Coming, Makes, Refused}
use Rattle.section_commands.specs.SectionComes.{coming_of_decoding}
use Rattle.section_commands.specs.Walks.{coming_of_core, shown_of_mixed, table_walks}

-- what is asked of `walk`: the section's file and address, the core file's name, and the most frames of a thread
pub record WalkWords : Type 0 where
  pub section : SectionWords
  pub core : List ℕ
  pub depth : ℕ

-- the words ask for these walks: the name of the core file is a whole word, and is not empty
pub record IsWalk (words : List (List ℕ)) (walk : WalkWords) : Type 0 where
  pub section_word : List ℕ
  pub depth_word : List ℕ
  pub words_are : words ≡ codes "walk" ∷ section_word ∷ walk.core ∷ depth_word ∷ []
  pub section : IsSectionWord section_word walk.section
  pub named : 0 < length walk.core
  pub depth : SpellsDecimal depth_word walk.depth
  pub within : IsDepth walk.depth

-- its files: a section and a core file
abbrev pub walk_files : WalkWords → FilesWords
walk_files walk = record { out = None; first = item.Section walk.section ∷ item.Core walk.core ∷ []; list = [] }

-- the text, if the section and the core file are for one machine; else the fault that items 0 and 1 are not
abbrev pub coming_of_walks : (same : Bool) → (text : List ℕ) → Coming
coming_of_walks true text = Makes Done None text
coming_of_walks false text = Refused (shown_of_mixed 1)

-- what the walks come to by the table whose section the bytes are
pub record WalksCome (at : ℕ) (section core : List ℕ) (depth : ℕ) (coming : Coming) : Type 0 where
  pub table : Table
  pub of_bytes : Section section at table
  pub is : coming ≡ coming_of_walks (same_arch table.arch (arch_of core)) (table_walks table core depth)

abbrev pub WalkComesFrom : (at : ℕ) → (section core : List ℕ) → (depth : ℕ) → Result (Unit {0}) DecodeFault → Result (Unit {0}) CoreFault → Coming → Type 0
WalkComesFrom at section core depth (Err fault) check coming = coming ≡ coming_of_decoding 0 fault
WalkComesFrom at section core depth (Ok u) (Err fault) coming = coming ≡ coming_of_core 1 fault
WalkComesFrom at section core depth (Ok u) (Ok v) coming = WalksCome at section core depth coming

-- what walking the threads of the second item, a core file, by the first, a section, comes to
abbrev pub WalkComes : WalkWords → (items : List (List ℕ)) → Coming → Type 0
WalkComes walk items coming =
    WalkComesFrom walk.section.at (get_or items 0 []) (get_or items 1 []) walk.depth (section_check (get_or items 0 []) walk.section.at) (core_check (get_or items 1 [])) coming

-- what the words ask for, without where they are in memory
abbrev pub walk_of : Walk → WalkWords
walk_of walk = record { section = words_of_section walk.section; core = walk.core.now; depth = walk.depth }
