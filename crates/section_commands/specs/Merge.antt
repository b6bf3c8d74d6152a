-- `merge OUT@AT FILE@AT ..`: the union of sections. The dots stand for any number of further words of the kind.
use Rattle.std.specs.Prelude.{◌≡◌, ◌<◌, ◌⊎◌, ℕ, List, [], ◌∷◌, ◌++◌, codes, length, map, Some, None, Result, Ok, Err}
use Rattle.std.specs.List.{AllZip, zip}
use Rattle.sf_model.specs.declared.function.Func.{Func}
use Rattle.sf_model.specs.Section.{Section}
use Rattle.sf_model.specs.Table.{Table}
use Rattle.sf_decode.specs.declared.fault.DecodeFault.{DecodeFault}
use Rattle.sf_decode.specs.Decoding.{section_check}
use Rattle.sf_merge.specs.declared.fault.MergeFault.{MergeFault}
use Rattle.sf_merge.specs.declared.fault.MergeFault.TheVariants as merge
use Rattle.sf_merge.specs.Answers.{IsMerged}
use Rattle.sf_merge.specs.Merging.{Merges}
use Rattle.sf_merge.specs.FaultShown.{shown_of_merging}
use Rattle.sf_text.specs.Merged.{merged_text}
use Rattle.sf_words.specs.declared.refusal.Limit.{Limit}
use Rattle.sf_words.specs.declared.refusal.Limit.TheVariants.{Functions, Rows}
use Rattle.sf_words.specs.Files.{FilesWords}
use Rattle.sf_words.specs.Items as item
use Rattle.sf_words.specs.Named.{named_sections}
use Rattle.sf_words.specs.Words.{IsSectionWord, SectionWords, words_of_section}
use Rattle.section_commands.specs.declared.merge.Merge.{Merge}
use Rattle.section_commands.specs.declared.made.Outcome.TheVariants.{Done}
use Rattle.section_commands.specs.Coming.{Coming, Refused, Exceeded, Makes}
use Rattle.section_commands.specs.Limits.{sums_limit}
use Rattle.section_commands.specs.SectionComes.{coming_of_decoding}

-- what is asked of `merge`: the merged section's file and address, and the sections
pub record MergeWords : Type 0 where
  pub out : SectionWords
  pub sections : List SectionWords

-- the words ask for this merge
pub record IsMerge (words : List (List ℕ)) (merge : MergeWords) : Type 0 where
  pub out_word : List ℕ
  pub section_words : List (List ℕ)
  pub words_are : words ≡ codes "merge" ∷ out_word ∷ section_words
  pub out : IsSectionWord out_word merge.out
  pub some : 0 < length section_words
  pub sections : AllZip IsSectionWord section_words merge.sections

-- its files: the section that it makes, and those of its list
abbrev pub merge_files : MergeWords → FilesWords
merge_files merge = record { out = Some merge.out.name; first = []; list = map item.Section merge.sections }

-- a section as it is named, and its bytes
abbrev pub LoadedSection : Type 0
LoadedSection = SectionWords × List ℕ

abbrev pub item_check : LoadedSection → Result (Unit {0}) DecodeFault
item_check item = section_check item.1 item.0.at

-- the item passes the checks of a section, and its bytes are a section at its address, of this table
pub record IsSectionOf (item : LoadedSection) (table : Table) : Type 0 where
  pub checked : item_check item ≡ Ok tt
  pub is : Section item.1 item.0.at table

-- ---- reading
-- these items are sections of these tables, which are within the limits together
pub record AreWithin (items : List LoadedSection) (tables : List Table) : Type 0 where
  pub are : AllZip IsSectionOf items tables
  pub within : sums_limit tables ≡ None

-- the item of this number is no section, and this is what its first fault comes to
pub record IsUnsound (number : ℕ) (item : LoadedSection) (coming : Coming) : Type 0 where
  pub fault : DecodeFault
  pub check : item_check item ≡ Err fault
  pub comes : coming ≡ coming_of_decoding number fault

-- the item is a section, and its table and the tables before it exceed a limit together, which is what this comes to
pub record GoesOver (tables : List Table) (item : LoadedSection) (coming : Coming) : Type 0 where
  pub table : Table
  pub is : IsSectionOf item table
  pub limit : Limit
  pub exceeds : sums_limit (tables ++ table ∷ []) ≡ Some limit
  pub comes : coming ≡ Exceeded limit

-- Reading stops at an item: the items before it are sections of tables that are within the limits together, and the item is no section, or
-- with its table a limit is exceeded.
pub record ReadingStops (items : List LoadedSection) (coming : Coming) : Type 0 where
  pub before : List LoadedSection
  pub item : LoadedSection
  pub later : List LoadedSection
  pub items_are : items ≡ before ++ item ∷ later
  pub tables : List Table
  pub read : AreWithin before tables
  pub stops : IsUnsound (length before) item coming ⊎ GoesOver tables item coming

-- ---- merging
-- what a fault of merging comes to
abbrev pub coming_of_merging : MergeFault → Coming
coming_of_merging merge.TooManyFunctions = Exceeded Functions
coming_of_merging merge.TooManyRows = Exceeded Rows
coming_of_merging fault = Refused (shown_of_merging None fault)

-- The section is that of the union of the tables, without gaps and with the least widths, and the text has the counts of its functions and
-- rows.
pub record MakesMerge (at : ℕ) (tables : List Table) (coming : Coming) : Type 0 where
  pub section : List ℕ
  pub text : List ℕ
  pub count : ℕ
  pub rows : ℕ
  pub merged : IsMerged tables at section count rows
  pub text_is : text ≡ merged_text count rows
  pub is : coming ≡ Makes Done (Some section) text

abbrev pub MergeComesFrom : (at : ℕ) → List Table → Result (List Func) MergeFault → Coming → Type 0
MergeComesFrom at tables (Err fault) coming = coming ≡ coming_of_merging fault
MergeComesFrom at tables (Ok functions) coming = MakesMerge at tables coming

-- all items are sections of tables that are within the limits together, and this is what merging them comes to
pub record TablesCome (at : ℕ) (items : List LoadedSection) (coming : Coming) : Type 0 where
  pub tables : List Table
  pub read : AreWithin items tables
  pub result : Result (List Func) MergeFault
  pub merges : Merges tables at result
  pub comes : MergeComesFrom at tables result coming

-- reading stops at an item, or else all are merged
abbrev pub MergeComesAt : (at : ℕ) → (items : List LoadedSection) → Coming → Type 0
MergeComesAt at items coming = ReadingStops items coming ⊎ TablesCome at items coming

-- what merging sections of these bytes comes to
abbrev pub MergeComes : MergeWords → (items : List (List ℕ)) → Coming → Type 0
MergeComes merge items coming = MergeComesAt merge.out.at (zip merge.sections items) coming

-- what the words ask for, without where they are in memory
abbrev pub merge_of : Merge → MergeWords
merge_of merge = record { out = words_of_section merge.out; sections = named_sections merge.sections }
