-- What the commands that read a section come to where the bytes are none, and what showing a section comes to.
use Rattle.std.specs.Prelude.{◌≡◌, ℕ, List, [], get_or, Some, None, Result, Ok, Err}
use Rattle.sf_model.specs.Section.{Section}
use Rattle.sf_model.specs.Table.{Table}
use Rattle.sf_decode.specs.declared.fault.DecodeFault.{DecodeFault}
use Rattle.sf_decode.specs.declared.fault.DecodeFault.TheVariants.{TooManyFunctions, TooManyRows}
use Rattle.sf_decode.specs.Decoding.{section_check}
use Rattle.sf_decode.specs.FaultShown.{shown_of_section}
use Rattle.sf_words.specs.declared.refusal.Limit.TheVariants.{Functions, Rows}
use Rattle.section_commands.specs.declared.made.Outcome.{Outcome}
use Rattle.section_commands.specs.Coming.{Coming, Refused, Exceeded, Makes}

-- what a fault of the section of an item comes to
abbrev pub coming_of_decoding : (item : ℕ) → DecodeFault → Coming
coming_of_decoding item (TooManyFunctions place) = Exceeded Functions
coming_of_decoding item (TooManyRows place) = Exceeded Rows
coming_of_decoding item fault = Refused (shown_of_section (Some item) fault)

-- how a command shows a table: its outcome and its text
abbrev pub Showing : Type 0
Showing = Table → Outcome × List ℕ

-- what is shown of the table whose section the bytes are
pub record MakesShown (at : ℕ) (bytes : List ℕ) (show : Showing) (coming : Coming) : Type 0 where
  pub table : Table
  pub of_bytes : Section bytes at table
  pub is : coming ≡ Makes (show table).0 None (show table).1

abbrev pub ShowingComesFrom : (at : ℕ) → (bytes : List ℕ) → Showing → Result (Unit {0}) DecodeFault → Coming → Type 0
ShowingComesFrom at bytes show (Err fault) coming = coming ≡ coming_of_decoding 0 fault
ShowingComesFrom at bytes show (Ok u) coming = MakesShown at bytes show coming

-- what showing the first item as a section at this address comes to
abbrev pub ShowingComes : (at : ℕ) → Showing → (items : List (List ℕ)) → Coming → Type 0
ShowingComes at show items coming = ShowingComesFrom at (get_or items 0 []) show (section_check (get_or items 0 []) at) coming
