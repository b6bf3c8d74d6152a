-- What a run of a command comes to over the bytes of its items: the limits of loading first, and then what the command makes of them.
use Rattle.std.specs.Prelude.{◌≡◌, ℕ, List, length, Option}
use Rattle.sf_model.specs.FaultShown.{FaultShown}
use Rattle.sf_words.specs.declared.refusal.Limit.{Limit}
use Rattle.sf_words.specs.Files.{items_of}
use Rattle.sf_words.specs.Loading.{files_limit}
use Rattle.section_commands.specs.Coming.{Coming, ComesWithin, Exceeded, Refused}
use Rattle.sf_run.specs.Commands.{CanBeAsked, CommandComes, CommandWords, files_of_command}

-- the first limit of loading: the list names more than 512 files, or the bytes exceed one
abbrev pub command_limit : CommandWords → (items : List (List ℕ)) → Option Limit
command_limit command items = files_limit (files_of_command command) items

abbrev pub Comes : CommandWords → (items : List (List ℕ)) → Coming → Type 0
Comes command items coming = ComesWithin (command_limit command items) (CommandComes command items) coming

-- the bytes of one file for each item of a command that words can ask for
pub record AreItems (command : CommandWords) (items : List (List ℕ)) : Type 0 where
  pub asked : CanBeAsked command
  pub count : length items ≡ length (items_of (files_of_command command))

-- nothing is refused: neither a limit is exceeded nor an item refused
pub record RefusesNothing (command : CommandWords) (items : List (List ℕ)) : Type 0 where
  pub within : (limit : Limit) → Comes command items (Exceeded limit) → ⊥
  pub accepted : (shown : FaultShown) → Comes command items (Refused shown) → ⊥
