-- The exit status of a run.
use Rattle.std.specs.Prelude.{ℕ}
use Rattle.section_commands.specs.declared.made.Outcome.{Outcome}
use Rattle.section_commands.specs.declared.made.Outcome.TheVariants as outcome
use Rattle.section_commands.specs.Coming.{Coming}
use Rattle.section_commands.specs.Coming as coming
use Rattle.sf_run.specs.declared.status.Status.{Status}
use Rattle.sf_run.specs.declared.status.Status.TheVariants.{Done, Negative, Usage, Read, Write, Refused, Memory, Limit}

abbrev pub status_code : Status → ℕ
status_code Done = 0
status_code Negative = 1
status_code Usage = 2
status_code Read = 3
status_code Write = 4
status_code Refused = 5
status_code Memory = 6
status_code Limit = 7

-- the status of a run that made something
abbrev pub status_for : Outcome → Status
status_for outcome.Done = Done
status_for outcome.Negative = Negative

-- the status of what a run comes to
abbrev pub status_of : Coming → Status
status_of (coming.Refused shown) = Refused
status_of (coming.Exceeded limit) = Limit
status_of (coming.MakesNoting outcome section text notes) = status_for outcome
