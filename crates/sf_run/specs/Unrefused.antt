-- Inside the crate. What a command makes that reads no core file.
use Rattle.std.specs.Prelude.{Result, Ok, Err}
use Rattle.sf_words.specs.declared.refusal.Refusal.{Refusal}
use Rattle.section_commands.specs.declared.made.Made.{Made}
use Rattle.section_commands.specs.declared.made.Unmade.{Unmade}
use Rattle.section_commands.specs.declared.made.Unmade.TheVariants.{Refused}

-- it is made, or refused
abbrev pub or_refused : Result Made Refusal → Result Made Unmade
or_refused (Ok made) = Ok made
or_refused (Err refusal) = Err (Refused refusal)
