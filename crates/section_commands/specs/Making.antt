-- What a call that makes something returns, by what the run comes to.
use Rattle.std.specs.Prelude.{◌≡◌, Bool, true, Result, Ok, Err, IfErr}
use Rattle.std.specs.Option.{option_map}
use Rattle.sf_model.specs.Notice.{HasLine}
use Rattle.sf_model.specs.FaultShown.{shown_by}
use Rattle.sf_text.specs.Output.{output_notes, output_text}
use Rattle.sf_words.specs.declared.refusal.Refusal.{Refusal}
use Rattle.sf_words.specs.declared.refusal.Refusal.TheVariants as refusal
use Rattle.section_commands.specs.declared.made.Made.{Made}
use Rattle.section_commands.specs.declared.made.Unmade.{Unmade}
use Rattle.section_commands.specs.declared.made.Unmade.TheVariants.{Refused as RefusedBy, Unread}
use Rattle.section_commands.specs.Coming.{Coming, Refused, Exceeded, MakesNoting}

-- a refusal is what the run comes to, or memory ran out
abbrev pub ComesAs : (Coming → Type 0) → Refusal → Type 0
ComesAs Is (refusal.Read name) = ⊥
ComesAs Is refusal.Memory = Unit {0}
ComesAs Is (refusal.Limit limit) = Is (Exceeded limit)
ComesAs Is (refusal.Input notice) = HasLine notice × Is (Refused (shown_by notice))

-- what was made, as what the run comes to
abbrev pub coming_of : Made → Coming
coming_of made = MakesNoting made.outcome (option_map (λ v. v.items) made.section) (output_text made.output) (output_notes made.output)

-- what is made is what the run comes to, or a refusal is, or memory ran out
abbrev pub ComesTo : (Coming → Type 0) → Result Made Refusal → Type 0
ComesTo Is (Ok made) = Is (coming_of made)
ComesTo Is (Err refused) = ComesAs Is refused

-- ---- commands that read a core file, parts of which may have been read
-- a refusal is what the run comes to, or memory ran out; or more of the core file has to be read
abbrev pub UnmadeAs : (Coming → Type 0) → Unmade → Type 0
UnmadeAs Is (RefusedBy refused) = ComesAs Is refused
UnmadeAs Is (Unread addresses) = Unit {0}

-- what is made is what the run comes to, or nothing was made
abbrev pub MadeAs : (Coming → Type 0) → Result Made Unmade → Type 0
MadeAs Is (Ok made) = Is (coming_of made)
MadeAs Is (Err unmade) = UnmadeAs Is unmade

-- no more has to be read
abbrev pub IsFinal : Unmade → Type 0
IsFinal (RefusedBy refused) = Unit {0}
IsFinal (Unread addresses) = ⊥

abbrev pub NeedsNoMore : {X : Type 0} → Result X Unmade → Type 0
NeedsNoMore result = IfErr result IsFinal

-- memory ran out, or more of the core file has to be read, of which only parts were
abbrev pub IsUnfinished : (is_by_parts : Bool) → Unmade → Type 0
IsUnfinished is_by_parts (RefusedBy refused) = refused ≡ refusal.Memory
IsUnfinished is_by_parts (Unread addresses) = is_by_parts ≡ true
