-- What follows of what a refusal shows.
use Rattle.std.proofs.Common.{◌≡◌, Bool, true, false, Result, Ok, Err, sym, subst, ◌∙◌}
use Rattle.sf_words.specs.declared.refusal.Refusal.{Refusal}
use Rattle.sf_words.specs.declared.refusal.Refusal.TheVariants as refusal
use Rattle.section_commands.specs.Coming.{Coming}
use Rattle.section_commands.specs.declared.made.Made.{Made}
use Rattle.section_commands.specs.declared.made.Unmade.{Unmade}
use Rattle.section_commands.specs.declared.made.Unmade.TheVariants.{Refused as RefusedBy, Unread}
use Rattle.section_commands.specs.Making.{ComesAs, IsFinal, IsUnfinished, MadeAs, UnmadeAs}

-- a refusal that tells one thing tells what follows from it
pub comes_as : (P Q : Coming → Type 0) → ((c : Coming) → P c → Q c) → (refused : Refusal) → ComesAs P refused → ComesAs Q refused
comes_as P Q on (refusal.Read name) h = absurd h
comes_as P Q on refusal.Memory h = tt
comes_as P Q on (refusal.Limit limit) h = on _ h
comes_as P Q on (refusal.Input notice) h = (h.0, on _ h.1)

pub memory_comes : (P : Coming → Type 0) (refused : Refusal) → refused ≡ refusal.Memory → ComesAs P refused
memory_comes P refused e = subst (ComesAs P) (sym e) tt

-- ---- commands that read a core file
pub unmade_as : (P Q : Coming → Type 0) → ((c : Coming) → P c → Q c) → (unmade : Unmade) → UnmadeAs P unmade → UnmadeAs Q unmade
unmade_as P Q on (RefusedBy refused) h = comes_as P Q on refused h
unmade_as P Q on (Unread addresses) h = tt

pub made_as : (P Q : Coming → Type 0) → ((c : Coming) → P c → Q c) → (made : Result Made Unmade) → MadeAs P made → MadeAs Q made
made_as P Q on (Ok made) h = on _ h
made_as P Q on (Err unmade) h = unmade_as P Q on unmade h

pub unfinished_as : (P : Coming → Type 0) (by_parts : Bool) (unmade : Unmade) → IsUnfinished by_parts unmade → UnmadeAs P unmade
unfinished_as P by_parts (RefusedBy refused) h = memory_comes P refused h
unfinished_as P by_parts (Unread addresses) h = tt

pub unfinished_is_final : (by_parts : Bool) (unmade : Unmade) → IsUnfinished by_parts unmade → by_parts ≡ false → IsFinal unmade
unfinished_is_final by_parts (RefusedBy refused) h whole = tt
unfinished_is_final by_parts (Unread addresses) h whole = absurd (let no : true ≡ false = sym h ∙ whole in cc)
