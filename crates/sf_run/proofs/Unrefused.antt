-- What a command makes that reads no core file.
use Rattle.std.proofs.Common.{◌≡◌, Result, Ok, Err, subst, sym}
use Rattle.sf_words.specs.declared.refusal.Refusal.{Refusal}
use Rattle.section_commands.specs.declared.made.Made.{Made}
use Rattle.section_commands.specs.declared.made.Unmade.{Unmade}
use Rattle.section_commands.specs.Coming.{Coming}
use Rattle.section_commands.specs.Making.{ComesTo, MadeAs, NeedsNoMore}
use Rattle.sf_run.specs.Unrefused.{or_refused}

comes : (P : Coming → Type 0) (made : Result Made Refusal) → ComesTo P made → MadeAs P (or_refused made)
comes P (Ok made) h = h
comes P (Err refusal) h = h

pub comes_unless_refused : (P : Coming → Type 0) (made : Result Made Refusal) (unmade : Result Made Unmade) → unmade ≡ or_refused made → ComesTo P made → MadeAs P unmade
comes_unless_refused P made unmade e h = subst (MadeAs P) (sym e) (comes P made h)

no_more : (made : Result Made Refusal) → NeedsNoMore (or_refused made)
no_more (Ok made) = tt
no_more (Err refusal) = tt

pub refused_is_final : (made : Result Made Refusal) (unmade : Result Made Unmade) → unmade ≡ or_refused made → NeedsNoMore unmade
refused_is_final made unmade e = subst (λ (r : Result Made Unmade). NeedsNoMore r) (sym e) (no_more made)
