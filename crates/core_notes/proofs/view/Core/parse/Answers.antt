use Rattle.std.specs.Prelude.{IfOk, IsOkAnd}
use Rattle.std.proofs.Common.{◌≡◌, ℕ, List, Result, Ok, Err, sym, ap, subst, ◌∙◌}
use Rattle.elf_read.specs.Checking.{verdict}
use Rattle.core_notes.specs.declared.fault.CoreFault.{CoreFault}
use Rattle.core_notes.specs.declared.view.Core.{Core}
use Rattle.core_notes.specs.Checks.{core_check}
use Rattle.core_notes.specs.Core.{IsCore}
use Rattle.core_notes.specs.Listing.{notes_in, whole_notes}
use Rattle.core_notes.specs.Note.{NoteView}
use Rattle.core_notes.specs.Views.{core_bytes, notes_of}
use Rattle.core_notes.proofs.CoreLaw.{checked_is_core, core_is_checked}
use Rattle.core_notes.proofs.view.Core.parse.Goals as goal

sound : (bytes : List ℕ) (r : Result Core CoreFault) → verdict r ≡ core_check bytes → IfOk r (λ core. core_bytes core ≡ bytes) → IfOk r (λ core. IsCore bytes (notes_of core))
sound bytes (Ok core) e same = subst (λ (xs : List ℕ). IsCore bytes (whole_notes (notes_in xs))) (sym same) (checked_is_core bytes (sym e))
sound bytes (Err f) e same = tt

complete : (bytes : List ℕ) (r : Result Core CoreFault) → verdict r ≡ core_check bytes → IfOk r (λ core. core_bytes core ≡ bytes)
    → (notes : List NoteView) → IsCore bytes notes → IsOkAnd r (λ core. notes_of core ≡ notes)
complete bytes (Ok core) e same notes c = ap (λ (xs : List ℕ). whole_notes (notes_in xs)) same ∙ (core_is_checked bytes notes c).1
complete bytes (Err f) e same notes c = absurd (let differ : Err f ≡ Ok tt = e ∙ (core_is_checked bytes notes c).0 in cc)

pub returns-clause-sound : goal.returns-clause-sound
returns-clause-sound c = sound c.args.bytes.now c.checked.result c.checked.ensures.exact c.checked.ensures.bytes

pub returns-clause-complete : goal.returns-clause-complete
returns-clause-complete c = complete c.args.bytes.now c.checked.result c.checked.ensures.exact c.checked.ensures.bytes
