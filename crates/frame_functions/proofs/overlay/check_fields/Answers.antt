use Rattle.std.proofs.Common.{◌≡◌, [], sym, ◌∙◌, inl}
use Rattle.elf_reloc.specs.Views.{fixes_in}
use Rattle.frame_functions.proofs.Relocating.{checked, lies_on_fields, none_checked, nothing_listed, on_ok, on_err}
use Rattle.frame_functions.proofs.overlay.check_fields.Goals as goal

pub returns-then-is_empty-clause-lie : goal.returns-then-is_empty-clause-lie
returns-then-is_empty-clause-lie c =
    let none : fixes_in c.args.relocs.now ≡ [] = nothing_listed (fixes_in c.args.relocs.now) (sym c.is_empty.ensures ∙ c.if-is_empty.true) in
    rw none (none_checked _)

pub returns-then-is_empty-clause-checked : goal.returns-then-is_empty-clause-checked
returns-then-is_empty-clause-checked c = inl (nothing_listed (fixes_in c.args.relocs.now) (sym c.is_empty.ensures ∙ c.if-is_empty.true))

pub returns-in-Ok-clause-lie : goal.returns-in-Ok-clause-lie
returns-in-Ok-clause-lie c = on_ok _ _ (checked _ _ _ _ c.in-Ok.ensures.exact c.in-Ok.ensures.apart (rw c.deref.ensures.value at c.check.ensures))

pub returns-in-Ok-clause-checked : goal.returns-in-Ok-clause-checked
returns-in-Ok-clause-checked c = lies_on_fields _ _ _ _ c.in-Ok.ensures.exact c.in-Ok.ensures.apart (rw c.deref.ensures.value at c.check.ensures)

pub returns-in-Ok-clause-fault : goal.returns-in-Ok-clause-fault
returns-in-Ok-clause-fault c = on_err _ _ (checked _ _ _ _ c.in-Ok.ensures.exact c.in-Ok.ensures.apart (rw c.deref.ensures.value at c.check.ensures))
