use Rattle.std.proofs.Common.{◌<◌, length, suc, take, drop, sym, subst, rules}
use Rattle.std.proofs.lemmas.List.Elements.{All-append, All-drop, All-take}
use Rattle.sf_bytes.specs.Parts.{AreParts, IsPart}
use Rattle.elf_mapped.proofs.part.take_at.Goals as goal

pub returns-clause-part : goal.returns-clause-part
returns-clause-part c = λ file are.
    let parts = c.args.parts.now.items in
    let below : c.args.number < length parts = search rules in
    subst (IsPart file) (sym c.remove.ensures.value) (are c.args.number c.remove.result below)

pub returns-clause-rest : goal.returns-clause-rest
returns-clause-rest c = λ file are.
    let parts = c.args.parts.now.items in
    subst (AreParts file) (sym c.remove.ensures.items)
    (All-append (IsPart file) (take c.args.number parts) (drop (suc c.args.number) parts) (All-take (IsPart file) c.args.number parts are) (All-drop (IsPart file) (suc c.args.number) parts are))
