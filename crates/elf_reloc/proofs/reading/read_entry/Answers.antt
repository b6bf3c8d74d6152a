use Rattle.std.proofs.Common.{Some, None, Ok, sym, ap, ◌∙◌, rules}
use Rattle.std.proofs.lemmas.Result.{err_from_is_err_and}
use Rattle.elf_place.specs.Views.{placing}
use Rattle.elf_reloc.specs.declared.reading.FixesSoFar.{FixesSoFar}
use Rattle.elf_reloc.proofs.GoingOn.{stops, goes_on_to}
use Rattle.elf_reloc.proofs.reading.read_entry.Goals as goal
use Rattle.elf_reloc.proofs.reading.read_entry.Goals.{in-Some+in_ok-push, in_default}

pub returns-in_err-fix-clause-exact : goal.returns-in_err-fix-clause-exact
returns-in_err-fix-clause-exact c = λ left.
    let p = err_from_is_err_and c.from_residual.result c.from_residual.ensures.1 in
    rw (p.1, p.2)
    (stops (placing c.args.placed.now) c.args.section c.args.read.now.next c.args.i c.args.k c.args.read.now.fixes.items _ left (sym c.in_err-fix.ensures))

pub returns-clause-exact : goal.returns-clause-exact
returns-clause-exact c = λ left.
    elim c.match-branch-2.branch [
      | in-Some+in_ok-push w ↦
          goes_on_to (placing c.args.placed.now) c.args.section c.args.read.now.next c.args.i c.args.k c.args.read.now.fixes.items (Some w.in-Some.fix) left _ _
          (sym c.in_ok-fix.ensures ∙ ap (λ (o : _). Ok o) w.in-Some.is)
          (search rules)
          (ap (λ (r : FixesSoFar). r.fixes.items) w.read-is ∙ w.in_ok-push.ensures.items)
      | in_default w ↦
          goes_on_to (placing c.args.placed.now) c.args.section c.args.read.now.next c.args.i c.args.k c.args.read.now.fixes.items None left _ _
          (sym c.in_ok-fix.ensures ∙ ap (λ (o : _). Ok o) w.in_default.is)
          (search rules)
          (ap (λ (r : FixesSoFar). r.fixes.items) w.read-is)
    ]
