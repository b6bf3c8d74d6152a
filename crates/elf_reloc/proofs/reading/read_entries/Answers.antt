use Rattle.std.proofs.Common.{◌+◌, ◌-◌, ◌++◌, ap, ◌∙◌, arith}
use Rattle.std.proofs.lemmas.Result.{err_from_is_err_and}
use Rattle.elf_place.specs.Views.{placing}
use Rattle.elf_reloc.specs.Reading.{entries_from, going_on}
use Rattle.elf_reloc.proofs.GoingOn.{entries-first, entries-none, fails_same}
use Rattle.elf_reloc.proofs.reading.read_entries.Goals as goal

pub returns-in_err-read_entry-clause-exact : goal.returns-in_err-read_entry-clause-exact
returns-in_err-read_entry-clause-exact c = λ left.
    let p = err_from_is_err_and c.from_residual.result c.from_residual.ensures.1 in
    rw (p.1, p.2)
    (fails_same _ _ _
    (c.loop-k.invariant.0 left ∙ ap (going_on (placing c.args.placed.now) c.args.section c.loop-k.read) (entries-first c.args.i c.loop-k.k c.args.count left c.loop-k-test.true))
    (c.in_err-read_entry.ensures.exact (entries_from c.args.i (c.loop-k.k + 1) (c.args.count - (c.loop-k.k + 1)) ++ left)))

pub loop-k-preserved : goal.loop-k-preserved
loop-k-preserved c = (
  λ left.
      c.loop-k.invariant.0 left
      ∙ ap (going_on (placing c.args.placed.now) c.args.section c.loop-k.read) (entries-first c.args.i c.loop-k.k c.args.count left c.loop-k-test.true)
      ∙ c.in_ok-read_entry.ensures.exact (entries_from c.args.i (c.loop-k.k + 1) (c.args.count - (c.loop-k.k + 1)) ++ left),
  omega (arith, c.loop-k.invariant.1, c.in_ok-read_entry.ensures.next),
)

pub returns-clause-exact : goal.returns-clause-exact
returns-clause-exact c = λ left.
    c.loop-k.invariant.0 left
    ∙ ap (going_on (placing c.args.placed.now) c.args.section c.loop-k.read) (entries-none c.args.i c.loop-k.k c.args.count left c.loop-k-test.false)
