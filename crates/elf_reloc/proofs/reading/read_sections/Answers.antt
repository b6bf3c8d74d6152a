use Rattle.std.proofs.Common.{◌≡◌, ◌+◌, length, drop, ap, ◌∙◌, arith}
use Rattle.std.proofs.lemmas.Result.{err_from_is_err_and}
use Rattle.elf_place.specs.Relocations.{numbers_of}
use Rattle.elf_place.specs.Views.{placed_file, placing}
use Rattle.elf_reloc.specs.Reading.{going_on, relocations_in}
use Rattle.elf_reloc.proofs.GoingOn.{sections-first, sections-length, sections-none, fails_same}
use Rattle.elf_reloc.proofs.reading.read_sections.Goals as goal

pub returns-in_err-read_entries : goal.returns-in_err-read_entries
returns-in_err-read_entries c =
    let p = err_from_is_err_and c.from_residual.result c.from_residual.ensures.1 in
    rw (p.1, p.2)
    (fails_same _ _ _
    (
    c.loop-it.invariant.0
    ∙ ap (going_on (placing c.args.placed.now) c.args.section c.loop-it.read)
    (sections-first (placed_file c.args.placed.now) c.args.sections.now c.loop-it.it-index record { target = 0; number = 0 } c.entry_count.result c.loop-it-test.true c.entry_count.ensures)
    )
    (c.in_err-read_entries.ensures.exact (relocations_in (placed_file c.args.placed.now) (numbers_of (drop (c.loop-it.it-index + 1) c.args.sections.now)))))

left_at : (c : goal.In_ok-read_entries)
    → length (relocations_in (placed_file c.args.placed.now) (numbers_of (drop c.loop-it.it-index c.args.sections.now))) ≡ c.entry_count.result + length (relocations_in (placed_file c.args.placed.now) (numbers_of (drop (c.loop-it.it-index + 1) c.args.sections.now)))
left_at c = sections-length (placed_file c.args.placed.now) c.args.sections.now c.loop-it.it-index record { target = 0; number = 0 } c.entry_count.result c.loop-it-test.true c.entry_count.ensures

pub read_entries-requires-clause-few : goal.read_entries-requires-clause-few
read_entries-requires-clause-few c =
    let here = sections-length (placed_file c.args.placed.now) c.args.sections.now c.loop-it.it-index record { target = 0; number = 0 } c.entry_count.result c.loop-it-test.true c.entry_count.ensures in
    omega (arith, c.loop-it.invariant.1, here)

pub loop-it-preserved : goal.loop-it-preserved
loop-it-preserved c = (
  c.loop-it.invariant.0
      ∙ ap (going_on (placing c.args.placed.now) c.args.section c.loop-it.read)
      (sections-first (placed_file c.args.placed.now) c.args.sections.now c.loop-it.it-index record { target = 0; number = 0 } c.entry_count.result c.loop-it-test.true c.entry_count.ensures)
      ∙ c.in_ok-read_entries.ensures.exact (relocations_in (placed_file c.args.placed.now) (numbers_of (drop (c.loop-it.it-index + 1) c.args.sections.now))),
  omega (arith, c.loop-it.invariant.1, c.in_ok-read_entries.ensures.next, left_at c),
)

pub returns : goal.returns
returns c =
    c.loop-it.invariant.0
    ∙ ap (going_on (placing c.args.placed.now) c.args.section c.loop-it.read) (sections-none (placed_file c.args.placed.now) c.args.sections.now c.loop-it.it-index c.loop-it-test.false)
