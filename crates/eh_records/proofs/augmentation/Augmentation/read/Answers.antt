use Rattle.std.proofs.Common.{sym, ◌∙◌, arith}
use Rattle.std.proofs.lemmas.Result.{err_from_is_err_and}
use Rattle.eh_records.specs.Augmentation.{augmentation_view}
use Rattle.eh_records.specs.Step.{reader_cursor}
use Rattle.eh_records.proofs.AugmentationDataLoop.{goes_on, stops, ends}
use Rattle.eh_records.proofs.augmentation.Augmentation.read.Goals as goal

pub returns-in_err-augmentation : goal.returns-in_err-augmentation
returns-in_err-augmentation c =
    let p = err_from_is_err_and c.from_residual.result c.from_residual.ensures.1 in
    rw (p.1, p.2) (sym c.loop-letter.invariant ∙ stops c.args.letters.now c.loop-letter.letter-index (augmentation_view c.loop-letter.augmentation) (reader_cursor c.loop-letter.left) c.in_err-augmentation.field-0.0 c.loop-letter-test.true c.in_err-augmentation.ensures)

pub loop-letter-preserved : goal.loop-letter-preserved
loop-letter-preserved c =
    sym (goes_on c.args.letters.now c.loop-letter.letter-index (augmentation_view c.loop-letter.augmentation) (reader_cursor c.loop-letter.left) (augmentation_view c.in_ok-augmentation.augmentation) (reader_cursor c.read_letter.new.left) c.loop-letter-test.true c.in_ok-augmentation.ensures) ∙ c.loop-letter.invariant

pub returns : goal.returns
returns c =
    sym c.loop-letter.invariant ∙ ends c.args.letters.now c.loop-letter.letter-index (augmentation_view c.loop-letter.augmentation) (reader_cursor c.loop-letter.left) (omega arith)
