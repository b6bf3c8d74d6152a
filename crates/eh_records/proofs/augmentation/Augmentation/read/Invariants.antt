use Rattle.std.proofs.Common.{◌≡◌, drop}
use Rattle.eh_records.specs.Augmentation.{augmentation_by, augmentation_view, plain_augmentation}
use Rattle.eh_records.specs.Step.{reader_cursor}
use Rattle.eh_records.proofs.augmentation.Augmentation.read.Given as goal

abbrev pub invariant-loop-letter : goal.invariant-loop-letter
invariant-loop-letter l = augmentation_by (drop l.letter-index l.letters) (augmentation_view l.augmentation) (reader_cursor l.left) ≡ augmentation_by l.letters plain_augmentation (reader_cursor l.fn.left)
