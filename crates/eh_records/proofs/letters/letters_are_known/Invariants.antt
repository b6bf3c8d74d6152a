use Rattle.std.proofs.Common.{◌≡◌, [], take, drop}
use Rattle.eh_records.specs.Augmentation.{are_letters}
use Rattle.eh_records.proofs.letters.letters_are_known.Given as goal

abbrev pub invariant-loop-index : goal.invariant-loop-index
invariant-loop-index l = are_letters l.arch (take l.index l.letters) (drop l.index l.letters) ≡ are_letters l.arch [] l.letters
