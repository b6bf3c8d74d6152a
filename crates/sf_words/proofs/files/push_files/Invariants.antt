use Rattle.std.proofs.Common.{◌≡◌, ◌++◌, map, take}
use Rattle.std.specs.String.{string_bytes}
use Rattle.sf_words.specs.Items.{item_of}
use Rattle.sf_words.specs.Naming.{FilesNamed}
use Rattle.sf_words.proofs.files.push_files.Given as goal

abbrev pub invariant-loop-index : goal.invariant-loop-index
invariant-loop-index g l =
    (named : FilesNamed g.F.FileWord.Says (map string_bytes l.words)) → map item_of l.items.items ≡ map item_of l.initial.items.items ++ map g.F.FileWord.item_said (take l.index named.0)
