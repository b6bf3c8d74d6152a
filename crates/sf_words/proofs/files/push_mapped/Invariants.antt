use Rattle.std.proofs.Common.{◌≡◌, ◌++◌, map, take}
use Rattle.std.specs.String.{string_bytes}
use Rattle.sf_words.specs.Items.{Mapped, item_of}
use Rattle.sf_words.proofs.files.push_mapped.Given as goal

abbrev pub invariant-loop-name : goal.invariant-loop-name
invariant-loop-name l = map item_of l.items.items ≡ map item_of l.initial.items.items ++ map Mapped (map string_bytes (take l.name-index l.names))
