use Rattle.std.proofs.Common.{◌<◌, All, length, take}
use Rattle.std.specs.String.{string_bytes}
use Rattle.sf_words.proofs.lists.are_named.Given as goal

abbrev pub invariant-loop-word : goal.invariant-loop-word
invariant-loop-word l = All (λ word. 0 < length (string_bytes word)) (take l.word-index l.words)
