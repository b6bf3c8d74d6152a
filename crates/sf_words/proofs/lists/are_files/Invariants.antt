use Rattle.std.proofs.Common.{All, take}
use Rattle.std.specs.String.{string_bytes}
use Rattle.sf_words.proofs.lists.are_files.Given as goal

abbrev pub invariant-loop-word : goal.invariant-loop-word
invariant-loop-word g l = All (λ word. (file : g.F.FileWord.Said) × g.F.FileWord.Says (string_bytes word) file) (take l.word-index l.words)
