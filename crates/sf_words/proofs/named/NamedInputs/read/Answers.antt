use Rattle.std.proofs.Common.{map, refl}
use Rattle.std.specs.String.{string_bytes}
use Rattle.sf_words.specs.Words.{IsInputWord}
use Rattle.sf_words.specs.OneReading.{one_input, input_code, the_list}
use Rattle.sf_words.proofs.NamedWords.{are_named, known_named}
use Rattle.sf_words.proofs.named.NamedInputs.read.Goals as goal

pub returns-then-not-are_files-clause-only : goal.returns-then-not-are_files-clause-only
returns-then-not-are_files-clause-only c inputs h = let are = c.if-not-are_files.ensures.only inputs h in cc

pub invariant_of-result : goal.invariant_of-result
invariant_of-result c = record { said = are_named string_bytes IsInputWord c.args.words.now (c.if-not-are_files.ensures.all refl) }

pub returns-clause-found : goal.returns-clause-found
returns-clause-found c = known_named input_code string_bytes IsInputWord one_input c.args.words.now (c.if-not-are_files.ensures.all refl) c.result-1.given.0

pub returns-clause-only : goal.returns-clause-only
returns-clause-only c inputs h = the_list input_code IsInputWord one_input (map string_bytes c.args.words.now) c.result-1.given.0 inputs h
