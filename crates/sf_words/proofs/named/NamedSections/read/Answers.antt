use Rattle.std.proofs.Common.{map, refl}
use Rattle.std.specs.String.{string_bytes}
use Rattle.sf_words.specs.Words.{IsSectionWord}
use Rattle.sf_words.specs.OneReading.{one_section, section_code, the_list}
use Rattle.sf_words.proofs.NamedWords.{are_named, known_named}
use Rattle.sf_words.proofs.named.NamedSections.read.Goals as goal

pub returns-then-not-are_files-clause-only : goal.returns-then-not-are_files-clause-only
returns-then-not-are_files-clause-only c sections h = let are = c.if-not-are_files.ensures.only sections h in cc

pub invariant_of-result : goal.invariant_of-result
invariant_of-result c = record { said = are_named string_bytes IsSectionWord c.args.words.now (c.if-not-are_files.ensures.all refl) }

pub returns-clause-found : goal.returns-clause-found
returns-clause-found c = known_named section_code string_bytes IsSectionWord one_section c.args.words.now (c.if-not-are_files.ensures.all refl) c.result-1.given.0

pub returns-clause-only : goal.returns-clause-only
returns-clause-only c sections h = the_list section_code IsSectionWord one_section (map string_bytes c.args.words.now) c.result-1.given.0 sections h
