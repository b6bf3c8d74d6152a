use Rattle.std.specs.String.{string_bytes}
use Rattle.sf_words.specs.Words.{IsSectionWord}
use Rattle.sf_words.proofs.NamedWords.{named_count}
use Rattle.sf_words.proofs.named.NamedSections.len.Goals as goal

pub returns : goal.returns
returns c = named_count string_bytes IsSectionWord c.args.self.now.words.now c.args.self.now.said
