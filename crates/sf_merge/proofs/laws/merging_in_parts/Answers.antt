use Rattle.sf_merge.proofs.InParts.{in_parts}
use Rattle.sf_merge.proofs.PartsCan.{none_for_the_whole, only_too_far}
use Rattle.sf_merge.proofs.laws.merging_in_parts.Goals as goal

pub returns-clause-same : goal.returns-clause-same
returns-clause-same c = in_parts

pub returns-clause-partial : goal.returns-clause-partial
returns-clause-partial c = only_too_far

pub returns-clause-whole : goal.returns-clause-whole
returns-clause-whole c = none_for_the_whole
