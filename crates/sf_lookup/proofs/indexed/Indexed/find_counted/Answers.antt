use Rattle.std.proofs.Common.{◌∙◌}
use Rattle.sf_lookup.specs.Indexed.{indexed_table}
use Rattle.sf_lookup.proofs.FoundRows.{nothing_found}
use Rattle.sf_lookup.proofs.indexed.Indexed.find_counted.Goals as goal

pub returns-in_err-i-clause-found : goal.returns-in_err-i-clause-found
returns-in_err-i-clause-found g c = c.from_residual.ensures ∙ nothing_found (indexed_table c.args.self.now).functions c.args.pc c.in_err-i.ensures.first
