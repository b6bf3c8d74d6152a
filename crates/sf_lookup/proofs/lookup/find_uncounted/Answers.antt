use Rattle.std.proofs.Common.{◌∙◌}
use Rattle.sf_decode.specs.View.{table_of}
use Rattle.sf_lookup.proofs.FoundRows.{nothing_found}
use Rattle.sf_lookup.proofs.lookup.find_uncounted.Goals as goal

pub returns-in_err-i-clause-found : goal.returns-in_err-i-clause-found
returns-in_err-i-clause-found g c = c.from_residual.ensures ∙ nothing_found (table_of c.args.view.now).functions c.args.pc c.in_err-i.ensures.first
