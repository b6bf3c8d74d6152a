use Rattle.std.proofs.Common.{sym}
use Rattle.sf_fakes.specs.Pairs.{pairs_of}
use Rattle.sf_fakes.proofs.Lookups.{lacking}
use Rattle.sf_fakes.proofs.lookup.bytes_of.Goals as goal

pub returns-in-None : goal.returns-in-None
returns-in-None c = sym (lacking (pairs_of c.args.files.now) c.args.name.now (sym c.in-None.ensures.found))
