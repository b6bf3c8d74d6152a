use Rattle.std.proofs.Common.{length, ap, rules}
use Rattle.sf_fakes.proofs.Lookups.{bytes_is}
use Rattle.sf_fakes.proofs.reading.len_at.Goals as goal

pub returns : goal.returns
returns c =
    let is = ap length (bytes_is c.args.files.now c.args.place c.index-files-place.result c.requires) in
    search (rules, is)
