use Rattle.std.proofs.Common.{◌∙◌}
use Rattle.sf_fakes.proofs.Lookups.{name_is}
use Rattle.sf_fakes.proofs.lookup.name_in.Goals as goal

pub returns : goal.returns
returns c = c.as_str.ensures.value ∙ name_is c.args.files.now c.args.place c.index-files-place.result c.requires
