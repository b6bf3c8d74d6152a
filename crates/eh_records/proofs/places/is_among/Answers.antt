use Rattle.std.proofs.Common.{◌∙◌}
use Rattle.std.proofs.lemmas.List.Sorted.{searched}
use Rattle.eh_records.proofs.RisingPlaces.{found}
use Rattle.eh_records.proofs.places.is_among.Goals as goal

pub returns : goal.returns
returns c = c.is_ok.ensures.value ∙ found c.args.places.now c.args.place c.binary_search.result (searched c.args.places.now c.args.place c.binary_search.result c.binary_search.ensures.position c.requires)
