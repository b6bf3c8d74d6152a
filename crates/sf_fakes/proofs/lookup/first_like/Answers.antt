use Rattle.std.proofs.Common.{◌∙◌, Some, sym, ap}
use Rattle.sf_fakes.proofs.Lookups.{first_there, name_is}
use Rattle.sf_fakes.proofs.lookup.first_like.Goals as goal

pub returns-clause-first : goal.returns-clause-first
returns-clause-first c =
    let files = c.args.files.now in
    let named = name_is files c.args.place c.index-files-place.result c.requires in
    first_there files c.args.place c.find_file.result c.as_str-name.result.now c.requires (c.as_str-name.ensures.value ∙ named) c.find_file.ensures.place ∙ ap (λ n. Some n) (sym c.unwrap_or.ensures)
