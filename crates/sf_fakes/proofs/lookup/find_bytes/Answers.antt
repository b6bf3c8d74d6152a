use Rattle.std.proofs.Common.{◌≡◌, ◌∙◌, get_or, sym}
use Rattle.sf_base.specs.Contents.{contents_of}
use Rattle.sf_fakes.specs.Pairs.{pairs_of}
use Rattle.sf_fakes.proofs.Lookups.{found_bytes}
use Rattle.sf_fakes.proofs.lookup.find_bytes.Goals as goal

pub returns-clause-bytes : goal.returns-clause-bytes
returns-clause-bytes c =
    let file = c.index-files-place.result in
    let there : (get_or c.args.files.now c.in_ok-place.place file).1.items ≡ contents_of (pairs_of c.args.files.now) c.args.name.now
    = found_bytes c.args.files.now c.args.name.now c.in_ok-place.place file (sym c.in_ok-place.ensures.place) in
    c.as_slice.ensures.value ∙ there
