use Rattle.std.proofs.Common.{get_or, refl, rules}
use Rattle.sf_fakes.specs.Pairs.{pairs_of, name_at}
use Rattle.sf_fakes.proofs.Lookups.{set_same, append_there}
use Rattle.sf_fakes.proofs.lookup.append_to.Goals as goal

pub returns-in_err-extend_from_slice-clause-err : goal.returns-in_err-extend_from_slice-clause-err
returns-in_err-extend_from_slice-clause-err c =
    let files = c.args.files.now in
    let first = c.first_like-first.result in
    let file = get_or files first c.index-files-first.result in
    let same = set_same files first c.index-files-first.result (file.0, c.extend_from_slice.new.self) c.first_like-first.ensures.below refl c.in_err-extend_from_slice.ensures.items in
    search rules

pub returns-clause-ok : goal.returns-clause-ok
returns-clause-ok c =
    let files = c.args.files.now in
    let first = c.first_like-first.result in
    let file = get_or files first c.index-files-first.result in
    append_there files (name_at (pairs_of files) c.args.place) first c.args.piece.now c.index-files-first.result (file.0, c.extend_from_slice.new.self)
    c.first_like-first.ensures.first refl c.in_ok-extend_from_slice.ensures.items
