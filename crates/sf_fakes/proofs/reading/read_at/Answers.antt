use Rattle.std.proofs.Common.{◌≡◌, ◌∙◌, ◌-◌, List, ℕ, length, min, take, drop, ap}
use Rattle.sf_fakes.specs.Pairs.{pairs_of, contents_at}
use Rattle.sf_fakes.proofs.Left.{left_from}
use Rattle.sf_fakes.proofs.Lookups.{bytes_is}
use Rattle.sf_fakes.proofs.reading.read_at.Goals as goal

-- the part that is copied from is what is left
part_is : (bytes file : List ℕ) (done start : ℕ) → start ≡ min done (length bytes) → bytes ≡ file → take (length bytes - start) (drop start bytes) ≡ drop done file
part_is bytes file done start capped same =
    ap (λ n. take (length bytes - n) (drop n bytes)) capped ∙ (left_from done bytes ∙ ap (λ xs. drop done xs) same)

pub returns-clause-count : goal.returns-clause-count
returns-clause-count c =
    let is = bytes_is c.args.files.now c.args.place c.index-files-place.result c.requires in
    c.copy_front.ensures.count ∙ ap (λ xs. min (min (length xs) (length c.args.buf.now)) c.args.most)
    (part_is c.as_slice-bytes.result.now (contents_at (pairs_of c.args.files.now) c.args.place) c.args.done c.min.result c.min.ensures (c.as_slice-bytes.ensures.value ∙ is))

pub returns-clause-copied : goal.returns-clause-copied
returns-clause-copied c =
    let is = bytes_is c.args.files.now c.args.place c.index-files-place.result c.requires in
    c.copy_front.ensures.copied ∙ ap (λ xs. take c.copy_front.result xs)
    (part_is c.as_slice-bytes.result.now (contents_at (pairs_of c.args.files.now) c.args.place) c.args.done c.min.result c.min.ensures (c.as_slice-bytes.ensures.value ∙ is))
