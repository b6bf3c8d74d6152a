use Rattle.std.proofs.Common.{◌∙◌, ◌+◌, Option, min, length, take, drop, sym, subst, ap}
use Rattle.sf_base.specs.Contents.{Moves}
use Rattle.sf_fakes.specs.Pairs.{pairs_of, contents_at}
use Rattle.sf_fakes.specs.Reading.{rest_at}
use Rattle.sf_fakes.specs.declared.reading.Reading.{Reading}
use Rattle.sf_fakes.proofs.Left.{moves_on}
use Rattle.sf_fakes.proofs.mem_files.MemFilesFiles.read.Goals as goal

pub returns-in-Some-clause-moves : goal.returns-in-Some-clause-moves
returns-in-Some-clause-moves c =
    let files = pairs_of c.args.self.now.files.items in
    let reading = c.in-Some.reading in
    let n = c.read_at-n.result in
    let P : Option Reading → Type 0 = λ o. Moves n (rest_at files o) (drop (reading.done + n) (contents_at files reading.place)) c.read_at-n.new.buf in
    subst P (sym c.in-Some.is) (moves_on n reading.done (contents_at files reading.place) c.read_at-n.new.buf (length c.args.buf.now) c.args.self.now.most
    (c.read_at-n.ensures.count ∙ ap (λ fs. min (min (length (drop reading.done (contents_at (pairs_of fs) reading.place))) (length c.args.buf.now)) c.args.self.now.most) c.deref.ensures.value)
    (c.read_at-n.ensures.copied ∙ ap (λ fs. take n (drop reading.done (contents_at (pairs_of fs) reading.place))) c.deref.ensures.value)
    c.requires.room c.args.self.now.some)
