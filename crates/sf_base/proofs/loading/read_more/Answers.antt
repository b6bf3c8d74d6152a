use Rattle.std.proofs.Common.{◌≡◌, ◌≤◌, ◌+◌, length, take, rules}
use Rattle.std.proofs.lemmas.Option.{IfSome_then}
use Rattle.sf_base.proofs.Behind.{moved_behind}
use Rattle.sf_base.proofs.loading.read_more.Goals as goal

pub returns-clause-moved : goal.returns-clause-moved
returns-clause-moved g c =
    let rest = g.F.Files.rest c.args.files.now in
    let left = g.F.Files.rest c.read.new.self in
    let f = c.len-filled.result in
    let n = c.in_ok-n.n in
    let long : f ≡ length c.args.bytes.now.items = search rules in
    let short : n ≤ length c.read.new.buf = search rules in
    let kept : take f c.fill_up.new.bytes.items ≡ c.args.bytes.now.items = search rules in
    let room : f + n ≤ c.fill_up.new.bytes.len = search rules in
    IfSome_then ((g.F.Files.seen c.args.files.now).contents) c.in_ok-n.ensures.moves (λ told moves.
    moved_behind f n _ c.args.bytes.now.items c.deref_mut.result.now c.fill_up.new.bytes.items c.read.new.buf _ _ c.truncate.new.self.items rest left
    c.truncate.ensures.items c.deref_mut.ensures.value kept long short room moves)
