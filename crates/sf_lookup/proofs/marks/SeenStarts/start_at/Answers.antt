use Rattle.std.proofs.Common.{◌<◌, get_or, length, sym, ◌∙◌, arith}
use Rattle.std.proofs.lemmas.List.{get_or-map, length-map}
use Rattle.sf_lookup.specs.Mark.{start_seen}
use Rattle.sf_lookup.proofs.Nearing.{seen_after, seen_before, seen_here}
use Rattle.sf_lookup.proofs.marks.SeenStarts.start_at.Goals as goal

pub returns-then-mark-self-clause-value : goal.returns-then-mark-self-clause-value
returns-then-mark-self-clause-value g c =
    let seen = c.args.self.now in
    let m = c.index-self-i.result in
    let within : c.args.i < length seen.marks.now = omega (c.requires, length-map seen.marks.now (start_seen seen.function), arith) in
    sym (get_or-map (start_seen seen.function) seen.marks.now c.args.i m 0 within ∙ seen_before seen.function (get_or seen.marks.now c.args.i m) c.if-mark-self.true)

pub returns-then-self-mark-clause-value : goal.returns-then-self-mark-clause-value
returns-then-self-mark-clause-value g c =
    let seen = c.args.self.now in
    let m = c.index-self-i.result in
    let within : c.args.i < length seen.marks.now = omega (c.requires, length-map seen.marks.now (start_seen seen.function), arith) in
    sym (get_or-map (start_seen seen.function) seen.marks.now c.args.i m 0 within ∙ seen_after seen.function (get_or seen.marks.now c.args.i m) c.if-self-mark.true)

pub returns-else-self-mark-clause-value : goal.returns-else-self-mark-clause-value
returns-else-self-mark-clause-value g c =
    let seen = c.args.self.now in
    let m = c.index-self-i.result in
    let within : c.args.i < length seen.marks.now = omega (c.requires, length-map seen.marks.now (start_seen seen.function), arith) in
    c.from.ensures
    ∙ sym (get_or-map (start_seen seen.function) seen.marks.now c.args.i m 0 within ∙ seen_here seen.function (get_or seen.marks.now c.args.i m) (omega (c.if-mark-self.false, c.if-self-mark.false, arith)))
