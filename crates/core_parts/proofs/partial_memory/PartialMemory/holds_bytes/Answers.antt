use Rattle.std.proofs.Common.{◌<◌, List, Option, map, ap, ◌∙◌, arith}
use Rattle.core_parts.specs.declared.segment.SegmentHead.{SegmentHead}
use Rattle.sf_lookup.specs.Span.{answer_of}
use Rattle.core_parts.specs.Heads.{held_span}
use Rattle.core_parts.proofs.HeldSpans.{found_holds, found_in_file}
use Rattle.core_parts.proofs.partial_memory.PartialMemory.holds_bytes.Goals as goal

pub returns-in-Some : goal.returns-in-Some
returns-in-Some c =
    let core = c.args.self.now.core.now in
    let some : 0 < c.args.len = omega (c.if-len-eq0.false, arith) in
    c.head_holds.ensures
    ∙ ap (λ (o : Option SegmentHead). found_holds c.args.address c.args.len o) (c.in-Some.ensures ∙ ap (λ (hs : List SegmentHead). answer_of (map held_span hs) c.args.address) c.args.self.now.heads_are)
    ∙ found_in_file core c.args.address c.args.len some

pub returns-in-None : goal.returns-in-None
returns-in-None c =
    let core = c.args.self.now.core.now in
    let some : 0 < c.args.len = omega (c.if-len-eq0.false, arith) in
    ap (λ (o : Option SegmentHead). found_holds c.args.address c.args.len o) (c.in-None.ensures ∙ ap (λ (hs : List SegmentHead). answer_of (map held_span hs) c.args.address) c.args.self.now.heads_are)
    ∙ found_in_file core c.args.address c.args.len some
