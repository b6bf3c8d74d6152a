use Rattle.std.proofs.Common.{arith, ◌^◌, sym, ◌∙◌}
use Rattle.core_parts.proofs.SegmentReads.{bounds, found_lies}
use Rattle.core_parts.proofs.memory.PartMemory.place_at.Goals as goal

pub overflow_add-result : goal.overflow_add-result
overflow_add-result c =
    let memory = c.args.self.now in
    let head = c.in_ok-head.head in
    let within = bounds c.args.address c.args.len head (sym c.head_holds.ensures ∙ c.if-not-head_holds.false) in
    let end = found_lies memory.heads.now (2 ^ 64) c.args.address head memory.lie c.in_ok-head.ensures in
    record { fits = omega (arith, c.requires, within.0, within.1, end) }
