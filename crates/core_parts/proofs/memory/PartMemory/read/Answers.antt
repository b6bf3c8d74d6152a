use Rattle.std.proofs.Common.{ℕ, Some, ap, map, ◌∙◌, arith}
use Rattle.core_parts.specs.PartMemory.{part_regions}
use Rattle.core_parts.specs.Read.{eight_span}
use Rattle.core_parts.proofs.Blocks.{eight_bounds, eight_read, no_eight, no_place, past_all}
use Rattle.core_parts.proofs.memory.PartMemory.read.Goals as goal

pub returns-then-address : goal.returns-then-address
returns-then-address c = past_all (part_regions c.args.self.now) c.args.address (omega (c.if-address.true, arith))

pub returns-in_err-place : goal.returns-in_err-place
returns-in_err-place c =
    let memory = c.args.self.now in
    c.from_residual.ensures ∙ no_place memory.heads.now memory.blocks.items c.args.address memory.rise (omega (c.if-address.false, arith)) c.in_err-place.ensures

pub returns-in_err-block : goal.returns-in_err-block
returns-in_err-block c =
    let memory = c.args.self.now in
    c.from_residual-in_err-block.ensures
    ∙ no_eight memory.heads.now memory.blocks.items c.args.address c.in_ok-place.place memory.rise (omega (c.if-address.false, arith)) c.in_ok-place.ensures
    (c.in_err-block.ensures (map eight_span memory.blocks.items) memory.eights_ordered)

pub overflow_sub-place : goal.overflow_sub-place
overflow_sub-place c =
    let memory = c.args.self.now in
    let within =
    eight_bounds memory.heads.now memory.blocks.items c.args.address c.in_ok-place.place memory.rise c.in_ok-block.block (c.in_ok-block.ensures (map eight_span memory.blocks.items) memory.eights_ordered) in
    within.0

pub returns : goal.returns
returns c =
    let memory = c.args.self.now in
    ap (λ (n : ℕ). Some n) c.u64_at.ensures
    ∙ eight_read memory.heads.now memory.blocks.items c.args.address c.in_ok-place.place memory.rise c.in_ok-block.block (omega (c.if-address.false, arith)) c.in_ok-place.ensures
    (c.in_ok-block.ensures (map eight_span memory.blocks.items) memory.eights_ordered)
