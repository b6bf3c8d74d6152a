use Rattle.std.proofs.Common.{◌≡◌, ◌<◌, ◌-◌, Some, take, drop, ap, ◌∙◌, sym, length, map, arith}
use Rattle.core_parts.specs.Read.{first_span}
use Rattle.core_parts.proofs.Blocks.{all_read, found_in}
use Rattle.core_parts.proofs.memory.PartMemory.bytes_at.Goals as goal

pub overflow_sub-place : goal.overflow_sub-place
overflow_sub-place c =
    let memory = c.args.self.now in
    let is = found_in memory.blocks.items c.in_ok-place.place c.in_ok-block.block (c.in_ok-block.ensures (map first_span memory.blocks.items) memory.firsts_ordered) in
    is.low

pub split_at-requires : goal.split_at-requires
split_at-requires c =
    let memory = c.args.self.now in
    let is = found_in memory.blocks.items c.in_ok-place.place c.in_ok-block.block (c.in_ok-block.ensures (map first_span memory.blocks.items) memory.firsts_ordered) in
    omega (is.low, is.high, arith)

pub returns : goal.returns
returns c =
    let memory = c.args.self.now in
    let block = c.in_ok-block.block in
    let place = c.in_ok-place.place in
    let some : 0 < c.args.len = omega (c.if-len-eq0.false, arith) in
    let rest : c.split_at.result.1.now ≡ drop (place - block.place) block.bytes.now = c.split_at.ensures.back in
    let len : length c.split_at.result.1.now ≡ length (drop (place - block.place) block.bytes.now) = ap length rest in (
      some,
      all_read memory.heads.now memory.blocks.items c.args.address place memory.rise c.args.len block some c.in_ok-place.ensures (c.in_ok-block.ensures (map first_span memory.blocks.items) memory.firsts_ordered)
          (omega (c.if-rest-len.false, len, arith))
          ∙ ap (λ bytes. Some (take c.args.len bytes)) (sym rest) ∙ ap (λ bytes. Some bytes) (sym c.split_at-2.ensures.front),
    )
