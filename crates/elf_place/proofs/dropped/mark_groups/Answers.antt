use Rattle.std.proofs.Common.{◌||◌, Bool, get_or, sym, ap, ◌∙◌, arith}
use Rattle.elf_read.specs.Input.{file}
use Rattle.elf_place.specs.Dropped.{is_named}
use Rattle.elf_place.proofs.Marks.{is_dropped-none, is_dropped-more}
use Rattle.elf_place.proofs.dropped.mark_groups.Goals as goal

pub loop-group-init : goal.loop-group-init
loop-group-init c = λ i within. c.requires i within ∙ sym (is_dropped-none (file c.args.elf.now) c.args.gone.now i)

pub loop-group-preserved : goal.loop-group-preserved
loop-group-preserved c = λ i within.
    rw (is_dropped-more (file c.args.elf.now) c.args.gone.now c.loop-group.group-index i c.loop-group-test.true)
    (c.mark_group.ensures i (omega arith) ∙ ap (λ (z : Bool). z || is_named (file c.args.elf.now) (get_or c.args.gone.now c.loop-group.group-index 0) i) (c.loop-group.invariant i within))
