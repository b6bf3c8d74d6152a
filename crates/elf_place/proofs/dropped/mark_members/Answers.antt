use Rattle.std.proofs.Common.{ℕ, List, ◌||◌, ◌==◌, Bool, false, get_or, sym, ap, ◌∙◌, arith}
use Rattle.elf_read.specs.Input.{file}
use Rattle.elf_place.specs.Dropped.{is_member}
use Rattle.elf_place.proofs.Marks.{or_false, is_member-none, is_member-more, marked, unmarked}
use Rattle.elf_place.proofs.dropped.mark_members.Goals as goal
use Rattle.elf_place.proofs.dropped.mark_members.Goals.{then-member-dropped, else-member-dropped}

pub loop-k-init : goal.loop-k-init
loop-k-init c = λ i within.
    or_false (get_or c.args.dropped.now i false)
    ∙ ap (λ (z : Bool). get_or c.args.dropped.now i false || z) (sym (is_member-none (file c.args.elf.now) c.args.group i))

pub loop-k-preserved : goal.loop-k-preserved
loop-k-preserved c = λ i within.
    rw (is_member-more (file c.args.elf.now) c.args.group c.loop-k.k i)
    (elim c.if-member-dropped.branch [
      | then-member-dropped w ↦
          ap (λ (xs : List Bool). get_or xs i false) w.dropped-is
          ∙ marked c.loop-k.dropped c.member-member.result i (get_or c.args.dropped.now i false) (is_member (file c.args.elf.now) c.args.group c.loop-k.k i) (omega arith) (c.loop-k.invariant i within)
          ∙ ap (λ (m : ℕ). get_or c.args.dropped.now i false || (is_member (file c.args.elf.now) c.args.group c.loop-k.k i || (m == i))) c.member-member.ensures
      | else-member-dropped w ↦
          ap (λ (xs : List Bool). get_or xs i false) w.dropped-is
          ∙ unmarked c.loop-k.dropped c.member-member.result i (get_or c.args.dropped.now i false) (is_member (file c.args.elf.now) c.args.group c.loop-k.k i) (omega arith) w.if-member-dropped.false (c.loop-k.invariant i within)
          ∙ ap (λ (m : ℕ). get_or c.args.dropped.now i false || (is_member (file c.args.elf.now) c.args.group c.loop-k.k i || (m == i))) c.member-member.ensures
    ])
