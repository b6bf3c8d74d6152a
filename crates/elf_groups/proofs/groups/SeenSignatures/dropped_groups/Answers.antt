use Rattle.elf_groups.proofs.Listed.{none_listed, none_seen, one_listed, one_seen, one_stays}
use Rattle.std.proofs.Common.{◌≡◌, ℕ, Vec, Global, ap, sym, subst, ◌∙◌, arith}
use Rattle.elf_read.specs.Sections.{section_count}
use Rattle.elf_groups.specs.Groups.{seen_below}
use Rattle.elf_read.specs.Input.{file}
use Rattle.elf_groups.specs.SeenSignatures.{HasSeen}
use Rattle.elf_groups.proofs.groups.SeenSignatures.dropped_groups.Goals as goal
use Rattle.elf_groups.proofs.groups.SeenSignatures.dropped_groups.Goals.{then-branch+in_ok-push, else-branch}

pub loop-i-init : goal.loop-i-init
loop-i-init c = record {
  dropped = λ seen h. c.new-dropped.ensures.items ∙ sym (none_listed seen (file c.args.elf.now));
  seen = λ seen h. subst (HasSeen c.args.self.now) (sym (none_seen seen (file c.args.elf.now))) h;
  texts = λ seen h. c.new-texts.ensures (file c.args.elf.now) c.args.self.now.blocks;
}

pub loop-i-preserved : goal.loop-i-preserved
loop-i-preserved c =
    elim c.if-branch.branch [
      | then-branch+in_ok-push w ↦ record {
        dropped = λ seen h.
            ap (λ (v : Vec ℕ Global). v.items) w.dropped-is ∙ w.in_ok-push.ensures.items
            ∙ one_listed seen (file c.args.elf.now) c.loop-i.i c.loop-i.dropped.items (c.loop-i.invariant.dropped seen h) (sym (c.in_ok-is_dropped.ensures.dropped (seen_below seen (file c.args.elf.now) c.loop-i.i) (c.loop-i.invariant.seen seen h) (c.loop-i.invariant.texts seen h)) ∙ w.if-branch.true);
        seen = λ seen h. subst (HasSeen c.is_dropped.new.self) (one_seen seen (file c.args.elf.now) c.loop-i.i) (c.in_ok-is_dropped.ensures.seen (seen_below seen (file c.args.elf.now) c.loop-i.i) (c.loop-i.invariant.seen seen h) (c.loop-i.invariant.texts seen h));
        texts = λ seen h. c.in_ok-is_dropped.ensures.texts (seen_below seen (file c.args.elf.now) c.loop-i.i) (c.loop-i.invariant.seen seen h) (c.loop-i.invariant.texts seen h);
      }
      | else-branch w ↦ record {
        dropped = λ seen h.
            ap (λ (v : Vec ℕ Global). v.items) w.dropped-is
            ∙ one_stays seen (file c.args.elf.now) c.loop-i.i c.loop-i.dropped.items (c.loop-i.invariant.dropped seen h) (sym (c.in_ok-is_dropped.ensures.dropped (seen_below seen (file c.args.elf.now) c.loop-i.i) (c.loop-i.invariant.seen seen h) (c.loop-i.invariant.texts seen h)) ∙ w.if-branch.false);
        seen = λ seen h. subst (HasSeen c.is_dropped.new.self) (one_seen seen (file c.args.elf.now) c.loop-i.i) (c.in_ok-is_dropped.ensures.seen (seen_below seen (file c.args.elf.now) c.loop-i.i) (c.loop-i.invariant.seen seen h) (c.loop-i.invariant.texts seen h));
        texts = λ seen h. c.in_ok-is_dropped.ensures.texts (seen_below seen (file c.args.elf.now) c.loop-i.i) (c.loop-i.invariant.seen seen h) (c.loop-i.invariant.texts seen h);
      }
    ]

pub returns-clause-seen : goal.returns-clause-seen
returns-clause-seen c = λ seen h.
    let all : c.loop-i.i ≡ section_count (file c.args.elf.now) = omega (arith, c.sections-i-end.ensures, c.loop-i-test.false) in
    subst (λ (n : ℕ). HasSeen c.loop-i.self (seen_below seen (file c.args.elf.now) n)) all (c.loop-i.invariant.seen seen h)
