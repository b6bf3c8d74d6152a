use Rattle.std.proofs.Common.{◌≡◌, ◌++◌, ◌∷◌, [], ℕ, true, false, List, subst, sym, ap, ◌∙◌, arith}
use Rattle.elf_read.specs.Input.{file}
use Rattle.std.specs.Prelude.{All}
use Rattle.elf_place.specs.Place.{IsEhFrame, is_kept_eh_frame}
use Rattle.elf_place.proofs.EhFrames.{all_frames}
use Rattle.elf_place.proofs.Cursor.{eh_frames_below-none, eh_frames_below-more}
use Rattle.elf_place.proofs.eh_frames.eh_frames_of.Goals as goal
use Rattle.elf_place.proofs.eh_frames.eh_frames_of.Goals.{then-is_kept_eh_frame+in_ok-push, else-is_kept_eh_frame}

pub loop-i-init : goal.loop-i-init
loop-i-init c = c.new-found.ensures.items ∙ sym (eh_frames_below-none (file c.args.elf.now) c.args.dropped.now)

pub loop-i-preserved : goal.loop-i-preserved
loop-i-preserved c =
    let f = file c.args.elf.now in
    let d = c.args.dropped.now in
    let i = c.loop-i.i in
    rw (eh_frames_below-more f d i)
    (elim c.if-is_kept_eh_frame.branch [
      | then-is_kept_eh_frame+in_ok-push w ↦
          let test : is_kept_eh_frame f d i ≡ true = sym c.is_kept_eh_frame.ensures ∙ w.if-is_kept_eh_frame.true in
          rw (test, w.found-is) (w.in_ok-push.ensures.items ∙ ap (λ (xs : List ℕ). xs ++ i ∷ []) c.loop-i.invariant)
      | else-is_kept_eh_frame w ↦
          let test : is_kept_eh_frame f d i ≡ false = sym c.is_kept_eh_frame.ensures ∙ w.if-is_kept_eh_frame.false in
          rw (test, w.found-is) c.loop-i.invariant
    ])

pub returns-clause-all : goal.returns-clause-all
returns-clause-all c =
    let f = file c.args.elf.now in
    subst (All (IsEhFrame f)) (sym c.loop-i.invariant) (all_frames f c.args.dropped.now c.loop-i.i (omega (arith, c.requires.count, c.requires.all, c.loop-i.auto.i-end)))
