use Rattle.std.specs.List.{filter}
use Rattle.std.proofs.Common.{◌≡◌, ◌+◌, List, ℕ, Option, true, false, sym, ap, ◌∙◌}
use Rattle.elf_read.specs.Sections.{segment_total}
use Rattle.elf_read.specs.Views.{file}
use Rattle.core_notes.proofs.Numbered.{starts}
use Rattle.elf_load.specs.Segments.{can_be_of, only_one}
use Rattle.elf_load.proofs.Numbers.{first_one, leaves_out, only_with, passing_from, takes_in}
use Rattle.elf_load.proofs.segments.mapped_segment.Goals as goal
use Rattle.elf_load.proofs.segments.mapped_segment.Goals.{then-can_be_of+else-is_some, else-can_be_of}

pub loop-i-init : goal.loop-i-init
loop-i-init c =
    starts (λ (ns : List ℕ). only_one (filter (can_be_of c.args.page c.args.offset (file c.args.elf.now)) ns)) c.args.count (segment_total (file c.args.elf.now)) c.requires.count

pub loop-i-preserved : goal.loop-i-preserved
loop-i-preserved c =
    let p = can_be_of c.args.page c.args.offset (file c.args.elf.now) in
    let n = c.args.count in
    let i = c.loop-i.i in
    elim c.if-can_be_of.branch [
      | then-can_be_of+else-is_some w ↦
          let test : p i ≡ true = sym c.can_be_of.ensures ∙ w.if-can_be_of.true in
          ap (λ (found : Option ℕ). only_with found (passing_from p n (i + 1))) w.found-is
          ∙ sym (first_one c.loop-i.found i (passing_from p n (i + 1)) (sym w.is_some.ensures ∙ w.if-is_some.false))
          ∙ ap (only_with c.loop-i.found) (sym (takes_in p n i c.loop-i-test.true test))
          ∙ c.loop-i.invariant
      | else-can_be_of w ↦
          let test : p i ≡ false = sym c.can_be_of.ensures ∙ w.if-can_be_of.false in
          ap (λ (found : Option ℕ). only_with found (passing_from p n (i + 1))) w.found-is
          ∙ ap (only_with c.loop-i.found) (sym (leaves_out p n i c.loop-i-test.true test))
          ∙ c.loop-i.invariant
    ]
