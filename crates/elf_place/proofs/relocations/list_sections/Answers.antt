use Rattle.std.proofs.Common.{◌≡◌, ◌++◌, ◌∷◌, [], true, false, List, sym, ap, ◌∙◌, rules}
use Rattle.elf_read.specs.Input.{file}
use Rattle.elf_place.specs.Relocations.{has_relocations, as_listed}
use Rattle.elf_place.specs.declared.relocations.RelocationSection.{RelocationSection}
use Rattle.elf_place.proofs.WithTarget.{listed_below-none, listed_below-more}
use Rattle.elf_place.proofs.relocations.list_sections.Goals as goal
use Rattle.elf_place.proofs.relocations.list_sections.Goals.{then-has_relocations+in_ok-push, else-has_relocations}

pub loop-i-init : goal.loop-i-init
loop-i-init c = c.new-list.ensures.items ∙ sym (listed_below-none (file c.args.elf.now))

pub loop-i-preserved : goal.loop-i-preserved
loop-i-preserved c =
    let f = file c.args.elf.now in
    let i = c.loop-i.i in
    rw (listed_below-more f i)
    (elim c.if-has_relocations.branch [
      | then-has_relocations+in_ok-push w ↦
          let test : has_relocations f i ≡ true = sym c.has_relocations.ensures ∙ w.if-has_relocations.true in
          rw (test, w.list-is)
          (
          w.in_ok-push.ensures.items
          ∙ ap (λ (s : RelocationSection). c.loop-i.list.items ++ s ∷ []) (search rules)
          ∙ ap (λ (xs : List RelocationSection). xs ++ as_listed f i ∷ []) c.loop-i.invariant
          )
      | else-has_relocations w ↦
          let test : has_relocations f i ≡ false = sym c.has_relocations.ensures ∙ w.if-has_relocations.false in
          rw (test, w.list-is) c.loop-i.invariant
    ])
