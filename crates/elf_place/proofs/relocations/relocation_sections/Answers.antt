use Rattle.std.proofs.Common.{◌∙◌, ap, List}
use Rattle.elf_read.specs.Input.{file}
use Rattle.elf_place.specs.Relocations.{numbers_of, with_target, relocation_sections_below}
use Rattle.elf_place.specs.declared.relocations.RelocationSection.{RelocationSection}
use Rattle.elf_place.proofs.WithTarget.{listed_has_all, stable_keeps}
use Rattle.elf_place.proofs.relocations.relocation_sections.Goals as goal

pub returns-clause-all : goal.returns-clause-all
returns-clause-all c = λ target.
    ap (λ (xs : List RelocationSection). numbers_of xs) (stable_keeps target _ _ c.in_ok-sort_by_target.ensures.stable)
    ∙ ap (λ (xs : List RelocationSection). numbers_of (with_target target xs)) c.in_ok-list.ensures
    ∙ listed_has_all (file c.args.elf.now) target c.args.count
    ∙ ap (relocation_sections_below (file c.args.elf.now) target) c.requires
