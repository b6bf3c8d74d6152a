use Rattle.std.proofs.Common.{◌≡◌, false, length, ◌∙◌, arith}
use Rattle.std.proofs.lemmas.List.{take_at}
use Rattle.elf_read.specs.Sections.{section_count}
use Rattle.elf_read.specs.Input.{file}
use Rattle.elf_place.specs.Dropped.{is_dropped}
use Rattle.elf_place.proofs.Values.{are_values_below}
use Rattle.elf_place.proofs.dropped.dropped_sections.Goals as goal

pub returns-clause-items : goal.returns-clause-items
returns-clause-items c =
    let len : length c.mark_groups.new.dropped ≡ c.in_ok-dropped.dropped.len = omega arith in
    let all : length c.mark_groups.new.dropped ≡ section_count (file c.args.elf.now) = omega (arith, c.in_ok-dropped.ensures.len, c.sections.ensures) in
    take_at c.mark_groups.new.dropped _ c.in_ok-dropped.dropped.len len
    ∙ are_values_below (section_count (file c.args.elf.now)) (is_dropped (file c.args.elf.now) c.args.gone.now) c.mark_groups.new.dropped false all
    (λ i within. c.mark_groups.ensures i (omega arith))
