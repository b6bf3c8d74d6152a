use Rattle.std.proofs.Common.{◌≡◌, map, sym, ap, ◌∙◌}
use Rattle.elf_place.specs.Views as view
use Rattle.elf_read.specs.Input.{file}
use Rattle.sf_model.specs.declared.machine.Arch.{Arch}
use Rattle.frame_functions.specs.Functions.{sections_functions}
use Rattle.sf_asm.specs.Sections.{placed_section}
use Rattle.sf_asm.proofs.Files.{file_functions, file_is}
use Rattle.sf_asm.proofs.elf.read_checked.Goals as goal

pub returns-clause-exact : goal.returns-clause-exact
returns-clause-exact c = λ signatures has.
    let bytes = file c.args.elf.now in
    let placed = c.in_ok-placed.placed in
    let sections = map (placed_section (view.placing placed) (view.shift_in placed)) (view.eh_frames placed) in
    let all : file_functions c.args.item signatures bytes c.args.base ≡ sections_functions c.arch.result c.args.item sections =
    file_is c.args.item signatures bytes c.args.base placed c.requires (c.in_ok-placed.ensures.read signatures has) (c.in_ok-placed.ensures.placed signatures has)
    ∙ ap (λ (arch : Arch). sections_functions arch c.args.item sections) (sym c.arch.ensures)
    in
    let read = c.in_ok-read_sections.ensures.exact in
    (read.0, all ∙ read.1, read.2)
