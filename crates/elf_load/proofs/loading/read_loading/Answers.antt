use Rattle.std.proofs.Common.{ap, subst, sym, ◌∙◌}
use Rattle.elf_load.specs.Segments.{IsLoadOf, load_address}
use Rattle.elf_load.proofs.Loads.{load_is}
use Rattle.elf_load.proofs.loading.read_loading.Goals as goal

pub returns-clause-load : goal.returns-clause-load
returns-clause-load c =
    let is = c.load_address.ensures ∙ ap (load_address c.args.page c.args.mapping.now) c.in_ok-program.ensures.file in
    subst (IsLoadOf c.args.page c.args.mapping.now c.args.bytes.now) (sym is) (load_is c.args.page c.args.mapping.now c.args.bytes.now)
