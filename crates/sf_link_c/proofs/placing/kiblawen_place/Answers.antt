use Rattle.elf_load.specs.declared.mapping.Mapping.{Mapping}
use Rattle.sf_link_c.proofs.Placed.{placed_load}
use Rattle.sf_link_c.proofs.placing.kiblawen_place.Goals as goal

pub returns-clause-load : goal.returns-clause-load
returns-clause-load c =
    let mapping : Mapping = record { start = c.args.start; offset = c.args.offset } in
    λ made. placed_load c.args.page mapping c.args.bytes.now c.place_of-answer.result c.place_of-answer.ensures made
