use Rattle.std.proofs.Common.{◌∙◌}
use Rattle.process_tables.proofs.Names.{after_slash, whole_name}
use Rattle.process_tables.proofs.name.last_part_of.Goals as goal

pub returns-in-Some : goal.returns-in-Some
returns-in-Some c = let m = c.in-Some.ensures.cases in m.4 ∙ after_slash c.args.name.now m.0 m.1 m.2.0 m.2.1

pub returns-in-None : goal.returns-in-None
returns-in-None c = whole_name c.args.name.now c.in-None.ensures.cases
