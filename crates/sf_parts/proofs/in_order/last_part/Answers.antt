use Rattle.std.proofs.lemmas.List.Elements.{All-pop}
use Rattle.sf_bytes.specs.Parts.{IsPart}
use Rattle.sf_parts.proofs.in_order.last_part.Goals as goal

pub returns-clause-last : goal.returns-clause-last
returns-clause-last c = λ file are. (All-pop (IsPart file) c.args.parts.now.items c.pop.new.self.items c.pop.result c.pop.ensures.items are).1

pub returns-clause-rest : goal.returns-clause-rest
returns-clause-rest c = λ file are. (All-pop (IsPart file) c.args.parts.now.items c.pop.new.self.items c.pop.result c.pop.ensures.items are).0
