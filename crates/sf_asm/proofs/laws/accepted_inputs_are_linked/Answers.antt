use Rattle.sf_asm.proofs.Accepting.{accepted_links, links_accepted}
use Rattle.sf_asm.proofs.laws.accepted_inputs_are_linked.Goals as goal

pub returns-clause-links : goal.returns-clause-links
returns-clause-links c = accepted_links

pub returns-clause-only : goal.returns-clause-only
returns-clause-only c = links_accepted
