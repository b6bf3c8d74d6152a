use Rattle.core_notes.specs.Views.{core_bytes}
use Rattle.core_notes.proofs.CoreLaw.{made_is_core}
use Rattle.core_notes.proofs.laws.core_is_its_notes.Goals as goal

pub returns : goal.returns
returns c = made_is_core (core_bytes c.args.core.now) c.args.core.now.checked
