use Rattle.std.proofs.Common.{arith}
use Rattle.core_notes.specs.Views.{core_bytes}
use Rattle.core_notes.proofs.CoreLaw.{made_is_core}
use Rattle.core_notes.proofs.view.Core.threads.Goals as goal

pub returns-clause-some : goal.returns-clause-some
returns-clause-some c = let core = made_is_core (core_bytes c.args.self.now) c.args.self.now.checked in omega (core.some, c.args.self.now.counted, arith)

pub returns-clause-most : goal.returns-clause-most
returns-clause-most c = let core = made_is_core (core_bytes c.args.self.now) c.args.self.now.checked in omega (core.most, c.args.self.now.counted, arith)
