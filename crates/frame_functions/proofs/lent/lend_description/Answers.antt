use Rattle.std.proofs.Common.{sym, subst}
use Rattle.frame_functions.specs.Numbers.{AreNumbered}
use Rattle.frame_functions.proofs.lent.lend_description.Goals as goal

pub returns-clause-numbered : goal.returns-clause-numbered
returns-clause-numbered c =
    subst (AreNumbered c.args.section.now.arch c.args.section.now.bytes.now c.common_number.new.numbers) (sym c.in_ok-push.ensures.common) c.in_ok-common.ensures.numbered
