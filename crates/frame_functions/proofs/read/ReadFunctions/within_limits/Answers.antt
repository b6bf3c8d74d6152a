use Rattle.std.proofs.Common.{Some, ap, arith, subst, sym, ◌∙◌}
use Rattle.frame_functions.specs.declared.read.ReadFunctions.{ReadFunctions}
use Rattle.frame_functions.specs.ReadSoFar.{AreCounted, AreReadSoFar}
use Rattle.frame_functions.proofs.ReadSoFar.{counted_few, counted_many}
use Rattle.frame_functions.proofs.read.ReadFunctions.within_limits.Goals as goal
use Rattle.frame_functions.proofs.read.ReadFunctions.within_limits.Goals.{then-count-gt-MOST_FUNCTIONS, else-count-gt-MOST_FUNCTIONS}

pub returns-after-count-gt-MOST_FUNCTIONS-clause-fault : goal.returns-after-count-gt-MOST_FUNCTIONS-clause-fault
returns-after-count-gt-MOST_FUNCTIONS-clause-fault c = λ lending functions h.
    let counted : AreCounted c.in-Past.count functions = subst (λ (r : ReadFunctions). AreReadSoFar lending r functions) c.in-Past.is h in
    elim c.if-count-gt-MOST_FUNCTIONS.branch [
      | then-count-gt-MOST_FUNCTIONS w ↦ counted_many c.in-Past.count functions counted (omega (arith, w.if-count-gt-MOST_FUNCTIONS.true)) ∙ ap Some (sym w.result-is)
      | else-count-gt-MOST_FUNCTIONS w ↦ counted_few c.in-Past.count functions counted (omega (arith, w.if-count-gt-MOST_FUNCTIONS.false)) ∙ ap Some (sym w.result-is)
    ]
