use Rattle.std.proofs.Common.{ap, sym, ◌∙◌}
use Rattle.sf_decode.specs.View.{head_of}
use Rattle.sf_write.proofs.StoredFunctions.{stored_says}
use Rattle.sf_verify.proofs.KeptAt.{kept_at}
use Rattle.sf_verify.proofs.kept.Kept.head.Goals as goal

pub returns : goal.returns
returns c = λ d.
    let at = kept_at c.self.inside.functions.now.rows c.self.inside.functions.now.kept c.args.self.now c.args.place c.function.result.now c.self.view_is c.self.invariant c.requires (c.function.ensures c.function.result.now) in
    (stored_says c.self.inside.functions.now.rows c.function.result.now at.stored).head ∙ ap head_of (sym (at.is d))
