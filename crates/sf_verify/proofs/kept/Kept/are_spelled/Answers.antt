use Rattle.std.proofs.Common.{ap, sym, ◌∙◌}
use Rattle.sf_model.specs.declared.function.Func.{Func}
use Rattle.sf_verify.proofs.KeptAt.{kept_at}
use Rattle.sf_verify.proofs.kept.Kept.are_spelled.Goals as goal

pub are_spelled-requires : goal.are_spelled-requires
are_spelled-requires c = (kept_at c.self.inside.functions.now.rows c.self.inside.functions.now.kept c.args.self.now c.args.place c.function-stored.result.now c.self.view_is c.self.invariant c.requires (c.function-stored.ensures c.function-stored.result.now)).stored

pub returns : goal.returns
returns c = λ d yes.
    let at = kept_at c.self.inside.functions.now.rows c.self.inside.functions.now.kept c.args.self.now c.args.place c.function-stored.result.now c.self.view_is c.self.invariant c.requires (c.function-stored.ensures c.function-stored.result.now) in
    c.are_spelled.ensures.same yes ∙ ap (λ (f : Func). f.rows) (sym (at.is d))
