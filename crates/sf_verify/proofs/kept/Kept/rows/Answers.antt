use Rattle.std.proofs.Common.{ap, sym, ◌∙◌}
use Rattle.sf_model.specs.declared.function.Func.{Func}
use Rattle.sf_verify.proofs.KeptAt.{kept_at}
use Rattle.sf_verify.proofs.kept.Kept.rows.Goals as goal

pub rows-requires : goal.rows-requires
rows-requires c = (kept_at c.self.inside.functions.now.rows c.self.inside.functions.now.kept c.args.self.now c.args.place c.function.result.now c.self.view_is c.self.invariant c.requires (c.function.ensures c.function.result.now)).stored

pub returns : goal.returns
returns c = λ d.
    let at = kept_at c.self.inside.functions.now.rows c.self.inside.functions.now.kept c.args.self.now c.args.place c.function.result.now c.self.view_is c.self.invariant c.requires (c.function.ensures c.function.result.now) in
    c.rows.ensures ∙ ap (λ (f : Func). f.rows) (sym (at.is d))
