use Rattle.std.proofs.Common.{◌≡◌, [], ◌∷◌, true, false, sym, ◌∙◌}
use Rattle.signal_frames.specs.Expression.{DW_OP_deref}
use Rattle.signal_frames.proofs.expression.stack_value.Goals as goal

pub returns-in_err-constant-clause-only : goal.returns-in_err-constant-clause-only
returns-in_err-constant-clause-only c = λ constant h. absurd (c.in_err-constant.ensures.only constant (DW_OP_deref ∷ []) h)

pub returns-else-is_dereferenced-clause-only : goal.returns-else-is_dereferenced-clause-only
returns-else-is_dereferenced-clause-only c = λ constant h.
    let one = (c.in_ok-constant.ensures.only constant (DW_OP_deref ∷ []) h).1 in
    absurd (let no : false ≡ true = sym c.if-is_dereferenced.false ∙ c.is_dereferenced.ensures.only one in cc)
