use Rattle.std.proofs.Common.{◌≡◌, ◌==◌, ℕ, List, [], length, true, false, ap, sym, ◌∙◌}
use Rattle.signal_frames.proofs.expression.stack_address.Goals as goal

pub returns-in_err-constant-clause-only : goal.returns-in_err-constant-clause-only
returns-in_err-constant-clause-only c = λ constant h. absurd (c.in_err-constant.ensures.only constant [] h)

pub returns-else-is_empty-clause-only : goal.returns-else-is_empty-clause-only
returns-else-is_empty-clause-only c = λ constant h.
    let empty = (c.in_ok-constant.ensures.only constant [] h).1 in
    absurd (let no : false ≡ true = sym c.if-is_empty.false ∙ c.is_empty.ensures ∙ ap (λ (bytes : List ℕ). length bytes == 0) empty in cc)
