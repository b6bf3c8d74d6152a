-- Which spans were put in order.
use Rattle.std.specs.Prelude.{◌≡◌, ℕ, ◌*◌, ◌^◌, ◌<◌, ◌≤◌, List, length}
use Rattle.sf_lookup.specs.declared.span.Span.{Span}
use Rattle.sf_lookup.specs.declared.spans.Spans.{Spans}
use Rattle.sf_lookup.specs.Span.{IsReached, answer_at, answer_of}

-- the spans that were put in order: at each address the answer at the last point that it has reached is that of the
-- first span that has the address
pub record InOrder {A : Type 0} (ordered : Spans A) (spans : List (Span A)) : Type 0 where
  pub answers : (pc n : ℕ) → pc < 2 ^ 64 → IsReached ordered.points.items pc n → answer_at ordered.answers.items n ≡ answer_of spans pc
  pub most : length ordered.points.items ≤ 2 * length spans
