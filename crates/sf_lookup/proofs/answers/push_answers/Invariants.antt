use Rattle.std.proofs.Common.{◌≡◌, ◌-◌, ◌++◌, get_or, map, take}
use Rattle.sf_lookup.specs.Span.{answer_of}
use Rattle.sf_lookup.specs.Sweep.{IsAt}
use Rattle.sf_lookup.proofs.answers.push_answers.Given as goal

abbrev pub invariant-loop-point : goal.invariant-loop-point
invariant-loop-point g l =
    IsAt (get_or l.points (l.point-index - 1) 0) l.sweep × (l.sweep.spans.now ≡ l.spans) × (l.answers.items ≡ l.fn.answers.items ++ map (answer_of l.spans) (take l.point-index l.points))
