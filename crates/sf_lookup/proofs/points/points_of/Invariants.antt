use Rattle.std.proofs.Common.{◌*◌, ◌≤◌, All, length, take}
use Rattle.sf_lookup.specs.Span.{HasEnds}
use Rattle.sf_lookup.proofs.points.points_of.Given as goal

abbrev pub invariant-loop-span : goal.invariant-loop-span
invariant-loop-span g l = All (HasEnds l.points.items) (take l.span-index l.spans) × (length l.points.items ≤ 2 * l.span-index)
