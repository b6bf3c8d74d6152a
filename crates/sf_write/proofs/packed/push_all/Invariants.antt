use Rattle.std.proofs.Common.{◌≡◌, ◌++◌}
use Rattle.std.specs.List.{flat_map}
use Rattle.sf_write.specs.Row.{narrow_row}
use Rattle.sf_write.proofs.packed.push_all.Given as goal

-- after what was there are the rows so far
abbrev pub invariant-loop-row : goal.invariant-loop-row
invariant-loop-row l = l.bytes.items ≡ l.initial.bytes.items ++ flat_map (narrow_row l.width) l.yielded
