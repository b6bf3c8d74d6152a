use Rattle.std.proofs.Common.{◌≡◌, ◌++◌}
use Rattle.std.specs.List.{flat_map, range_with_len}
use Rattle.sf_gen.specs.Object.{start_rela}
use Rattle.sf_gen.proofs.sections.push_relas.Given as goal

-- the relocations of the functions so far
abbrev pub invariant-loop-i : goal.invariant-loop-i
invariant-loop-i l = l.bytes.items ≡ l.initial.bytes.items ++ flat_map start_rela (range_with_len 0 l.i)
