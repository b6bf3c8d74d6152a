use Rattle.std.proofs.Common.{◌≡◌, ◌++◌, ◌<◌, ◌^◌}
use Rattle.std.specs.List.{flat_map, range_with_len}
use Rattle.sf_gen.specs.Frames.{fde}
use Rattle.sf_gen.specs.Pattern.{kind, state_after}
use Rattle.sf_gen.proofs.frames.push_eh_frame.Given as goal

-- the entries of the functions so far, and the generator's state after as many steps
abbrev pub invariant-loop-i : goal.invariant-loop-i
invariant-loop-i l = record {
  entries : l.bytes.items ≡ l.initial.bytes.items ++ flat_map (λ i. fde i (kind l.n i)) (range_with_len 0 l.i);
  state : l.state ≡ state_after l.n l.i;
  below : l.state < 2 ^ 31;
}
