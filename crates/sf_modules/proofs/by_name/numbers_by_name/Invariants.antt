use Rattle.std.specs.BTreeMap as tree
use Rattle.std.specs.Cmp.Lexicographic.{slice_cmp}
use Rattle.std.specs.Ordering.{nat_cmp}
use Rattle.std.proofs.Common.{◌≡◌, ℕ, Bor, List, map, take}
use Rattle.sf_modules.specs.Name.{name_number}
use Rattle.sf_modules.proofs.by_name.numbers_by_name.Given as goal

abbrev pub invariant-loop-number : goal.invariant-loop-number
invariant-loop-number l =
    (name : List ℕ) → tree.get_by (λ k. slice_cmp nat_cmp name k.now) l.numbers ≡ name_number name (map (λ (n : Bor (List ℕ)). n.now) (take l.number l.names))
