use Rattle.std.proofs.Common.{◌≡◌, ℕ, Bor, List, map, take}
use Rattle.sf_modules.specs.Entry.{mapping_view}
use Rattle.sf_modules.specs.Stretch.{names_in}
use Rattle.sf_modules.proofs.stretch.names_of.Given as goal

abbrev pub invariant-loop-entry : goal.invariant-loop-entry
invariant-loop-entry l = map (λ (n : Bor (List ℕ)). n.now) l.names.items ≡ names_in (map mapping_view (take l.entry-index l.entries))
