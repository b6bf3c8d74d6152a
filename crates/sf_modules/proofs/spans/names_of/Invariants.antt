use Rattle.std.proofs.Common.{◌≡◌, ℕ, Bor, List, map, take}
use Rattle.sf_modules.specs.Module.{ModuleView, module_view}
use Rattle.sf_modules.proofs.spans.names_of.Given as goal

abbrev pub invariant-loop-item : goal.invariant-loop-item
invariant-loop-item l = map (λ (n : Bor (List ℕ)). n.now) l.names.items ≡ map (λ (m : ModuleView). m.name) (map module_view (take l.item-index l.modules))
