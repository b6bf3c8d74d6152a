-- Inside the crate. The entries of a process that were put in order.
use Rattle.std.specs.Prelude.{◌≡◌, ℕ, List}
use Rattle.std.specs.Borrow.{Bor}
use Rattle.std.specs.BTreeMap as tree
use Rattle.std.specs.Cmp.Lexicographic.{slice_cmp}
use Rattle.std.specs.Ordering.{nat_cmp}
use Rattle.sf_modules.specs.declared.stretches.Named.{Named}
use Rattle.sf_modules.specs.declared.stretches.Stretches.{Stretches}
use Rattle.sf_modules.specs.Entry.{EntryView}
use Rattle.sf_modules.specs.Stretch.{AreNumbers, AreOf}

-- the stretches and the numbers are those of these entries
pub record AreStretchesOf (s : Stretches) (entries : List EntryView) : Type 0 where
  pub numbers : AreNumbers s.numbers entries
  pub stretches : AreOf entries entries s.stretches.items

-- the name has its number
abbrev pub IsNamed : Stretches → Named → Type 0
IsNamed s named = named.number ≡ tree.get_by (λ (k : Bor (List ℕ)). slice_cmp nat_cmp named.name.now k.now) s.numbers
