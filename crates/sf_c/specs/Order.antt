-- The modules of a process in the order of their addresses, by their indices in a list in any order.
use Rattle.std.specs.Prelude.{◌≡◌, ◌==◌, ◌+◌, ◌*◌, ◌≤◌, ◌<◌, ℕ, zero, suc, List, [], ◌∷◌, All, length, if◌then◌else◌}
use Rattle.std.specs.List.{AllAdjacentBelow, Contains, IsDistinct, position_or_len}
use Rattle.std.specs.List.Sorted.{IsNonDecreasingBy}
use Rattle.sf_c.specs.declared.modules.KiblawenModule.{KiblawenModule}
use Rattle.sf_c.specs.Modules.{module_contains}

-- where the module with an index starts, 0 for an index past the last
abbrev pub module_start : List KiblawenModule → (index : ℕ) → ℕ
module_start [] index = 0
module_start (m ∷ modules) zero = m.start
module_start (m ∷ modules) (suc index) = module_start modules index

-- the size of the module with an index, 0 for an index past the last
abbrev pub size_in : List KiblawenModule → (index : ℕ) → ℕ
size_in [] index = 0
size_in (m ∷ modules) zero = m.size
size_in (m ∷ modules) (suc index) = size_in modules index

-- no two modules overlap: of two, one ends where the other one starts, or before
abbrev pub AreApart : List KiblawenModule → Type 0
AreApart modules = (i j : ℕ) → i < j → j < length modules
    → ¬ ((module_start modules i < module_start modules j + size_in modules j) × (module_start modules j < module_start modules i + size_in modules i))

-- the order of modules: by their starts, and of an empty one before another that starts there
abbrev pub order_key : List KiblawenModule → (index : ℕ) → ℕ
order_key modules index = 2 * module_start modules index + (if size_in modules index == 0 then 0 else 1)

-- these are the indices of the modules, in that order
pub record AreByStart (modules : List KiblawenModule) (order : List ℕ) : Type 0 where
  pub rise : IsNonDecreasingBy (order_key modules) order
  pub each : All (λ (index : ℕ). index < length modules) order
  pub all : (index : ℕ) → index < length modules → Contains order index
  pub as_many : length order ≡ length modules

-- Inside the crate: no index is there twice
abbrev pub Differ : (order : List ℕ) → Type 0
Differ order = IsDistinct (λ (i : ℕ) (j : ℕ). i == j) order

-- each module ends where the next one in order starts, or before
abbrev pub AreDisjoint : List KiblawenModule → (order : List ℕ) → Type 0
AreDisjoint modules order = AllAdjacentBelow (λ (one : ℕ) (next : ℕ). module_start modules one + size_in modules one ≤ module_start modules next) order (length order)

-- an index of modules: by it a module is searched by halves
abbrev pub IsIndex : List KiblawenModule → (order : List ℕ) → Type 0
IsIndex modules order = AreByStart modules order × AreDisjoint modules order

-- the index of the module that has an address in its range; the number of modules if none has it
abbrev pub index_in : List KiblawenModule → (address : ℕ) → ℕ
index_in modules address = position_or_len (module_contains address) modules
