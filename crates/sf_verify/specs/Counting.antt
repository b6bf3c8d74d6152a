-- Inside the crate. The functions of the inputs that a section has, and those that it lacks.
use Rattle.std.specs.Prelude.{◌<◌, ◌==◌, ◌&&◌, ℕ, Bool, not, List, length, get_or}
use Rattle.std.specs.List.{list_any}
use Rattle.sf_model.specs.declared.function.Func.{Func}
use Rattle.sf_merge.specs.declared.located.Located.{Located}
use Rattle.sf_verify.specs.Agreement.{is_plain}

-- the function of the section is a plain one with the start and size of this kept one
abbrev pub represents_kept : (kept : Func) → Func → Bool
represents_kept kept g = is_plain g && (g.start == kept.start) && (g.size == kept.size)

-- no function of the section is a plain one with the start and size of this kept one
abbrev pub is_absent : (section : List Func) → (kept : Func) → Bool
is_absent section kept = not (list_any (represents_kept kept) section)

-- ---- lists by rising start
-- each function starts above those before it
abbrev pub KeptRise : List Func → Type 0
KeptRise kept = (i j : ℕ) (d : Func) → i < j → j < length kept → (get_or kept i d).start < (get_or kept j d).start

-- each function starts above those before it, in a list with sections and entries
abbrev pub StartsRise : List Located → Type 0
StartsRise functions = (i j : ℕ) (d : Located) → i < j → j < length functions → (get_or functions i d).func.start < (get_or functions j d).func.start

-- the functions before a place start below an address
abbrev pub StartBefore : List Located → (place start : ℕ) → Type 0
StartBefore functions place start = (i : ℕ) (d : Located) → i < place → i < length functions → (get_or functions i d).func.start < start
