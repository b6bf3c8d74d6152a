-- What the line of a fault shows: the item, and of the fault its group, its number there, its name and its values.
use Rattle.std.specs.Prelude.{ℕ, List, [], ◌∷◌, Option}
use Rattle.sf_model.specs.declared.notice.Group.{Group}
use Rattle.sf_model.specs.declared.notice.Notice.{Notice}

-- what is shown of a fault
pub record ShownFault : Type 0 where
  pub group : Group
  pub number : ℕ
  pub name : List ℕ
  pub values : List ℕ

abbrev pub shown_fault : Group → (number : ℕ) → (name values : List ℕ) → ShownFault
shown_fault group number name values = record { group = group; number = number; name = name; values = values }

-- a fault at a place
abbrev pub fault_at : Group → (number : ℕ) → (name : List ℕ) → (place : ℕ) → ShownFault
fault_at group number name place = shown_fault group number name (place ∷ [])

-- what has no line, as out of memory: it has no number and no name
abbrev pub not_shown : Group → ShownFault
not_shown group = shown_fault group 0 [] []

-- what the line of a fault shows
pub record FaultShown : Type 0 where
  pub item : Option ℕ
  pub fault : ShownFault

-- the parts of a notice that its line shows
abbrev pub shown_by : Notice → FaultShown
shown_by notice =
    record { item = notice.item; fault = shown_fault notice.fault.group notice.fault.number notice.fault.name.now notice.values.items }
