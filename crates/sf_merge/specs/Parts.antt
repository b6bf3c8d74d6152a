-- Sections that are merged in parts, as several machines do it (GNU SFrame specification, Version 2). In each step
-- some of the sections are merged into one, which takes their place.
use Rattle.std.specs.Prelude.{◌≡◌, ◌<◌, ◌++◌, ℕ, List, [], ◌∷◌, length, map}
use Rattle.std.specs.List.Sorted.{IsPermutation}
use Rattle.sf_model.specs.Section.{Section}
use Rattle.sf_model.specs.Table.{Table}
use Rattle.sf_merge.specs.declared.fault.MergeFault.{MergeFault}
use Rattle.sf_merge.specs.declared.fault.MergeFault.TheVariants.{OutOfReach}
use Rattle.sf_merge.specs.Answers.{IsMerged}

-- a section: its bytes, the address that it is for, and its table there
pub record Part : Type 0 where
  pub bytes : List ℕ
  pub at : ℕ
  pub table : Table
  pub says : Section bytes at table

-- the tables of sections
abbrev pub part_tables : List Part → List Table
part_tables parts = map (λ (part : Part). part.table) parts

-- this section is those sections merged, for its address
pub record AreMerged (parts : List Part) (whole : Part) : Type 0 where
  pub count : ℕ
  pub rows : ℕ
  pub is : IsMerged (part_tables parts) whole.at whole.bytes count rows

-- some of the sections, one at least and in any order, are merged into one; the result takes their place beside the
-- others
pub record SomeAreMerged (sections next : List Part) : Type 0 where
  pub some : List Part
  pub others : List Part
  pub whole : Part
  pub any : 0 < length some
  pub chosen : IsPermutation sections (some ++ others)
  pub merged : AreMerged some whole
  pub left : next ≡ whole ∷ others

-- the sections are merged step by step; each step has the sections that there are after it, and these are left in the end
abbrev pub AreMergedInParts : (steps : List (List Part)) → (sections left : List Part) → Type 0
AreMergedInParts [] sections left = sections ≡ left
AreMergedInParts (next ∷ later) sections left = SomeAreMerged sections next × AreMergedInParts later next left

-- the fault is a function that is too far from the section
abbrev pub IsTooFar : MergeFault → Type 0
IsTooFar fault = (start : ℕ) × (fault ≡ OutOfReach start)
