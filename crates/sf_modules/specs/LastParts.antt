-- The entries of a process that are found by the last parts of their names.
use Rattle.std.specs.Prelude.{◌≡◌, ℕ, bytes_eq, List, [], drop, map}
use Rattle.std.specs.Borrow.{Bor}
use Rattle.std.specs.BTreeMap as tree
use Rattle.std.specs.BTreeMap.{BTreeMap}
use Rattle.std.specs.Cmp.Lexicographic.{slice_cmp}
use Rattle.std.specs.List.{position_from}
use Rattle.std.specs.Option.{option_map_or}
use Rattle.std.specs.Ordering.{nat_cmp}
use Rattle.sf_modules.specs.declared.candidates.Candidates.{Candidates}
use Rattle.sf_modules.specs.declared.last_parts.LastParts.{LastParts}
use Rattle.sf_modules.specs.Candidates.{alike, last_parts, next_same}
use Rattle.sf_modules.specs.Entry.{EntryView, mapping_view}

-- Inside the crate: a map has the number of the first of these parts that is a part: they are numbered from this number on
abbrev pub AreFirst : BTreeMap (Bor (List ℕ)) ℕ → (number : ℕ) → List (List ℕ) → Type 0
AreFirst first number parts = (part : List ℕ) → tree.get_by (λ (k : Bor (List ℕ)). slice_cmp nat_cmp part k.now) first ≡ position_from (bytes_eq part) number parts

-- Inside the crate: the map and the numbers are those of these entries
pub record AreByPart (p : LastParts) (entries : List EntryView) : Type 0 where
  pub first : AreFirst p.first 0 (last_parts entries)
  pub next : p.next.items ≡ next_same 0 (last_parts entries)

-- the entries that an iterator has left
abbrev pub candidates_left : Candidates → List EntryView
candidates_left c = option_map_or (λ (i : ℕ). alike (drop i (map mapping_view c.entries.now))) c.at []
