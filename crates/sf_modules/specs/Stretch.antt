-- Inside the crate. The entries of a process put in order (Linux core files, NT_FILE). Those of one name whose addresses are equally far from their
-- places in the file are on one line: they have a place of the file at an address exactly where one of them has the address.
use Rattle.std.specs.Prelude.{◌≡◌, ℕ, ◌+◌, ◌-◌, ◌*◌, ◌^◌, ◌<◌, ◌==◌, Bool, ◌&&◌, nat_le, nat_lt, List, length, map, take, slice_index, slice_index_or, Some}
use Rattle.std.specs.Borrow.{Bor}
use Rattle.std.specs.BTreeMap as tree
use Rattle.std.specs.BTreeMap.{BTreeMap}
use Rattle.std.specs.Cmp.Lexicographic.{slice_cmp}
use Rattle.std.specs.List.{list_any}
use Rattle.std.specs.Ordering.{nat_cmp}
use Rattle.sf_modules.specs.declared.stretch.Stretch.{Stretch}
use Rattle.sf_modules.specs.Entry.{EntryView, entry_contains, maps}
use Rattle.sf_modules.specs.Name.{name_number}

-- a stretch, under a name that code may have for a value
abbrev pub stretch : Type 0
stretch = Stretch

-- the line of a name's number, an address and the file's place there: lines of one number differ by less than 2^65
abbrev pub line_of : (number address place : ℕ) → ℕ
line_of number address place = number * 2 ^ 65 + (address + 2 ^ 64 - place)

-- a line and an address of it as one number
abbrev pub point : (line address : ℕ) → ℕ
point line address = line * 2 ^ 64 + address

-- where a stretch starts
abbrev pub start_point : Stretch → ℕ
start_point s = point s.line s.start

-- where a stretch ends
abbrev pub end_point : Stretch → ℕ
end_point s = point s.line s.end

-- the stretch ends after the point
abbrev pub ends_after : (at : ℕ) → Stretch → Bool
ends_after at s = nat_lt at (end_point s)

-- the stretch has the point
abbrev pub has_point : (at : ℕ) → Stretch → Bool
has_point at s = nat_le (start_point s) at && ends_after at s

-- the stretch has a place of the file of this number at the address
abbrev pub has_place : (number address place : ℕ) → Stretch → Bool
has_place number address place s = has_point (point (line_of number address place) address) s

-- the entry has this place of its file at the address
abbrev pub has_at : (address place : ℕ) → EntryView → Bool
has_at address place e = entry_contains address e && (e.offset + (address - e.start) == place)

-- the names of entries
abbrev pub names_in : List EntryView → List (List ℕ)
names_in entries = map (λ (e : EntryView). e.name) entries

-- the numbers of the names of entries
abbrev pub AreNumbers : BTreeMap (Bor (List ℕ)) ℕ → List EntryView → Type 0
AreNumbers numbers entries = (name : List ℕ) → tree.get_by (λ (k : Bor (List ℕ)). slice_cmp nat_cmp name k.now) numbers ≡ name_number name (names_in entries)

-- these are the stretches of these entries, which are some of `all`
abbrev pub AreOf : (all entries : List EntryView) → List Stretch → Type 0
AreOf all entries stretches =
    (name : List ℕ) (number address place : ℕ) → name_number name (names_in all) ≡ Some number → address < 2 ^ 64 → place < 2 ^ 64
    → list_any (has_place number address place) stretches ≡ list_any (maps name address place) entries

-- with each stretch goes the greatest end of those up to it, which is on its line
pub record AreReached (stretches : List Stretch) (reach : List ℕ) : Type 0 where
  pub count : length reach ≡ length stretches
  pub each : (k at : ℕ) (d : Stretch) → k < length stretches → nat_lt at (point (slice_index_or stretches k d).line (slice_index reach k)) ≡ list_any (ends_after at) (take (k + 1) stretches)
