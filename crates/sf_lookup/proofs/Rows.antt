-- Rows that rise, and the latest of them that begins by an offset.
use Rattle.std.specs.Prelude.{nat_le, ◌&&◌, if◌then◌else◌}
use Rattle.std.specs.List.{filter, find}
use Rattle.std.proofs.Common.{◌≡◌, ℕ, zero, suc, ◌+◌, ◌<◌, ◌≤◌, Bool, true, false, cond, List, [], ◌∷◌, Option, Some, None, drop, get_or, length, refl, sym, ap, subst, ◌∙◌, arith}
use Rattle.std.proofs.lemmas.Bool.{lt-leb, le-leb, leb-false}
use Rattle.std.proofs.lemmas.List.{get_or-drop, length-drop}
use Rattle.sf_model.specs.declared.rows.Row.{Row}
use Rattle.sf_model.specs.Function.{RowsRise}
use Rattle.sf_model.specs.Lookup.{begins_by, begins_last, row_at}

-- ---- rows that rise
-- each start is above the one before, and the first at least this
abbrev pub Rise : (least : ℕ) → List Row → Type 0
Rise least [] = Unit {0}
Rise least (r ∷ rows) = (least ≤ r.start) × Rise (r.start + 1) rows

-- where rows rise, all but the first rise
later_rise : (r : Row) (rows : List Row) → RowsRise (r ∷ rows) → RowsRise rows
later_rise r rows h k d lt =
    let same : suc k + 1 ≡ suc (k + 1) = omega arith in
    subst (λ j. (get_or rows k d).start < (get_or (r ∷ rows) j d).start) same (h (suc k) d (omega (lt, arith)))

rises_on : (r : Row) (rows : List Row) → RowsRise (r ∷ rows) → Rise (r.start + 1) rows
rises_on r [] h = tt
rises_on r (s ∷ rows) h =
    let first : r.start < s.start = h 0 r (omega arith) in
    (omega (first, arith), rises_on s rows (later_rise r (s ∷ rows) h))

pub rises : (rows : List Row) → RowsRise rows → Rise 0 rows
rises [] h = tt
rises (r ∷ rows) h = (omega arith, rises_on r rows h)

pub rise_lower : (least more : ℕ) (rows : List Row) → least ≤ more → Rise more rows → Rise least rows
rise_lower least more [] le h = tt
rise_lower least more (r ∷ rows) le h = (omega (le, h.0, arith), h.1)

-- all rows start at `least` or after
pub starts_from : (least : ℕ) (rows : List Row) (i : ℕ) (d : Row) → Rise least rows → i < length rows → least ≤ (get_or rows i d).start
starts_from least [] i d h lt = absurd (omega (arith, lt))
starts_from least (r ∷ rows) zero d h lt = h.0
starts_from least (r ∷ rows) (suc i) d h lt = let later = starts_from (r.start + 1) rows i d h.1 (omega (arith, lt)) in omega (arith, later, h.0)

-- rows that rise from a least start on rise
pub all_rise : (least : ℕ) (rows : List Row) → Rise least rows → RowsRise rows
all_rise least [] h k d lt = absurd (omega (lt, arith))
all_rise least (r ∷ rows) h zero d lt =
    let next = starts_from (r.start + 1) rows 0 d h.1 (omega (lt, arith)) in
    omega (next, arith)
all_rise least (r ∷ rows) h (suc k) d lt =
    let same : suc (k + 1) ≡ suc k + 1 = omega arith in
    subst (λ j. (get_or rows k d).start < (get_or (r ∷ rows) j d).start) same (all_rise (r.start + 1) rows h.1 k d (omega (lt, arith)))

-- ---- the latest row
-- the latest row, or the one found before; it ends at the first row that begins after the offset
abbrev pub latest : (offset : ℕ) → Option Row → List Row → Option Row
latest offset found [] = found
latest offset found (r ∷ rows) = if nat_le r.start offset then latest offset (Some r) rows else found

-- a row that begins by the offset is the one found so far
pub latest_begun : (offset : ℕ) (found : Option Row) (r : Row) (rows : List Row) → r.start ≤ offset → latest offset found (r ∷ rows) ≡ latest offset (Some r) rows
latest_begun offset found r rows le = rw (le-leb r.start offset le) refl

-- a row that begins after the offset ends the search
pub latest_stops : (offset : ℕ) (found : Option Row) (r : Row) (rows : List Row) → offset < r.start → latest offset found (r ∷ rows) ≡ found
latest_stops offset found r rows lt = rw (lt-leb r.start offset lt) refl

-- rows that all begin after the offset change nothing
pub latest_stays : (offset least : ℕ) (found : Option Row) (rows : List Row) → offset < least → Rise least rows → latest offset found rows ≡ found
latest_stays offset least found [] lt h = refl
latest_stays offset least found (r ∷ rows) lt h = latest_stops offset found r rows (omega (lt, h.0, arith))

-- rows that all begin after the offset
none_begun : (offset least : ℕ) (rows : List Row) → offset < least → Rise least rows → filter (begins_by offset) rows ≡ []
none_begun offset least [] lt h = refl
none_begun offset least (r ∷ rows) lt h =
    let behind : offset < r.start = omega (lt, h.0, arith) in
    let later : filter (begins_by offset) rows ≡ [] = none_begun offset (r.start + 1) rows (omega (behind, arith)) h.1 in
    rw (lt-leb r.start offset behind, later) refl

-- the last row of a list, or the one found before
abbrev last_or : Option Row → List Row → Option Row
last_or found [] = found
last_or found (r ∷ rows) = last_or (Some r) rows

latest_is : (offset least : ℕ) (found : Option Row) (rows : List Row) → Rise least rows → latest offset found rows ≡ last_or found (filter (begins_by offset) rows)
latest_is offset least found [] h = refl
latest_is offset least found (r ∷ rows) h = by_test (nat_le r.start offset) refl (latest_is offset (r.start + 1) (Some r) rows h.1) (none_begun offset (r.start + 1) rows)
  where
    by_test : (b : Bool) → nat_le r.start offset ≡ b → latest offset (Some r) rows ≡ last_or (Some r) (filter (begins_by offset) rows)
        → (offset < r.start + 1 → Rise (r.start + 1) rows → filter (begins_by offset) rows ≡ [])
        → latest offset found (r ∷ rows) ≡ last_or found (filter (begins_by offset) (r ∷ rows))
    by_test true e begun none = rw e begun
    by_test false e begun none =
        let behind : offset < r.start = leb-false r.start offset e in
        let nothing = none (omega (behind, arith)) h.1 in
        rw (e, nothing) refl

-- of rising rows the last is the one with the greatest start
rise_filter : (p : Row → Bool) (least : ℕ) (rows : List Row) → Rise least rows → Rise least (filter p rows)
rise_filter p least [] h = tt
rise_filter p least (r ∷ rows) h = by_test (p r) (rise_filter p (r.start + 1) rows h.1)
  where
    by_test : (b : Bool) → Rise (r.start + 1) (filter p rows) → Rise least (cond b (r ∷ filter p rows) (filter p rows))
    by_test true later = (h.0, later)
    by_test false later = rise_lower least (r.start + 1) (filter p rows) (omega (arith, h.0)) later

one_earlier : (r x : Row) (others : List Row) → r.start < x.start → begins_last (r ∷ others) x ≡ begins_last others x
one_earlier r x others lt =
    let below : r.start ≤ x.start = omega (arith, lt) in
    ap (λ (b : Bool). b && begins_last others x) (le-leb r.start x.start below)

without_earlier : (r : Row) (least : ℕ) (others rows : List Row) → r.start < least → Rise least rows → find (begins_last (r ∷ others)) rows ≡ find (begins_last others) rows
without_earlier r least others [] lt h = refl
without_earlier r least others (x ∷ rows) lt h =
    let first : r.start < x.start = omega (arith, lt, h.0) in
    ap (λ (b : Bool). cond b (Some x) (find (begins_last (r ∷ others)) rows)) (one_earlier r x others first)
    ∙ ap (λ (y : Option Row). cond (begins_last others x) (Some x) y) (without_earlier r (x.start + 1) others rows (omega (arith, first)) h.1)

itself : (r : Row) → nat_le r.start r.start ≡ true
itself r = le-leb r.start r.start (omega arith)

not_last : (r s : Row) (rows : List Row) → r.start < s.start → begins_last (r ∷ s ∷ rows) r ≡ false
not_last r s rows lt = rw (itself r, lt-leb s.start r.start lt) refl

last_is : (least : ℕ) (rows : List Row) → Rise least rows → find (begins_last rows) rows ≡ last_or None rows
last_is least [] h = refl
last_is least (r ∷ []) h = rw (itself r) refl
last_is least (r ∷ s ∷ rows) h =
    ap (λ (b : Bool). cond b (Some r) (find (begins_last (r ∷ s ∷ rows)) (s ∷ rows))) (not_last r s rows (omega (arith, h.1.0)))
    ∙ without_earlier r (r.start + 1) (s ∷ rows) (s ∷ rows) (omega arith) h.1
    ∙ last_is (r.start + 1) (s ∷ rows) h.1

-- the latest of a function's rows is the one that holds
pub latest_holds : (offset : ℕ) (rows : List Row) → RowsRise rows → latest offset None rows ≡ row_at offset rows
unfolding row_at
latest_holds offset rows h =
    let rise = rises rows h in
    latest_is offset 0 None rows rise ∙ sym (last_is 0 (filter (begins_by offset) rows) (rise_filter (begins_by offset) 0 rows rise))

-- ---- rows from one on
pub rise_from_one : (rows : List Row) (k : ℕ) → RowsRise rows → RowsRise (drop k rows)
rise_from_one rows k h = λ j d lt.
    let len = length-drop k rows in
    let here = ap (λ (r : Row). r.start) (get_or-drop k rows j d) in
    let next = ap (λ (r : Row). r.start) (get_or-drop k rows (j + 1) d) in
    let more : k + j + 1 ≡ k + (j + 1) = omega arith in
    let same = ap (λ (n : ℕ). (get_or rows n d).start) more in
    let up = h (k + j) d (omega (lt, len, arith)) in
    omega (here, next, same, up, arith)

latest_from : (offset least : ℕ) (found : Option Row) (rows : List Row) (k : ℕ) (d : Row) → Rise least rows → k < length rows → (get_or rows k d).start ≤ offset → latest offset found rows ≡ latest offset None (drop k rows)
latest_from offset least found [] k d h lt by = absurd (omega (lt, arith))
latest_from offset least found (r ∷ rows) zero d h lt by = latest_begun offset found r rows by ∙ sym (latest_begun offset None r rows by)
latest_from offset least found (r ∷ rows) (suc k) d h lt by =
    let later = starts_from (r.start + 1) rows k d h.1 (omega (lt, arith)) in
    latest_begun offset found r rows (omega (later, by, arith)) ∙ latest_from offset (r.start + 1) (Some r) rows k d h.1 (omega (lt, arith)) by

-- where a row has begun, the row that holds is that row or one after it
pub row_from : (offset : ℕ) (rows : List Row) (k : ℕ) (d : Row) → RowsRise rows → k < length rows → (get_or rows k d).start ≤ offset → row_at offset (drop k rows) ≡ row_at offset rows
row_from offset rows k d h lt by =
    sym (latest_holds offset (drop k rows) (rise_from_one rows k h)) ∙ sym (latest_from offset 0 None rows k d (rises rows h) lt by) ∙ latest_holds offset rows h
