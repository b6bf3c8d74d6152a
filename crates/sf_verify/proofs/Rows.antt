-- Rows by their places, and as ranges.
use Rattle.std.specs.Prelude.{IsTrue, nat_le}
use Rattle.std.specs.List.{All}
use Rattle.std.specs.Option.{option_map}
use Rattle.std.proofs.Common.{◌≡◌, ℕ, zero, suc, ◌+◌, ◌<◌, ◌≤◌, Bool, true, false, List, [], ◌∷◌, get_or, length, map, Option, Some, None, refl, sym, ap, subst, ◌∙◌, arith}
use Rattle.std.proofs.lemmas.List.Elements.{All-nil, All-cons, All-head, All-tail}
use Rattle.sf_model.specs.declared.content.Content.{Content}
use Rattle.sf_model.specs.declared.machine.Arch.{Arch}
use Rattle.sf_model.specs.declared.rows.Row.{Row}
use Rattle.sf_model.specs.Content.{content_fits}
use Rattle.sf_model.specs.Function.{RowsRise}
use Rattle.sf_model.specs.Lookup.{row_at}
use Rattle.sf_lookup.proofs.Rows.{Rise, latest, latest_begun, latest_holds, latest_stops, rises, starts_from}
use Rattle.sf_express.specs.declared.content_ranges.ContentRange.{ContentRange}
use Rattle.sf_express.specs.ContentRanges.{AreRanges, RangesBegin, RangesRise, range_of_row, content_by}
use Rattle.frame_functions.specs.ContentAt.{AllFit, IfFits}
use Rattle.sf_verify.specs.Asking.{RowsBegin}

-- the row that begins last by an offset
latest_at_place : (o least i : ℕ) (found : Option Row) (rows : List Row) (d : Row) → Rise least rows → i < length rows → (get_or rows i d).start ≤ o
    → (i + 1 < length rows → o < (get_or rows (i + 1) d).start) → latest o found rows ≡ Some (get_or rows i d)
latest_at_place o least i found [] d h lt by before = absurd (omega (arith, lt))
latest_at_place o least zero found (r ∷ []) d h lt by before = latest_begun o found r [] by
latest_at_place o least zero found (r ∷ s ∷ rows) d h lt by before =
    let after : o < s.start = before (omega arith) in
    latest_begun o found r (s ∷ rows) by ∙ latest_stops o (Some r) s rows after
latest_at_place o least (suc i) found (r ∷ rows) d h lt by before =
    let there = starts_from (r.start + 1) rows i d h.1 (omega (arith, lt)) in
    let here : r.start ≤ o = omega (arith, there, by) in
    let same : suc i + 1 ≡ suc (i + 1) = omega arith in
    latest_begun o found r rows here
    ∙ latest_at_place o (r.start + 1) i (Some r) rows d h.1 (omega (arith, lt)) by
    (λ more. subst (λ (k : ℕ). o < (get_or (r ∷ rows) k d).start) same (before (omega (arith, more))))

pub row_at_place : (o i : ℕ) (rows : List Row) (d : Row) → RowsRise rows → i < length rows → (get_or rows i d).start ≤ o → (i + 1 < length rows → o < (get_or rows (i + 1) d).start)
    → row_at o rows ≡ Some (get_or rows i d)
row_at_place o i rows d h lt by before = sym (latest_holds o rows h) ∙ latest_at_place o 0 i None rows d (rises rows h) lt by before

-- before the first row nothing is said
latest_before : (o : ℕ) (rows : List Row) (d : Row) → (0 < length rows → o < (get_or rows 0 d).start) → latest o None rows ≡ None
latest_before o [] d h = refl
latest_before o (r ∷ rows) d h = latest_stops o None r rows (h (omega arith))

pub no_row_before : (o : ℕ) (rows : List Row) (d : Row) → RowsRise rows → (0 < length rows → o < (get_or rows 0 d).start) → row_at o rows ≡ None
no_row_before o rows d h before = sym (latest_holds o rows h) ∙ latest_before o rows d before

pub no_row_at_all : (o : ℕ) → row_at o [] ≡ None
unfolding row_at
no_row_at_all o = refl

-- ---- as ranges
abbrev pub as_ranges : List Row → List ContentRange
as_ranges rows = map range_of_row rows

abbrev pub content_of_row : Option Row → Option (Option Content)
content_of_row found = option_map (λ (r : Row). Some r.content) found

said_latest : (o : ℕ) (found : Option Row) (rows : List Row) → content_by o (content_of_row found) (as_ranges rows) ≡ content_of_row (latest o found rows)
said_latest o found [] = refl
said_latest o found (r ∷ rows) = at_test (nat_le r.start o) refl (said_latest o (Some r) rows)
  where
    at_test : (b : Bool) → nat_le r.start o ≡ b → content_by o (Some (Some r.content)) (as_ranges rows) ≡ content_of_row (latest o (Some r) rows)
        → content_by o (content_of_row found) (range_of_row r ∷ as_ranges rows) ≡ content_of_row (latest o found (r ∷ rows))
    at_test true e later = rw e later
    at_test false e later = rw e refl

pub ranges_as_rows : (o : ℕ) (rows : List Row) → RowsRise rows → content_by o None (as_ranges rows) ≡ content_of_row (row_at o rows)
ranges_as_rows o rows h = said_latest o None rows ∙ ap content_of_row (latest_holds o rows h)

as_ranges_rise : (least : ℕ) (rows : List Row) → Rise least rows → RangesRise least (as_ranges rows)
as_ranges_rise least [] h = tt
as_ranges_rise least (r ∷ rows) h = (h.0, as_ranges_rise (r.start + 1) rows h.1)

as_ranges_begin : (rows : List Row) → RowsBegin rows → RangesBegin (as_ranges rows)
as_ranges_begin [] h = absurd h
as_ranges_begin (r ∷ rows) h = h

as_ranges_below : (size : ℕ) (rows : List Row) → All (λ (r : Row). r.start < size) rows → All (λ (p : ContentRange). p.start < size) (as_ranges rows)
as_ranges_below size [] h = All-nil (λ (p : ContentRange). p.start < size)
as_ranges_below size (r ∷ rows) h =
    All-cons (λ (p : ContentRange). p.start < size) (range_of_row r) (as_ranges rows) (All-head (λ (r : Row). r.start < size) r rows h) (as_ranges_below size rows (All-tail (λ (r : Row). r.start < size) r rows h))

pub as_ranges_are : (size : ℕ) (rows : List Row) → RowsBegin rows → RowsRise rows → All (λ (r : Row). r.start < size) rows → AreRanges size (as_ranges rows)
as_ranges_are size rows begin rise below = record { first = as_ranges_begin rows begin; rise = as_ranges_rise 0 rows (rises rows rise); below = as_ranges_below size rows below }

pub as_ranges_fit : (arch : Arch) (rows : List Row) → All (λ (r : Row). IsTrue (content_fits arch r.content)) rows → AllFit arch (as_ranges rows)
as_ranges_fit arch [] h = All-nil (λ (p : ContentRange). IfFits arch p.content)
as_ranges_fit arch (r ∷ rows) h =
    let P : Row → Type 0 = λ (r : Row). IsTrue (content_fits arch r.content) in
    All-cons (λ (p : ContentRange). IfFits arch p.content) (range_of_row r) (as_ranges rows) (All-head P r rows h) (as_ranges_fit arch rows (All-tail P r rows h))
