-- The rows of a kept function as ranges: they have the content that holds at each offset, and no two neighbours are alike.
use Rattle.std.specs.List.{All, cons_option, filter, filter_map, range_with_len}
use Rattle.std.specs.Option.{option_map}
use Rattle.std.proofs.Common.{◌≡◌, ◌≢◌, ℕ, zero, suc, ◌+◌, ◌<◌, ◌≤◌, Bool, true, false, cond, List, [], ◌∷◌, map, Option, Some, None, Result, Ok, Err, refl, sym, ap, subst, ◌∙◌, arith, inl, inr}
use Rattle.std.proofs.lemmas.Bool.{cases_lt, lt-leb, le-leb}
use Rattle.std.proofs.lemmas.List.Elements.{All-nil, All-cons}
use Rattle.sf_model.specs.declared.content.Content.{Content}
use Rattle.sf_model.specs.declared.omission.Reason.{Reason}
use Rattle.sf_model.specs.declared.rows.Row.{Row}
use Rattle.sf_express.specs.declared.content_ranges.ContentRange.{ContentRange}
use Rattle.sf_express.specs.Offsets.{DifferFrom, without_reason, latest_content}
use Rattle.sf_express.specs.ContentRanges.{AreRangesOf, RangesBegin, RangesDiffer, RangesRise, content_in, range_of_row, content_by}
use Rattle.sf_express.specs.Runs.{ContentsByOffset, begins, row_there, rows_among, rows_of}
use Rattle.sf_express.proofs.Found.{SaysContent, content_said, found_before, latest_said, rise_among}
use Rattle.sf_express.proofs.Runs.{FoundBefore, begins_not, found_on, skips, takes}
use Rattle.sf_express.proofs.Same.{kept_past}
use Rattle.sf_express.proofs.Writable.{StartsRise}

abbrev as_ranges : List Row → List ContentRange
as_ranges rows = map range_of_row rows

-- ---- their contents
abbrev as_content : Option Content → Option (Option Content)
as_content found = option_map (λ (c : Content). Some c) found

said_latest : (o least : ℕ) (found : Option Content) (rows : List Row) → StartsRise least rows → content_by o (as_content found) (as_ranges rows) ≡ as_content (latest_content o found rows)
said_latest o least found [] h = refl
said_latest o least found (r ∷ rows) h = elim (cases_lt o r.start) [
  | inl after ↦ rw (lt-leb r.start o after) (sym (ap as_content (kept_past o (r.start + 1) found rows (omega (arith, after)) h.1)))
  | inr not_after ↦ rw (le-leb r.start o (omega (arith, not_after))) (said_latest o (r.start + 1) (Some r.content) rows h.1)
]

is_said : (found : Option Content) (said : Result Content Reason) → without_reason found ≡ Some said → as_content found ≡ Some (content_in said)
is_said None said e = cc
is_said (Some c) said e = let is : Ok c ≡ said = cc in ap (λ (x : Result Content Reason). Some (content_in x)) is

-- ---- which ranges they are
ranges_rise : (least : ℕ) (rows : List Row) → StartsRise least rows → RangesRise least (as_ranges rows)
ranges_rise least [] h = tt
ranges_rise least (r ∷ rows) h = (h.0, ranges_rise (r.start + 1) rows h.1)

ranges_below : (says : ContentsByOffset) (a n end : ℕ) → a + n ≤ end → All (λ (p : ContentRange). p.start < end) (as_ranges (rows_among says (range_with_len a n)))
ranges_below says a zero end le = All-nil (λ (p : ContentRange). p.start < end)
ranges_below says a (suc n) end le = at_test (begins says a) (ranges_below says (a + 1) n end (omega (arith, le)))
  where
    one : (x : Result Content Reason) (rows : List Row) → All (λ (p : ContentRange). p.start < end) (as_ranges rows) → All (λ (p : ContentRange). p.start < end) (as_ranges (cons_option (row_there a x) rows))
    one (Ok c) rows h = All-cons (λ (p : ContentRange). p.start < end) (record { start = a; content = Some c }) (as_ranges rows) (omega (arith, le)) h
    one (Err reason) rows h = h

    at_test : (b : Bool) → All (λ (p : ContentRange). p.start < end) (as_ranges (rows_among says (range_with_len (a + 1) n)))
        → All (λ (p : ContentRange). p.start < end) (as_ranges (filter_map (λ (o : ℕ). row_there o (says o)) (cond b (a ∷ filter (begins says) (range_with_len (a + 1) n)) (filter (begins says) (range_with_len (a + 1) n)))))
    at_test true h = one (says a) (rows_among says (range_with_len (a + 1) n)) h
    at_test false h = h

ranges_begin : (says : ContentsByOffset) (n : ℕ) → SaysContent (says 0) → RangesBegin (as_ranges (rows_among says (range_with_len 0 (suc n))))
ranges_begin says n first =
    let here = content_said (says 0) first in
    subst (λ (rows : List Row). RangesBegin (as_ranges rows)) (sym (takes says 0 n here.0 refl here.1)) refl

-- ---- neighbours differ
differ_as_ranges : (last : Option Content) (rows : List Row) → DifferFrom last rows → RangesDiffer (as_content last) (as_ranges rows)
differ_as_ranges last [] h = tt
differ_as_ranges last (r ∷ rows) h = (other last h.0, differ_as_ranges (Some r.content) rows h.1)
  where
    other : (found : Option Content) → (found ≢ Some r.content) → as_content found ≡ Some (Some r.content) → ⊥
    other None differs e = cc
    other (Some c) differs e = let is : c ≡ r.content = cc in differs (ap (λ (x : Content). Some x) is)

rows_differ : (says : ContentsByOffset) (a n : ℕ) (found : Option Content) → FoundBefore says a found → ((o : ℕ) → a ≤ o → o < a + n → SaysContent (says o)) → DifferFrom found (rows_among says (range_with_len a n))
rows_differ says a zero found before all = tt
rows_differ says a (suc n) found before all =
    let here = content_said (says a) (all a (omega arith) (omega arith)) in
    let all' : (p : ℕ) → a + 1 ≤ p → p < a + 1 + n → SaysContent (says p) = λ p low high. all p (omega (arith, low)) (omega (arith, high)) in
    at_test here.0 here.1 (begins says a) refl
    (rows_differ says (a + 1) n (Some here.0) (found_on says a (Some here.0) (ap (λ (x : Result Content Reason). Some x) (sym here.1))) all')
    (λ e. rows_differ says (a + 1) n found (found_on says a found (found_before says a found before e)) all')
  where
    never : (c : Content) → says a ≡ Ok c → begins says a ≡ true → found ≡ Some c → ⊥
    never c said t is =
        let none : begins says a ≡ false = begins_not says a found before (ap without_reason is ∙ ap (λ (x : Result Content Reason). Some x) (sym said)) in
        let both : true ≡ false = sym t ∙ none in
        cc

    at_test : (c : Content) → says a ≡ Ok c → (b : Bool) → begins says a ≡ b → DifferFrom (Some c) (rows_among says (range_with_len (a + 1) n))
        → (begins says a ≡ false → DifferFrom found (rows_among says (range_with_len (a + 1) n))) → DifferFrom found (rows_among says (range_with_len a (suc n)))
    at_test c said true t begun other = subst (DifferFrom found) (sym (takes says a n c t said)) (never c said t, begun)
    at_test c said false t begun other = subst (DifferFrom found) (sym (skips says a n t)) (other t)

-- ---- the rows of a kept function
pub rows_said_by : (says : ContentsByOffset) (size : ℕ) → 0 < size → ((o : ℕ) → o < size → SaysContent (says o)) → AreRangesOf size (λ o. content_in (says o)) (map range_of_row (rows_of says size))
unfolding rows_of
rows_said_by says zero some all = absurd (omega (arith, some))
rows_said_by says (suc n) some all =
    let all' : (p : ℕ) → 0 ≤ p → p < 0 + suc n → SaysContent (says p) = λ p low high. all p (omega (arith, high)) in
    record {
      are = record {
        first = ranges_begin says n (all 0 (omega arith));
        rise = ranges_rise 0 (rows_among says (range_with_len 0 (suc n))) (rise_among says 0 (suc n));
        below = ranges_below says 0 (suc n) (suc n) (omega arith);
      };
      say = λ o lt. said_latest o 0 None (rows_among says (range_with_len 0 (suc n))) (rise_among says 0 (suc n))
          ∙ is_said (latest_content o None (rows_among says (range_with_len 0 (suc n)))) (says o) (latest_said says 0 (suc n) None refl all' o (omega arith) (omega (arith, lt)));
      differ = differ_as_ranges None (rows_among says (range_with_len 0 (suc n))) (rows_differ says 0 (suc n) None refl all');
    }
