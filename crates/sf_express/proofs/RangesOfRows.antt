-- Ranges have at each offset the content of the rows.
use Rattle.std.specs.List.{All}
use Rattle.std.specs.Option.{option_map}
use Rattle.std.proofs.Common.{◌≡◌, ℕ, zero, suc, ◌+◌, ◌<◌, ◌≤◌, Bool, true, false, cond, List, [], ◌∷◌, ◌++◌, get_or, length, Option, Some, None, Result, Ok, Err, refl, sym, ap, subst, ◌∙◌, arith, inl, inr}
use Rattle.std.proofs.lemmas.Bool.{cases_lt, lt-leb, le-leb}
use Rattle.std.proofs.lemmas.List.{append-nil}
use Rattle.std.proofs.lemmas.List.Elements.{All-nil, All-cons, All-head, All-tail}
use Rattle.sf_model.specs.declared.machine.Arch.{Arch}
use Rattle.sf_model.specs.declared.content.Content.{Content}
use Rattle.sf_model.specs.declared.omission.Reason.{Reason}
use Rattle.cfa_machine.specs.declared.columns.Columns.{Columns}
use Rattle.cfa_machine.specs.declared.fault.MachineFault.{MachineFault}
use Rattle.cfa_machine.specs.declared.row.DwRow.{DwRow}
use Rattle.cfa_machine.specs.RowAtOffset.{latest_at}
use Rattle.cfa_machine.specs.Columns.{row_from}
use Rattle.cfa_machine.specs.Left.{behind_row}
use Rattle.cfa_machine.specs.RowList.{AreRows, BeginAtZero, RiseFrom}
use Rattle.sf_express.specs.declared.content_ranges.ContentRange.{ContentRange}
use Rattle.sf_express.specs.Offsets.{content_or_reason}
use Rattle.sf_express.specs.Rules.{content_of}
use Rattle.sf_express.specs.ContentRanges.{AreRanges, AreRangesOf, RangesBegin, RangesDiffer, RangesRise, RangesHave, content_in, range_of, ranges_of, content_by, same_if_any, is_as_before, unless_again}
use Rattle.sf_express.specs.Run.{on_rows}
use Rattle.sf_express.specs.Runs.{AreContentsOf, ContentsByOffset}
use Rattle.sf_express.proofs.Changes.{content_itself}
use Rattle.sf_express.proofs.Same.{content_same}

-- ---- consecutive ranges
abbrev pub ranges_and_left : Arch → List ContentRange → Option (Option Content) → Result (List DwRow) MachineFault → Result (List ContentRange) MachineFault
ranges_and_left arch before last left = on_rows (λ rows. before ++ ranges_of arch last rows) left

regroup : (before : List ContentRange) (last : Option (Option Content)) (p : ContentRange) (rest : List ContentRange) → before ++ unless_again last p rest ≡ (before ++ unless_again last p []) ++ rest
regroup before last p rest = at_test (is_as_before last p.content)
  where
    again : (before : List ContentRange) → before ++ rest ≡ (before ++ []) ++ rest
    again before = ap (λ (ps : List ContentRange). ps ++ rest) (sym (append-nil before))

    new : (before : List ContentRange) → before ++ (p ∷ rest) ≡ (before ++ (p ∷ [])) ++ rest
    new [] = refl
    new (x ∷ xs) = ap (λ (ps : List ContentRange). x ∷ ps) (new xs)

    at_test : (b : Bool) → before ++ cond b rest (p ∷ rest) ≡ (before ++ cond b [] (p ∷ [])) ++ rest
    at_test true = again before
    at_test false = new before

row_goes_on : (arch : Arch) (before now : List ContentRange) (last : Option (Option Content)) (start : ℕ) (c : Columns) (content : Option Content) (after : Result (List DwRow) MachineFault)
    → content_in (content_of arch (row_from start c)) ≡ content → now ≡ before ++ unless_again last (record { start = start; content = content }) []
    → ranges_and_left arch before last (behind_row start c after) ≡ ranges_and_left arch now (Some content) after
unfolding ranges_of
row_goes_on arch before now last start c content (Ok rows) said grown =
    rw (said, grown) (ap (λ (ps : List ContentRange). Ok ps) (regroup before last (record { start = start; content = content }) (ranges_of arch (Some content) rows)))
row_goes_on arch before now last start c content (Err e) said grown = refl

pub goes_on : (arch : Arch) (before now : List ContentRange) (last : Option (Option Content)) (start : ℕ) (c : Columns) (content : Option Content) (left after : Result (List DwRow) MachineFault) (whole : Result (List ContentRange) MachineFault)
    → left ≡ behind_row start c after → content ≡ content_in (content_of arch (row_from start c)) → now ≡ before ++ unless_again last (record { start = start; content = content }) []
    → ranges_and_left arch before last left ≡ whole → ranges_and_left arch now (Some content) after ≡ whole
goes_on arch before now last start c content left after whole next said grown so_far =
    sym (row_goes_on arch before now last start c content after (sym said) grown) ∙ (ap (ranges_and_left arch before last) (sym next) ∙ so_far)

pub is_done : (arch : Arch) (before : List ContentRange) (last : Option (Option Content)) (left : Result (List DwRow) MachineFault) (whole : Result (List ContentRange) MachineFault) → left ≡ Ok []
    → ranges_and_left arch before last left ≡ whole → whole ≡ Ok before
unfolding ranges_of
is_done arch before last left whole none so_far =
    let here : ranges_and_left arch before last left ≡ Ok before = rw none (ap (λ (ps : List ContentRange). Ok ps) (append-nil before)) in
    sym so_far ∙ here

-- ---- their contents
rise_lower : (low high : ℕ) (ranges : List ContentRange) → low ≤ high → RangesRise high ranges → RangesRise low ranges
rise_lower low high [] le h = tt
rise_lower low high (p ∷ ranges) le h = (omega (arith, le, h.0), h.1)

unless_rises : (b : Bool) (least : ℕ) (p : ContentRange) (rest : List ContentRange) → least ≤ p.start → RangesRise (p.start + 1) rest → RangesRise least (cond b rest (p ∷ rest))
unless_rises true least p rest le h = rise_lower least (p.start + 1) rest (omega (arith, le)) h
unless_rises false least p rest le h = (le, h)

pub ranges_rise : (arch : Arch) (least : ℕ) (last : Option (Option Content)) (rows : List DwRow) → RiseFrom least rows → RangesRise least (ranges_of arch last rows)
unfolding ranges_of
ranges_rise arch least last [] h = tt
ranges_rise arch least last (r ∷ rows) h =
    unless_rises (is_as_before last (content_in (content_of arch r))) least (range_of arch r) (ranges_of arch (Some (content_in (content_of arch r))) rows) h.0
    (ranges_rise arch (r.start + 1) (Some (content_in (content_of arch r))) rows h.1)

-- ranges that begin after an offset have nothing there
said_past : (o least : ℕ) (found : Option (Option Content)) (ranges : List ContentRange) → o < least → RangesRise least ranges → content_by o found ranges ≡ found
said_past o least found [] lt h = refl
said_past o least found (p ∷ ranges) lt h = rw (lt-leb p.start o (omega (arith, lt, h.0))) refl

row_past : (o least : ℕ) (found : Option DwRow) (rows : List DwRow) → o < least → RiseFrom least rows → latest_at o found rows ≡ found
row_past o least found [] lt h = refl
row_past o least found (r ∷ rows) lt h =
    let after : o < r.start = omega (arith, lt, h.0) in
    ap (λ (b : Bool). latest_at o (cond b (Some r) found) rows) (lt-leb r.start o after) ∙ row_past o (r.start + 1) found rows (omega (arith, after)) h.1

abbrev saying_of : Arch → Option DwRow → Option (Option Content)
saying_of arch found = option_map (λ (r : DwRow). content_in (content_of arch r)) found

-- a test that holds is an equation
same_is : (a b : Option Content) → same_if_any a b ≡ true → a ≡ b
same_is None None e = refl
same_is None (Some c) e = cc
same_is (Some c) None e = cc
same_is (Some c) (Some d) e = ap (λ (x : Content). Some x) (content_same c d e)

again_is : (last : Option (Option Content)) (content : Option Content) → is_as_before last content ≡ true → last ≡ Some content
again_is None content e = cc
again_is (Some last) content e = ap (λ (x : Option Content). Some x) (same_is last content e)

pub ranges_said : (arch : Arch) (o least : ℕ) (found : Option DwRow) (last : Option (Option Content)) (rows : List DwRow) → RiseFrom least rows → last ≡ saying_of arch found
    → content_by o last (ranges_of arch last rows) ≡ saying_of arch (latest_at o found rows)
unfolding ranges_of
ranges_said arch o least found last [] h e = e
ranges_said arch o least found last (r ∷ rows) h e = elim (cases_lt o r.start) [
  | inl after ↦
      let past = said_past o r.start last (ranges_of arch last (r ∷ rows)) after
      (unless_rises (is_as_before last (content_in (content_of arch r))) r.start (range_of arch r) (ranges_of arch (Some (content_in (content_of arch r))) rows) (omega arith) (ranges_rise arch (r.start + 1) (Some (content_in (content_of arch r))) rows h.1)) in
      let nothing : latest_at o found (r ∷ rows) ≡ found =
      ap (λ (b : Bool). latest_at o (cond b (Some r) found) rows) (lt-leb r.start o after) ∙ row_past o (r.start + 1) found rows (omega (arith, after)) h.1 in
      past ∙ e ∙ sym (ap (saying_of arch) nothing)
  | inr not_after ↦
      let by : r.start ≤ o = omega (arith, not_after) in
      let here : latest_at o found (r ∷ rows) ≡ latest_at o (Some r) rows = ap (λ (b : Bool). latest_at o (cond b (Some r) found) rows) (le-leb r.start o by) in
      at_test (is_as_before last (content_in (content_of arch r))) refl by (ranges_said arch o (r.start + 1) (Some r) (Some (content_in (content_of arch r))) rows h.1 refl)
      ∙ sym (ap (saying_of arch) here)
]
  where
    rest : List ContentRange
    rest = ranges_of arch (Some (content_in (content_of arch r))) rows

    at_test : (b : Bool) → is_as_before last (content_in (content_of arch r)) ≡ b → r.start ≤ o
        → content_by o (Some (content_in (content_of arch r))) (ranges_of arch (Some (content_in (content_of arch r))) rows) ≡ saying_of arch (latest_at o (Some r) rows)
        → content_by o last (cond b (ranges_of arch (Some (content_in (content_of arch r))) rows) (range_of arch r ∷ ranges_of arch (Some (content_in (content_of arch r))) rows)) ≡ saying_of arch (latest_at o (Some r) rows)
    at_test true t by later =
        ap (λ (x : Option (Option Content)). content_by o x (ranges_of arch (Some (content_in (content_of arch r))) rows)) (again_is last (content_in (content_of arch r)) t) ∙ later
    at_test false t by later = rw (le-leb r.start o by) later

saying_said : (arch : Arch) (found : Option DwRow) (says : Result Content Reason) → content_or_reason arch found ≡ Some says → saying_of arch found ≡ Some (content_in says)
saying_said arch None says e = cc
saying_said arch (Some r) says e = let is : content_of arch r ≡ says = cc in ap (λ (x : Result Content Reason). Some (content_in x)) is

pub ranges_say : (arch : Arch) (size : ℕ) (rows : List DwRow) (says : ContentsByOffset) → RiseFrom 0 rows → AreContentsOf arch size rows says → RangesHave size (ranges_of arch None rows) (λ o. content_in (says o))
ranges_say arch size rows says h are = λ o lt. ranges_said arch o 0 None None rows h refl ∙ saying_said arch (latest_at o None rows) (says o) (are o lt)

-- ---- which ranges they are
ranges_begin : (arch : Arch) (rows : List DwRow) → 0 < length rows → BeginAtZero rows → RangesBegin (ranges_of arch None rows)
unfolding ranges_of
ranges_begin arch [] some h = absurd (omega (arith, some))
ranges_begin arch (r ∷ rows) some h = h

unless_below : (b : Bool) (size : ℕ) (p : ContentRange) (rest : List ContentRange) → p.start < size → All (λ (p : ContentRange). p.start < size) rest → All (λ (p : ContentRange). p.start < size) (cond b rest (p ∷ rest))
unless_below true size p rest lt h = h
unless_below false size p rest lt h = All-cons (λ (p : ContentRange). p.start < size) p rest lt h

ranges_below : (arch : Arch) (size : ℕ) (last : Option (Option Content)) (rows : List DwRow) → All (λ (r : DwRow). r.start < size) rows → All (λ (p : ContentRange). p.start < size) (ranges_of arch last rows)
unfolding ranges_of
ranges_below arch size last [] h = All-nil (λ (p : ContentRange). p.start < size)
ranges_below arch size last (r ∷ rows) h =
    unless_below (is_as_before last (content_in (content_of arch r))) size (range_of arch r) (ranges_of arch (Some (content_in (content_of arch r))) rows)
    (All-head (λ (x : DwRow). x.start < size) r rows h) (ranges_below arch size (Some (content_in (content_of arch r))) rows (All-tail (λ (x : DwRow). x.start < size) r rows h))

pub are_ranges : (arch : Arch) (size : ℕ) (rows : List DwRow) → 0 < size → AreRows arch size rows → AreRanges size (ranges_of arch None rows)
are_ranges arch size rows some h = record {
  first = ranges_begin arch rows (h.some some) h.first;
  rise = ranges_rise arch 0 None rows h.rise;
  below = ranges_below arch size None rows h.below;
}

-- ---- neighbours differ
says_itself : (said : Option Content) → same_if_any said said ≡ true
says_itself None = refl
says_itself (Some c) = content_itself c

not_again : (last : Option (Option Content)) (content : Option Content) → is_as_before last content ≡ false → last ≡ Some content → ⊥
not_again None content e is = cc
not_again (Some last) content e is =
    let one : last ≡ content = cc in
    let never : true ≡ false = sym (says_itself last) ∙ ap (same_if_any last) one ∙ e in
    cc

pub ranges_differ : (arch : Arch) (last : Option (Option Content)) (rows : List DwRow) → RangesDiffer last (ranges_of arch last rows)
unfolding ranges_of
ranges_differ arch last [] = tt
ranges_differ arch last (r ∷ rows) = at_test (is_as_before last (content_in (content_of arch r))) refl (ranges_differ arch (Some (content_in (content_of arch r))) rows)
  where
    at_test : (b : Bool) → is_as_before last (content_in (content_of arch r)) ≡ b → RangesDiffer (Some (content_in (content_of arch r))) (ranges_of arch (Some (content_in (content_of arch r))) rows)
        → RangesDiffer last (cond b (ranges_of arch (Some (content_in (content_of arch r))) rows) (range_of arch r ∷ ranges_of arch (Some (content_in (content_of arch r))) rows))
    at_test true t rest = subst (λ (x : Option (Option Content)). RangesDiffer x (ranges_of arch (Some (content_in (content_of arch r))) rows)) (sym (again_is last (content_in (content_of arch r)) t)) rest
    at_test false t rest = (not_again last (content_in (content_of arch r)) t, rest)

pub are_said_by : (arch : Arch) (size : ℕ) (rows : List DwRow) (says : ContentsByOffset) → 0 < size → AreRows arch size rows → AreContentsOf arch size rows says → AreRangesOf size (λ o. content_in (says o)) (ranges_of arch None rows)
are_said_by arch size rows says some h said = record {
  are = are_ranges arch size rows some h;
  say = ranges_say arch size rows says h.rise said;
  differ = ranges_differ arch None rows;
}

-- ---- the range at a place
first_least : (least : ℕ) (ranges : List ContentRange) (i : ℕ) (d : ContentRange) → RangesRise least ranges → i < length ranges → least ≤ (get_or ranges i d).start
first_least least [] i d h lt = absurd (omega (arith, lt))
first_least least (p ∷ ranges) zero d h lt = h.0
first_least least (p ∷ ranges) (suc i) d h lt = let later = first_least (p.start + 1) ranges i d h.1 (omega (arith, lt)) in omega (arith, later, h.0)

pub said_at_place : (o least i : ℕ) (found : Option (Option Content)) (ranges : List ContentRange) (d : ContentRange) → RangesRise least ranges → i < length ranges → (get_or ranges i d).start ≤ o
    → (i + 1 < length ranges → o < (get_or ranges (i + 1) d).start) → content_by o found ranges ≡ Some (get_or ranges i d).content
said_at_place o least i found [] d h lt by before = absurd (omega (arith, lt))
said_at_place o least zero found (p ∷ []) d h lt by before = rw (le-leb p.start o by) refl
said_at_place o least zero found (p ∷ q ∷ ranges) d h lt by before =
    let after : o < q.start = before (omega arith) in
    rw (le-leb p.start o by, lt-leb q.start o after) refl
said_at_place o least (suc i) found (p ∷ ranges) d h lt by before =
    let there = first_least (p.start + 1) ranges i d h.1 (omega (arith, lt)) in
    let here : p.start ≤ o = omega (arith, there, by) in
    let same : suc i + 1 ≡ suc (i + 1) = omega arith in
    rw (le-leb p.start o here) (said_at_place o (p.start + 1) i (Some p.content) ranges d h.1 (omega (arith, lt)) by
    (λ more. subst (λ (k : ℕ). o < (get_or (p ∷ ranges) k d).start) same (before (omega (arith, more)))))

pub first_begins : (ranges : List ContentRange) (d : ContentRange) → RangesBegin ranges → (get_or ranges 0 d).start ≡ 0
first_begins [] d h = absurd h
first_begins (p ∷ ranges) d h = h

pub some_ranges : (ranges : List ContentRange) → RangesBegin ranges → 0 < length ranges
some_ranges [] h = absurd h
some_ranges (p ∷ ranges) h = omega arith

pub next_after : (ranges : List ContentRange) (i : ℕ) (d : ContentRange) → RangesRise 0 ranges → i + 1 < length ranges → (get_or ranges i d).start < (get_or ranges (i + 1) d).start
next_after ranges i d h lt = go 0 ranges i h lt
  where
    go : (least : ℕ) (ranges : List ContentRange) (i : ℕ) → RangesRise least ranges → i + 1 < length ranges → (get_or ranges i d).start < (get_or ranges (i + 1) d).start
    go least [] i h lt = absurd (omega (arith, lt))
    go least (p ∷ ranges) zero h lt = let next = first_least (p.start + 1) ranges 0 d h.1 (omega (arith, lt)) in omega (arith, next)
    go least (p ∷ ranges) (suc i) h lt =
        let same : suc (i + 1) ≡ suc i + 1 = omega arith in
        subst (λ (k : ℕ). (get_or ranges i d).start < (get_or (p ∷ ranges) k d).start) same (go (p.start + 1) ranges i h.1 (omega (arith, lt)))

pub next_differs : (last : Option (Option Content)) (ranges : List ContentRange) (i : ℕ) (d : ContentRange) → RangesDiffer last ranges → i + 1 < length ranges → (get_or ranges i d).content ≡ (get_or ranges (i + 1) d).content → ⊥
next_differs last [] i d h lt same = absurd (omega (arith, lt))
next_differs last (p ∷ []) i d h lt same = absurd (omega (arith, lt))
next_differs last (p ∷ q ∷ ranges) zero d h lt same = h.1.0 (ap (λ (x : Option Content). Some x) same)
next_differs last (p ∷ q ∷ ranges) (suc i) d h lt same =
    let next : suc i + 1 ≡ suc (i + 1) = omega arith in
    next_differs (Some p.content) (q ∷ ranges) i d h.1 (omega (arith, lt)) (same ∙ ap (λ (k : ℕ). (get_or (p ∷ q ∷ ranges) k d).content) next)
