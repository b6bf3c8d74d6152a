-- One pass over rising rows keeps those that are needed.
use Rattle.std.specs.Prelude.{nat_lt, not}
use Rattle.std.specs.Option.{option_map}
use Rattle.std.specs.List.{range_with_len}
use Rattle.std.proofs.Common.{◌≡◌, ℕ, zero, suc, ◌+◌, ◌<◌, ◌≤◌, Bool, true, false, cond, List, [], ◌∷◌, Option, Some, None, refl, sym, ap, subst, ◌∙◌, arith, inl, inr}
use Rattle.std.proofs.lemmas.Bool.{cases_lt, lt-ltb, le-ltb}
use Rattle.sf_model.specs.declared.content.Content.{Content}
use Rattle.sf_model.specs.declared.rows.Row.{Row}
use Rattle.sf_model.specs.Function.{RowsRise}
use Rattle.sf_express.specs.Expressed.{repeats}
use Rattle.sf_express.proofs.Changes.{content_itself}
use Rattle.sf_express.proofs.Same.{repeated_is}
use Rattle.sf_lookup.proofs.Rows.{Rise, all_rise, latest, latest_begun, latest_holds, latest_stays, latest_stops, rise_lower, rises}
use Rattle.sf_slim.specs.Slim.{ContentByOffset, content_begins, content_at, rows_beginning, have_same_content, slim_rows}
use Rattle.sf_slim.specs.Pass.{is_needed, kept}
use Rattle.sf_slim.proofs.Least.{skips, nothing, takes}

abbrev pub contents : Option Row → Option Content
contents found = option_map (λ (r : Row). r.content) found

-- ---- rows past the size
none_kept : (last : Option Content) (size least : ℕ) (rows : List Row) → size ≤ least → Rise least rows → kept last size rows ≡ []
none_kept last size least [] le h = refl
none_kept last size least (r ∷ rows) le h =
    let behind : nat_lt r.start size ≡ false = le-ltb r.start size (omega (le, h.0, arith)) in
    let later : kept last size rows ≡ [] = none_kept last size (r.start + 1) rows (omega (le, h.0, arith)) h.1 in
    rw (behind, later) refl

-- ---- one row
pub kept_new : (last : Option Content) (size : ℕ) (r : Row) (rows : List Row) → r.start < size → repeats last r.content ≡ false → kept last size (r ∷ rows) ≡ r ∷ kept (Some r.content) size rows
kept_new last size r rows lt e = rw (lt-ltb r.start size lt, e) refl

pub kept_again : (last : Option Content) (size : ℕ) (r : Row) (rows : List Row) → r.start < size → repeats last r.content ≡ true → kept last size (r ∷ rows) ≡ kept (Some r.content) size rows
kept_again last size r rows lt e =
    let skipped : kept last size (r ∷ rows) ≡ kept last size rows = rw (lt-ltb r.start size lt, e) refl in
    skipped ∙ ap (λ (x : Option Content). kept x size rows) (repeated_is last r.content e)

-- ---- offset by offset
-- the answer just before an offset
abbrev Before : ContentByOffset → (offset : ℕ) → Option Content → Type 0
Before says zero found = found ≡ None
Before says (suc offset) found = says offset ≡ found

next : (says : ContentByOffset) (a : ℕ) (found : Option Content) → says a ≡ found → Before says (a + 1) found
next says a found e = let more : suc a ≡ a + 1 = omega arith in subst (λ k. Before says k found) more e

-- nothing changes at this offset
quiet : (says : ContentByOffset) (a n : ℕ) (found : Option Content) → Before says a found → says a ≡ found → rows_beginning says (range_with_len a (suc n)) ≡ rows_beginning says (range_with_len (a + 1) n)
quiet says a n None before e = nothing says a n e
quiet says zero n (Some c) before e = let no : Some c ≡ None = before in cc
quiet says (suc p) n (Some c) before e =
    let unchanged : content_begins says (suc p) ≡ false = rw (before, e, content_itself c) refl in
    skips says (suc p) n unchanged

same_as_repeats : (found : Option Content) (c : Content) → have_same_content found (Some c) ≡ repeats found c
same_as_repeats None c = refl
same_as_repeats (Some d) c = refl

begins_is : (says : ContentByOffset) (a : ℕ) (found : Option Content) (c : Content) → Before says a found → says a ≡ Some c → content_begins says a ≡ not (repeats found c)
begins_is says zero found c before e = let none : found ≡ None = before in rw none refl
begins_is says (suc p) found c before e =
    let was : says p ≡ found = before in
    rw (was, e, same_as_repeats found c) refl

swept : (says : ContentByOffset) (size n a : ℕ) (found : Option Row) (rest : List Row) → a + n ≡ size → Rise a rest → Before says a (contents found)
    → ((o : ℕ) → a ≤ o → says o ≡ contents (latest o found rest)) → rows_beginning says (range_with_len a n) ≡ kept (contents found) size rest
swept says size zero a found rest e rise before at = sym (none_kept (contents found) size a rest (omega (e, arith)) rise)
swept says size (suc n) a found [] e rise before at =
    let here : says a ≡ contents found = at a (omega arith) in
    quiet says a n (contents found) before here
    ∙ swept says size n (a + 1) found [] (omega (e, arith)) tt (next says a (contents found) here) (λ o le. at o (omega (le, arith)))
swept says size (suc n) a found (r ∷ rows) e rise before at = elim (cases_lt a r.start) [
  | inl ahead ↦
      let here : says a ≡ contents found = at a (omega arith) ∙ ap contents (latest_stops a found r rows ahead) in
      quiet says a n (contents found) before here
      ∙ swept says size n (a + 1) found (r ∷ rows) (omega (e, arith)) (omega (ahead, arith), rise.1) (next says a (contents found) here) (λ o le. at o (omega (le, arith)))
  | inr not_ahead ↦
      let is : r.start ≡ a = omega (not_ahead, rise.0, arith) in
      let here : says a ≡ Some r.content = at a (omega arith) ∙ ap contents (latest_begun a found r rows (omega (is, arith)) ∙ latest_stays a (r.start + 1) (Some r) rows (omega (is, arith)) rise.1) in
      let later : rows_beginning says (range_with_len (a + 1) n) ≡ kept (Some r.content) size rows =
      swept says size n (a + 1) (Some r) rows (omega (e, arith)) (rise_lower (a + 1) (r.start + 1) rows (omega (is, arith)) rise.1) (next says a (Some r.content) here)
      (λ o le. at o (omega (le, arith)) ∙ ap contents (latest_begun o found r rows (omega (is, le, arith)))) in
      let within : r.start < size = omega (is, e, arith) in
      at_test (repeats (contents found) r.content) refl is here later within
]
  where
    at_test : (b : Bool) → repeats (contents found) r.content ≡ b → r.start ≡ a → says a ≡ Some r.content → rows_beginning says (range_with_len (a + 1) n) ≡ kept (Some r.content) size rows → r.start < size
        → rows_beginning says (range_with_len a (suc n)) ≡ kept (contents found) size (r ∷ rows)
    at_test true t is here later within =
        skips says a n (begins_is says a (contents found) r.content before here ∙ ap not t) ∙ later ∙ sym (kept_again (contents found) size r rows within t)
    at_test false t is here later within =
        takes says a n r.content (begins_is says a (contents found) r.content before here ∙ ap not t) here
        ∙ ap (λ (k : ℕ). record { start = k; content = r.content } ∷ rows_beginning says (range_with_len (a + 1) n)) (sym is)
        ∙ ap (λ (rs : List Row). r ∷ rs) later
        ∙ sym (kept_new (contents found) size r rows within t)

pub slim_is_kept : (size : ℕ) (rows : List Row) → RowsRise rows → slim_rows size rows ≡ kept None size rows
unfolding slim_rows
slim_is_kept size rows h = swept (content_at rows) size size 0 None rows (omega arith) (rises rows h) refl (λ o le. ap contents (sym (latest_holds o rows h)))

-- ---- the answers of the kept rows
kept_rise : (last : Option Content) (size least : ℕ) (rows : List Row) → Rise least rows → Rise least (kept last size rows)
kept_rise last size least [] h = tt
kept_rise last size least (r ∷ rows) h = at_test (is_needed last size r) (kept_rise (Some r.content) size (r.start + 1) rows h.1) (kept_rise last size (r.start + 1) rows h.1)
  where
    at_test : (b : Bool) → Rise (r.start + 1) (kept (Some r.content) size rows) → Rise (r.start + 1) (kept last size rows) → Rise least (cond b (r ∷ kept (Some r.content) size rows) (kept last size rows))
    at_test true new old = (h.0, new)
    at_test false new old = rise_lower least (r.start + 1) (kept last size rows) (omega (h.0, arith)) old

pub kept_rows_rise : (size : ℕ) (rows : List Row) → RowsRise rows → RowsRise (kept None size rows)
kept_rows_rise size rows h = all_rise 0 (kept None size rows) (kept_rise None size 0 rows (rises rows h))

kept_content : (o size least : ℕ) (found : Option Row) (last : Option Row) (rows : List Row) → o < size → Rise least rows → contents last ≡ contents found
    → contents (latest o last (kept (contents found) size rows)) ≡ contents (latest o found rows)
kept_content o size least found last [] lt h e = e
kept_content o size least found last (r ∷ rows) lt h e = elim (cases_lt o r.start) [
  | inl ahead ↦
      ap contents (latest_stays o r.start last (kept (contents found) size (r ∷ rows)) ahead (kept_rise (contents found) size r.start (r ∷ rows) (omega arith, h.1)))
      ∙ e ∙ sym (ap contents (latest_stops o found r rows ahead))
  | inr not_ahead ↦
      let by : r.start ≤ o = omega (not_ahead, arith) in
      let within : r.start < size = omega (by, lt, arith) in
      at_test (repeats (contents found) r.content) refl by within
      (λ last' e'. kept_content o size (r.start + 1) (Some r) last' rows lt h.1 e')
]
  where
    at_test : (b : Bool) → repeats (contents found) r.content ≡ b → r.start ≤ o → r.start < size
        → ((last' : Option Row) → contents last' ≡ Some r.content → contents (latest o last' (kept (Some r.content) size rows)) ≡ contents (latest o (Some r) rows))
        → contents (latest o last (kept (contents found) size (r ∷ rows))) ≡ contents (latest o found (r ∷ rows))
    at_test true t by within later =
        ap (λ (rs : List Row). contents (latest o last rs)) (kept_again (contents found) size r rows within t)
        ∙ later last (e ∙ repeated_is (contents found) r.content t)
        ∙ sym (ap contents (latest_begun o found r rows by))
    at_test false t by within later =
        ap (λ (rs : List Row). contents (latest o last rs)) (kept_new (contents found) size r rows within t)
        ∙ ap contents (latest_begun o last r (kept (Some r.content) size rows) by)
        ∙ later (Some r) refl
        ∙ sym (ap contents (latest_begun o found r rows by))

-- below the size the rows that are needed have the content that all rows have
pub slim_says : (size : ℕ) (rows : List Row) → RowsRise rows → (o : ℕ) → o < size → content_at (slim_rows size rows) o ≡ content_at rows o
slim_says size rows h o lt =
    ap (λ (rs : List Row). content_at rs o) (slim_is_kept size rows h)
    ∙ ap contents (sym (latest_holds o (kept None size rows) (kept_rows_rise size rows h)))
    ∙ kept_content o size 0 None None rows lt (rises rows h) refl
    ∙ ap contents (latest_holds o rows h)
