-- The row that holds at an offset, among the rows of a function, has the content at that offset.
use Rattle.std.specs.Prelude.{nat_le, ◌&&◌, not}
use Rattle.std.specs.Option.{option_map}
use Rattle.std.specs.List.{filter, filter_map, find, cons_option, range_with_len}
use Rattle.std.proofs.Common.{◌≡◌, ℕ, zero, suc, ◌+◌, ◌<◌, ◌≤◌, Bool, true, false, cond, List, [], ◌∷◌, Option, Some, None, Result, Ok, Err, refl, sym, ap, ◌∙◌, arith, inl, inr}
use Rattle.std.proofs.lemmas.Bool.{cases_lt, lt-leb, le-leb}
use Rattle.sf_model.specs.declared.content.Content.{Content}
use Rattle.sf_model.specs.declared.omission.Reason.{Reason}
use Rattle.sf_model.specs.declared.rows.Row.{Row}
use Rattle.sf_model.specs.Lookup.{begins_by, begins_last, row_at}
use Rattle.sf_express.specs.Offsets.{without_reason, latest_content}
use Rattle.sf_express.specs.Runs.{ContentsByOffset, are_same_contents, begins, row_there, rows_among, rows_of}
use Rattle.sf_express.proofs.Same.{kept_past, content_same}
use Rattle.sf_express.proofs.Runs.{FoundBefore, skips, takes, found_on}
use Rattle.sf_express.proofs.Writable.{StartsRise, rise_lower}

-- ---- the last of rising rows
abbrev last_or : Option Row → List Row → Option Row
last_or found [] = found
last_or found (r ∷ rows) = last_or (Some r) rows

-- the last row that begins by an offset is the latest one
latest_is : (o : ℕ) (found : Option Row) (rows : List Row) → latest_content o (option_map (λ (r : Row). r.content) found) rows ≡ option_map (λ (r : Row). r.content) (last_or found (filter (begins_by o) rows))
latest_is o found [] = refl
latest_is o found (r ∷ rows) = at_test (nat_le r.start o) refl (latest_is o (Some r) rows) (latest_is o found rows)
  where
    at_test : (b : Bool) → nat_le r.start o ≡ b
        → latest_content o (Some r.content) rows ≡ option_map (λ (r : Row). r.content) (last_or (Some r) (filter (begins_by o) rows))
        → latest_content o (option_map (λ (r : Row). r.content) found) rows ≡ option_map (λ (r : Row). r.content) (last_or found (filter (begins_by o) rows))
        → latest_content o (option_map (λ (r : Row). r.content) found) (r ∷ rows) ≡ option_map (λ (r : Row). r.content) (last_or found (filter (begins_by o) (r ∷ rows)))
    at_test true e begun other = rw e begun
    at_test false e begun other = rw e other

rise_filter : (p : Row → Bool) (least : ℕ) (rows : List Row) → StartsRise least rows → StartsRise least (filter p rows)
rise_filter p least [] h = tt
rise_filter p least (r ∷ rows) h = at_test (p r) (rise_filter p (r.start + 1) rows h.1)
  where
    at_test : (b : Bool) → StartsRise (r.start + 1) (filter p rows) → StartsRise least (cond b (r ∷ filter p rows) (filter p rows))
    at_test true rest = (h.0, rest)
    at_test false rest = rise_lower least (r.start + 1) (filter p rows) (omega (arith, h.0)) rest

-- an earlier row changes nothing for rows after it
one_earlier : (r x : Row) (others : List Row) → r.start + 1 ≤ x.start → begins_last (r ∷ others) x ≡ begins_last others x
one_earlier r x others le =
    let below : r.start ≤ x.start = omega (arith, le) in
    ap (λ (b : Bool). b && begins_last others x) (le-leb r.start x.start below)

without_earlier : (r : Row) (least : ℕ) (others rows : List Row) → r.start + 1 ≤ least → StartsRise least rows → find (begins_last (r ∷ others)) rows ≡ find (begins_last others) rows
without_earlier r least others [] le h = refl
without_earlier r least others (x ∷ rows) le h =
    let first : r.start + 1 ≤ x.start = omega (arith, le, h.0) in
    ap (λ (b : Bool). cond b (Some x) (find (begins_last (r ∷ others)) rows)) (one_earlier r x others first)
    ∙ ap (λ (y : Option Row). cond (begins_last others x) (Some x) y) (without_earlier r (x.start + 1) others rows (omega (arith, first)) h.1)

itself : (r : Row) → nat_le r.start r.start ≡ true
itself r = le-leb r.start r.start (omega arith)

not_last : (r s : Row) (rows : List Row) → r.start < s.start → begins_last (r ∷ s ∷ rows) r ≡ false
not_last r s rows lt = rw (itself r, lt-leb s.start r.start lt) refl

last_is : (least : ℕ) (rows : List Row) → StartsRise least rows → find (begins_last rows) rows ≡ last_or None rows
last_is least [] h = refl
last_is least (r ∷ []) h = rw (itself r) refl
last_is least (r ∷ s ∷ rows) h =
    ap (λ (b : Bool). cond b (Some r) (find (begins_last (r ∷ s ∷ rows)) (s ∷ rows))) (not_last r s rows (omega (arith, h.1.0)))
    ∙ without_earlier r (r.start + 1) (s ∷ rows) (s ∷ rows) (omega arith) h.1
    ∙ last_is (r.start + 1) (s ∷ rows) h.1

-- the row at an offset, among rising rows
pub found_is : (o least : ℕ) (rows : List Row) → StartsRise least rows → option_map (λ (r : Row). r.content) (row_at o rows) ≡ latest_content o None rows
unfolding row_at
found_is o least rows h =
    ap (option_map (λ (r : Row). r.content)) (last_is least (filter (begins_by o) rows) (rise_filter (begins_by o) least rows h)) ∙ sym (latest_is o None rows)

-- ---- the rows of a function
rise_one : (a : ℕ) (x : Result Content Reason) (rows : List Row) → StartsRise (a + 1) rows → StartsRise a (cons_option (row_there a x) rows)
rise_one a (Ok c) rows h = (omega arith, h)
rise_one a (Err reason) rows h = rise_lower a (a + 1) rows (omega arith) h

pub rise_among : (says : ContentsByOffset) (a n : ℕ) → StartsRise a (rows_among says (range_with_len a n))
rise_among says a zero = tt
rise_among says a (suc n) = at_test (begins says a) (rise_among says (a + 1) n)
  where
    at_test : (b : Bool) → StartsRise (a + 1) (rows_among says (range_with_len (a + 1) n))
        → StartsRise a (filter_map (λ (o : ℕ). row_there o (says o)) (cond b (a ∷ filter (begins says) (range_with_len (a + 1) n)) (filter (begins says) (range_with_len (a + 1) n))))
    at_test true h = rise_one a (says a) (rows_among says (range_with_len (a + 1) n)) h
    at_test false h = rise_lower a (a + 1) (rows_among says (range_with_len (a + 1) n)) (omega arith) h

-- there is a content at each offset
abbrev pub SaysContent : Result Content Reason → Type 0
SaysContent (Ok c) = Unit {0}
SaysContent (Err reason) = ⊥

pub content_said : (x : Result Content Reason) → SaysContent x → (c : Content) × (x ≡ Ok c)
content_said (Ok c) h = (c, refl)
content_said (Err reason) h = absurd h

same_said : (x y : Result Content Reason) (b : Bool) → are_same_contents x y ≡ b → not b ≡ false → x ≡ y
same_said (Ok c) (Ok d) true e f = ap (λ (z : Content). Ok z) (content_same c d e)
same_said (Ok c) (Err reason) true e f = cc
same_said (Err reason) y true e f = cc
same_said x y false e f = cc

pub found_before : (says : ContentsByOffset) (a : ℕ) (found : Option Content) → FoundBefore says a found → begins says a ≡ false → without_reason found ≡ Some (says a)
found_before says zero found before e = cc
found_before says (suc a) found before e = before ∙ ap (λ (x : Result Content Reason). Some x) (same_said (says a) (says (suc a)) (are_same_contents (says a) (says (suc a))) refl e)

taken : (o a : ℕ) (c : Content) (found : Option Content) (rows : List Row) → a ≤ o → latest_content o found (record { start = a; content = c } ∷ rows) ≡ latest_content o (Some c) rows
taken o a c found rows le = ap (λ (b : Bool). latest_content o (cond b (Some c) found) rows) (le-leb a o le)

pub latest_said : (says : ContentsByOffset) (a n : ℕ) (found : Option Content) → FoundBefore says a found → ((o : ℕ) → a ≤ o → o < a + n → SaysContent (says o))
    → (o : ℕ) → a ≤ o → o < a + n → without_reason (latest_content o found (rows_among says (range_with_len a n))) ≡ Some (says o)
latest_said says a zero found before all o le lt = absurd (omega (arith, le, lt))
latest_said says a (suc n) found before all o le lt =
    let here = content_said (says a) (all a (omega arith) (omega arith)) in
    let rest = rows_among says (range_with_len (a + 1) n) in
    let all' : (p : ℕ) → a + 1 ≤ p → p < a + 1 + n → SaysContent (says p) = λ p low high. all p (omega (arith, low)) (omega (arith, high)) in
    at_test here.0 here.1 (begins says a) refl
    (λ e high. latest_said says (a + 1) n (Some here.0) (found_on says a (Some here.0) (ap (λ (x : Result Content Reason). Some x) (sym here.1))) all' o high (omega (arith, lt)))
    (λ e high. latest_said says (a + 1) n found (found_on says a found (found_before says a found before e)) all' o high (omega (arith, lt)))
  where
    at_here : (x : Option Content) → without_reason x ≡ Some (says a) → (o ≡ a) → without_reason (latest_content o x (rows_among says (range_with_len (a + 1) n))) ≡ Some (says o)
    at_here x e is =
        ap without_reason (kept_past o (a + 1) x (rows_among says (range_with_len (a + 1) n)) (omega (arith, is)) (rise_among says (a + 1) n)) ∙ e ∙ ap (λ (k : ℕ). Some (says k)) (sym is)

    at_test : (c : Content) → says a ≡ Ok c → (b : Bool) → begins says a ≡ b
        → (begins says a ≡ true → a + 1 ≤ o → without_reason (latest_content o (Some c) (rows_among says (range_with_len (a + 1) n))) ≡ Some (says o))
        → (begins says a ≡ false → a + 1 ≤ o → without_reason (latest_content o found (rows_among says (range_with_len (a + 1) n))) ≡ Some (says o))
        → without_reason (latest_content o found (rows_among says (range_with_len a (suc n)))) ≡ Some (says o)
    at_test c said true e begun other =
        ap (λ (xs : List Row). without_reason (latest_content o found xs)) (takes says a n c e said) ∙ ap without_reason (taken o a c found (rows_among says (range_with_len (a + 1) n)) le)
        ∙ elim (cases_lt a o) [
          | inl above ↦ begun e (omega (arith, above))
          | inr not_above ↦ at_here (Some c) (ap (λ (x : Result Content Reason). Some x) (sym said)) (omega (arith, not_above, le))
        ]
    at_test c said false e begun other =
        ap (λ (xs : List Row). without_reason (latest_content o found xs)) (skips says a n e)
        ∙ elim (cases_lt a o) [
          | inl above ↦ other e (omega (arith, above))
          | inr not_above ↦ at_here found (found_before says a found before e) (omega (arith, not_above, le))
        ]

-- if there is a content at each offset below the size, the rows have it there
pub row_said : (says : ContentsByOffset) (size : ℕ) → ((o : ℕ) → o < size → SaysContent (says o)) → (o : ℕ) → o < size → without_reason (option_map (λ (r : Row). r.content) (row_at o (rows_of says size))) ≡ Some (says o)
unfolding rows_of
row_said says size all o lt =
    ap without_reason (found_is o 0 (rows_among says (range_with_len 0 size)) (rise_among says 0 size))
    ∙ latest_said says 0 size None refl (λ p le low. all p (omega (arith, low))) o (omega arith) (omega (arith, lt))
