-- Kept rows are those of the definition by offsets.
use Rattle.std.specs.List.{filter, filter_map, range_with_len}
use Rattle.std.specs.Prelude.{not}
use Rattle.std.proofs.Common.{◌≡◌, ◌≢◌, ℕ, zero, suc, ◌+◌, ◌<◌, ◌≤◌, Bool, true, false, cond, List, [], ◌∷◌, Option, Some, None, Result, Ok, Err, refl, sym, ap, subst, ◌∙◌, arith, add-one, inl, inr}
use Rattle.std.proofs.lemmas.Bool.{cases_lt}
use Rattle.std.proofs.lemmas.Bool.{le-leb}
use Rattle.sf_model.specs.declared.content.Content.{Content}
use Rattle.sf_model.specs.declared.omission.Reason.{Reason}
use Rattle.sf_model.specs.declared.rows.Row.{Row}
use Rattle.sf_express.specs.Offsets.{content_or_reason, latest_content, without_reason, DifferFrom}
use Rattle.sf_express.specs.Runs.{ContentsByOffset, are_same_contents, begins, row_there, rows_among}
use Rattle.sf_express.proofs.Same.{kept_past, content_same}
use Rattle.sf_express.proofs.Writable.{StartsRise}
use Rattle.sf_express.proofs.Changes.{content_itself}

-- each row begins below the end
abbrev pub RowsBelow : ℕ → List Row → Type 0
RowsBelow end [] = Unit {0}
RowsBelow end (r ∷ rows) = (r.start < end) × RowsBelow end rows

-- the content at the offset before was found
abbrev pub FoundBefore : ContentsByOffset → ℕ → Option Content → Type 0
FoundBefore says zero found = found ≡ None
FoundBefore says (suc offset) found = without_reason found ≡ Some (says offset)

-- ---- where a row begins
same_says : (a b : Result Content Reason) (c : Content) → a ≡ Ok c → b ≡ Ok c → are_same_contents a b ≡ true
same_says a b c p q = rw (p, q) (content_itself c)

ok_says : (found : Option Content) (said : Result Content Reason) → without_reason found ≡ Some said → (c : Content) × (found ≡ Some c) × (said ≡ Ok c)
ok_says (Some c) said e = (c, refl, cc)
ok_says None said e = cc

pub begins_not : (says : ContentsByOffset) (a : ℕ) (found : Option Content) → FoundBefore says a found → without_reason found ≡ Some (says a) → begins says a ≡ false
begins_not says zero found before e = let there = ok_says found (says zero) e in cc
begins_not says (suc a) found before e =
    let there = ok_says found (says (suc a)) e in
    let here = ok_says found (says a) before in
    let one : here.0 ≡ there.0 = cc in
    ap not (same_says (says a) (says (suc a)) there.0 (here.2 ∙ ap (λ (c : Content). Ok c) one) there.2)

differs : (found : Option Content) (c : Content) (said : Result Content Reason) (b : Bool) → without_reason found ≡ Some said → (found ≢ Some c) → are_same_contents said (Ok c) ≡ b → b ≡ false
differs found c said false before other e = refl
differs None c said true before other e = cc
differs (Some d) c (Ok x) true before other e =
    let one : d ≡ x = cc in
    let same : x ≡ c = content_same x c e in
    absurd (other (ap (λ (y : Content). Some y) (one ∙ same)))
differs (Some d) c (Err reason) true before other e = cc

begins_there : (says : ContentsByOffset) (a : ℕ) (found : Option Content) (c : Content) → FoundBefore says a found → (found ≢ Some c) → says a ≡ Ok c → begins says a ≡ true
begins_there says zero found c before other e = refl
begins_there says (suc a) found c before other e =
    ap (λ (x : Result Content Reason). not (are_same_contents (says a) x)) e ∙ ap not (differs found c (says a) (are_same_contents (says a) (Ok c)) before other refl)

-- ---- one offset
pub skips : (says : ContentsByOffset) (a n : ℕ) → begins says a ≡ false → rows_among says (range_with_len a (suc n)) ≡ rows_among says (range_with_len (a + 1) n)
skips says a n e = ap (λ (b : Bool). filter_map (λ (o : ℕ). row_there o (says o)) (cond b (a ∷ filter (begins says) (range_with_len (a + 1) n)) (filter (begins says) (range_with_len (a + 1) n)))) e

pub takes : (says : ContentsByOffset) (a n : ℕ) (c : Content) → begins says a ≡ true → says a ≡ Ok c → rows_among says (range_with_len a (suc n)) ≡ record { start = a; content = c } ∷ rows_among says (range_with_len (a + 1) n)
takes says a n c e h =
    ap (λ (b : Bool). filter_map (λ (o : ℕ). row_there o (says o)) (cond b (a ∷ filter (begins says) (range_with_len (a + 1) n)) (filter (begins says) (range_with_len (a + 1) n)))) e
    ∙ rw h refl

-- ---- all rows
-- what the rows from an offset on give, if earlier rows gave this
abbrev Say : ContentsByOffset → (a n : ℕ) → Option Content → List Row → Type 0
Say says a n found rows = (o : ℕ) → a ≤ o → o < a + n → without_reason (latest_content o found rows) ≡ Some (says o)

say_on : (says : ContentsByOffset) (a n : ℕ) (found : Option Content) (rows : List Row) → Say says a (suc n) found rows → Say says (a + 1) n found rows
say_on says a n found rows h = λ o le lt. h o (omega (arith, le)) (omega (arith, lt))

-- the row that begins at a is found at all later offsets
say_behind : (says : ContentsByOffset) (a n : ℕ) (found : Option Content) (r : Row) (rows : List Row) → r.start ≡ a → Say says a (suc n) found (r ∷ rows) → Say says (a + 1) n (Some r.content) rows
say_behind says a n found r rows e h = λ o le lt.
    let below : r.start ≤ o = omega (arith, le, e) in
    subst (λ (b : Bool). without_reason (latest_content o (cond b (Some r.content) found) rows) ≡ Some (says o)) (le-leb r.start o below) (h o (omega (arith, le)) (omega (arith, lt)))

say_first : (says : ContentsByOffset) (a n : ℕ) (found : Option Content) (r : Row) (rows : List Row) → r.start ≡ a → StartsRise (r.start + 1) rows → Say says a (suc n) found (r ∷ rows) → says a ≡ Ok r.content
say_first says a n found r rows e rise h =
    let below : r.start ≤ a = omega (arith, e) in
    let there = subst (λ (b : Bool). without_reason (latest_content a (cond b (Some r.content) found) rows) ≡ Some (says a)) (le-leb r.start a below) (h a (omega arith) (omega arith)) in
    let past : latest_content a (Some r.content) rows ≡ Some r.content = kept_past a (r.start + 1) (Some r.content) rows (omega (arith, e)) rise in
    let is = sym (ap without_reason past) ∙ there in
    cc

no_row_here : (says : ContentsByOffset) (a n : ℕ) (found : Option Content) (rows : List Row) → StartsRise (a + 1) rows → Say says a (suc n) found rows → without_reason found ≡ Some (says a)
no_row_here says a n found rows rise h = sym (ap without_reason (kept_past a (a + 1) found rows (omega arith) rise)) ∙ h a (omega arith) (omega arith)

pub found_on : (says : ContentsByOffset) (a : ℕ) (found : Option Content) → without_reason found ≡ Some (says a) → FoundBefore says (a + 1) found
found_on says a found e = rw (add-one a) e

later : (a : ℕ) (r : Row) (rows : List Row) → StartsRise a (r ∷ rows) → a < r.start → StartsRise (a + 1) (r ∷ rows)
later a r rows rise lt = (omega (arith, lt), rise.1)

below_end : (a n end : ℕ) → end ≡ a + suc n → end ≡ (a + 1) + n
below_end a n end e = omega (arith, e)

-- the rows from an offset on are those that begin there
pub rows_are : (says : ContentsByOffset) (a n end : ℕ) (found : Option Content) (rows : List Row) → end ≡ a + n → StartsRise a rows → RowsBelow end rows → Say says a n found rows → FoundBefore says a found → DifferFrom found rows
    → rows ≡ rows_among says (range_with_len a n)
rows_are says a zero end found [] e rise below h before differ = refl
rows_are says a zero end found (r ∷ rows) e rise below h before differ = absurd (omega (arith, e, rise.0, below.0))
rows_are says a (suc n) end found [] e rise below h before differ =
    let there = no_row_here says a n found [] tt h in
    rows_are says (a + 1) n end found [] (below_end a n end e) tt tt (say_on says a n found [] h) (found_on says a found there) tt
    ∙ sym (skips says a n (begins_not says a found before there))
rows_are says a (suc n) end found (r ∷ rows) e rise below h before differ =
    elim (cases_lt a r.start) [
      | inl lt ↦
          let rise' = later a r rows rise lt in
          let there = no_row_here says a n found (r ∷ rows) rise' h in
          rows_are says (a + 1) n end found (r ∷ rows) (below_end a n end e) rise' below (say_on says a n found (r ∷ rows) h) (found_on says a found there) differ
          ∙ sym (skips says a n (begins_not says a found before there))
      | inr le ↦
          let is : r.start ≡ a = omega (arith, le, rise.0) in
          let there = say_first says a n found r rows is rise.1 h in
          let rise' : StartsRise (a + 1) rows = subst (λ (k : ℕ). StartsRise (k + 1) rows) is rise.1 in
          let rest = rows_are says (a + 1) n end (Some r.content) rows (below_end a n end e) rise' below.1 (say_behind says a n found r rows is h) (found_on says a (Some r.content) (ap (λ (x : Result Content Reason). Some x) (sym there))) differ.1 in
          let first : r ≡ record { start = a; content = r.content } = rw is refl in
          ap (λ (xs : List Row). r ∷ xs) rest ∙ ap (λ (x : Row). x ∷ rows_among says (range_with_len (a + 1) n)) first
          ∙ sym (takes says a n r.content (begins_there says a found r.content before differ.0 there) there)
    ]
