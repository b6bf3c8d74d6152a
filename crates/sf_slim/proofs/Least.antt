-- Each of the shortest rows is in every list of rows with the same contents.
use Rattle.std.specs.Prelude.{nat_le, ◌&&◌, IsTrue, sum_by}
use Rattle.std.specs.Option.{option_map}
use Rattle.std.specs.List.{filter, filter_map, find, list_all, range_with_len}
use Rattle.std.proofs.Common.{◌≡◌, ◌⊎◌, ℕ, zero, suc, ◌+◌, ◌<◌, ◌≤◌, Bool, true, false, cond, List, [], ◌∷◌, Option, Some, None, refl, sym, ap, subst, ◌∙◌, arith, rules, inl, inr}
use Rattle.std.proofs.lemmas.List.Elements.{All-cons, All-head, All-nil, All-tail}
use Rattle.std.proofs.lemmas.List.Sums.{sum_by-cons, sum_by-le-sum_by}
use Rattle.std.proofs.lemmas.Bool.{cases_lt, lt-leb, le-leb, leb-true, leb-false}
use Rattle.std.proofs.Math.Nat.{pow-le-pow_right}
use Rattle.sf_model.specs.declared.machine.Arch.{Arch}
use Rattle.sf_model.specs.declared.content.Content.{Content}
use Rattle.sf_model.specs.declared.function.Func.{Func}
use Rattle.sf_model.specs.declared.rows.Row.{Row}
use Rattle.sf_model.specs.Lookup.{begins_by, begins_last, row_at}
use Rattle.sf_model.specs.Width.{holds_unsigned, width_len}
use Rattle.sf_model.specs.Tight.{last_start}
use Rattle.sf_model.proofs.TightOne.{zero_held}
use Rattle.sf_sizes.specs.RowLength.{row_len}
use Rattle.sf_sizes.specs.Width.{least_width}
use Rattle.sf_express.proofs.Changes.{content_itself}
use Rattle.sf_slim.specs.Slim.{ContentByOffset, content_begins, content_at, row_with, rows_beginning, slim_rows}
use Rattle.sf_slim.specs.Shortest.{HoldsStarts, StandsFor, row_bytes}
use Rattle.sf_write.specs.Row.{rows_len, start_width}

-- a row is one of these
abbrev pub IsOne : Row → List Row → Type 0
IsOne r [] = ⊥
IsOne r (x ∷ rows) = (r ≡ x) ⊎ IsOne r rows

-- ---- what a search finds
pub found_one : (p : Row → Bool) (r : Row) (rows : List Row) → find p rows ≡ Some r → IsOne r rows × (p r ≡ true)
found_one p r [] e = cc
found_one p r (x ∷ rows) e = at_test (p x) refl e (found_one p r rows)
  where
    at_test : (b : Bool) → p x ≡ b → cond b (Some x) (find p rows) ≡ Some r → (find p rows ≡ Some r → IsOne r rows × (p r ≡ true)) → IsOne r (x ∷ rows) × (p r ≡ true)
    at_test true h e rest = let one : r ≡ x = cc in (inl one, rw one h)
    at_test false h e rest = let later = rest e in (inr later.0, later.1)

pub of_filter : (p : Row → Bool) (r : Row) (rows : List Row) → IsOne r (filter p rows) → IsOne r rows × (p r ≡ true)
of_filter p r [] h = absurd h
of_filter p r (x ∷ rows) h = at_test (p x) refl h (of_filter p r rows)
  where
    at_test : (b : Bool) → p x ≡ b → IsOne r (cond b (x ∷ filter p rows) (filter p rows)) → (IsOne r (filter p rows) → IsOne r rows × (p r ≡ true)) → IsOne r (x ∷ rows) × (p r ≡ true)
    at_test true e (inl one) rest = (inl one, rw one e)
    at_test true e (inr h) rest = let later = rest h in (inr later.0, later.1)
    at_test false e h rest = let later = rest h in (inr later.0, later.1)

-- ---- the row at an offset
-- rows none of which begins between two offsets are begun alike at both
begun_alike : (last : ℕ) (o : ℕ) (rows : List Row) → last ≤ o → list_all (λ (x : Row). nat_le x.start last) (filter (begins_by (suc o)) rows) ≡ true → filter (begins_by (suc o)) rows ≡ filter (begins_by o) rows
begun_alike last o [] le h = refl
begun_alike last o (x ∷ rows) le h = at_test (nat_le x.start (suc o)) refl h (begun_alike last o rows le)
  where
    at_last : (b : Bool) → nat_le x.start last ≡ b → (b && list_all (λ (x : Row). nat_le x.start last) (filter (begins_by (suc o)) rows)) ≡ true
        → (x.start ≤ last) × (list_all (λ (x : Row). nat_le x.start last) (filter (begins_by (suc o)) rows) ≡ true)
    at_last true e h = (leb-true x.start last e, h)
    at_last false e h = cc

    at_test : (b : Bool) → nat_le x.start (suc o) ≡ b → list_all (λ (x : Row). nat_le x.start last) (cond b (x ∷ filter (begins_by (suc o)) rows) (filter (begins_by (suc o)) rows)) ≡ true
        → (list_all (λ (x : Row). nat_le x.start last) (filter (begins_by (suc o)) rows) ≡ true → filter (begins_by (suc o)) rows ≡ filter (begins_by o) rows)
        → filter (begins_by (suc o)) (x ∷ rows) ≡ filter (begins_by o) (x ∷ rows)
    at_test true e h rest =
        let both = at_last (nat_le x.start last) refl h in
        let early : x.start ≤ o = omega (arith, both.0, le) in
        let same = rest both.1 in
        rw (e, le-leb x.start o early, same) refl
    at_test false e h rest =
        let behind = leb-false x.start (suc o) e in
        let late : o < x.start = omega (arith, behind) in
        let same = rest h in
        rw (e, lt-leb x.start o late, same) refl

-- the row at the next offset begins there, or is the row at this one
next_row : (o : ℕ) (r : Row) (rows : List Row) → row_at (suc o) rows ≡ Some r → IsOne r rows × ((r.start ≡ suc o) ⊎ (row_at o rows ≡ Some r))
unfolding row_at
next_row o r rows e =
    let begun = filter (begins_by (suc o)) rows in
    let found = found_one (begins_last begun) r begun e in
    let one = of_filter (begins_by (suc o)) r rows found.0 in
    let by : r.start ≤ suc o = leb-true r.start (suc o) one.1 in (
      one.0,
      elim (cases_lt r.start (suc o)) [
        | inl before ↦ inr (let same = begun_alike r.start o rows (omega (arith, before)) found.1 in subst (λ (xs : List Row). find (begins_last xs) xs ≡ Some r) same e)
        | inr not_before ↦ inl (omega (arith, not_before, by))
      ],
    )

-- the row at 0 begins there
first_row : (r : Row) (rows : List Row) → row_at 0 rows ≡ Some r → IsOne r rows × (r.start ≡ 0)
unfolding row_at
first_row r rows e =
    let begun = filter (begins_by 0) rows in
    let found = found_one (begins_last begun) r begun e in
    let one = of_filter (begins_by 0) r rows found.0 in
    let by : r.start ≤ 0 = leb-true r.start 0 one.1 in
    (one.0, omega (arith, by))

-- ---- where an answer begins, a row begins
-- one of the rows begins here, with this content
abbrev pub BeginsOne : (start : ℕ) → Content → List Row → Type 0
BeginsOne start c rows = (r : Row) × IsOne r rows × (r.start ≡ start) × (r.content ≡ c)

some_row : (x : Option Row) (c : Content) → option_map (λ (r : Row). r.content) x ≡ Some c → (r : Row) × (x ≡ Some r) × (r.content ≡ c)
some_row None c e = cc
some_row (Some r) c e = (r, refl, cc)

begins_one : (rows : List Row) (o : ℕ) (c : Content) → content_at rows o ≡ Some c → content_begins (content_at rows) o ≡ true → BeginsOne o c rows
begins_one rows zero c e b =
    let found = some_row (row_at 0 rows) c e in
    let first = first_row found.0 rows found.1 in
    (found.0, first.0, first.1, found.2)
begins_one rows (suc o) c e b =
    let found = some_row (row_at (suc o) rows) c e in
    let next = next_row o found.0 rows found.1 in
    elim next.1 [
      | inl here ↦ (found.0, next.0, here, found.2)
      | inr before ↦
          let was : content_at rows o ≡ Some c = ap (option_map (λ (r : Row). r.content)) before ∙ ap (λ (x : Content). Some x) found.2 in
          let unchanged : content_begins (content_at rows) (suc o) ≡ false = rw (was, e, content_itself c) refl in
          let no : true ≡ false = sym b ∙ unchanged in cc
    ]

-- ---- the bytes of the rows from an offset on
abbrev sized : (Content → ℕ) → List Row → ℕ
sized g rows = sum_by (λ (r : Row). g r.content) rows

abbrev from : (start : ℕ) → List Row → List Row
from start rows = filter (λ (r : Row). nat_le start r.start) rows

sized_more : (g : Content → ℕ) (r : Row) (rows : List Row) → sized g (r ∷ rows) ≡ g r.content + sized g rows
sized_more g r rows = sum_by-cons (λ (r : Row). g r.content) r rows

fewer_later : (g : Content → ℕ) (a : ℕ) (rows : List Row) → sized g (from (a + 1) rows) ≤ sized g (from a rows)
fewer_later g a [] = omega arith
fewer_later g a (x ∷ rows) = at_test (nat_le (a + 1) x.start) refl (nat_le a x.start) refl (fewer_later g a rows)
  where
    at_test : (later : Bool) → nat_le (a + 1) x.start ≡ later → (here : Bool) → nat_le a x.start ≡ here → sized g (from (a + 1) rows) ≤ sized g (from a rows) → sized g (from (a + 1) (x ∷ rows)) ≤ sized g (from a (x ∷ rows))
    at_test true e true f rest = rw (e, f, sized_more g x (from (a + 1) rows), sized_more g x (from a rows)) (omega (arith, rest))
    at_test true e false f rest = absurd (omega (arith, leb-true (a + 1) x.start e, leb-false a x.start f))
    at_test false e true f rest = rw (e, f, sized_more g x (from a rows)) (omega (arith, rest))
    at_test false e false f rest = rw (e, f) rest

with_one : (g : Content → ℕ) (a : ℕ) (r : Row) (rows : List Row) → IsOne r rows → r.start ≡ a → g r.content + sized g (from (a + 1) rows) ≤ sized g (from a rows)
with_one g a r [] one is = absurd one
with_one g a r (x ∷ rows) (inl here) is =
    let start : x.start ≡ a = ap (λ (y : Row). y.start) (sym here) ∙ is in
    let size : g r.content ≡ g x.content = ap (λ (y : Row). g y.content) here in
    let not_later : nat_le (a + 1) x.start ≡ false = lt-leb (a + 1) x.start (omega (arith, start)) in
    let now : nat_le a x.start ≡ true = le-leb a x.start (omega (arith, start)) in
    rw (not_later, now, sized_more g x (from a rows)) (omega (arith, size, fewer_later g a rows))
with_one g a r (x ∷ rows) (inr later) is = at_test (nat_le (a + 1) x.start) refl (nat_le a x.start) refl (with_one g a r rows later is)
  where
    at_test : (later : Bool) → nat_le (a + 1) x.start ≡ later → (here : Bool) → nat_le a x.start ≡ here → g r.content + sized g (from (a + 1) rows) ≤ sized g (from a rows) → g r.content + sized g (from (a + 1) (x ∷ rows)) ≤ sized g (from a (x ∷ rows))
    at_test true e true f rest = rw (e, f, sized_more g x (from (a + 1) rows), sized_more g x (from a rows)) (omega (arith, rest))
    at_test true e false f rest = absurd (omega (arith, leb-true (a + 1) x.start e, leb-false a x.start f))
    at_test false e true f rest = rw (e, f, sized_more g x (from a rows)) (omega (arith, rest))
    at_test false e false f rest = rw (e, f) rest

-- ---- one offset of the shortest rows
pub skips : (says : ContentByOffset) (a n : ℕ) → content_begins says a ≡ false → rows_beginning says (range_with_len a (suc n)) ≡ rows_beginning says (range_with_len (a + 1) n)
skips says a n e = ap (λ (b : Bool). filter_map (λ (o : ℕ). row_with o (says o)) (cond b (a ∷ filter (content_begins says) (range_with_len (a + 1) n)) (filter (content_begins says) (range_with_len (a + 1) n)))) e

pub nothing : (says : ContentByOffset) (a n : ℕ) → says a ≡ None → rows_beginning says (range_with_len a (suc n)) ≡ rows_beginning says (range_with_len (a + 1) n)
nothing says a n h = at_test (content_begins says a)
  where
    at_test : (b : Bool) → filter_map (λ (o : ℕ). row_with o (says o)) (cond b (a ∷ filter (content_begins says) (range_with_len (a + 1) n)) (filter (content_begins says) (range_with_len (a + 1) n))) ≡ rows_beginning says (range_with_len (a + 1) n)
    at_test true = rw h refl
    at_test false = refl

pub takes : (says : ContentByOffset) (a n : ℕ) (c : Content) → content_begins says a ≡ true → says a ≡ Some c → rows_beginning says (range_with_len a (suc n)) ≡ record { start = a; content = c } ∷ rows_beginning says (range_with_len (a + 1) n)
takes says a n c e h =
    ap (λ (b : Bool). filter_map (λ (o : ℕ). row_with o (says o)) (cond b (a ∷ filter (content_begins says) (range_with_len (a + 1) n)) (filter (content_begins says) (range_with_len (a + 1) n)))) e
    ∙ rw h refl

-- what holds of the rest, and of a row that begins in the list, holds here
one_offset : (P : List Row → Type 0) (rows : List Row) (a n : ℕ) → P (rows_beginning (content_at rows) (range_with_len (a + 1) n))
    → ((c : Content) → BeginsOne a c rows → P (record { start = a; content = c } ∷ rows_beginning (content_at rows) (range_with_len (a + 1) n)))
    → P (rows_beginning (content_at rows) (range_with_len a (suc n)))
one_offset P rows a n rest more = at_test (content_begins (content_at rows) a) refl (content_at rows a) refl
  where
    at_test : (b : Bool) → content_begins (content_at rows) a ≡ b → (x : Option Content) → content_at rows a ≡ x → P (rows_beginning (content_at rows) (range_with_len a (suc n)))
    at_test b e None h = subst P (sym (nothing (content_at rows) a n h)) rest
    at_test true e (Some c) h = subst P (sym (takes (content_at rows) a n c e h)) (more c (begins_one rows a c h e))
    at_test false e (Some c) h = subst P (sym (skips (content_at rows) a n e)) rest

-- ---- all of them
least_from : (g : Content → ℕ) (rows : List Row) (a n : ℕ) → sized g (rows_beginning (content_at rows) (range_with_len a n)) ≤ sized g (from a rows)
least_from g rows a zero = omega arith
least_from g rows a (suc n) =
    let rest : sized g (rows_beginning (content_at rows) (range_with_len (a + 1) n)) ≤ sized g (from (a + 1) rows) = least_from g rows (a + 1) n in
    one_offset (λ (xs : List Row). sized g xs ≤ sized g (from a rows)) rows a n (omega (arith, rest, fewer_later g a rows))
    (λ c one. rw (sized_more g (record { start = a; content = c }) (rows_beginning (content_at rows) (range_with_len (a + 1) n)))
    (let size : g one.0.content ≡ g c = ap g one.3 in omega (arith, rest, size, with_one g a one.0 rows one.1 one.2)))

all_from : (rows : List Row) → from 0 rows ≡ rows
all_from [] = refl
all_from (x ∷ rows) = rw (le-leb 0 x.start (omega arith), all_from rows) refl

-- ---- their starts
held_one : (width : ℕ) (r : Row) (rows : List Row) → HoldsStarts width rows → IsOne r rows → IsTrue (holds_unsigned r.start width)
held_one width r [] h one = absurd one
held_one width r (x ∷ rows) h (inl here) = subst (λ (y : Row). IsTrue (holds_unsigned y.start width)) (sym here) (All-head (λ (r : Row). IsTrue (holds_unsigned r.start width)) x rows h)
held_one width r (x ∷ rows) h (inr later) = held_one width r rows (All-tail (λ (r : Row). IsTrue (holds_unsigned r.start width)) x rows h) later

held_from : (width : ℕ) (rows : List Row) → HoldsStarts width rows → (a n : ℕ) → HoldsStarts width (rows_beginning (content_at rows) (range_with_len a n))
held_from width rows h a zero = All-nil (λ (r : Row). IsTrue (holds_unsigned r.start width))
held_from width rows h a (suc n) =
    let rest : HoldsStarts width (rows_beginning (content_at rows) (range_with_len (a + 1) n)) = held_from width rows h (a + 1) n in
    one_offset (HoldsStarts width) rows a n rest
    (λ c one. All-cons (λ (r : Row). IsTrue (holds_unsigned r.start width)) (record { start = a; content = c }) (rows_beginning (content_at rows) (range_with_len (a + 1) n))
    (subst (λ (k : ℕ). IsTrue (holds_unsigned k width)) one.2 (held_one width one.0 rows h one.1)) rest)

last_held : (width : ℕ) (rows : List Row) → width ≤ 2 → HoldsStarts width rows → IsTrue (holds_unsigned (last_start rows) width)
last_held width [] le h = zero_held width le
last_held width (r ∷ []) le h = All-head (λ (r : Row). IsTrue (holds_unsigned r.start width)) r [] h
last_held width (r ∷ s ∷ rows) le h = last_held width (s ∷ rows) le (All-tail (λ (r : Row). IsTrue (holds_unsigned r.start width)) r (s ∷ rows) h)

pub least_is_least : (holds : ℕ → Bool) (width : ℕ) → width ≤ 2 → IsTrue (holds width) → least_width holds ≤ width
least_is_least holds zero le h = at_test (holds 0) h
  where
    at_test : (b : Bool) → IsTrue b → cond b 0 (cond (holds 1) 1 2) ≤ 0
    at_test true h = omega arith
    at_test false h = search (rules, h)
least_is_least holds (suc zero) le h = at_test (holds 0) (holds 1) h
  where
    at_test : (a b : Bool) → IsTrue b → cond a 0 (cond b 1 2) ≤ 1
    at_test true b h = omega arith
    at_test false true h = omega arith
    at_test false false h = search (rules, h)
least_is_least holds (suc (suc n)) le h = at_test (holds 0) (holds 1)
  where
    at_test : (a b : Bool) → cond a 0 (cond b 1 2) ≤ suc (suc n)
    at_test true b = omega arith
    at_test false true = omega arith
    at_test false false = omega arith

-- ---- widths
pub wider : (a b : ℕ) → a ≤ b → b ≤ 2 → width_len a ≤ width_len b
wider a b le two = pow-le-pow_right (omega arith) le

row_wider : (a b : ℕ) (rows : List Row) → width_len a ≤ width_len b → row_bytes a rows ≤ row_bytes b rows
row_wider a b rows le = sum_by-le-sum_by (λ (r : Row). row_len a r.content) (λ (r : Row). row_len b r.content) rows (λ r. omega (arith, le))

-- ---- the same answers below the size
begins_alike : (s t : ContentByOffset) (o : ℕ) → ((p : ℕ) → p < o + 1 → s p ≡ t p) → content_begins s o ≡ content_begins t o
begins_alike s t zero h = refl
begins_alike s t (suc o) h =
    let here : s (suc o) ≡ t (suc o) = h (suc o) (omega arith) in
    let before : s o ≡ t o = h o (omega arith) in
    rw (here, before) refl

pub rows_alike : (s t : ContentByOffset) (a n : ℕ) → ((p : ℕ) → p < a + n → s p ≡ t p) → rows_beginning s (range_with_len a n) ≡ rows_beginning t (range_with_len a n)
rows_alike s t a zero h = refl
rows_alike s t a (suc n) h =
    let rest : rows_beginning s (range_with_len (a + 1) n) ≡ rows_beginning t (range_with_len (a + 1) n) = rows_alike s t (a + 1) n (λ p lt. h p (omega (arith, lt))) in
    at_test (content_begins t a) (begins_alike s t a (λ p lt. h p (omega (arith, lt)))) refl (s a) refl (sym (h a (omega arith))) rest
  where
    at_test : (b : Bool) → content_begins s a ≡ content_begins t a → content_begins t a ≡ b → (x : Option Content) → s a ≡ x → t a ≡ s a → rows_beginning s (range_with_len (a + 1) n) ≡ rows_beginning t (range_with_len (a + 1) n) → rows_beginning s (range_with_len a (suc n)) ≡ rows_beginning t (range_with_len a (suc n))
    at_test b e f None hs ht rest = nothing s a n hs ∙ rest ∙ sym (nothing t a n (ht ∙ hs))
    at_test true e f (Some c) hs ht rest = takes s a n c (e ∙ f) hs ∙ ap (λ (xs : List Row). record { start = a; content = c } ∷ xs) rest ∙ sym (takes t a n c f (ht ∙ hs))
    at_test false e f (Some c) hs ht rest = skips s a n (e ∙ f) ∙ rest ∙ sym (skips t a n f)

pub none_is_shorter : (arch : Arch) (f : Func) (rows : List Row) (width : ℕ) → StandsFor arch f rows → width ≤ 2 → HoldsStarts width rows → rows_len (slim_rows f.size f.rows) ≤ row_bytes width rows
unfolding slim_rows rows_len
none_is_shorter arch f rows width stands le held =
    let own = rows_beginning (content_at f.rows) (range_with_len 0 f.size) in
    let theirs = rows_beginning (content_at rows) (range_with_len 0 f.size) in
    let alike : theirs ≡ own = rows_alike (content_at rows) (content_at f.rows) 0 f.size (λ p lt. stands.same p (omega (arith, lt))) in
    let own_held : HoldsStarts width own = subst (HoldsStarts width) alike (held_from width rows held 0 f.size) in
    let least : start_width own ≤ width = least_is_least (holds_unsigned (last_start own)) width le (last_held width own le own_held) in
    let narrow : row_bytes (start_width own) own ≤ row_bytes width own = row_wider (start_width own) width own (wider (start_width own) width least le) in
    let fewer : row_bytes width theirs ≤ row_bytes width (from 0 rows) = least_from (row_len width) rows 0 f.size in
    let all : row_bytes width (from 0 rows) ≡ row_bytes width rows = ap (row_bytes width) (all_from rows) in
    let same : row_bytes width theirs ≡ row_bytes width own = ap (row_bytes width) alike in
    omega (arith, narrow, fewer, all, same)
