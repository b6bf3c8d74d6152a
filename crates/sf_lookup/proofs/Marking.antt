-- Marks of rows.
use Rattle.std.specs.Prelude.{◌==◌}
use Rattle.std.specs.List.{Any, list_any}
use Rattle.std.proofs.Common.{◌≡◌, ℕ, ◌+◌, ◌*◌, ◌%◌, ◌<◌, ◌≤◌, ◌⊎◌, inl, inr, Bool, true, List, [], ◌∷◌, ◌++◌, drop, get_or, length, refl, sym, ap, subst, take, ◌∙◌, arith}
use Rattle.std.proofs.lemmas.Bool.{and_parts, cases_lt, eq-eqb, eqb-true}
use Rattle.std.proofs.lemmas.List.{drop_more, get_or_append_left, get_or_default, length-append, length-drop, take_all, take_more}
use Rattle.std.proofs.lemmas.List.Elements.{All-push, All-weaker}
use Rattle.std.proofs.lemmas.List.Folds.{Any-from_list_any, list_any-from_Any}
use Rattle.std.proofs.lemmas.List.Quantifiers.{Any-push, all_pairs_push}
use Rattle.std.proofs.lemmas.List.Sums.{sum_by_push}
use Rattle.sf_model.specs.declared.function.Func.{Func}
use Rattle.sf_model.specs.declared.rows.Row.{Row}
use Rattle.sf_model.specs.Function.{RowsRise}
use Rattle.sf_model.specs.Lookup.{row_at}
use Rattle.sf_model.specs.Table.{row_count}
use Rattle.sf_decode.specs.declared.iter.RowIter.{RowIter}
use Rattle.sf_decode.specs.declared.view.View.{View}
use Rattle.sf_decode.specs.View.{function_of, rows_left, table_of}
use Rattle.sf_lookup.specs.declared.marks.Mark.{Mark}
use Rattle.sf_lookup.specs.Mark.{AreMarksUpto, IsEarlier, IsMark, is_at}
use Rattle.sf_lookup.proofs.Rows.{rise_from_one, row_from}

-- ---- what is left from a number on, and its first
pub record Passes (rows : List Row) (k : ℕ) (row : Row) (rest : List Row) : Type 0 where
  pub within : k < length rows
  pub is : (d : Row) → get_or rows k d ≡ row
  pub after : rest ≡ drop (k + 1) rows

pub passes : (rows left rest : List Row) (k : ℕ) (row : Row) → left ≡ drop k rows → left ≡ row ∷ rest → Passes rows k row rest
passes rows left rest k row at first =
    let len = ap length (sym first ∙ at) ∙ length-drop k rows in
    let lt : k < length rows = omega (len, arith) in
    let both : row ∷ rest ≡ get_or rows k row ∷ drop (k + 1) rows = sym first ∙ at ∙ drop_more rows k row lt in
    let same : row ≡ get_or rows k row = cc in
    let after : rest ≡ drop (k + 1) rows = cc in
    record { within = lt; is = λ d. get_or_default rows k d row lt ∙ sym same; after = after }

pub none_left : (rows left : List Row) (k : ℕ) → left ≡ drop k rows → left ≡ [] → length rows ≤ k
none_left rows left k at none = let len = ap length (sym none ∙ at) ∙ length-drop k rows in omega (len, arith)

-- ---- places in order
later_place : (f k g n o : ℕ) → n ≤ o → IsEarlier f k g n → IsEarlier f k g o
later_place f k g n o le (upto, before) = (upto, λ at. let lt = before at in omega (lt, le, arith))

later_function : (f k g n : ℕ) → IsEarlier f k g n → IsEarlier f k (g + 1) 0
later_function f k g n (upto, before) = (omega (upto, arith), λ at. absurd (omega (at, upto, arith)))

-- in an earlier function, or before in the same one
pub place_in : (f k g n : ℕ) → IsEarlier f k g n → (f < g) ⊎ ((f ≡ g) × (k < n))
place_in f k g n (upto, before) = by_order (cases_lt f g)
  where
    by_order : (f < g) ⊎ (g ≤ f) → (f < g) ⊎ ((f ≡ g) × (k < n))
    by_order (inl lt) = inl lt
    by_order (inr ge) = let at : f ≡ g = omega (upto, ge, arith) in inr (at, before at)

pub earlier_function : (f k g n : ℕ) → f < g → IsEarlier f k g n
earlier_function f k g n lt = (omega (lt, arith), λ at. absurd (omega (at, lt, arith)))

earlier_row : (f k g n : ℕ) → f ≡ g → k < n → IsEarlier f k g n
earlier_row f k g n at lt = (omega (at, arith), λ _. lt)

-- ---- marks of rows
pub record IsAt (f k : ℕ) (m : Mark) : Type 0 where
  pub function : m.function ≡ f
  pub number : m.number ≡ k

pub is_there : (f k : ℕ) (m : Mark) → is_at f k m ≡ true → IsAt f k m
is_there f k m e = let two = and_parts (m.function == f) (m.number == k) e in record { function = eqb-true m.function f two.0; number = eqb-true m.number k two.1 }

there : (f k : ℕ) (m : Mark) → m.function ≡ f → m.number ≡ k → is_at f k m ≡ true
there f k m at number = rw (eq-eqb m.function f at, eq-eqb m.number k number) refl

-- one more mark
any_more : (p : Mark → Bool) (marks : List Mark) (mark : Mark) → list_any p marks ≡ true → list_any p (marks ++ mark ∷ []) ≡ true
any_more p marks mark e = list_any-from_Any p (marks ++ mark ∷ []) (among (Any-from_list_any p marks e))
  where
    among : Any (λ (m : Mark). p m ≡ true) marks → Any (λ (m : Mark). p m ≡ true) (marks ++ mark ∷ [])
    among (k, x, lt, is, passes) =
        let len = length-append marks (mark ∷ []) in
        (k, x, omega (lt, len, arith), get_or_append_left marks (mark ∷ []) x k lt ∙ is, passes)

any_last : (p : Mark → Bool) (marks : List Mark) (mark : Mark) → p mark ≡ true → list_any p (marks ++ mark ∷ []) ≡ true
any_last p marks mark e = list_any-from_Any p (marks ++ mark ∷ []) (Any-push (λ (m : Mark). p m ≡ true) marks mark e)

-- ---- marks of some more rows
pub no_marks : (view : View) → (marks : List Mark) → marks ≡ [] → AreMarksUpto view 0 0 marks
no_marks view marks e = subst (AreMarksUpto view 0 0) (sym e) (record {
  each = λ k d lt. absurd (omega (lt, arith));
  upto = λ k d lt. absurd (omega (lt, arith));
  in_order = λ i j d before lt. absurd (omega (lt, arith));
  all = λ f k within numbered before some multiple. absurd (let none = before.1 (let upto = before.0 in omega (upto, arith)) in omega (none, arith));
  count = omega arith;
})

-- a row that has no mark
pub one_passed : (view : View) (marks : List Mark) (i k : ℕ) → ((0 < k) → (k % 64 ≡ 0) → ⊥) → AreMarksUpto view i k marks → AreMarksUpto view i (k + 1) marks
one_passed view marks i k not h = record {
  each = h.each;
  upto = All-weaker (λ (m : Mark). IsEarlier m.function m.number i k) (λ (m : Mark). IsEarlier m.function m.number i (k + 1)) (λ m. later_place m.function m.number i k (k + 1) (omega arith)) marks h.upto;
  in_order = h.in_order;
  all = λ f n within numbered before some multiple. h.all f n within numbered (still f n some multiple (place_in f n i (k + 1) before)) some multiple;
  count = let count = h.count in omega (count, arith);
}
  where
    in_function : (n : ℕ) → 0 < n → n % 64 ≡ 0 → n < k + 1 → (n < k) ⊎ (k ≤ n) → n < k
    in_function n some multiple lt (inl before) = before
    in_function n some multiple lt (inr from) =
        let here : n ≡ k = omega (from, lt, arith) in
        absurd (not (omega (some, here, arith)) (subst (λ (m : ℕ). m % 64 ≡ 0) here multiple))

    still : (f n : ℕ) → 0 < n → n % 64 ≡ 0 → (f < i) ⊎ ((f ≡ i) × (n < k + 1)) → IsEarlier f n i k
    still f n some multiple (inl lt) = earlier_function f n i k lt
    still f n some multiple (inr (at, lt)) = earlier_row f n i k at (in_function n some multiple lt (cases_lt n k))

-- a row that has a mark
pub one_marked : (view : View) (marks new : List Mark) (mark : Mark) → IsMark view mark → new ≡ marks ++ mark ∷ [] → AreMarksUpto view mark.function mark.number marks
    → AreMarksUpto view mark.function (mark.number + 1) new
one_marked view marks new mark is grown h = subst (AreMarksUpto view i (k + 1)) (sym grown) (record {
  each = All-push (IsMark view) marks mark h.each is;
  upto =
      All-push (λ (m : Mark). IsEarlier m.function m.number i (k + 1)) marks mark
      (All-weaker (λ (m : Mark). IsEarlier m.function m.number i k) (λ (m : Mark). IsEarlier m.function m.number i (k + 1)) (λ m. later_place m.function m.number i k (k + 1) (omega arith)) marks h.upto)
      (earlier_row i k i (k + 1) refl (omega arith));
  in_order = all_pairs_push (λ (a : Mark) (b : Mark). IsEarlier a.function a.number b.function b.number) marks mark h.in_order h.upto;
  all = λ f n within numbered before some multiple. by_place f n within numbered some multiple (place_in f n i (k + 1) before);
  count =
      let count = h.count in
      let len = length-append marks (mark ∷ []) in
      let some = is.positive in
      let multiple = is.multiple in
      omega (count, len, some, multiple, arith);
})
  where
    i : ℕ
    i = mark.function

    k : ℕ
    k = mark.number

    in_function : (f n : ℕ) → f < length (table_of view).functions → n < length (function_of view f).rows → 0 < n → n % 64 ≡ 0 → f ≡ i → n < k + 1 → (n < k) ⊎ (k ≤ n)
        → list_any (is_at f n) (marks ++ mark ∷ []) ≡ true
    in_function f n within numbered some multiple at lt (inl before) = any_more (is_at f n) marks mark (h.all f n within numbered (earlier_row f n i k at before) some multiple)
    in_function f n within numbered some multiple at lt (inr from) = any_last (is_at f n) marks mark (there f n mark (sym at) (omega (from, lt, arith)))

    by_place : (f n : ℕ) → f < length (table_of view).functions → n < length (function_of view f).rows → 0 < n → n % 64 ≡ 0 → (f < i) ⊎ ((f ≡ i) × (n < k + 1))
        → list_any (is_at f n) (marks ++ mark ∷ []) ≡ true
    by_place f n within numbered some multiple (inl lt) = any_more (is_at f n) marks mark (h.all f n within numbered (earlier_function f n i k lt) some multiple)
    by_place f n within numbered some multiple (inr (at, lt)) = in_function f n within numbered some multiple at lt (cases_lt n k)

-- ---- one more function
abbrev pub AreNumbered : View → Type 0
AreNumbered view = (k : ℕ) (d : Func) → k < length (table_of view).functions → get_or (table_of view).functions k d ≡ function_of view k

rows_more : (view : View) (i : ℕ) → AreNumbered view → i < length (table_of view).functions
    → row_count (take (i + 1) (table_of view).functions) ≡ row_count (take i (table_of view).functions) + length (function_of view i).rows
rows_more view i numbered within =
    let functions = (table_of view).functions in
    let f = function_of view i in
    ap row_count (take_more functions i f within ∙ ap (λ (x : Func). take i functions ++ x ∷ []) (numbered i f within)) ∙ sum_by_push (λ (g : Func). length g.rows) (take i functions) f

-- all rows of the function were passed
pub function_marked : (view : View) (marks : List Mark) (i k : ℕ) → AreNumbered view → i < length (table_of view).functions → length (function_of view i).rows ≤ k → k ≤ length (function_of view i).rows → AreMarksUpto view i k marks
    → AreMarksUpto view (i + 1) 0 marks
function_marked view marks i k numbered within all most h = record {
  each = h.each;
  upto = All-weaker (λ (m : Mark). IsEarlier m.function m.number i k) (λ (m : Mark). IsEarlier m.function m.number (i + 1) 0) (λ m. later_function m.function m.number i k) marks h.upto;
  in_order = h.in_order;
  all = λ f n inside numbered before. h.all f n inside numbered (by_function f n numbered (in_first f n before) (cases_lt f i));
  count = let count = h.count in let more = rows_more view i numbered within in omega (count, more, most, arith);
}
  where
    in_first : (f n : ℕ) → IsEarlier f n (i + 1) 0 → f < i + 1
    in_first f n before = by_place (place_in f n (i + 1) 0 before)
      where
        by_place : (f < i + 1) ⊎ ((f ≡ i + 1) × (n < 0)) → f < i + 1
        by_place (inl lt) = lt
        by_place (inr (at, none)) = absurd (omega (none, arith))

    in_rows : (f n : ℕ) → f ≡ i → n < length (function_of view f).rows → n < k
    in_rows f n at lt = let len = ap (λ (g : ℕ). length (function_of view g).rows) at in omega (len, lt, all, arith)

    by_function : (f n : ℕ) → n < length (function_of view f).rows → f < i + 1 → (f < i) ⊎ (i ≤ f) → IsEarlier f n i k
    by_function f n lt upto (inl before) = earlier_function f n i k before
    by_function f n lt upto (inr from) = let at : f ≡ i = omega (upto, from, arith) in earlier_row f n i k at (in_rows f n at lt)

-- the function has at most 64 rows
pub function_without : (view : View) (marks : List Mark) (i : ℕ) → AreNumbered view → i < length (table_of view).functions → length (function_of view i).rows ≤ 64 → AreMarksUpto view i 0 marks → AreMarksUpto view (i + 1) 0 marks
function_without view marks i numbered within short h = record {
  each = h.each;
  upto = All-weaker (λ (m : Mark). IsEarlier m.function m.number i 0) (λ (m : Mark). IsEarlier m.function m.number (i + 1) 0) (λ m. later_function m.function m.number i 0) marks h.upto;
  in_order = h.in_order;
  all = λ f n inside numbered before some multiple. h.all f n inside numbered (by_function f n numbered some multiple before (cases_lt f i)) some multiple;
  count = let count = h.count in let more = rows_more view i numbered within in omega (count, more, arith);
}
  where
    by_function : (f n : ℕ) → n < length (function_of view f).rows → 0 < n → n % 64 ≡ 0 → IsEarlier f n (i + 1) 0 → (f < i) ⊎ (i ≤ f) → IsEarlier f n i 0
    by_function f n lt some multiple before (inl first) = earlier_function f n i 0 first
    by_function f n lt some multiple before (inr from) = absurd (none_after (place_in f n (i + 1) 0 before))
      where
        none_after : (f < i + 1) ⊎ ((f ≡ i + 1) × (n < 0)) → ⊥
        none_after (inl upto) =
            let at : f ≡ i = omega (upto, from, arith) in
            let len = ap (λ (g : ℕ). length (function_of view g).rows) at in
            omega (len, lt, some, multiple, short, arith)
        none_after (inr (at, none)) = omega (none, arith)

-- there are at least 64 rows for each mark
pub marks_count : (view : View) (marks : List Mark) (i : ℕ) → length (table_of view).functions ≤ i → AreMarksUpto view i 0 marks → 64 * length marks ≤ row_count (table_of view).functions
marks_count view marks i le h =
    let count = h.count in
    let all = ap row_count (take_all i (table_of view).functions le) in
    omega (count, all, arith)

-- ---- a look-up from a mark on
pub record Serves (offset : ℕ) (f : Func) (left : RowIter) : Type 0 where
  pub same : row_at offset (rows_left left) ≡ row_at offset f.rows
  pub rise : RowsRise (rows_left left)

pub some_row : (rows : List Row) (k : ℕ) → k < length rows → Row
some_row [] k lt = absurd (omega (lt, arith))
some_row (r ∷ rows) k lt = r

pub mark_serves : (view : View) (offset i : ℕ) (m : Mark) → IsMark view m → m.function ≡ i → m.start ≤ offset → RowsRise (function_of view i).rows → Serves offset (function_of view i) m.rows
mark_serves view offset i m h at by rise =
    let rows = (function_of view m.function).rows in
    let up : RowsRise (function_of view m.function).rows = subst (λ (n : ℕ). RowsRise (function_of view n).rows) (sym at) rise in
    let d : Row = some_row (function_of view m.function).rows m.number h.numbered in
    let start = h.start d in
    subst (λ (n : ℕ). Serves offset (function_of view n) m.rows) at (record {
      same = ap (row_at offset) h.rows ∙ row_from offset rows m.number d up h.numbered (omega (start, by, arith));
      rise = subst RowsRise (sym h.rows) (rise_from_one rows m.number up);
    })
