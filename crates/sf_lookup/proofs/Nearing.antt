-- How many marks are looked at, and how many rows are read from the last one on that an offset has reached.
use Rattle.std.specs.Prelude.{slice_index}
use Rattle.std.specs.List.{Any}
use Rattle.std.proofs.Common.{◌≡◌, ℕ, zero, suc, ◌+◌, ◌-◌, ◌*◌, ◌%◌, ◌^◌, ◌<◌, ◌≤◌, ◌⊎◌, inl, inr, true, List, [], ◌∷◌, Option, Some, None, drop, get_or, length, map, refl, sym, ap, subst, ◌∙◌, arith}
use Rattle.std.proofs.Math.Nat.{pow-suc}
use Rattle.std.proofs.Math.Pow.{pow_mono}
use Rattle.std.proofs.lemmas.Bool.{cases_lt, le-leb, lt-leb, le-ltb, lt-ltb}
use Rattle.std.proofs.lemmas.List.{get_or-drop, get_or-map, get_or_default, length-drop, length-map}
use Rattle.std.proofs.lemmas.List.Folds.{Any-from_list_any}
use Rattle.std.proofs.lemmas.List.Sorted.{IsNonDecreasingBy-from_all_adjacent}
use Rattle.sf_model.specs.declared.rows.Row.{Row}
use Rattle.sf_model.specs.Function.{RowsRise}
use Rattle.sf_model.specs.Table.{row_count}
use Rattle.sf_decode.specs.declared.view.View.{View}
use Rattle.sf_decode.specs.declared.iter.RowIter.{RowIter}
use Rattle.sf_decode.specs.View.{function_of, rows_left, table_of}
use Rattle.sf_lookup.specs.declared.marks.Mark.{Mark}
use Rattle.sf_lookup.specs.Mark.{AreMarks, IsEarlier, IsMark, is_at, start_seen}
use Rattle.sf_lookup.specs.Starts.{IsLastStart, NeverFall}
use Rattle.sf_lookup.specs.Steps.{IsWithinDigits, rows_read}
use Rattle.sf_lookup.proofs.Marking.{Serves, earlier_function, is_there, mark_serves, marks_count, place_in, some_row}

-- ---- rows that are read
pub read_on : (offset : ℕ) (r : Row) (rows : List Row) → r.start ≤ offset → rows_read offset (r ∷ rows) ≡ 1 + rows_read offset rows
read_on offset r rows le = rw (le-leb r.start offset le) refl

pub read_last : (offset : ℕ) (r : Row) (rows : List Row) → offset < r.start → rows_read offset (r ∷ rows) ≡ 1
read_last offset r rows lt = rw (lt-leb r.start offset lt) refl

read_all : (offset : ℕ) (rows : List Row) → rows_read offset rows ≤ length rows
read_all offset [] = omega arith
read_all offset (r ∷ rows) = by_order (read_all offset rows) (cases_lt offset r.start)
  where
    by_order : rows_read offset rows ≤ length rows → (offset < r.start) ⊎ (r.start ≤ offset) → rows_read offset (r ∷ rows) ≤ length (r ∷ rows)
    by_order later (inl lt) = let one = read_last offset r rows lt in omega (one, arith)
    by_order later (inr le) = let more = read_on offset r rows le in omega (more, later, arith)

read_upto : (offset : ℕ) (rows : List Row) (k : ℕ) (d : Row) → k < length rows → offset < (get_or rows k d).start → rows_read offset rows ≤ k + 1
read_upto offset [] k d lt above = absurd (omega (lt, arith))
read_upto offset (r ∷ rows) zero d lt above = let one = read_last offset r rows above in omega (one, arith)
read_upto offset (r ∷ rows) (suc k) d lt above = by_order (read_upto offset rows k d (omega (lt, arith)) above) (cases_lt offset r.start)
  where
    by_order : rows_read offset rows ≤ k + 1 → (offset < r.start) ⊎ (r.start ≤ offset) → rows_read offset (r ∷ rows) ≤ suc k + 1
    by_order later (inl after) = let one = read_last offset r rows after in omega (one, arith)
    by_order later (inr le) = let more = read_on offset r rows le in omega (more, later, arith)

-- ---- marks as one function sees them
pub seen_before : (i : ℕ) (m : Mark) → m.function < i → start_seen i m ≡ 0
seen_before i m lt = rw (lt-ltb m.function i lt) refl

pub seen_after : (i : ℕ) (m : Mark) → i < m.function → start_seen i m ≡ 2 ^ 64 - 1
seen_after i m lt = rw (le-ltb m.function i (omega (lt, arith)), lt-ltb i m.function lt) refl

pub seen_here : (i : ℕ) (m : Mark) → m.function ≡ i → start_seen i m ≡ m.start
seen_here i m at = rw (le-ltb m.function i (omega (at, arith)), le-ltb i m.function (omega (at, arith))) refl

rows_rise : (rows : List Row) (j k : ℕ) (d : Row) → RowsRise rows → j < k → k < length rows → (get_or rows j d).start < (get_or rows k d).start
rows_rise rows j k d rise lt within =
    let one = rise j d (omega (lt, within, arith)) in
    let on = IsNonDecreasingBy-from_all_adjacent (λ (r : Row). r.start) rows (λ n e below. let up = rise n e below in omega (up, arith)) (j + 1) k d (omega (lt, arith)) within in
    omega (one, on, arith)

-- marks of one function
starts_rise : (view : View) (i : ℕ) (a b : Mark) → IsMark view a → IsMark view b → RowsRise (function_of view i).rows → a.function ≡ i → b.function ≡ i → a.number < b.number → a.start < b.start
starts_rise view i a b ha hb rise at bt lt =
    let up : RowsRise (function_of view b.function).rows = subst (λ (n : ℕ). RowsRise (function_of view n).rows) (sym bt) rise in
    let d : Row = some_row (function_of view b.function).rows b.number hb.numbered in
    let same : a.function ≡ b.function = at ∙ sym bt in
    let first : (get_or (function_of view b.function).rows a.number d).start ≡ a.start = subst (λ (n : ℕ). (get_or (function_of view n).rows a.number d).start ≡ a.start) same (ha.start d) in
    let second = hb.start d in
    let between = rows_rise (function_of view b.function).rows a.number b.number d up lt hb.numbered in
    omega (first, second, between, arith)

seen_rises : (view : View) (i : ℕ) (a b : Mark) → IsMark view a → IsMark view b → RowsRise (function_of view i).rows → IsEarlier a.function a.number b.function b.number → start_seen i a ≤ start_seen i b
seen_rises view i a b ha hb rise earlier = by_first (cases_lt a.function i)
  where
    here : a.function ≡ i → (a.function < b.function) ⊎ ((a.function ≡ b.function) × (a.number < b.number)) → start_seen i a ≤ start_seen i b
    here at (inl lt) =
        let after = seen_after i b (omega (at, lt, arith)) in
        let at_start = seen_here i a at in
        let below = ha.start_below in
        omega (after, at_start, below, arith)
    here at (inr (same, lt)) =
        let bt : b.function ≡ i = omega (same, at, arith) in
        let first = seen_here i a at in
        let second = seen_here i b bt in
        let up = starts_rise view i a b ha hb rise at bt lt in
        omega (first, second, up, arith)

    both_after : i < a.function → (a.function < b.function) ⊎ ((a.function ≡ b.function) × (a.number < b.number)) → start_seen i a ≤ start_seen i b
    both_after lt (inl more) =
        let first = seen_after i a lt in
        let second = seen_after i b (omega (lt, more, arith)) in
        omega (first, second, arith)
    both_after lt (inr (same, more)) =
        let first = seen_after i a lt in
        let second = seen_after i b (omega (lt, same, arith)) in
        omega (first, second, arith)

    by_last : i ≤ a.function → (i < a.function) ⊎ (a.function ≤ i) → start_seen i a ≤ start_seen i b
    by_last le (inl lt) = both_after lt (place_in a.function a.number b.function b.number earlier)
    by_last le (inr ge) = here (omega (le, ge, arith)) (place_in a.function a.number b.function b.number earlier)

    by_first : (a.function < i) ⊎ (i ≤ a.function) → start_seen i a ≤ start_seen i b
    by_first (inl lt) = let none = seen_before i a lt in omega (none, arith)
    by_first (inr le) = by_last le (cases_lt i a.function)

pub some_mark : (marks : List Mark) (k : ℕ) → k < length marks → Mark
some_mark [] k lt = absurd (omega (lt, arith))
some_mark (m ∷ marks) k lt = m

pub never_fall_seen : (view : View) (i : ℕ) (marks : List Mark) → AreMarks view marks → RowsRise (function_of view i).rows → NeverFall (map (start_seen i) marks)
never_fall_seen view i marks h rise k d lt =
    let len = length-map marks (start_seen i) in
    let within : k + 1 < length marks = omega (len, lt, arith) in
    let e : Mark = some_mark marks (k + 1) within in
    let here = get_or-map (start_seen i) marks k e d (omega (within, arith)) in
    let next = get_or-map (start_seen i) marks (k + 1) e d within in
    let up = seen_rises view i (get_or marks k e) (get_or marks (k + 1) e) (h.each k e (omega (within, arith))) (h.each (k + 1) e within) rise (h.in_order k (k + 1) e (omega arith) within) in
    omega (here, next, up, arith)

-- the mark with a number, as a function sees it
pub seen_at : (i : ℕ) (marks : List Mark) (k : ℕ) (m : Mark) → k < length marks → get_or marks k m ≡ m → slice_index (map (start_seen i) marks) k ≡ start_seen i m
seen_at i marks k m lt is = get_or-map (start_seen i) marks k m 0 lt ∙ ap (start_seen i) is

-- ---- the rows near an offset
-- rows from number n on of a function, where `last` is the last mark that was reached: its row is this one, or it is none of the function's
abbrev pub IsFrom : List Mark → (i : ℕ) → Option ℕ → (n : ℕ) → Type 0
IsFrom marks i None n = n ≡ 0
IsFrom marks i (Some j) n = (m : Mark) → get_or marks j m ≡ m → ((m.function ≡ i) × (m.number ≡ n)) ⊎ ((m.function ≡ i → ⊥) × (n ≡ 0))

pub from_mark : (marks : List Mark) (i j : ℕ) (x : Mark) → j < length marks → (get_or marks j x).function ≡ i → IsFrom marks i (Some j) (get_or marks j x).number
from_mark marks i j x lt at m is =
    let same : get_or marks j x ≡ m = get_or_default marks j x m lt ∙ is in
    inl (sym (ap (λ (a : Mark). a.function) same) ∙ at, sym (ap (λ (a : Mark). a.number) same))

pub from_first : (marks : List Mark) (i j : ℕ) (x : Mark) → j < length marks → ((get_or marks j x).function ≡ i → ⊥) → IsFrom marks i (Some j) 0
from_first marks i j x lt not m is =
    let same : get_or marks j x ≡ m = get_or_default marks j x m lt ∙ is in
    inr (λ e. not (ap (λ (a : Mark). a.function) same ∙ e), refl)

-- the row of a mark that comes after the last one that was reached
after_last : (view : View) (i offset n : ℕ) (marks : List Mark) (last : Option ℕ) → AreMarks view marks → offset < 2 ^ 64 - 1 → IsLastStart (map (start_seen i) marks) offset last → IsFrom marks i last n
    → (q : ℕ) (x : Mark) → q < length marks → get_or marks q x ≡ x → x.function ≡ i → x.number ≡ n + 64 → offset < x.start
after_last view i offset n marks None h small reached from q x lt is at number =
    let above = reached q (let len = length-map marks (start_seen i) in omega (len, lt, arith)) in
    let seen = seen_at i marks q x lt is in
    let start = seen_here i x at in
    omega (above, seen, start, arith)
after_last view i offset n marks (Some j) h small reached from q x lt is at number = by_number (cases_lt j q)
  where
    len : length (map (start_seen i) marks) ≡ length marks
    len = length-map marks (start_seen i)

    within : j < length marks
    within = let first = reached.0 in omega (first, len, arith)

    m : Mark
    m = get_or marks j x

    is_last : get_or marks j m ≡ m
    is_last = get_or_default marks j m x within

    same : q ≤ j → j ≤ q → x ≡ m
    same le ge = let here : q ≡ j = omega (le, ge, arith) in sym is ∙ ap (λ (k : ℕ). get_or marks k x) here

    earlier : q < j → (x.function < m.function) ⊎ ((x.function ≡ m.function) × (x.number < m.number))
    earlier before = place_in x.function x.number m.function m.number (subst (λ (a : Mark). IsEarlier a.function a.number m.function m.number) is (h.in_order q j x before within))

    -- the last mark is of this function, and its row is number n
    of_it : m.function ≡ i → m.number ≡ n → (x.function < m.function) ⊎ ((x.function ≡ m.function) × (x.number < m.number)) → ⊥
    of_it here first (inl lower) = omega (here, at, lower, arith)
    of_it here first (inr (alike, lower)) = omega (first, number, lower, arith)

    -- the last mark is of another function
    of_other : (m.function ≡ i → ⊥) → (x.function < m.function) ⊎ ((x.function ≡ m.function) × (x.number < m.number)) → ⊥
    of_other not (inl lower) =
        let far = seen_after i m (omega (at, lower, arith)) in
        let seen = seen_at i marks j m within is_last in
        let upto = reached.1 in
        omega (far, seen, upto, small, arith)
    of_other not (inr (alike, lower)) = not (sym alike ∙ at)

    not_there : q ≤ j → ((m.function ≡ i) × (m.number ≡ n)) ⊎ ((m.function ≡ i → ⊥) × (n ≡ 0)) → (q < j) ⊎ (j ≤ q) → ⊥
    not_there le (inl (here, first)) (inl before) = of_it here first (earlier before)
    not_there le (inl (here, first)) (inr ge) = let one = ap (λ (a : Mark). a.number) (same le ge) in omega (one, first, number, arith)
    not_there le (inr (not, none)) (inl before) = of_other not (earlier before)
    not_there le (inr (not, none)) (inr ge) = not (sym (ap (λ (a : Mark). a.function) (same le ge)) ∙ at)

    by_number : (j < q) ⊎ (q ≤ j) → offset < x.start
    by_number (inl later) =
        let above = reached.2 q later (omega (len, lt, arith)) in
        let seen = seen_at i marks q x lt is in
        let start = seen_here i x at in
        omega (above, seen, start, arith)
    by_number (inr le) = absurd (not_there le (from m is_last) (cases_lt q j))

-- one more power, for the row after the 64 where there are marks
one_more : (steps count rows : ℕ) → 2 ^ steps ≤ 2 * count + 1 → 64 * count ≤ rows → 0 < count → 2 ^ (steps + 1) ≤ 2 * rows + 1
one_more steps count rows few all some =
    let doubled : 2 ^ (steps + 1) ≡ 2 ^ steps * 2 = ap (λ (k : ℕ). 2 ^ k) (let next : steps + 1 ≡ suc steps = omega arith in next) ∙ pow-suc 2 steps in
    omega (doubled, few, all, some, arith)

below_digits : (a b n : ℕ) → a ≤ b → 2 ^ b ≤ 2 * n + 1 → 2 ^ a ≤ 2 * n + 1
below_digits a b n le h = let up = pow_mono le in omega (up, h, arith)

pub near_cost : (view : View) (i offset n steps : ℕ) (marks : List Mark) (last : Option ℕ) (left : List Row) → AreMarks view marks → i < length (table_of view).functions → offset < 2 ^ 64 - 1 → n % 64 ≡ 0
    → IsLastStart (map (start_seen i) marks) offset last → IsFrom marks i last n → left ≡ drop n (function_of view i).rows → 2 ^ steps ≤ 2 * length (map (start_seen i) marks) + 1
    → IsWithinDigits (steps + rows_read offset left - 64) (row_count (table_of view).functions)
near_cost view i offset n steps marks last left h within small multiple reached from at few = by_length (cases_lt (n + 64) (length rows))
  where
    rows : List Row
    rows = (function_of view i).rows

    count : 64 * length marks ≤ row_count (table_of view).functions
    count = marks_count view marks (length (table_of view).functions) (omega arith) h

    len : length (map (start_seen i) marks) ≡ length marks
    len = length-map marks (start_seen i)

    read_is : rows_read offset left ≡ rows_read offset (drop n rows)
    read_is = ap (rows_read offset) at

    by_mark : (more : n + 64 < length rows) → Any (λ (m : Mark). is_at i (n + 64) m ≡ true) marks → 2 ^ (steps + rows_read offset left - 64) ≤ 2 * row_count (table_of view).functions + 1
    by_mark more (q, x, lt, is, passes) =
        let place = is_there i (n + 64) x passes in
        let here = place.function in
        let number = place.number in
        let above = after_last view i offset n marks last h small reached from q x lt is here number in
        let marked : IsMark view x = subst (IsMark view) is (h.each q x lt) in
        let d : Row = some_row rows (n + 64) more in
        let start : (get_or rows (n + 64) d).start ≡ x.start =
        subst (λ (k : ℕ). (get_or rows k d).start ≡ x.start) number (subst (λ (f : ℕ). (get_or (function_of view f).rows x.number d).start ≡ x.start) here (marked.start d)) in
        let moved = ap (λ (r : Row). r.start) (get_or-drop n rows 64 d) in
        let long = length-drop n rows in
        let read = read_upto offset (drop n rows) 64 d (omega (long, more, arith)) (omega (moved, start, above, arith)) in
        below_digits (steps + rows_read offset left - 64) (steps + 1) (row_count (table_of view).functions) (omega (read, read_is, arith))
        (one_more steps (length marks) (row_count (table_of view).functions) (omega (few, len, arith)) count (omega (lt, arith)))

    by_length : (n + 64 < length rows) ⊎ (length rows ≤ n + 64) → 2 ^ (steps + rows_read offset left - 64) ≤ 2 * row_count (table_of view).functions + 1
    by_length (inl more) =
        by_mark more (Any-from_list_any (is_at i (n + 64)) marks (h.all i (n + 64) within more (earlier_function i (n + 64) (length (table_of view).functions) 0 within) (omega arith) (omega (multiple, arith))))
    by_length (inr short) =
        let long = length-drop n rows in
        let read = read_all offset (drop n rows) in
        below_digits (steps + rows_read offset left - 64) steps (row_count (table_of view).functions) (omega (read, read_is, long, short, arith)) (omega (few, len, count, arith))

-- the rows from the last mark on that was reached, where it is of the function
pub record IsNear (view : View) (i offset steps : ℕ) (left : RowIter) : Type 0 where
  pub serves : Serves offset (function_of view i) left
  pub cost : IsWithinDigits (steps + rows_read offset (rows_left left) - 64) (row_count (table_of view).functions)

pub mark_near : (view : View) (marks : List Mark) (i offset steps last : ℕ) (m : Mark) → AreMarks view marks → i < length (table_of view).functions → RowsRise (function_of view i).rows → offset < 2 ^ 32
    → IsLastStart (map (start_seen i) marks) offset (Some last) → m ≡ get_or marks last m → m.function ≡ i → 2 ^ steps ≤ 2 * length (map (start_seen i) marks) + 1 → IsNear view i offset steps m.rows
mark_near view marks i offset steps last m h within rise below reached is at few = record {
  serves = mark_serves view offset i m marked at by rise;
  cost = near_cost view i offset m.number steps marks (Some last) (rows_left m.rows) h within (omega (below, arith)) marked.multiple reached from left few;
}
  where
    numbered : last < length marks
    numbered = let first = reached.0 in let len = length-map marks (start_seen i) in omega (first, len, arith)

    marked : IsMark view m
    marked = subst (IsMark view) (sym is) (h.each last m numbered)

    by : m.start ≤ offset
    by =
        let seen = seen_at i marks last m numbered (sym is) in
        let start = seen_here i m at in
        let upto = reached.1 in
        omega (seen, start, upto, arith)

    from : IsFrom marks i (Some last) m.number
    from = subst (IsFrom marks i (Some last)) (sym (ap (λ (x : Mark). x.number) is)) (from_mark marks i last m numbered (sym (ap (λ (x : Mark). x.function) is) ∙ at))

    left : rows_left m.rows ≡ drop m.number (function_of view i).rows
    left = marked.rows ∙ ap (λ (f : ℕ). drop m.number (function_of view f).rows) at
