-- The kept ones of functions that are apart can be written.
use Rattle.std.proofs.Common.{◌≡◌, ℕ, zero, suc, ◌+◌, ◌^◌, ◌<◌, ◌≤◌, Bool, true, false, ◌&&◌, cond, eqb, leb, List, [], ◌∷◌, ◌++◌, length, get_or, sum_by, Option, Some, None, refl, sym, ap, ◌∙◌, add-one, arith, inl, inr}
use Rattle.std.specs.Prelude.{All, nat_lt, not}
use Rattle.std.specs.Option.{option_map}
use Rattle.std.specs.List.{AllByRecursion, filter}
use Rattle.std.proofs.lemmas.Bool.{cases_lt, le-leb, leb-true, ltb-false, eqb-true}
use Rattle.std.proofs.lemmas.Bool.Decides.{nat_tests}
use Rattle.std.proofs.lemmas.List.{append-nil}
use Rattle.std.proofs.lemmas.List.Sums.{sum_by-cons}
use Rattle.std.proofs.lemmas.List.Elements.{recursion_from_All, All-filter, All-from_recursion, filter_map-append}
use Rattle.std.proofs.lemmas.List.Filters.{length-filter_both, sum_by-filter_both}
use Rattle.sf_model.specs.declared.machine.Arch.{Arch}
use Rattle.sf_model.specs.declared.function.Func.{Func}
use Rattle.sf_model.specs.declared.omission.Omission.{Omission}
use Rattle.sf_model.specs.declared.omission.Omitted.{Omitted}
use Rattle.sf_model.specs.declared.omission.Span.{Span}
use Rattle.sf_model.specs.Function.{IsWritable, AreWritable}
use Rattle.frame_functions.specs.declared.read_function.ReadFunction.{ReadFunction}
use Rattle.frame_functions.specs.declared.read_function.Expressed.{Expressed}
use Rattle.frame_functions.specs.declared.read_function.Expressed.TheVariants.{Kept, LeftOut}
use Rattle.frame_functions.specs.ReadFunction.{IsSound, IsSoundOutcome, kept_of, kept_in, omitted_of, omitted_in, spans_of}
use Rattle.sf_asm.specs.declared.fault.GatherFault.{GatherFault}
use Rattle.sf_asm.specs.Linking.{functions_fault, limits_fault, or_later, overlap_after, overlap_fault, overlap_in, overlap_with}
use Rattle.frame_functions.specs.Order.{are_apart, rows_of, read_rows}
use Rattle.sf_asm.proofs.Limits.{few_functions, few_rows}
use Rattle.sf_asm.proofs.OverlapLaws.{overlap_begins, overlap_passes, overlap_goes_on, overlap_ends}

-- each function starts at the end of the one before it, or behind it
abbrev ApartFrom : ℕ → List Func → Type 0
ApartFrom end [] = Unit {0}
ApartFrom end (f ∷ fs) = (end ≤ f.start) × ApartFrom (f.start + f.size) fs

ApartFrom-earlier : (a b : ℕ) (fs : List Func) → a ≤ b → ApartFrom b fs → ApartFrom a fs
ApartFrom-earlier a b [] le h = tt
ApartFrom-earlier a b (f ∷ fs) le h = (omega (arith, h.0), h.1)

-- the test of one function
split_test : (end start size : ℕ) (rest skipped : Bool) → cond (eqb size 0) skipped (leb end start && rest) ≡ true → 0 < size → (end ≤ start) × (rest ≡ true)
split_test end start size true skipped h some = grind (arith, nat_tests)
split_test end start size false skipped h some = grind (arith, nat_tests)

skip_test : (end start size : ℕ) (rest skipped : Bool) → cond (eqb size 0) skipped (leb end start && rest) ≡ true → size ≡ 0 → skipped ≡ true
skip_test end start size true skipped h none = grind (arith, nat_tests)
skip_test end start size false skipped h none = grind (arith, nat_tests)

-- one function before others that are apart
kept_from : (arch : Arch) (end : ℕ) (span : Span) (outcome : Expressed) (es : List ReadFunction) → IsSoundOutcome arch span.start span.size outcome
    → ((b : ℕ) → are_apart b es ≡ true → ApartFrom b (kept_of es))
    → are_apart end (record { span = span; outcome = outcome } ∷ es) ≡ true → ApartFrom end (kept_of (record { span = span; outcome = outcome } ∷ es))
kept_from arch end span (Kept f) es one others h =
    let some : 0 < span.size = rw (← one.2) one.0.size in
    let t = split_test end span.start span.size (are_apart (span.start + span.size) es) (are_apart end es) h some in
    let rest = others (span.start + span.size) t.1 in
    (rw one.1 t.0, rw (one.1, one.2) rest)
kept_from arch end span (LeftOut omission) es one others h =
    elim (cases_lt 0 span.size) [
      | inl some ↦
          let t = split_test end span.start span.size (are_apart (span.start + span.size) es) (are_apart end es) h some in
          ApartFrom-earlier end (span.start + span.size) (kept_of es) (omega (arith, t.0)) (others (span.start + span.size) t.1)
      | inr none ↦ others end (skip_test end span.start span.size (are_apart (span.start + span.size) es) (are_apart end es) h (omega arith))
    ]

kept_are_apart : (arch : Arch) (end : ℕ) (es : List ReadFunction) → AllByRecursion (IsSound arch) es → are_apart end es ≡ true → ApartFrom end (kept_of es)
kept_are_apart arch end [] sound h = tt
kept_are_apart arch end (e ∷ es) sound h = kept_from arch end e.span e.outcome es sound.0 (λ b t. kept_are_apart arch b es sound.1 t) h

-- ---- functions of which no neighbours overlap
abbrev end_of : Option Span → ℕ
end_of None = 0
end_of (Some before) = before.start + before.size

not_overlapping : (before : Option Span) (span : Span) (spans : List Span) → eqb span.size 0 ≡ false → overlap_after before (span ∷ spans) ≡ None → overlap_with before span ≡ None
not_overlapping before span spans some h = at_fault (overlap_with before span) refl
  where
    at_fault : (fault : Option GatherFault) → overlap_with before span ≡ fault → fault ≡ None
    at_fault None e = refl
    at_fault (Some fault) e = let is = sym (overlap_ends before span spans fault some e) ∙ ap (option_map overlap_fault) h in cc

ends_before : (before : Option Span) (span : Span) → overlap_with before span ≡ None → end_of before ≤ span.start
ends_before None span e = omega arith
ends_before (Some before) span e = at_test (nat_lt span.start (before.start + before.size)) refl e
  where
    at_test : (b : Bool) → nat_lt span.start (before.start + before.size) ≡ b → cond b (Some (overlap_fault (before, span))) None ≡ None → before.start + before.size ≤ span.start
    at_test true t e = cc
    at_test false t e = ltb-false span.start (before.start + before.size) t

no_overlap_apart : (before : Option Span) (es : List ReadFunction) → overlap_after before (spans_of es) ≡ None → are_apart (end_of before) es ≡ true
no_overlap_apart before [] h = refl
no_overlap_apart before (e ∷ es) h = at_size (eqb e.span.size 0) refl (λ rest. no_overlap_apart before es rest) (λ rest. no_overlap_apart (Some e.span) es rest)
  where
    at_size : (b : Bool) → eqb e.span.size 0 ≡ b → (overlap_after before (spans_of es) ≡ None → are_apart (end_of before) es ≡ true)
        → (overlap_after (Some e.span) (spans_of es) ≡ None → are_apart (e.span.start + e.span.size) es ≡ true) → are_apart (end_of before) (e ∷ es) ≡ true
    at_size true t skipped on = rw t (skipped (sym (overlap_passes before e.span (spans_of es) (eqb-true e.span.size 0 t)) ∙ h))
    at_size false t skipped on =
        let fine = not_overlapping before e.span (spans_of es) t h in
        let rest = sym (overlap_goes_on before e.span (spans_of es) t fine) ∙ h in
        rw (t, le-leb (end_of before) e.span.start (ends_before before e.span fine)) (on rest)

pub not_overlapping_apart : (es : List ReadFunction) → overlap_in (spans_of es) ≡ None → are_apart 0 es ≡ true
not_overlapping_apart es h = no_overlap_apart None es (sym (overlap_begins (spans_of es)) ∙ h)

-- by places
neighbours : (end : ℕ) (fs : List Func) (k : ℕ) (d : Func) → ApartFrom end fs → suc k < length fs
    → (get_or fs k d).start + (get_or fs k d).size ≤ (get_or fs (suc k) d).start
neighbours end [] k d h lt = absurd (omega arith)
neighbours end (f ∷ []) k d h lt = absurd (omega arith)
neighbours end (f ∷ g ∷ fs) zero d h lt = h.1.0
neighbours end (f ∷ g ∷ fs) (suc k) d h lt = neighbours (f.start + f.size) (g ∷ fs) k d h.1 (omega arith)

kept_one : (arch : Arch) (span : Span) (outcome : Expressed) (es : List ReadFunction) → IsSoundOutcome arch span.start span.size outcome → AllByRecursion (IsWritable arch) (kept_of es)
    → AllByRecursion (IsWritable arch) (kept_of (record { span = span; outcome = outcome } ∷ es))
kept_one arch span (Kept f) es one others = (one.0, others)
kept_one arch span (LeftOut omission) es one others = others

kept_writable : (arch : Arch) (es : List ReadFunction) → AllByRecursion (IsSound arch) es → AllByRecursion (IsWritable arch) (kept_of es)
kept_writable arch [] sound = tt
kept_writable arch (e ∷ es) sound = kept_one arch e.span e.outcome es sound.0 (kept_writable arch es sound.1)

-- no more functions and rows than before
count_one : (span : Span) (outcome : Expressed) (es : List ReadFunction)
    → length (kept_of es) ≤ length es → sum_by (λ (f : Func). length f.rows) (kept_of es) ≤ sum_by read_rows es
    → (length (kept_of (record { span = span; outcome = outcome } ∷ es)) ≤ suc (length es))
    × (sum_by (λ (f : Func). length f.rows) (kept_of (record { span = span; outcome = outcome } ∷ es)) ≤ rows_of outcome + sum_by read_rows es)
count_one span (Kept f) es few small = (omega arith, rw sum_by-cons (omega arith))
count_one span (LeftOut omission) es few small = (omega arith, omega arith)

kept_count : (es : List ReadFunction) → (length (kept_of es) ≤ length es) × (sum_by (λ (f : Func). length f.rows) (kept_of es) ≤ sum_by read_rows es)
kept_count [] = (omega arith, omega arith)
kept_count (e ∷ es) = let more = kept_count es in let one = count_one e.span e.outcome es more.0 more.1 in (one.0, rw (sum_by-cons read_rows e es) one.1)

pub kept_AreWritable : (arch : Arch) (es : List ReadFunction) → All (IsSound arch) es → are_apart 0 es ≡ true → length es ≤ 2 ^ 21 → sum_by read_rows es ≤ 2 ^ 24
    → AreWritable arch (kept_of es)
kept_AreWritable arch es sound apart few small =
    let each = recursion_from_All (IsSound arch) es sound in
    let counts = kept_count es in
    let ordered = kept_are_apart arch 0 es each apart in
    record {
      each = All-from_recursion (IsWritable arch) (kept_of es) (kept_writable arch es each);
      apart = λ k d lt. rw add-one (neighbours 0 (kept_of es) k d ordered (omega arith));
      count = omega (arith, counts.0);
      row_count = omega (arith, counts.1);
    }

-- those of which none is refused
none_first : (a b : Option GatherFault) → or_later a b ≡ None → (a ≡ None) × (b ≡ None)
none_first None b e = (refl, e)
none_first (Some fault) b e = cc

none_mapped : (pair : Option (Span × Span)) → option_map overlap_fault pair ≡ None → pair ≡ None
none_mapped None e = refl
none_mapped (Some pair) e = cc

both_tests : (a b : Bool) → (a && b) ≡ true → (a ≡ true) × (b ≡ true)
both_tests true b e = (refl, e)
both_tests false b e = cc

pub kept_of_checked : (arch : Arch) (es : List ReadFunction) → All (IsSound arch) es → functions_fault es ≡ None → AreWritable arch (kept_of es)
kept_of_checked arch es sound h =
    let limits = none_first (limits_fault es) (option_map overlap_fault (overlap_in (spans_of es))) h in
    kept_AreWritable arch es sound (not_overlapping_apart es (none_mapped (overlap_in (spans_of es)) limits.1)) (few_functions es limits.0) (few_rows es limits.0)

-- ---- some of them
apart_earlier : (a b : ℕ) (es : List ReadFunction) → a ≤ b → are_apart b es ≡ true → are_apart a es ≡ true
apart_earlier a b [] le h = refl
apart_earlier a b (e ∷ es) le h = at_size (eqb e.span.size 0) refl h (λ rest. apart_earlier a b es le rest)
  where
    at_size : (empty : Bool) → eqb e.span.size 0 ≡ empty → cond empty (are_apart b es) (leb b e.span.start && are_apart (e.span.start + e.span.size) es) ≡ true → (are_apart b es ≡ true → are_apart a es ≡ true)
        → cond (eqb e.span.size 0) (are_apart a es) (leb a e.span.start && are_apart (e.span.start + e.span.size) es) ≡ true
    at_size true t h skipped = rw t (skipped h)
    at_size false t h skipped =
        let two = both_tests (leb b e.span.start) (are_apart (e.span.start + e.span.size) es) h in
        let low = leb-true b e.span.start two.0 in
        rw (t, le-leb a e.span.start (omega (arith, low, le))) two.1

apart_some : (p : ReadFunction → Bool) (end : ℕ) (es : List ReadFunction) → are_apart end es ≡ true → are_apart end (filter p es) ≡ true
apart_some p end [] h = refl
apart_some p end (e ∷ es) h = at_size (eqb e.span.size 0) refl h (λ rest. apart_some p end es rest) (λ rest. apart_some p (e.span.start + e.span.size) es rest)
  where
    at_size : (empty : Bool) → eqb e.span.size 0 ≡ empty → cond empty (are_apart end es) (leb end e.span.start && are_apart (e.span.start + e.span.size) es) ≡ true
        → (are_apart end es ≡ true → are_apart end (filter p es) ≡ true) → (are_apart (e.span.start + e.span.size) es ≡ true → are_apart (e.span.start + e.span.size) (filter p es) ≡ true)
        → are_apart end (filter p (e ∷ es)) ≡ true
    at_size true t h skipped on = at_test (p e) refl (skipped h)
      where
        at_test : (b : Bool) → p e ≡ b → are_apart end (filter p es) ≡ true → are_apart end (cond (p e) (e ∷ filter p es) (filter p es)) ≡ true
        at_test true s rest = rw (s, t) rest
        at_test false s rest = rw s rest
    at_size false t h skipped on = at_test (p e) refl (both_tests (leb end e.span.start) (are_apart (e.span.start + e.span.size) es) h)
      where
        at_test : (b : Bool) → p e ≡ b → (leb end e.span.start ≡ true) × (are_apart (e.span.start + e.span.size) es ≡ true) → are_apart end (cond (p e) (e ∷ filter p es) (filter p es)) ≡ true
        at_test true s two = rw (s, t, two.0) (on two.1)
        at_test false s two =
            let low = leb-true end e.span.start two.0 in
            rw s (apart_earlier end (e.span.start + e.span.size) (filter p es) (omega (arith, low)) (on two.1))

fewer : (p : ReadFunction → Bool) (es : List ReadFunction) → (length (filter p es) ≤ length es) × (sum_by read_rows (filter p es) ≤ sum_by read_rows es)
fewer p es =
    let lengths = length-filter_both p (λ e. not (p e)) (λ e. refl) es in
    let rows = sum_by-filter_both p (λ e. not (p e)) (λ e. refl) read_rows es in
    (omega (arith, lengths), omega (arith, rows))

pub some_kept_of_checked : (p : ReadFunction → Bool) (arch : Arch) (es : List ReadFunction) → All (IsSound arch) es → functions_fault es ≡ None → AreWritable arch (kept_of (filter p es))
some_kept_of_checked p arch es sound h =
    let limits = none_first (limits_fault es) (option_map overlap_fault (overlap_in (spans_of es))) h in
    let less = fewer p es in
    let few = few_functions es limits.0 in
    let rows = few_rows es limits.0 in
    kept_AreWritable arch (filter p es) (All-filter p (IsSound arch) es sound)
    (apart_some p 0 es (not_overlapping_apart es (none_mapped (overlap_in (spans_of es)) limits.1))) (omega (arith, less.0, few)) (omega (arith, less.1, rows))

-- one more function
pub kept_of-kept : (es : List ReadFunction) (e : ReadFunction) (f : Func) → e.outcome ≡ Kept f → kept_of (es ++ e ∷ []) ≡ kept_of es ++ f ∷ []
kept_of-kept es e f h =
    filter_map-append (λ (x : ReadFunction). kept_in x.outcome) es (e ∷ []) ∙ ap (λ (xs : List Func). kept_of es ++ xs) (rw h refl)

pub kept_of-left : (es : List ReadFunction) (e : ReadFunction) (o : Omission) → e.outcome ≡ LeftOut o → kept_of (es ++ e ∷ []) ≡ kept_of es
kept_of-left es e o h =
    filter_map-append (λ (x : ReadFunction). kept_in x.outcome) es (e ∷ []) ∙ ap (λ (xs : List Func). kept_of es ++ xs) (rw h refl) ∙ append-nil (kept_of es)

pub omitted_of-kept : (es : List ReadFunction) (e : ReadFunction) (f : Func) → e.outcome ≡ Kept f → omitted_of (es ++ e ∷ []) ≡ omitted_of es
omitted_of-kept es e f h =
    filter_map-append (λ (x : ReadFunction). omitted_in x.span x.outcome) es (e ∷ []) ∙ ap (λ (xs : List Omitted). omitted_of es ++ xs) (rw h refl) ∙ append-nil (omitted_of es)

pub omitted_of-left : (es : List ReadFunction) (e : ReadFunction) (o : Omission) → e.outcome ≡ LeftOut o
    → omitted_of (es ++ e ∷ []) ≡ omitted_of es ++ record { start = e.span.start; size = e.span.size; origin = e.span.origin; omission = o } ∷ []
omitted_of-left es e o h =
    filter_map-append (λ (x : ReadFunction). omitted_in x.span x.outcome) es (e ∷ []) ∙ ap (λ (xs : List Omitted). omitted_of es ++ xs) (rw h refl)

pub spans_of-push : (es : List ReadFunction) (e : ReadFunction) → spans_of (es ++ e ∷ []) ≡ spans_of es ++ e.span ∷ []
spans_of-push [] e = refl
spans_of-push (x ∷ es) e = ap (λ (xs : List Span). x.span ∷ xs) (spans_of-push es e)
