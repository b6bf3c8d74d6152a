-- What is written of a section: functions that one section can hold, and those that are needed.
use Rattle.std.specs.Prelude.{nat_lt, not, IsTrue, sum_by}
use Rattle.std.specs.List.{filter, AllPairs}
use Rattle.std.specs.List.Sorted.{IsPermutation}
use Rattle.std.proofs.Common.{◌≡◌, ℕ, suc, ◌+◌, ◌<◌, ◌≤◌, Bool, true, false, cond, List, [], ◌∷◌, All, get_or, length, map, Option, Some, None, refl, sym, ap, subst, ◌∙◌, arith}
use Rattle.std.proofs.lemmas.Bool.{and_parts, lt-ltb, ltb-true}
use Rattle.std.proofs.lemmas.List.{append-nil, length-map}
use Rattle.std.proofs.lemmas.List.Elements.{All-cons, All-head, All-tail, All-weaker, All-map, All-filter, filter_passes}
use Rattle.std.proofs.lemmas.List.Filters.{length-filter_both, sum_by-filter_both}
use Rattle.std.proofs.lemmas.List.Kept.{AllPairs-filter}
use Rattle.std.proofs.lemmas.List.Sorted.{length_permutation, sum_by-IsPermutation, IsPermutation-map}
use Rattle.std.proofs.lemmas.List.Sums.{sum_by-cons}
use Rattle.sf_model.specs.declared.machine.Arch.{Arch}
use Rattle.sf_model.specs.declared.content.Content.{Content}
use Rattle.sf_model.specs.declared.function.Func.{Func}
use Rattle.sf_model.specs.declared.function.Shape.{Shape}
use Rattle.sf_model.specs.declared.function.Shape.TheVariants.{Plain, Repeat}
use Rattle.sf_model.specs.declared.rows.Row.{Row}
use Rattle.sf_model.specs.Content.{content_fits}
use Rattle.sf_model.specs.Function.{AreWritable, IsWritable, RowsRise}
use Rattle.sf_model.specs.Table.{Table, row_count}
use Rattle.sf_model.specs.Union.{IsApart}
use Rattle.sf_decode.specs.declared.view.View.{View}
use Rattle.sf_decode.specs.View.{section_bytes, table_of}
use Rattle.sf_functions.specs.Order.{IsInOrder}
use Rattle.sf_merge.specs.declared.located.Located.{Located}
use Rattle.sf_merge.specs.Located.{located, is_sized, located_start}
use Rattle.sf_merge.specs.Views.{IsViewOfSection}
use Rattle.sf_merge.proofs.Apart.{EndsBy, adjacent, function_of, none_share, pairs_map, rises}
use Rattle.sf_merge.proofs.OneSection as section
use Rattle.sf_merge.proofs.OneSection.{in_tables, located_functions, located_sound}
use Rattle.sf_merge.proofs.Permutations.{filter_permuted}
use Rattle.sf_merge.proofs.Sound.{IsSound, RowsFit}
use Rattle.sf_merge.proofs.United.{apart}
use Rattle.sf_slim.specs.Slim.{is_live, slim_function, slim_rows_of, AreNeeded}
use Rattle.sf_slim.specs.Pass.{has_row, first_holds, is_in_block, is_needed, kept, kept_function, needed_rows}
use Rattle.sf_slim.specs.Slimming.{slim_overlap_fault, sized_in, slimmed}
use Rattle.sf_slim.proofs.Live.{live_is}
use Rattle.sf_slim.proofs.Overlaps.{none_shared}
use Rattle.sf_slim.proofs.Sweep.{kept_new, kept_rows_rise, slim_is_kept}

-- ---- one function
pub slim_of_is : (shape : Shape) (size : ℕ) (rows : List Row) → RowsRise rows → slim_rows_of shape size rows ≡ needed_rows shape size rows
slim_of_is Plain size rows h = slim_is_kept size rows h
slim_of_is (Repeat block) size rows h = refl

with_rows : Func → List Row → Func
with_rows f rows = record { start = f.start; size = f.size; shape = f.shape; key = f.key; rows = rows }

pub slim_function_is : (f : Func) → RowsRise f.rows → slim_function f ≡ kept_function f
unfolding with_rows
slim_function_is f h = ap (with_rows f) (slim_of_is f.shape f.size f.rows h)

-- a function with a row at some address has bytes, and keeps a row
pub record Answers (f : Func) : Type 0 where
  pub size : 0 < f.size
  pub rows : 0 < length (needed_rows f.shape f.size f.rows)

keeps_first : (shape : Shape) (size : ℕ) (r : Row) (rows : List Row) → r.start < size → 0 < length (needed_rows shape size (r ∷ rows))
keeps_first Plain size r rows lt = let one = ap length (kept_new None size r rows lt refl) in omega (one, arith)
keeps_first (Repeat block) size r rows lt = omega arith

answers_by : (f : Func) (rows : List Row) → f.rows ≡ rows → first_holds f.shape f.size rows ≡ true → Answers f
answers_by f [] is e = cc
answers_by f (r ∷ rows) is e =
    let two = and_parts (nat_lt r.start f.size) (is_in_block f.shape r.start) e in
    let lt = ltb-true r.start f.size two.0 in
    record {
      size = omega (lt, arith);
      rows = subst (λ (rs : List Row). 0 < length (needed_rows f.shape f.size rs)) (sym is) (keeps_first f.shape f.size r rows lt);
    }

pub answering : (f : Func) → has_row f ≡ true → Answers f
answering f e = answers_by f f.rows refl e

kept_fit : (arch : Arch) (last : Option Content) (size : ℕ) (rows : List Row) → RowsFit arch rows → RowsFit arch (kept last size rows)
kept_fit arch last size [] h = h
kept_fit arch last size (r ∷ rows) h =
    let P : Row → Type 0 = λ (row : Row). IsTrue (content_fits arch row.content) in
    let rest = All-tail P r rows h in
    at_test (is_needed last size r) (All-cons P r (kept (Some r.content) size rows) (All-head P r rows h) (kept_fit arch (Some r.content) size rows rest)) (kept_fit arch last size rows rest)
  where
    at_test : (b : Bool) → RowsFit arch (r ∷ kept (Some r.content) size rows) → RowsFit arch (kept last size rows) → RowsFit arch (cond b (r ∷ kept (Some r.content) size rows) (kept last size rows))
    at_test true new old = new
    at_test false new old = old

fit_of : (arch : Arch) (shape : Shape) (size : ℕ) (rows : List Row) → RowsFit arch rows → RowsFit arch (needed_rows shape size rows)
fit_of arch Plain size rows h = kept_fit arch None size rows h
fit_of arch (Repeat block) size rows h = h

rise_of : (shape : Shape) (size : ℕ) (rows : List Row) → RowsRise rows → RowsRise (needed_rows shape size rows)
rise_of Plain size rows h = kept_rows_rise size rows h
rise_of (Repeat block) size rows h = h

kept_fewer : (last : Option Content) (size : ℕ) (rows : List Row) → length (kept last size rows) ≤ length rows
kept_fewer last size [] = omega arith
kept_fewer last size (r ∷ rows) = at_test (is_needed last size r) (kept_fewer (Some r.content) size rows) (kept_fewer last size rows)
  where
    at_test : (b : Bool) → length (kept (Some r.content) size rows) ≤ length rows → length (kept last size rows) ≤ length rows → length (cond b (r ∷ kept (Some r.content) size rows) (kept last size rows)) ≤ suc (length rows)
    at_test true new old = omega (new, arith)
    at_test false new old = omega (old, arith)

fewer_of : (shape : Shape) (size : ℕ) (rows : List Row) → length (needed_rows shape size rows) ≤ length rows
fewer_of Plain size rows = kept_fewer None size rows
fewer_of (Repeat block) size rows = omega arith

writable : (arch : Arch) (f : Func) → IsSound arch f → has_row f ≡ true → IsWritable arch (kept_function f)
writable arch f sound e =
    let there = answering f e in
    record {
      size = there.size;
      end = sound.end;
      has_rows = there.rows;
      rows_rise = rise_of f.shape f.size f.rows sound.rise;
      contents = fit_of arch f.shape f.size f.rows sound.fits;
      key = sound.key;
      shape = sound.shape;
    }

-- ---- all functions
abbrev pub needed : List Func → List Func
needed functions = map kept_function (filter has_row functions)

slim_is_needed : (arch : Arch) (functions : List Func) → All (IsSound arch) functions → map slim_function (filter is_live functions) ≡ needed functions
slim_is_needed arch [] h = refl
slim_is_needed arch (f ∷ functions) h =
    let sound = All-head (IsSound arch) f functions h in
    at_test (has_row f) (is_live f) (live_is f sound.rise sound.shape) (slim_function_is f sound.rise) (slim_is_needed arch functions (All-tail (IsSound arch) f functions h))
  where
    at_test : (a l : Bool) → l ≡ a → slim_function f ≡ kept_function f → map slim_function (filter is_live functions) ≡ needed functions
        → map slim_function (cond l (f ∷ filter is_live functions) (filter is_live functions)) ≡ map kept_function (cond a (f ∷ filter has_row functions) (filter has_row functions))
    at_test true true e is rest = ap (λ g. g ∷ map slim_function (filter is_live functions)) is ∙ ap (λ gs. kept_function f ∷ gs) rest
    at_test true false e is rest = cc
    at_test false true e is rest = cc
    at_test false false e is rest = rest

needed_writable : (arch : Arch) (functions : List Func) → All (IsSound arch) functions → All (IsWritable arch) (needed functions)
needed_writable arch functions sound =
    let passed = filter_passes has_row functions in
    let left = All-filter has_row (IsSound arch) functions sound in
    All-map (IsWritable arch) kept_function (filter has_row functions) (λ k d lt. writable arch _ (left k d lt) (passed k d lt))

fewer_functions : (functions : List Func) → length (needed functions) ≤ length functions
fewer_functions functions =
    let same = length-map (filter has_row functions) kept_function in
    let sum = length-filter_both has_row (λ f. not (has_row f)) (λ f. refl) functions in
    omega (same, sum, arith)

fewer_rows : (functions : List Func) → row_count (needed functions) ≤ row_count functions
fewer_rows [] = omega arith
fewer_rows (f ∷ functions) =
    let rows = sum_by-cons (λ (g : Func). length g.rows) f functions in
    at_test (has_row f) rows (fewer_rows functions) (fewer_of f.shape f.size f.rows)
  where
    at_test : (b : Bool) → row_count (f ∷ functions) ≡ length f.rows + row_count functions → row_count (needed functions) ≤ row_count functions → length (needed_rows f.shape f.size f.rows) ≤ length f.rows
        → row_count (map kept_function (cond b (f ∷ filter has_row functions) (filter has_row functions))) ≤ row_count (f ∷ functions)
    at_test true e rest own = let more = sum_by-cons (λ (g : Func). length g.rows) (kept_function f) (needed functions) in omega (e, more, rest, own, arith)
    at_test false e rest own = omega (e, rest, arith)

-- ---- the functions in order
pub ordered_sound : (view : View) (ordered : List Located) → IsViewOfSection view → IsInOrder located_start (sized_in (table_of view)) ordered → All (IsSound (table_of view).arch) (map function_of ordered)
ordered_sound view ordered read order =
    All-map (IsSound (table_of view).arch) function_of ordered (section.ordered_sound view ordered read order)

pub slimmed_is : (arch : Arch) (ordered : List Located) → All (IsSound arch) (map function_of ordered) → slimmed ordered ≡ needed (map function_of ordered)
unfolding slimmed
slimmed_is arch ordered sound = slim_is_needed arch (map function_of ordered) sound

pub needed_apart : (bytes : List ℕ) (ordered : List Located) → slim_overlap_fault bytes ordered ≡ None → AllPairs EndsBy (needed (map function_of ordered))
needed_apart bytes ordered e =
    let pairs = pairs_map EndsBy function_of ordered (none_share ordered (none_shared bytes ordered e)) in
    pairs_map EndsBy kept_function (filter has_row (map function_of ordered)) (AllPairs-filter EndsBy has_row (map function_of ordered) pairs)

few_functions : (table : Table) (ordered : List Located) → IsInOrder located_start (sized_in table) ordered → length (map function_of ordered) ≤ length table.functions
few_functions table ordered order =
    let same = length_permutation (sized_in table) ordered order.moved in
    let mapped = length-map ordered function_of in
    let all = ap length (located_functions table) in
    let all_mapped = length-map (located 0 table) function_of in
    let sum = length-filter_both is_sized (λ l. not (is_sized l)) (λ l. refl) (located 0 table) in
    omega (same, mapped, all, all_mapped, sum, arith)

sum_mapped : (ls : List Located) → row_count (map function_of ls) ≡ sum_by (λ (l : Located). length l.func.rows) ls
sum_mapped [] = refl
sum_mapped (l ∷ ls) =
    let one = sum_by-cons (λ (f : Func). length f.rows) l.func (map function_of ls) in
    let other = sum_by-cons (λ (l : Located). length l.func.rows) l ls in
    let rest = sum_mapped ls in
    omega (one, other, rest, arith)

few_rows : (table : Table) (ordered : List Located) → IsInOrder located_start (sized_in table) ordered → row_count (map function_of ordered) ≤ row_count table.functions
few_rows table ordered order =
    let rows : Located → ℕ = λ (l : Located). length l.func.rows in
    let same = sum_by-IsPermutation rows (sized_in table) ordered order.moved in
    let mapped = sum_mapped ordered in
    let all = ap row_count (located_functions table) in
    let all_mapped = sum_mapped (located 0 table) in
    let sum = sum_by-filter_both is_sized (λ l. not (is_sized l)) (λ l. refl) rows (located 0 table) in
    omega (same, mapped, all, all_mapped, sum, arith)

pub are_writable : (view : View) (ordered : List Located) → IsViewOfSection view → IsInOrder located_start (sized_in (table_of view)) ordered → slim_overlap_fault (section_bytes view) ordered ≡ None
    → AreWritable (table_of view).arch (needed (map function_of ordered))
are_writable view ordered read order e =
    let table = table_of view in
    let functions = map function_of ordered in
    let count = fewer_functions functions in
    let few = few_functions table ordered order in
    let rows = fewer_rows functions in
    let few_of_rows = few_rows table ordered order in
    record {
      each = needed_writable table.arch functions (ordered_sound view ordered read order);
      apart = adjacent EndsBy (needed functions) (needed_apart (section_bytes view) ordered e);
      count = omega (count, few, read.header.function_limit, arith);
      row_count = omega (rows, few_of_rows, read.header.row_limit, arith);
    }

-- each function that has a row at some address can be written
pub answering_writable : (view : View) (ordered : List Located) → IsViewOfSection view → IsInOrder located_start (sized_in (table_of view)) ordered → All (λ (l : Located). has_row l.func ≡ true → IsWritable (table_of view).arch (kept_function l.func)) ordered
answering_writable view ordered read order = λ k d lt e. writable (table_of view).arch (get_or ordered k d).func (section.ordered_sound view ordered read order k d lt) e

-- ---- the functions that are needed
live_sized : (ls : List Located) → All (λ l. is_live (function_of l) ≡ true → is_sized l ≡ true) ls → filter is_live (map function_of (filter is_sized ls)) ≡ filter is_live (map function_of ls)
live_sized [] h = refl
live_sized (l ∷ ls) h =
    let P : Located → Type 0 = λ l. is_live (function_of l) ≡ true → is_sized l ≡ true in
    at_size (is_sized l) (is_live l.func) refl refl (All-head P l ls h) (live_sized ls (All-tail P l ls h))
  where
    rest : List Func
    rest = filter is_live (map function_of ls)

    at_size : (b a : Bool) → is_sized l ≡ b → is_live l.func ≡ a → (is_live l.func ≡ true → is_sized l ≡ true) → filter is_live (map function_of (filter is_sized ls)) ≡ filter is_live (map function_of ls)
        → filter is_live (map function_of (cond b (l ∷ filter is_sized ls) (filter is_sized ls))) ≡ filter is_live (l.func ∷ map function_of ls)
    at_size true a e t only others = ap (λ fs. cond (is_live l.func) (l.func ∷ fs) fs) others
    at_size false true e t only others = let no = only t in cc
    at_size false false e t only others = rw t others

needs_bytes : (arch : Arch) (l : Located) → IsSound arch (function_of l) → is_live (function_of l) ≡ true → is_sized l ≡ true
needs_bytes arch l sound e =
    let there = answering l.func (sym (live_is l.func sound.rise sound.shape) ∙ e) in
    lt-ltb 0 l.func.size there.size

needed_sizes : (functions : List Func) → All (λ (f : Func). 0 < f.size) (needed functions)
needed_sizes functions =
    let passed = filter_passes has_row functions in
    All-map (λ (f : Func). 0 < f.size) kept_function (filter has_row functions) (λ k d lt. (answering (get_or (filter has_row functions) k d) (passed k d lt)).size)

taken : (view : View) (ordered : List Located) → IsViewOfSection view → IsInOrder located_start (sized_in (table_of view)) ordered
    → IsPermutation (map slim_function (filter is_live (table_of view).functions)) (map slim_function (filter is_live (map function_of ordered)))
taken view ordered read order =
    let table = table_of view in
    let arch = table.arch in
    let only = All-weaker (λ l. IsSound arch (function_of l)) (λ l. is_live (function_of l) ≡ true → is_sized l ≡ true) (needs_bytes arch) (located 0 table) (located_sound view read) in
    let same : filter is_live (map function_of (sized_in table)) ≡ filter is_live table.functions =
    live_sized (located 0 table) only ∙ ap (filter is_live) (located_functions table) in
    let moved = filter_permuted is_live (map function_of (sized_in table)) (map function_of ordered) (IsPermutation-map function_of (sized_in table) ordered order.moved) in
    IsPermutation-map slim_function (filter is_live table.functions) (filter is_live (map function_of ordered))
    (subst (λ fs. IsPermutation fs (filter is_live (map function_of ordered))) same moved)

pub is_slim : (view : View) (ordered : List Located) → IsViewOfSection view → IsInOrder located_start (sized_in (table_of view)) ordered → slim_overlap_fault (section_bytes view) ordered ≡ None
    → AreNeeded (table_of view) (needed (map function_of ordered))
is_slim view ordered read order e =
    let functions = map function_of ordered in
    record {
      apart = subst (AllPairs IsApart) (append-nil (table_of view).functions)
          (apart (table_of view ∷ []) ordered (in_tables (table_of view) ordered order) (none_shared (section_bytes view) ordered e));
      taken = subst (IsPermutation (map slim_function (filter is_live (table_of view).functions)))
          (slim_is_needed (table_of view).arch functions (ordered_sound view ordered read order)) (taken view ordered read order);
      rising = rises (needed functions) (needed_sizes functions) (adjacent EndsBy (needed functions) (needed_apart (section_bytes view) ordered e));
    }
