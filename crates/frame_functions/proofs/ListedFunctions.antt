-- Functions whose rows are kept in one list.
use Rattle.std.specs.List.{AllByRecursion}
use Rattle.std.proofs.Common.{◌≡◌, ◌<◌, ◌+◌, ℕ, All, List, [], ◌∷◌, ◌++◌, length, get_or, map, take, None, refl, sym, ap, ◌∙◌}
use Rattle.std.proofs.lemmas.List.{append-nil, get_or-map, map-append, take_more}
use Rattle.std.proofs.lemmas.List.Elements.{All-append, All-from_recursion, filter_map-append, recursion_from_All}
use Rattle.sf_model.specs.declared.machine.Arch.{Arch}
use Rattle.sf_model.specs.declared.omission.Omitted.{Omitted}
use Rattle.sf_model.specs.declared.omission.Reason.TheVariants.{EmptyRange}
use Rattle.sf_model.specs.declared.omission.Origin.{Origin}
use Rattle.sf_model.specs.declared.omission.Span.{Span}
use Rattle.sf_write.specs.declared.stored.StoredFunction.{StoredFunction}
use Rattle.sf_write.specs.declared.stored.StoredRows.{StoredRows}
use Rattle.sf_write.specs.Stored.{IsStored, function_by, stored_in}
use Rattle.sf_model.specs.declared.function.Func.{Func}
use Rattle.sf_functions.specs.Order.{IsInOrder}
use Rattle.sf_functions.proofs.ByStart.{seen_in_order}
use Rattle.frame_functions.specs.declared.read_function.ReadFunction.{ReadFunction}
use Rattle.frame_functions.specs.declared.read_function.Expressed.TheVariants as outcome
use Rattle.frame_functions.specs.declared.read_function.ListedFunction.{ListedFunction}
use Rattle.frame_functions.specs.declared.read_function.ListedFunction.TheVariants.{Kept, LeftOut}
use Rattle.frame_functions.specs.ReadFunction.{IsSound, kept_of, omitted_of}
use Rattle.frame_functions.specs.ListedFunctions.{HasRows, HaveRows, all_read_in, read_in, listed_span, listed_start, left_at, left_of, outcome_in, stored_of}
use Rattle.frame_functions.specs.Order.{InOrder, start_of}

-- ---- more rows are stored
-- each function that is stored in one list is the same in the other
abbrev pub Keeps : (old new : StoredRows) → Type 0
Keeps old new = (f : StoredFunction) → IsStored old f → IsStored new f × (stored_in new f ≡ stored_in old f)

has_still : (old new : StoredRows) → Keeps old new → (x : ListedFunction) → HasRows old x → HasRows new x
has_still old new keeps (Kept f origin) h = (keeps f h).0
has_still old new keeps (LeftOut o) h = tt

same_still : (old new : StoredRows) → Keeps old new → (x : ListedFunction) → HasRows old x → outcome_in new x ≡ outcome_in old x
same_still old new keeps (Kept f origin) h = ap outcome.Kept (keeps f h).1
same_still old new keeps (LeftOut o) h = refl

have_by_recursion : (old new : StoredRows) → Keeps old new → (heads : List ListedFunction) → AllByRecursion (HasRows old) heads → AllByRecursion (HasRows new) heads
have_by_recursion old new keeps [] h = tt
have_by_recursion old new keeps (x ∷ xs) h = (has_still old new keeps x h.0, have_by_recursion old new keeps xs h.1)

same_by_recursion : (old new : StoredRows) → Keeps old new → (heads : List ListedFunction) → AllByRecursion (HasRows old) heads → all_read_in new heads ≡ all_read_in old heads
same_by_recursion old new keeps [] h = refl
same_by_recursion old new keeps (x ∷ xs) h =
    ap (λ (e : ReadFunction). e ∷ all_read_in new xs) (ap (λ o. record { span = listed_span x; outcome = o }) (same_still old new keeps x h.0))
    ∙ ap (λ (es : List ReadFunction). read_in old x ∷ es) (same_by_recursion old new keeps xs h.1)

pub have_still : (old new : StoredRows) (heads : List ListedFunction) → Keeps old new → HaveRows old heads → HaveRows new heads
have_still old new heads keeps h = All-from_recursion (HasRows new) heads (have_by_recursion old new keeps heads (recursion_from_All (HasRows old) heads h))

pub entries_still : (old new : StoredRows) (heads : List ListedFunction) → Keeps old new → HaveRows old heads → all_read_in new heads ≡ all_read_in old heads
entries_still old new heads keeps h = same_by_recursion old new keeps heads (recursion_from_All (HasRows old) heads h)

-- ---- one more function
stored_start : (rows : StoredRows) (f : StoredFunction) → (stored_in rows f).start ≡ f.head.start
unfolding stored_in function_by
stored_start rows f = refl

stored_size : (rows : StoredRows) (f : StoredFunction) → (stored_in rows f).size ≡ f.head.size
unfolding stored_in function_by
stored_size rows f = refl

-- a function that is kept has the addresses of what was stored
pub kept_entry : (rows : StoredRows) (arch : Arch) (f : StoredFunction) (function : Func) (span : Span) → stored_in rows f ≡ function → IsSound arch record { span = span; outcome = outcome.Kept function }
    → read_in rows (Kept f span.origin) ≡ record { span = span; outcome = outcome.Kept function }
kept_entry rows arch f function span is sound =
    let start : f.head.start ≡ span.start = sym (stored_start rows f) ∙ ap (λ (g : Func). g.start) is ∙ sound.1 in
    let size : f.head.size ≡ span.size = sym (stored_size rows f) ∙ ap (λ (g : Func). g.size) is ∙ sound.2 in
    ap (λ (n : ℕ). record { span = record { start = n; size = f.head.size; origin = span.origin }; outcome = outcome.Kept (stored_in rows f) }) start
    ∙ ap (λ (n : ℕ). record { span = record { start = span.start; size = n; origin = span.origin }; outcome = outcome.Kept (stored_in rows f) }) size
    ∙ ap (λ (g : Func). record { span = span; outcome = outcome.Kept g }) is

pub have_more : (rows : StoredRows) (heads : List ListedFunction) (x : ListedFunction) → HaveRows rows heads → HasRows rows x → HaveRows rows (heads ++ x ∷ [])
have_more rows heads x h one = All-append (HasRows rows) heads (x ∷ []) h (All-from_recursion (HasRows rows) (x ∷ []) (one, tt))

pub entries_more : (rows : StoredRows) (heads : List ListedFunction) (x : ListedFunction) → all_read_in rows (heads ++ x ∷ []) ≡ all_read_in rows heads ++ read_in rows x ∷ []
entries_more rows heads x = map-append (read_in rows) heads (x ∷ [])

-- ---- in order
-- heads in order are functions in order
pub heads_in_order : (rows : StoredRows) (old new : List ListedFunction) → IsInOrder listed_start old new → InOrder (all_read_in rows old) (all_read_in rows new)
heads_in_order rows old new order = seen_in_order (read_in rows) listed_start start_of old new (λ k d lt. refl) order

-- ---- addresses
-- what stands past the end of a list of functions
abbrev pub no_entry : ReadFunction
no_entry = record { span = record { start = 0; size = 0; origin = record { item = 0; section = 0; place = 0 } }; outcome = outcome.LeftOut record { reason = EmptyRange; offset = None } }

-- the function of a list with a number, by its head
pub entry_at : (rows : StoredRows) (heads : List ListedFunction) (i : ℕ) (d : ReadFunction) (h : ListedFunction) → i < length heads → h ≡ get_or heads i h → read_in rows h ≡ get_or (all_read_in rows heads) i d
entry_at rows heads i d h lt is = ap (read_in rows) is ∙ sym (get_or-map (read_in rows) heads i h d lt)

-- ---- kept and omitted ones
kept_one : (rows : StoredRows) (x : ListedFunction) (heads : List ListedFunction) → map (stored_in rows) (stored_of heads) ≡ kept_of (all_read_in rows heads)
    → map (stored_in rows) (stored_of (x ∷ heads)) ≡ kept_of (all_read_in rows (x ∷ heads))
kept_one rows (Kept f origin) heads e = ap (λ (fs : List Func). stored_in rows f ∷ fs) e
kept_one rows (LeftOut o) heads e = e

pub kept_are : (rows : StoredRows) (heads : List ListedFunction) → map (stored_in rows) (stored_of heads) ≡ kept_of (all_read_in rows heads)
kept_are rows [] = refl
kept_are rows (x ∷ xs) = kept_one rows x xs (kept_are rows xs)

left_one : (rows : StoredRows) (x : ListedFunction) (heads : List ListedFunction) → left_of heads ≡ omitted_of (all_read_in rows heads) → left_of (x ∷ heads) ≡ omitted_of (all_read_in rows (x ∷ heads))
left_one rows (Kept f origin) heads e = e
left_one rows (LeftOut o) heads e = ap (λ (os : List Omitted). o ∷ os) e

pub left_are : (rows : StoredRows) (heads : List ListedFunction) → left_of heads ≡ omitted_of (all_read_in rows heads)
left_are rows [] = refl
left_are rows (x ∷ xs) = left_one rows x xs (left_are rows xs)

stored_one : (rows : StoredRows) (x : ListedFunction) (heads : List ListedFunction) → HasRows rows x → AllByRecursion (IsStored rows) (stored_of heads) → AllByRecursion (IsStored rows) (stored_of (x ∷ heads))
stored_one rows (Kept f origin) heads one others = (one, others)
stored_one rows (LeftOut o) heads one others = others

stored_by_recursion : (rows : StoredRows) (heads : List ListedFunction) → AllByRecursion (HasRows rows) heads → AllByRecursion (IsStored rows) (stored_of heads)
stored_by_recursion rows [] h = tt
stored_by_recursion rows (x ∷ xs) h = stored_one rows x xs h.0 (stored_by_recursion rows xs h.1)

pub all_stored : (rows : StoredRows) (heads : List ListedFunction) → HaveRows rows heads → All (IsStored rows) (stored_of heads)
all_stored rows heads h = All-from_recursion (IsStored rows) (stored_of heads) (stored_by_recursion rows heads (recursion_from_All (HasRows rows) heads h))

-- ---- one more head
-- the omitted functions before a place and there
pub left_more : (heads : List ListedFunction) (k : ℕ) (d : ListedFunction) (o : Omitted) → k < length heads → get_or heads k d ≡ LeftOut o → left_of (take (k + 1) heads) ≡ left_of (take k heads) ++ o ∷ []
left_more heads k d o low is =
    ap left_of (take_more heads k d low) ∙ filter_map-append left_at (take k heads) (get_or heads k d ∷ []) ∙ ap (λ (h : ListedFunction). left_of (take k heads) ++ left_of (h ∷ [])) is

pub left_stay : (heads : List ListedFunction) (k : ℕ) (d : ListedFunction) (f : StoredFunction) (origin : Origin) → k < length heads → get_or heads k d ≡ Kept f origin → left_of (take (k + 1) heads) ≡ left_of (take k heads)
left_stay heads k d f origin low is =
    ap left_of (take_more heads k d low) ∙ filter_map-append left_at (take k heads) (get_or heads k d ∷ []) ∙ ap (λ (h : ListedFunction). left_of (take k heads) ++ left_of (h ∷ [])) is
    ∙ append-nil (left_of (take k heads))
