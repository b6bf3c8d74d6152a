-- Omitted functions, sorted out as far as they were gone over.
use Rattle.std.specs.Prelude.{All, not}
use Rattle.std.specs.List.{cons_option, filter, flat_map}
use Rattle.std.proofs.Common.{◌≡◌, ℕ, zero, suc, ◌+◌, ◌<◌, ◌≤◌, Bool, true, false, cond, List, [], ◌∷◌, ◌++◌, length, get_or, take, map, Option, Some, None, refl, sym, ap, ◌∙◌, append_assoc, arith}
use Rattle.std.proofs.lemmas.List.{map-append, take_all, take_more, append-nil}
use Rattle.std.proofs.lemmas.List.Concat.{flat_map-append}
use Rattle.std.proofs.lemmas.List.Elements.{filter-append, filter_map-append}
use Rattle.sf_model.specs.declared.content.Content.{Content}
use Rattle.sf_model.specs.declared.function.Func.{Func}
use Rattle.sf_model.specs.declared.omission.Omission.{Omission}
use Rattle.sf_model.specs.declared.omission.Omitted.{Omitted}
use Rattle.sf_model.specs.declared.machine.Arch.{Arch}
use Rattle.sf_model.specs.declared.omission.Span.{Span}
use Rattle.frame_functions.specs.declared.read_function.ReadFunction.{ReadFunction}
use Rattle.frame_functions.specs.declared.read_function.Expressed.{Expressed}
use Rattle.frame_functions.specs.ReadFunction.{omitted_in, omitted_of}
use Rattle.frame_functions.specs.Functions.{Function}
use Rattle.frame_functions.specs.Kept.{read_of, is_kept, omitted_functions}
use Rattle.sf_plt.specs.Answers.{others_in, plt_span}
use Rattle.sf_plt.specs.Plt.{is_plt, initial_content}
use Rattle.sf_plt.specs.Sorting.{AreOmitted}
use Rattle.sf_plt.specs.Written.{plt_pair}
use Rattle.sf_plt.proofs.Form.{plt_form}
use Rattle.sf_plt.proofs.Cases.{Case, kept_case, table_case, other_case, case_of}

-- ---- functions that are omitted
not_kept : (f : Function) (fs : List Function) (b : Bool) → is_kept f ≡ b → AreOmitted fs → AreOmitted (cond (not b) (f ∷ fs) fs)
not_kept f fs true e h = h
not_kept f fs false e h = (e, h)

pub are_omitted : (fs : List Function) → AreOmitted (omitted_functions fs)
are_omitted [] = tt
are_omitted (f ∷ fs) = not_kept f (omitted_functions fs) (is_kept f) refl (are_omitted fs)

-- one line for each
record OneOmitted (f : Function) (fs : List Function) : Type 0 where
  line : Omitted
  alone : omitted_of (map read_of (f ∷ [])) ≡ line ∷ []
  front : omitted_of (map read_of (f ∷ fs)) ≡ line ∷ omitted_of (map read_of fs)

abbrev omitted_by : Function → Expressed → List Function → List Omitted
omitted_by f o fs = cons_option (omitted_in (read_of f).span o) (omitted_of (map read_of fs))

one_omitted : (f : Function) (fs : List Function) → is_kept f ≡ false → OneOmitted f fs
one_omitted f fs e = at_case (case_of f)
  where
    at_case : Case f → OneOmitted f fs
    at_case (kept_case k) = let is : true ≡ false = sym k.kept ∙ e in absurd cc
    at_case (table_case t) = record {
      line = record { start = f.start; size = f.size; origin = f.origin; omission = t.omission };
      alone = ap (λ (o : Expressed). omitted_by f o []) t.outcome_is;
      front = ap (λ (o : Expressed). omitted_by f o fs) t.outcome_is;
    }
    at_case (other_case t) = record {
      line = record { start = f.start; size = f.size; origin = f.origin; omission = t.omission };
      alone = ap (λ (o : Expressed). omitted_by f o []) t.outcome_is;
      front = ap (λ (o : Expressed). omitted_by f o fs) t.outcome_is;
    }

pub omitted_count : (fs : List Function) → AreOmitted fs → length (omitted_of (map read_of fs)) ≡ length fs
omitted_count [] h = refl
omitted_count (f ∷ fs) h = let one = one_omitted f fs h.0 in ap length one.front ∙ ap suc (omitted_count fs h.1)

pub omitted_at : (fs : List Function) → AreOmitted fs → (k : ℕ) (d : Function) (e : Omitted) → k < length fs → omitted_of (map read_of (get_or fs k d ∷ [])) ≡ get_or (omitted_of (map read_of fs)) k e ∷ []
omitted_at [] h k d e lt = absurd (omega (arith, lt))
omitted_at (f ∷ fs) h zero d e lt = let one = one_omitted f fs h.0 in one.alone ∙ sym (ap (λ (os : List Omitted). get_or os 0 e ∷ []) one.front)
omitted_at (f ∷ fs) h (suc k) d e lt = let one = one_omitted f fs h.0 in omitted_at fs h.1 k d e (omega (arith, lt)) ∙ sym (ap (λ (os : List Omitted). get_or os (suc k) e ∷ []) one.front)

-- the omitted functions' lines are those of all
pub lines_alone : (fs : List Function) → omitted_of (map read_of fs) ≡ omitted_of (map read_of (omitted_functions fs))
lines_alone [] = refl
lines_alone (f ∷ fs) = at_case (case_of f) (lines_alone fs)
  where
    left : (omission : Omission) → is_kept f ≡ false → omitted_of (map read_of fs) ≡ omitted_of (map read_of (omitted_functions fs)) → omitted_of (map read_of (f ∷ fs)) ≡ omitted_of (map read_of (omitted_functions (f ∷ fs)))
    left omission e h =
        let one = one_omitted f fs e in
        let other = one_omitted f (omitted_functions fs) e in
        ap (cons_option (omitted_in (read_of f).span (read_of f).outcome)) h
        ∙ sym (ap (λ (b : Bool). omitted_of (map read_of (cond (not b) (f ∷ omitted_functions fs) (omitted_functions fs)))) e)

    at_case : Case f → omitted_of (map read_of fs) ≡ omitted_of (map read_of (omitted_functions fs)) → omitted_of (map read_of (f ∷ fs)) ≡ omitted_of (map read_of (omitted_functions (f ∷ fs)))
    at_case (kept_case k) h =
        ap (λ (o : Expressed). omitted_by f o fs) k.outcome_is ∙ h ∙ sym (ap (λ (b : Bool). omitted_of (map read_of (cond (not b) (f ∷ omitted_functions fs) (omitted_functions fs)))) k.kept)
    at_case (table_case t) h = left t.omission t.kept h
    at_case (other_case o) h = left o.omission o.kept h

-- ---- one function more
pub pairs_more : (fs : List Function) (f : Function) → is_plt f ≡ true → flat_map plt_pair (filter is_plt (fs ++ f ∷ [])) ≡ flat_map plt_pair (filter is_plt fs) ++ plt_pair f
pairs_more fs f e =
    ap (flat_map plt_pair) (filter-append is_plt fs (f ∷ []) ∙ ap (λ (b : Bool). filter is_plt fs ++ cond b (f ∷ []) []) e)
    ∙ flat_map-append plt_pair (filter is_plt fs) (f ∷ []) ∙ ap (λ (gs : List Func). flat_map plt_pair (filter is_plt fs) ++ gs) (append-nil (plt_pair f))

pub spans_more : (fs : List Function) (f : Function) → is_plt f ≡ true → map plt_span (filter is_plt (fs ++ f ∷ [])) ≡ map plt_span (filter is_plt fs) ++ plt_span f ∷ []
spans_more fs f e =
    ap (map plt_span) (filter-append is_plt fs (f ∷ []) ∙ ap (λ (b : Bool). filter is_plt fs ++ cond b (f ∷ []) []) e) ∙ map-append plt_span (filter is_plt fs) (f ∷ [])

pub others_same : (fs : List Function) (f : Function) → is_plt f ≡ true → others_in (fs ++ f ∷ []) ≡ others_in fs
others_same fs f e =
    filter-append (λ (g : Function). not (is_plt g)) fs (f ∷ []) ∙ ap (λ (b : Bool). others_in fs ++ cond (not b) (f ∷ []) []) e ∙ append-nil (others_in fs)

pub tables_same : (fs : List Function) (f : Function) → is_plt f ≡ false → filter is_plt (fs ++ f ∷ []) ≡ filter is_plt fs
tables_same fs f e = filter-append is_plt fs (f ∷ []) ∙ ap (λ (b : Bool). filter is_plt fs ++ cond b (f ∷ []) []) e ∙ append-nil (filter is_plt fs)

pub others_more : (fs : List Function) (f : Function) → is_plt f ≡ false → omitted_of (map read_of (others_in (fs ++ f ∷ []))) ≡ omitted_of (map read_of (others_in fs)) ++ omitted_of (map read_of (f ∷ []))
others_more fs f e =
    ap (λ (gs : List Function). omitted_of (map read_of gs)) (filter-append (λ (g : Function). not (is_plt g)) fs (f ∷ []) ∙ ap (λ (b : Bool). others_in fs ++ cond (not b) (f ∷ []) []) e)
    ∙ ap omitted_of (map-append read_of (others_in fs) (f ∷ [])) ∙ filter_map-append (λ (x : ReadFunction). omitted_in x.span x.outcome) (map read_of (others_in fs)) (map read_of (f ∷ []))

-- ---- the step of a description
-- there is a line for each function
pub within : (fs : List Function) (omitted : List Omitted) (k : ℕ) → AreOmitted fs → omitted ≡ omitted_of (map read_of fs) → k < length omitted → k < length fs
within fs omitted k left are lt = let count = omitted_count fs left in let lines = ap length are in omega (arith, count, lines, lt)

pub past : (fs : List Function) (omitted : List Omitted) (k : ℕ) → AreOmitted fs → omitted ≡ omitted_of (map read_of fs) → length omitted ≤ k → take k fs ≡ fs
past fs omitted k left are le = let count = omitted_count fs left in let lines = ap length are in take_all k fs (omega (arith, count, lines, le))

pub lent_step : (fs : List Function) (k : ℕ) (f : Function) → k < length fs → f ≡ get_or fs k f → take (k + 1) fs ≡ take k fs ++ f ∷ []
lent_step fs k f lt is = take_more fs k f lt ∙ ap (λ (g : Function). take k fs ++ g ∷ []) (sym is)

pub lent_arch : (arch : Arch) (fs : List Function) (k : ℕ) (f : Function) → k < length fs → f ≡ get_or fs k f → All (λ (g : Function). g.arch ≡ arch) fs → f.arch ≡ arch
lent_arch arch fs k f lt is h = ap (λ (g : Function). g.arch) is ∙ h k f lt

pub lent_omitted : (fs : List Function) (omitted : List Omitted) (k : ℕ) (f : Function) (e : Omitted) → k < length fs → f ≡ get_or fs k f → AreOmitted fs → omitted ≡ omitted_of (map read_of fs) → omitted_of (map read_of (f ∷ [])) ≡ get_or omitted k e ∷ []
lent_omitted fs omitted k f e lt is left are =
    ap (λ (g : Function). omitted_of (map read_of (g ∷ []))) is ∙ omitted_at fs left k f e lt ∙ sym (ap (λ (os : List Omitted). get_or os k e ∷ []) are)

pub table_chosen : (f : Function) (content : Content) (given : Option Content) → given ≡ Some content → given ≡ cond (is_plt f) (initial_content f) None → is_plt f ≡ true
table_chosen f content given e is = at_test (is_plt f) (sym e ∙ is)
  where
    at_test : (b : Bool) → Some content ≡ cond b (initial_content f) None → b ≡ true
    at_test true h = refl
    at_test false h = cc

pub none_chosen : (f : Function) (given : Option Content) → given ≡ None → given ≡ cond (is_plt f) (initial_content f) None → is_plt f ≡ false
none_chosen f given e is = at_test (is_plt f) refl (sym e ∙ is)
  where
    at_test : (b : Bool) → is_plt f ≡ b → None ≡ cond b (initial_content f) None → b ≡ false
    at_test true t h = let form = plt_form f t in let there = h ∙ form.initial.is in cc
    at_test false t h = refl

-- what is written, what is a table, and what is omitted, one description on
pub written_on : (kept before after : List Func) (fs gs : List Function) (f : Function) → gs ≡ fs ++ f ∷ [] → is_plt f ≡ true → after ≡ before ++ plt_pair f → before ≡ kept ++ flat_map plt_pair (filter is_plt fs) → after ≡ kept ++ flat_map plt_pair (filter is_plt gs)
written_on kept before after fs gs f on t e is =
    e ∙ ap (λ (l : List Func). l ++ plt_pair f) is ∙ append_assoc kept (flat_map plt_pair (filter is_plt fs)) (plt_pair f)
    ∙ ap (λ (l : List Func). kept ++ l) (sym (pairs_more fs f t) ∙ sym (ap (λ (hs : List Function). flat_map plt_pair (filter is_plt hs)) on))

pub written_stays : (kept before : List Func) (fs gs : List Function) (f : Function) → gs ≡ fs ++ f ∷ [] → is_plt f ≡ false → before ≡ kept ++ flat_map plt_pair (filter is_plt fs) → before ≡ kept ++ flat_map plt_pair (filter is_plt gs)
written_stays kept before fs gs f on t is = is ∙ ap (λ (hs : List Function). kept ++ flat_map plt_pair hs) (sym (tables_same fs f t) ∙ sym (ap (filter is_plt) on))

pub plts_on : (before after : List Span) (fs gs : List Function) (f : Function) → gs ≡ fs ++ f ∷ [] → is_plt f ≡ true → after ≡ before ++ plt_span f ∷ [] → before ≡ map plt_span (filter is_plt fs) → after ≡ map plt_span (filter is_plt gs)
plts_on before after fs gs f on t e is = e ∙ ap (λ (l : List Span). l ++ plt_span f ∷ []) is ∙ sym (spans_more fs f t) ∙ sym (ap (λ (hs : List Function). map plt_span (filter is_plt hs)) on)

pub plts_stay : (before : List Span) (fs gs : List Function) (f : Function) → gs ≡ fs ++ f ∷ [] → is_plt f ≡ false → before ≡ map plt_span (filter is_plt fs) → before ≡ map plt_span (filter is_plt gs)
plts_stay before fs gs f on t is = is ∙ ap (map plt_span) (sym (tables_same fs f t) ∙ sym (ap (filter is_plt) on))

pub omitted_on : (before after : List Omitted) (line : Omitted) (fs gs : List Function) (f : Function) → gs ≡ fs ++ f ∷ [] → is_plt f ≡ false → after ≡ before ++ line ∷ [] → omitted_of (map read_of (f ∷ [])) ≡ line ∷ [] → before ≡ omitted_of (map read_of (others_in fs)) → after ≡ omitted_of (map read_of (others_in gs))
omitted_on before after line fs gs f on t e one is =
    e ∙ ap (λ (l : List Omitted). l ++ line ∷ []) is ∙ ap (λ (l : List Omitted). omitted_of (map read_of (others_in fs)) ++ l) (sym one) ∙ sym (others_more fs f t) ∙ sym (ap (λ (hs : List Function). omitted_of (map read_of (others_in hs))) on)

pub omitted_stay : (before : List Omitted) (fs gs : List Function) (f : Function) → gs ≡ fs ++ f ∷ [] → is_plt f ≡ true → before ≡ omitted_of (map read_of (others_in fs)) → before ≡ omitted_of (map read_of (others_in gs))
omitted_stay before fs gs f on t is = is ∙ ap (λ (hs : List Function). omitted_of (map read_of hs)) (sym (others_same fs f t) ∙ sym (ap others_in on))
