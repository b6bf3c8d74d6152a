-- The functions of a section as spans: the first that has an address is the first function that contains it.
use Rattle.std.specs.List.{find}
use Rattle.std.specs.Option.{option_map}
use Rattle.std.proofs.Common.{◌≡◌, ℕ, suc, ◌+◌, ◌<◌, Bool, true, false, cond, List, [], ◌∷◌, ◌++◌, length, get_or, take, Option, Some, None, IfSome, refl, sym, ap, subst, ◌∙◌, arith}
use Rattle.std.proofs.lemmas.List.{length-take-le, take_more}
use Rattle.sf_model.specs.declared.function.Func.{Func}
use Rattle.sf_model.specs.declared.function.FuncHead.{FuncHead}
use Rattle.sf_model.specs.Lookup.{contains}
use Rattle.sf_decode.specs.View.{head_of}
use Rattle.sf_lookup.specs.declared.span.Span.{Span}
use Rattle.sf_lookup.specs.Span.{answer_of, covers}
use Rattle.sf_lookup.specs.Numbered.{numbered}

-- ---- one more function
abbrev pub spans_as : (number : ℕ) → Func → Span ℕ
spans_as number f = record { start = f.start; size = f.size; leads_to = number }

numbered-append : (first : ℕ) (xs : List Func) (f : Func) → numbered first (xs ++ f ∷ []) ≡ numbered first xs ++ spans_as (first + length xs) f ∷ []
numbered-append first [] f = ap (λ (n : ℕ). spans_as n f ∷ []) (omega arith)
numbered-append first (x ∷ xs) f =
    let next : first + 1 + length xs ≡ first + suc (length xs) = omega arith in
    ap (λ (ys : List (Span ℕ)). spans_as first x ∷ ys) (numbered-append (first + 1) xs f ∙ ap (λ (n : ℕ). numbered (first + 1) xs ++ spans_as n f ∷ []) next)

pub one_more : (functions : List Func) (i : ℕ) (f : Func) (head : FuncHead) (spans new : List (Span ℕ)) (size : ℕ) → i < length functions → get_or functions i f ≡ f → head ≡ head_of f → size ≡ head.size
    → new ≡ spans ++ record { start = head.start; size = size; leads_to = i } ∷ [] → spans ≡ numbered 0 (take i functions) → new ≡ numbered 0 (take (i + 1) functions)
one_more functions i f head spans new size lt at is sized grown h =
    let all = length-take-le i functions (omega (lt, arith)) in
    let count : 0 + length (take i functions) ≡ i = omega (all, arith) in
    let whole : take (i + 1) functions ≡ take i functions ++ f ∷ [] = take_more functions i f lt ∙ ap (λ (x : Func). take i functions ++ x ∷ []) at in
    grown ∙ ap (λ (n : ℕ). spans ++ record { start = head.start; size = n; leads_to = i } ∷ []) sized
    ∙ ap (λ (x : FuncHead). spans ++ record { start = x.start; size = x.size; leads_to = i } ∷ []) is
    ∙ ap (λ (ss : List (Span ℕ)). ss ++ spans_as i f ∷ []) h
    ∙ ap (λ (n : ℕ). numbered 0 (take i functions) ++ spans_as n f ∷ []) (sym count)
    ∙ sym (numbered-append 0 (take i functions) f) ∙ ap (numbered 0) (sym whole)

pub numbered_length : (first : ℕ) (functions : List Func) → length (numbered first functions) ≡ length functions
numbered_length first [] = refl
numbered_length first (f ∷ functions) = ap suc (numbered_length (first + 1) functions)

-- ---- what the first span leads to
-- functions whose numbers begin at `first` are those of a numbering
abbrev pub AreNumbered : (of : ℕ → Func) (first : ℕ) → List Func → Type 0
AreNumbered of first functions = (k : ℕ) (d : Func) → k < length functions → get_or functions k d ≡ of (first + k)

later_numbered : (of : ℕ → Func) (first : ℕ) (f : Func) (fs : List Func) → AreNumbered of first (f ∷ fs) → AreNumbered of (first + 1) fs
later_numbered of first f fs h k d lt = h (suc k) d (omega (lt, arith)) ∙ ap of (omega arith)

answers : (of : ℕ → Func) (first : ℕ) (functions : List Func) (pc : ℕ) → AreNumbered of first functions → option_map of (answer_of (numbered first functions) pc) ≡ find (contains pc) functions
answers of first [] pc h = refl
answers of first (f ∷ fs) pc h = at_test (contains pc f) (answers of (first + 1) fs pc (later_numbered of first f fs h))
  where
    here : f ≡ of first
    here = h 0 f (omega arith) ∙ ap of (omega arith)

    at_test : (b : Bool) → option_map of (answer_of (numbered (first + 1) fs) pc) ≡ find (contains pc) fs
        → option_map of (option_map (λ (s : Span ℕ). s.leads_to) (cond b (Some (spans_as first f)) (find (covers pc) (numbered (first + 1) fs)))) ≡ cond b (Some f) (find (contains pc) fs)
    at_test true later = ap (λ (x : Func). Some x) (sym here)
    at_test false later = later

within : (first : ℕ) (functions : List Func) (pc : ℕ) → IfSome (answer_of (numbered first functions) pc) (λ i. i < first + length functions)
within first [] pc = tt
within first (f ∷ fs) pc = at_test (contains pc f) (within (first + 1) fs pc)
  where
    weaker : (o : Option ℕ) → IfSome o (λ i. i < first + 1 + length fs) → IfSome o (λ i. i < first + suc (length fs))
    weaker None h = h
    weaker (Some i) h = omega (h, arith)

    at_test : (b : Bool) → IfSome (answer_of (numbered (first + 1) fs) pc) (λ i. i < first + 1 + length fs)
        → IfSome (option_map (λ (s : Span ℕ). s.leads_to) (cond b (Some (spans_as first f)) (find (covers pc) (numbered (first + 1) fs)))) (λ i. i < first + suc (length fs))
    at_test true later = omega arith
    at_test false later = weaker (answer_of (numbered (first + 1) fs) pc) later

-- ---- of all functions
pub first_answers : (of : ℕ → Func) (functions : List Func) (pc : ℕ) → ((k : ℕ) (d : Func) → k < length functions → get_or functions k d ≡ of k)
    → option_map of (answer_of (numbered 0 functions) pc) ≡ find (contains pc) functions
first_answers of functions pc h = answers of 0 functions pc (λ k d lt. h k d lt ∙ ap of (omega arith))

pub first_within : (functions : List Func) (pc : ℕ) (o : Option ℕ) → o ≡ answer_of (numbered 0 functions) pc → IfSome o (λ i. i < length functions)
first_within functions pc o e =
    let none : 0 + length functions ≡ length functions = omega arith in
    subst (λ (n : ℕ). IfSome o (λ i. i < n)) none (subst (λ (x : Option ℕ). IfSome x (λ i. i < 0 + length functions)) (sym e) (within 0 functions pc))
