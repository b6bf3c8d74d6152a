-- What is lent of the functions that were read is what is left out of them.
use Rattle.std.specs.Prelude.{is_none, not, IfOk, OnOk}
use Rattle.std.proofs.Common.{◌≡◌, cond, List, [], ◌∷◌, ◌++◌, Option, Some, None, Result, Ok, Err, refl, sym, ap, ◌∙◌}
use Rattle.std.proofs.lemmas.List.Elements.{filter-append}
use Rattle.sf_model.specs.declared.omission.Omission.{Omission}
use Rattle.sf_express.specs.Runs.{expressed, function_of, omission_of, unless_omitted}
use Rattle.frame_functions.specs.declared.read_function.ReadFunction.{ReadFunction}
use Rattle.frame_functions.specs.declared.fault.AsmFault.{AsmFault}
use Rattle.frame_functions.specs.Answers.{seen_as}
use Rattle.frame_functions.specs.Functions.{Function}
use Rattle.frame_functions.specs.Kept.{read_of, facts_of, is_kept, omitted_functions, outcome_by, row_contents}
use Rattle.frame_functions.specs.Descriptions.{if_left}

-- ---- one function
by_omission : (f : Function) (omission : Option Omission) → if_left (outcome_by (unless_omitted omission (expressed (facts_of f) (row_contents f)))) f ≡ cond (not (is_none omission)) (f ∷ []) []
by_omission f None = refl
by_omission f (Some omission) = refl

left_is : (f : Function) → if_left (read_of f).outcome f ≡ omitted_functions (f ∷ [])
unfolding function_of
left_is f = by_omission f (omission_of f.arch (facts_of f) (row_contents f))

-- one function more
pub one_omitted : (before : List Function) (f : Function) (entry : ReadFunction) → read_of f ≡ entry → omitted_functions (before ++ f ∷ []) ≡ omitted_functions before ++ if_left entry.outcome f
one_omitted before f entry is =
    filter-append (λ (g : Function). not (is_kept g)) before (f ∷ [])
    ∙ ap (λ (fs : List Function). omitted_functions before ++ fs) (sym (left_is f) ∙ ap (λ (e : ReadFunction). if_left e.outcome f) is)

-- what becomes of a function is what was read of it
pub one_entry : (one : Result Function AsmFault) (entry : ReadFunction) (f : Function) → seen_as read_of one ≡ Ok entry → one ≡ Ok f → read_of f ≡ entry
one_entry (Ok g) entry f e is =
    let same : g ≡ f = cc in
    let there : read_of g ≡ entry = cc in
    sym (ap read_of same) ∙ there
one_entry (Err fault) entry f e is = cc

-- what follows from what holds where a call returns a value
pub on_ok : {A E P Q : Type 0} (r : Result A E) → (P → Q) → OnOk r P → OnOk r Q
on_ok (Ok x) f h = f h
on_ok (Err e) f h = h

pub if_ok : {A E : Type 0} (r : Result A E) (P Q : A → Type 0) → ((a : A) → P a → Q a) → IfOk r P → IfOk r Q
if_ok (Ok a) P Q f h = f a h
if_ok (Err e) P Q f h = h

pub are_lent : {F : Type 0} (given : Result (List Function) F) (functions lent : List Function) → given ≡ Ok functions → seen_as omitted_functions given ≡ Ok lent → lent ≡ omitted_functions functions
are_lent (Ok fs) functions lent is e =
    let same : fs ≡ functions = cc in
    let there : omitted_functions fs ≡ lent = cc in
    sym there ∙ ap omitted_functions same
are_lent (Err fault) functions lent is e = cc
