-- What is written of one function, by what becomes of it.
use Rattle.std.specs.Prelude.{is_none, nat_le, not}
use Rattle.std.specs.List.{cons_option, filter, range_with_len}
use Rattle.std.proofs.Common.{◌≡◌, ℕ, ◌^◌, ◌<◌, Bool, true, false, cond, eqb, List, [], ◌∷◌, ◌++◌, map, Option, Some, None, refl, ap, ◌∙◌, arith}
use Rattle.std.proofs.lemmas.Bool.Decides.{nat_tests}
use Rattle.sf_model.specs.declared.content.Content.{Content}
use Rattle.sf_model.specs.declared.function.Func.{Func}
use Rattle.sf_model.specs.declared.omission.Omission.{Omission}
use Rattle.sf_model.specs.declared.omission.Reason.{Reason}
use Rattle.sf_model.specs.declared.omission.Reason.TheVariants.{EmptyRange, SizeTooLarge, ReturnColumn, SignalFrame}
use Rattle.cfa_machine.specs.Registers.{return_address}
use Rattle.sf_express.specs.Expressed.{reason_of}
use Rattle.sf_express.specs.Runs.{expressed, function_of, omission_of, unless_omitted, first_against, whole_or_row}
use Rattle.frame_functions.specs.declared.read_function.Expressed.{Expressed}
use Rattle.frame_functions.specs.declared.read_function.Expressed.TheVariants as outcome
use Rattle.frame_functions.specs.ReadFunction.{kept_in, kept_of}
use Rattle.frame_functions.specs.Functions.{Function}
use Rattle.frame_functions.specs.Kept.{read_of, facts_of, is_kept, kept_functions, omitted_functions, outcome_by, row_contents}
use Rattle.sf_plt.specs.Plt.{initial_content, is_plt, plt_functions}
use Rattle.sf_plt.specs.Written.{first_entry, later_entries, pair_by, plt_pair, written_as, written_functions}
use Rattle.sf_plt.proofs.Form.{plt_form}

-- a kept function as it is expressed
abbrev pub expressed_of : Function → Func
expressed_of f = expressed (facts_of f) (row_contents f)

pub record IsKept (f : Function) : Type 0 where
  pub outcome_is : (read_of f).outcome ≡ outcome.Kept (expressed_of f)
  pub kept : is_kept f ≡ true
  pub sized : 0 < f.size

pub record IsTable (f : Function) : Type 0 where
  pub omission : Omission
  pub outcome_is : (read_of f).outcome ≡ outcome.LeftOut omission
  pub kept : is_kept f ≡ false
  pub table : is_plt f ≡ true
  pub content : Content
  pub content_is : initial_content f ≡ Some content

pub record IsOther (f : Function) : Type 0 where
  pub omission : Omission
  pub outcome_is : (read_of f).outcome ≡ outcome.LeftOut omission
  pub kept : is_kept f ≡ false
  pub table : is_plt f ≡ false

pub data Case (f : Function) : Type 0 where
  kept_case : IsKept f → Case f
  table_case : IsTable f → Case f
  other_case : IsOther f → Case f

-- a kept function has bytes
sized_by : (large column signal : Bool) (size : ℕ) (empty : Bool) → eqb size 0 ≡ empty → cond empty (Some EmptyRange) (cond large (Some SizeTooLarge) (cond column (cond signal (Some SignalFrame) None) (Some ReturnColumn))) ≡ None → 0 < size
sized_by large column signal size true t e = cc
sized_by large column signal size false t e = grind (arith, nat_tests)

whole_none : (whole : Option Reason) (row : Option Omission) → whole_or_row whole row ≡ None → whole ≡ None
whole_none None row e = refl
whole_none (Some reason) row e = cc

kept_sized : (f : Function) → omission_of f.arch (facts_of f) (row_contents f) ≡ None → 0 < f.size
unfolding omission_of
kept_sized f e = sized_by (nat_le (2 ^ 32) f.size) (eqb f.column (return_address f.arch)) f.signal f.size (eqb f.size 0) refl
    (whole_none (reason_of f.arch (facts_of f)) (first_against (row_contents f) (range_with_len 0 f.size)) e)

pub case_of : (f : Function) → Case f
unfolding function_of
case_of f = at_omission (omission_of f.arch (facts_of f) (row_contents f)) refl
  where
    at_omission : (omission : Option Omission) → omission_of f.arch (facts_of f) (row_contents f) ≡ omission → Case f
    at_omission None e = kept_case (record {
      outcome_is = ap (λ (x : Option Omission). outcome_by (unless_omitted x (expressed_of f))) e;
      kept = ap is_none e;
      sized = kept_sized f e;
    })
    at_omission (Some omission) e = at_table (is_plt f) refl
      where
        at_table : (b : Bool) → is_plt f ≡ b → Case f
        at_table true t = let form = plt_form f t in table_case (record {
          omission = omission;
          outcome_is = ap (λ (x : Option Omission). outcome_by (unless_omitted x (expressed_of f))) e;
          kept = ap is_none e;
          table = t;
          content = form.initial.content;
          content_is = form.initial.is;
        })
        at_table false t = other_case (record {
          omission = omission;
          outcome_is = ap (λ (x : Option Omission). outcome_by (unless_omitted x (expressed_of f))) e;
          kept = ap is_none e;
          table = t;
        })

-- ---- the lists of one function more
pub record Lists (f : Function) (fs : List Function) (written kept : List Func) (kept_fs tables : List Function) : Type 0 where
  pub written_is : written_functions (f ∷ fs) ≡ written
  pub kept_is : kept_of (map read_of (f ∷ fs)) ≡ kept
  pub kept_functions_are : kept_functions (f ∷ fs) ≡ kept_fs
  pub tables_are : plt_functions (f ∷ fs) ≡ tables

abbrev kept_by : Expressed → List Function → List Func
kept_by o fs = cons_option (kept_in o) (kept_of (map read_of fs))

pub kept_lists : (f : Function) (fs : List Function) → IsKept f → Lists f fs (expressed_of f ∷ written_functions fs) (expressed_of f ∷ kept_of (map read_of fs)) (f ∷ kept_functions fs) (plt_functions fs)
kept_lists f fs h = record {
  written_is = ap (λ (o : Expressed). written_as f o ++ written_functions fs) h.outcome_is;
  kept_is = ap (λ (o : Expressed). kept_by o fs) h.outcome_is;
  kept_functions_are = ap (λ (b : Bool). cond b (f ∷ kept_functions fs) (kept_functions fs)) h.kept;
  tables_are = ap (λ (b : Bool). filter is_plt (cond (not b) (f ∷ omitted_functions fs) (omitted_functions fs))) h.kept;
}

pub table_lists : (f : Function) (fs : List Function) (h : IsTable f) → Lists f fs (first_entry f h.content ∷ later_entries f h.content ∷ written_functions fs) (kept_of (map read_of fs)) (kept_functions fs) (f ∷ plt_functions fs)
table_lists f fs h = record {
  written_is = ap (λ (o : Expressed). written_as f o ++ written_functions fs) h.outcome_is ∙ ap (λ (b : Bool). cond b (plt_pair f) [] ++ written_functions fs) h.table
      ∙ ap (λ (x : Option Content). pair_by f x ++ written_functions fs) h.content_is;
  kept_is = ap (λ (o : Expressed). kept_by o fs) h.outcome_is;
  kept_functions_are = ap (λ (b : Bool). cond b (f ∷ kept_functions fs) (kept_functions fs)) h.kept;
  tables_are = ap (λ (b : Bool). filter is_plt (cond (not b) (f ∷ omitted_functions fs) (omitted_functions fs))) h.kept
      ∙ ap (λ (b : Bool). cond b (f ∷ plt_functions fs) (plt_functions fs)) h.table;
}

pub other_lists : (f : Function) (fs : List Function) → IsOther f → Lists f fs (written_functions fs) (kept_of (map read_of fs)) (kept_functions fs) (plt_functions fs)
other_lists f fs h = record {
  written_is = ap (λ (o : Expressed). written_as f o ++ written_functions fs) h.outcome_is ∙ ap (λ (b : Bool). cond b (plt_pair f) [] ++ written_functions fs) h.table;
  kept_is = ap (λ (o : Expressed). kept_by o fs) h.outcome_is;
  kept_functions_are = ap (λ (b : Bool). cond b (f ∷ kept_functions fs) (kept_functions fs)) h.kept;
  tables_are = ap (λ (b : Bool). filter is_plt (cond (not b) (f ∷ omitted_functions fs) (omitted_functions fs))) h.kept
      ∙ ap (λ (b : Bool). cond b (f ∷ plt_functions fs) (plt_functions fs)) h.table;
}
