-- The row that the instructions of a common information entry give.
use Rattle.std.specs.Prelude.{is_none, nat_lt}
use Rattle.std.specs.Result.{result_ok}
use Rattle.std.proofs.Common.{◌≡◌, ℕ, ℤ, ◌%◌, Bool, true, false, cond, ◌&&◌, eqb, List, [], ◌∷◌, Option, Some, None, Result, Ok, Err, refl, sym, ap, subst, ◌∙◌, arith}
use Rattle.sf_model.specs.declared.content.Content.{Content}
use Rattle.sf_model.specs.declared.machine.Arch.{Arch}
use Rattle.sf_model.specs.declared.machine.Base.{Base}
use Rattle.sf_model.specs.declared.machine.Base.TheVariants.{Fp, Sp}
use Rattle.sf_model.specs.declared.omission.Reason.{Reason}
use Rattle.cfa_insn.specs.Listing.{Item}
use Rattle.cfa_machine.specs.declared.columns.Columns.{Columns}
use Rattle.cfa_machine.specs.declared.fault.MachineFault.{MachineFault}
use Rattle.cfa_machine.specs.declared.row.DwRow.{DwRow}
use Rattle.cfa_machine.specs.RowAtOffset.{MatchInstructions, HasColumns, row_at_offset}
use Rattle.cfa_machine.specs.Columns.{row_from}
use Rattle.cfa_machine.specs.FirstFault.{first_fault}
use Rattle.cfa_machine.specs.FullRow.{FullRow, columns_of}
use Rattle.cfa_machine.specs.Initial.{IsInitial}
use Rattle.cfa_machine.specs.Pass.{◌>>=◌, rows_by, rows_from}
use Rattle.cfa_machine.proofs.Faults.{fault_of, rows_by-fault}
use Rattle.cfa_machine.proofs.RowsMatch.{MatchIfOk, rows_by-say}
use Rattle.sf_express.specs.Expressed.{reason_of, same_base}
use Rattle.sf_express.specs.Rules.{content_of}
use Rattle.frame_functions.specs.Functions.{Function}
use Rattle.frame_functions.specs.Kept.{facts_of}
use Rattle.sf_plt.specs.Plt.{content_unless, counts_from_stack, initial_content, is_amd64, is_plt, is_plt_text, without_nops}

-- ---- the row
abbrev said_there : Arch → (code : ℕ) → (factor : ℤ) → List Item → Result Content Reason
said_there arch code factor initial = content_of arch (row_from 0 (columns_of arch (row_at_offset code factor initial [] 0)))

abbrev content_before : Arch → (code : ℕ) → (factor : ℤ) → List Item → Option Content
content_before arch code factor initial = content_unless (first_fault arch factor initial []) (said_there arch code factor initial)

content_anywhere : (arch : Arch) (a b : ℕ) (columns : Columns) → content_of arch (row_from a columns) ≡ content_of arch (row_from b columns)
unfolding content_of
content_anywhere arch a b columns = refl

said_of_row : (arch : Arch) (row : FullRow) (first : DwRow) → HasColumns arch row (Some first) → content_of arch first ≡ content_of arch (row_from 0 (columns_of arch row))
said_of_row arch row first h =
    let is : first ≡ row_from h.start (columns_of arch row) = let e = h.is in cc in
    ap (content_of arch) is ∙ content_anywhere arch h.start 0 (columns_of arch row)

unless_none : (x : Result Content Reason) → content_unless None x ≡ result_ok x
unless_none (Ok content) = refl
unless_none (Err reason) = refl

pub initial_said : (arch : Arch) (code : ℕ) (factor : ℤ) (initial : List Item) (row : Columns) (given : Result Content Reason) → IsInitial arch factor initial row → given ≡ content_of arch (row_from 0 row) → result_ok given ≡ content_before arch code factor initial
unfolding rows_from
initial_said arch code factor initial row given is content =
    let rows = row_from 0 row ∷ [] in
    let by_pass : rows_by arch code factor 1 initial [] ≡ Ok rows =
    ap (λ (x : Result Columns MachineFault). x >>= λ c. rows_from (record { arch = arch; code_alignment_factor = code; size = 1; initial = c }) factor (record { columns = c; remembered = []; offset = 0 }) []) is in
    let say : MatchInstructions arch code factor 1 initial [] rows = subst (MatchIfOk arch code factor 1 initial []) by_pass (rows_by-say arch code factor 1 initial [] (omega arith)) in
    let fine : first_fault arch factor initial [] ≡ None = sym (rows_by-fault arch code factor 1 initial []) ∙ ap fault_of by_pass in
    let at : HasColumns arch (row_at_offset code factor initial [] 0) (Some (row_from 0 row)) = say 0 (omega arith) in
    ap result_ok (content ∙ said_of_row arch (row_at_offset code factor initial [] 0) (row_from 0 row) at)
    ∙ sym (unless_none (said_there arch code factor initial))
    ∙ sym (ap (λ (x : Option MachineFault). content_unless x (said_there arch code factor initial)) fine)

-- ---- the whole test
abbrev chosen : Function → Option Content
chosen f = cond (is_plt f) (initial_content f) None

first_false : (a b c : Bool) → a ≡ false → ((a && b) && c) ≡ false
first_false false b c e = refl
first_false true b c e = cc

second_false : (a b c : Bool) → b ≡ false → ((a && b) && c) ≡ false
second_false true false c e = refl
second_false false b c e = refl
second_false true true c e = cc

third_false : (a b c : Bool) → c ≡ false → ((a && b) && c) ≡ false
third_false true true c e = e
third_false true false c e = refl
third_false false b c e = refl

all_true : (a b c : Bool) → a ≡ true → b ≡ true → c ≡ true → ((a && b) && c) ≡ true
all_true true true true e f g = refl
all_true true true false e f g = cc
all_true true false c e f g = cc
all_true false b c e f g = cc

abbrev form : Function → Bool
form f = is_amd64 f.arch && is_none (reason_of f.arch (facts_of f)) && eqb (f.start % 16) 0 && nat_lt 16 f.size && eqb f.code 1

pub no_form : (f : Function) → form f ≡ false → None ≡ chosen f
unfolding is_plt
no_form f e = sym (ap (λ (b : Bool). cond b (initial_content f) None) (first_false (form f) (is_plt_text (without_nops f.own)) (counts_from_stack (initial_content f)) e))

pub no_text : (f : Function) → is_plt_text (without_nops f.own) ≡ false → None ≡ chosen f
unfolding is_plt
no_text f e = sym (ap (λ (b : Bool). cond b (initial_content f) None) (second_false (form f) (is_plt_text (without_nops f.own)) (counts_from_stack (initial_content f)) e))

pub no_stack : (f : Function) → counts_from_stack (initial_content f) ≡ false → None ≡ chosen f
unfolding is_plt
no_stack f e = sym (ap (λ (b : Bool). cond b (initial_content f) None) (third_false (form f) (is_plt_text (without_nops f.own)) (counts_from_stack (initial_content f)) e))

pub is_table : (f : Function) → form f ≡ true → is_plt_text (without_nops f.own) ≡ true → counts_from_stack (initial_content f) ≡ true → is_plt f ≡ true
unfolding is_plt
is_table f e g h = all_true (form f) (is_plt_text (without_nops f.own)) (counts_from_stack (initial_content f)) e g h

pub taken : (f : Function) → is_plt f ≡ true → initial_content f ≡ chosen f
taken f e = sym (ap (λ (b : Bool). cond b (initial_content f) None) e)

-- by the base of its canonical frame address
pub from_stack : (content : Content) → content.base ≡ Sp → counts_from_stack (Some content) ≡ true
from_stack content e = ap (λ (base : Base). same_base base Sp) e

pub from_frame : (content : Content) → content.base ≡ Fp → counts_from_stack (Some content) ≡ false
from_frame content e = ap (λ (base : Base). same_base base Sp) e
