-- What becomes of a function, by the rows that its instructions give.
use Rattle.std.proofs.Common.{◌≡◌, ◌<◌, ◌≤◌, ◌+◌, ◌^◌, ℕ, List, Option, Some, None, Result, Ok, Err, refl, sym, ap, subst, ◌∙◌}
use Rattle.std.specs.Prelude.{IsTrue}
use Rattle.sf_model.specs.declared.machine.Arch.{Arch}
use Rattle.sf_model.specs.declared.facts.FdeFacts.{FdeFacts}
use Rattle.sf_model.specs.declared.function.Func.{Func}
use Rattle.sf_model.specs.declared.function.FuncHead.{FuncHead}
use Rattle.sf_model.specs.declared.function.Shape.TheVariants.{Plain}
use Rattle.sf_model.specs.declared.omission.Omission.{Omission}
use Rattle.sf_model.specs.declared.omission.Reason.{Reason}
use Rattle.sf_model.specs.declared.rows.Row.{Row}
use Rattle.sf_model.specs.Function.{key_fits}
use Rattle.cfa_machine.specs.declared.fault.MachineFault.{MachineFault}
use Rattle.cfa_machine.specs.declared.row.DwRow.{DwRow}
use Rattle.cfa_machine.specs.FirstFault.{first_fault}
use Rattle.cfa_machine.specs.Pass.{rows_by}
use Rattle.cfa_machine.specs.RowList.{AreRows}
use Rattle.sf_decode.specs.View.{head_of}
use Rattle.sf_write.specs.declared.packed.PackedRows.{PackedRows}
use Rattle.sf_write.specs.Packed.{ArePacked, IsPacked}
use Rattle.cfa_machine.proofs.GoodRows.{AreRowsIfOk, rows_by-are_rows}
use Rattle.cfa_machine.proofs.RowsMatch.{MatchIfOk, rows_by-say}
use Rattle.cfa_machine.proofs.Faults.{fault_of, rows_by-fault}
use Rattle.sf_express.specs.declared.list_forms.ExpressFault.TheVariants.{Omit}
use Rattle.sf_express.specs.Expressed.{expressed_rows, function_by, reason_of, with_rows}
use Rattle.sf_express.specs.Run.{on_rows}
use Rattle.sf_express.specs.Runs.{AreContentsOf, function_of}
use Rattle.sf_express.proofs.ByOffsets.{answer_means}
use Rattle.sf_express.proofs.Omitted.{answer_omits}
use Rattle.sf_express.proofs.Writable.{FunctionFits, function_by-fits, rows_of_kept}
use Rattle.frame_functions.specs.declared.read_function.Expressed.{Expressed}
use Rattle.frame_functions.specs.declared.read_function.Expressed.TheVariants as outcome
use Rattle.frame_functions.specs.declared.fault.AsmFault.{AsmFault}
use Rattle.frame_functions.specs.declared.fault.AsmFault.TheVariants as asm
use Rattle.frame_functions.specs.ReadFunction.{IsSoundOutcome}
use Rattle.sf_bytes.specs.Steps.{named}
use Rattle.sf_model.specs.Firsts.{unless}
use Rattle.frame_functions.specs.Functions.{Function}
use Rattle.frame_functions.specs.Kept.{row_contents, facts_of, outcome_by}
use Rattle.frame_functions.proofs.FunctionsOfSection.{are_said}

-- the rows of a function, or the fault of its first instruction that can't be run
abbrev pub rows_of : Function → Result (List DwRow) MachineFault
rows_of f = rows_by f.arch f.code f.factor f.size f.initial f.own

abbrev pub made_of : Function → Result (List DwRow) MachineFault → Result Expressed MachineFault
made_of f given = on_rows (λ rows. outcome_by (function_by f.arch (facts_of f) rows)) given

-- ---- what becomes of it
meant : (f : Function) (rows : List DwRow) (x : Result Func Omission) → AreRowsIfOk f.arch f.size (Ok rows) → AreContentsOf f.arch f.size rows (row_contents f) → function_by f.arch (facts_of f) rows ≡ x → function_of f.arch (facts_of f) (row_contents f) ≡ x
meant f rows (Ok g) h are e = answer_means f.arch (facts_of f) rows (Ok g) h e (answer_omits f.arch (facts_of f) rows (Ok g) h e) (row_contents f) are
meant f rows (Err omission) h are e = answer_means f.arch (facts_of f) rows (Err (Omit omission)) h e (answer_omits f.arch (facts_of f) rows (Err (Omit omission)) h e) (row_contents f) are

means_by : (f : Function) (given : Result (List DwRow) MachineFault) (outcome : Expressed) → AreRowsIfOk f.arch f.size given → MatchIfOk f.arch f.code f.factor f.size f.initial f.own given → made_of f given ≡ Ok outcome → outcome ≡ outcome_by (function_of f.arch (facts_of f) (row_contents f))
means_by f (Ok rows) outcome h say e =
    let is : outcome_by (function_by f.arch (facts_of f) rows) ≡ outcome = cc in
    sym is ∙ ap outcome_by (sym (meant f rows (function_by f.arch (facts_of f) rows) h (are_said f rows say) refl))
means_by f (Err e') outcome h say e = absurd cc

pub outcome_means : (f : Function) (outcome : Expressed) → f.size < 2 ^ 64 → made_of f (rows_of f) ≡ Ok outcome → outcome ≡ outcome_by (function_of f.arch (facts_of f) (row_contents f))
outcome_means f outcome small e = means_by f (rows_of f) outcome (rows_by-are_rows _ _ _ _ _ _) (rows_by-say _ _ _ _ _ _ small) e

-- ---- faults
runs_by : (f : Function) (given : Result (List DwRow) MachineFault) (outcome : Expressed) → made_of f given ≡ Ok outcome → fault_of given ≡ None
runs_by f (Ok rows) outcome e = refl
runs_by f (Err e') outcome e = absurd cc

pub outcome_runs : (f : Function) (outcome : Expressed) (first : Option MachineFault) → fault_of (rows_of f) ≡ first → made_of f (rows_of f) ≡ Ok outcome → first ≡ None
outcome_runs f outcome first is e = sym is ∙ runs_by f (rows_of f) outcome e

refused_by : (section : ℕ) (fault : AsmFault) (given : Result (List DwRow) MachineFault) → named (asm.Machine section) given ≡ Err fault → named (asm.Machine section) (unless (fault_of given)) ≡ Err fault
refused_by section fault (Ok rows) e = absurd cc
refused_by section fault (Err x) e = let is : asm.Machine section x ≡ fault = cc in ap Err is

pub rows_refused : (section : ℕ) (fault : AsmFault) (given : Result (List DwRow) MachineFault) (first : Option MachineFault) → fault_of given ≡ first → named (asm.Machine section) given ≡ Err fault → named (asm.Machine section) (unless first) ≡ Err fault
rows_refused section fault given first is e = subst (λ (x : Option MachineFault). named (asm.Machine section) (unless x) ≡ Err fault) is (refused_by section fault given e)

-- ---- the function that is packed
pub made_packed : (arch : Arch) (facts : FdeFacts) (left : Result (List DwRow) MachineFault) (func : Func) (head : FuncHead) (packed : PackedRows) → ((rows : List DwRow) → left ≡ Ok rows → AreRows arch facts.size rows)
    → on_rows (function_by arch facts) left ≡ Ok (Ok func) → head ≡ head_of func → ArePacked packed func.rows → IsPacked arch head packed func
made_packed arch facts (Ok rows) func head packed are made is stored =
    let given : function_by arch facts rows ≡ Ok func = cc in
    let good = rows_of_kept arch facts rows func (are rows refl) given in
    record { head_is = is; rows = stored; rise = good.0; contents = good.1 }
made_packed arch facts (Err e) func head packed are made is stored = absurd cc

pub kept_outcome : (arch : Arch) (facts : FdeFacts) (left : Result (List DwRow) MachineFault) (func other : Func) → on_rows (function_by arch facts) left ≡ Ok (Ok func) → other ≡ func → on_rows (λ rows. outcome_by (function_by arch facts rows)) left ≡ Ok (outcome.Kept other)
kept_outcome arch facts (Ok rows) func other made same =
    let given : function_by arch facts rows ≡ Ok func = cc in
    ap (λ (x : Result Func Omission). Ok (outcome_by x)) given ∙ ap (λ (f : Func). Ok (outcome.Kept f)) (sym same)
kept_outcome arch facts (Err e) func other made same = absurd cc

pub left_outcome : (arch : Arch) (facts : FdeFacts) (left : Result (List DwRow) MachineFault) (omission : Omission) → on_rows (function_by arch facts) left ≡ Ok (Err omission) → on_rows (λ rows. outcome_by (function_by arch facts rows)) left ≡ Ok (outcome.LeftOut omission)
left_outcome arch facts (Ok rows) omission made =
    let given : function_by arch facts rows ≡ Err omission = cc in
    ap (λ (x : Result Func Omission). Ok (outcome_by x)) given
left_outcome arch facts (Err e) omission made = absurd cc

-- the rows that are left are good rows, where they are those of a function
good_if : (arch : Arch) (size : ℕ) (given : Result (List DwRow) MachineFault) (rows : List DwRow) → AreRowsIfOk arch size given → given ≡ Ok rows → AreRows arch size rows
good_if arch size (Ok good) rows are e = let is : good ≡ rows = cc in subst (AreRows arch size) is are
good_if arch size (Err x) rows are e = absurd cc

pub good_rows : (f : Function) (left : Result (List DwRow) MachineFault) (rows : List DwRow) → left ≡ rows_of f → left ≡ Ok rows → AreRows f.arch f.size rows
good_rows f left rows is e = good_if f.arch f.size (rows_of f) rows (rows_by-are_rows _ _ _ _ _ _) (sym is ∙ e)

-- ---- it can be written
record Same (facts : FdeFacts) (g : Func) : Type 0 where
  start : g.start ≡ facts.start
  size : g.size ≡ facts.size
  key : g.key ≡ facts.key

same_of : (facts : FdeFacts) (whole : Option Reason) (given : Result (List Row) Omission) (g : Func) → with_rows facts whole given ≡ Ok g → Same facts g
same_of facts (Some reason) given g e = absurd cc
same_of facts None (Err omission) g e = absurd cc
same_of facts None (Ok rows) g e =
    let is : record { start = facts.start; size = facts.size; shape = Plain; key = facts.key; rows = rows } ≡ g = cc in
    record { start = ap (λ (x : Func). x.start) (sym is); size = ap (λ (x : Func). x.size) (sym is); key = ap (λ (x : Func). x.key) (sym is) }

sound_one : (arch : Arch) (facts : FdeFacts) (rows : List DwRow) (x : Result Func Omission) → function_by arch facts rows ≡ x → FunctionFits arch x → facts.start + facts.size ≤ 2 ^ 64 → IsTrue (key_fits arch facts.key) → IsSoundOutcome arch facts.start facts.size (outcome_by x)
sound_one arch facts rows (Ok g) e fits end key =
    let same : Same facts g = same_of facts (reason_of arch facts) (expressed_rows arch None rows) g e in
    let end' : g.start + g.size ≤ 2 ^ 64 = rw (same.start, same.size) end in
    let key' : IsTrue (key_fits arch g.key) = rw same.key key in
    (fits end' key', same.start, same.size)
sound_one arch facts rows (Err omission) e fits end key = tt

sound_by : (f : Function) (given : Result (List DwRow) MachineFault) (outcome : Expressed) → AreRowsIfOk f.arch f.size given → f.start + f.size ≤ 2 ^ 64 → IsTrue (key_fits f.arch f.key) → made_of f given ≡ Ok outcome → IsSoundOutcome f.arch f.start f.size outcome
sound_by f (Ok rows) outcome h end key e =
    let is : outcome_by (function_by f.arch (facts_of f) rows) ≡ outcome = cc in
    let fits : FunctionFits f.arch (function_by f.arch (facts_of f) rows) = function_by-fits f.arch (facts_of f) rows h in
    subst (IsSoundOutcome f.arch f.start f.size) is (sound_one f.arch (facts_of f) rows (function_by f.arch (facts_of f) rows) refl fits end key)
sound_by f (Err x) outcome h end key e = absurd cc

pub outcome_is_sound : (f : Function) (outcome : Expressed) → f.start + f.size ≤ 2 ^ 64 → IsTrue (key_fits f.arch f.key) → made_of f (rows_of f) ≡ Ok outcome → IsSoundOutcome f.arch f.start f.size outcome
outcome_is_sound f outcome end key e = sound_by f (rows_of f) outcome (rows_by-are_rows _ _ _ _ _ _) end key e

-- what was made of the rows that were left is made of those of the function
pub made_here : (f : Function) (facts : FdeFacts) (left : Result (List DwRow) MachineFault) (outcome : Expressed) → facts ≡ facts_of f → left ≡ rows_of f → on_rows (λ rows. outcome_by (function_by f.arch facts rows)) left ≡ Ok outcome → made_of f (rows_of f) ≡ Ok outcome
made_here f facts left outcome same is e =
    subst (λ (x : Result (List DwRow) MachineFault). made_of f x ≡ Ok outcome) is
    (subst (λ (x : FdeFacts). on_rows (λ rows. outcome_by (function_by f.arch x rows)) left ≡ Ok outcome) same e)

pub refused_here : (section : ℕ) (f : Function) (left : Result (List DwRow) MachineFault) (fault : AsmFault) → left ≡ rows_of f → named (asm.Machine section) left ≡ Err fault → named (asm.Machine section) (rows_of f) ≡ Err fault
refused_here section f left fault is e = subst (λ (x : Result (List DwRow) MachineFault). named (asm.Machine section) x ≡ Err fault) is e

pub first_of : (f : Function) → fault_of (rows_of f) ≡ first_fault f.arch f.factor f.initial f.own
first_of f = rows_by-fault f.arch f.code f.factor f.size f.initial f.own
