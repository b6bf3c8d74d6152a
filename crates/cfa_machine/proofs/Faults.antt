-- The fault of the one pass is that of the full rows.
use Rattle.std.specs.Prelude.{nat_lt, map}
use Rattle.std.proofs.Common.{◌≡◌, ℕ, ℤ, Bool, true, false, cond, List, [], ◌∷◌, ◌++◌, ◌==◌, length, Option, Some, None, Result, Ok, Err, refl, sym, ap, subst, ◌∙◌, arith}
use Rattle.std.proofs.lemmas.Bool.{ne_eqb}
use Rattle.sf_model.specs.declared.machine.Arch.{Arch}
use Rattle.sf_model.specs.declared.machine.Arch.TheVariants.{Amd64, Aarch64}
use Rattle.cfa_insn.specs.Listing.{Item}
use Rattle.cfa_machine.specs.declared.rule.CfaRule.{CfaRule}
use Rattle.cfa_machine.specs.declared.rule.CfaRule.TheVariants as cfa
use Rattle.cfa_machine.specs.declared.effect.RowEffect.{RowEffect}
use Rattle.cfa_machine.specs.declared.effect.RowEffect.TheVariants.{Nothing, SetRule, SetCfa, SetCfaRegister, SetCfaOffset, NegateSign}
use Rattle.cfa_machine.specs.declared.effect.Effect.{Effect}
use Rattle.cfa_machine.specs.declared.effect.Effect.TheVariants.{Row, Advance, Restore, Remember, Recall}
use Rattle.cfa_machine.specs.declared.fault.MachineFault.{MachineFault}
use Rattle.cfa_machine.specs.declared.fault.MachineFault.TheVariants.{CieInstruction, StateEmpty, StateDepth, NoCfaRegister, Insn, NoMemory}
use Rattle.cfa_machine.specs.declared.columns.Columns.{Columns}
use Rattle.cfa_machine.specs.declared.machine.FunctionContext.{FunctionContext}
use Rattle.cfa_machine.specs.declared.row.DwRow.{DwRow}
use Rattle.cfa_machine.specs.Columns.{no_columns, changed, with_cfa_register, with_cfa_offset}
use Rattle.cfa_machine.specs.Effects.{effect_by}
use Rattle.cfa_machine.specs.Pass.{◌>>=◌, State, cie_step, initial_columns, step, with_remembered, with_recalled, with_ended, rows_from, rows_by, Gives}
use Rattle.cfa_machine.specs.FullRow.{FullRow, no_row, columns_of}
use Rattle.cfa_machine.specs.RowAtOffset.{UnwindState, after_instruction, offset_behind, row_defined, initial_by}
use Rattle.cfa_machine.specs.FirstFault.{or_later, unless_register, change_fault, define_fault, initial_fault, depth_after, run_fault, function_fault, first_fault, FailsBy}
use Rattle.cfa_machine.proofs.Agrees.{ChangesTo, define_agrees, initial_agrees}
use Rattle.cfa_machine.proofs.Counts.{IsCounted, depth_is, stays_counted}
use Rattle.cfa_machine.proofs.RowsMatch.{Agrees, StepsAgree, step_agrees, no_columns_there}

-- the fault of an answer
abbrev pub fault_of : {X : Type 0} → Result X MachineFault → Option MachineFault
fault_of (Ok x) = None
fault_of (Err e) = Some e

register_fault : (place r : ℕ) (rule : CfaRule) (c : Columns) → fault_of (with_cfa_register place r rule c) ≡ unless_register place rule
register_fault place r (cfa.Reg q n) c = refl
register_fault place r cfa.Missing c = refl
register_fault place r cfa.Expression c = refl

offset_fault : (place : ℕ) (n : ℤ) (rule : CfaRule) (c : Columns) → fault_of (with_cfa_offset place n rule c) ≡ unless_register place rule
offset_fault place n (cfa.Reg q m) c = refl
offset_fault place n cfa.Missing c = refl
offset_fault place n cfa.Expression c = refl

change_faults : (arch : Arch) (place : ℕ) (change : RowEffect) (c : Columns) → fault_of (changed arch place change c) ≡ change_fault arch place change c.cfa
change_faults arch place Nothing c = refl
change_faults arch place (SetRule r new) c = refl
change_faults arch place (SetCfa new) c = refl
change_faults arch place (SetCfaRegister r) c = register_fault place r c.cfa c
change_faults arch place (SetCfaOffset n) c = offset_fault place n c.cfa c
change_faults Amd64 place NegateSign c = refl
change_faults Aarch64 place NegateSign c = refl

-- ---- the common information entry
define_faults : (arch : Arch) (place : ℕ) (effect : Effect) (row : FullRow) → fault_of (cie_step arch place effect (columns_of arch row)) ≡ define_fault arch place effect row.cfa
define_faults arch place (Row change) row = change_faults arch place change (columns_of arch row)
define_faults arch place (Advance n) row = refl
define_faults arch place (Restore r) row = refl
define_faults arch place Remember row = refl
define_faults arch place Recall row = refl

define_then : (arch : Arch) (given : Result Columns MachineFault) (row : FullRow) (next : Columns → Result Columns MachineFault) (here later : Option MachineFault) → fault_of given ≡ here → ChangesTo arch given row → fault_of (next (columns_of arch row)) ≡ later → fault_of (given >>= next) ≡ or_later here later
define_then arch (Ok c) row next here later e change h = ap (λ (d : Columns). fault_of (next d)) change ∙ h ∙ ap (λ (x : Option MachineFault). or_later x later) e
define_then arch (Err f) row next here later e change h = ap (λ (x : Option MachineFault). or_later x later) e

initial_faults : (arch : Arch) (f : ℤ) (row : FullRow) (items : List Item) → fault_of (initial_columns arch f (columns_of arch row) items) ≡ initial_fault arch f row items
unfolding initial_columns initial_fault
initial_faults arch f row [] = refl
initial_faults arch f row (Err e ∷ items) = refl
initial_faults arch f row (Ok (place, i) ∷ items) = define_then arch (cie_step arch place (effect_by f i) (columns_of arch row)) (row_defined (effect_by f i) row) _ _ _ (define_faults arch place (effect_by f i) row) (define_agrees arch place (effect_by f i) row) (initial_faults arch f (row_defined (effect_by f i) row) items)

-- ---- the function
length_of_columns : (arch : Arch) (rows : List FullRow) → length (map (columns_of arch) rows) ≡ length rows
length_of_columns arch [] = refl
length_of_columns arch (row ∷ rows) = let e = length_of_columns arch rows in omega arith

fault_behind : {X Y : Type 0} (given : Result X MachineFault) (make : X → Y) → fault_of (given >>= λ x. Ok (make x)) ≡ fault_of given
fault_behind (Ok x) make = refl
fault_behind (Err e) make = refl

remember_fault : (room : Bool) (e : MachineFault) (rows : List Columns) → fault_of (cond {A = Result (List Columns) MachineFault} room (Ok rows) (Err e)) ≡ cond room None (Some e)
remember_fault true e rows = refl
remember_fault false e rows = refl

recall_faults : (arch : Arch) (place : ℕ) (before : List Item) (rows : List FullRow) → IsCounted before rows
    → fault_of (with_recalled place (map (columns_of arch) rows)) ≡ cond (depth_after before == 0) (Some (StateEmpty place)) None
recall_faults arch place before [] counted = sym (ap (λ (n : ℕ). cond (n == 0) (Some (StateEmpty place)) None) (depth_is before [] counted))
recall_faults arch place before (row ∷ rows) counted =
    let depth : depth_after before ≡ length (row ∷ rows) = depth_is before (row ∷ rows) counted in
    sym (ap (λ (b : Bool). cond b (Some (StateEmpty place)) None) (ne_eqb (depth_after before) 0 (λ e. omega (arith, e, depth))))

run_faults : (k : FunctionContext) (place : ℕ) (effect : Effect) (s : State) (n : ℕ) (full : UnwindState) (before : List Item) → Agrees k s n full → IsCounted before full.remembered
    → fault_of (step k place effect s) ≡ run_fault k.arch place effect before full.row.cfa
run_faults k place (Row change) s n full before h counted =
    fault_behind (changed k.arch place change s.columns) _ ∙ change_faults k.arch place change s.columns ∙ ap (λ (c : Columns). change_fault k.arch place change c.cfa) h.columns
run_faults k place (Advance delta) s n full before h counted = refl
run_faults k place (Restore r) s n full before h counted = refl
run_faults k place Remember s n full before h counted =
    let len : length s.remembered ≡ depth_after before =
    ap (λ (rows : List Columns). length rows) h.remembered ∙ length_of_columns k.arch full.remembered ∙ sym (depth_is before full.remembered counted) in
    fault_behind (with_remembered place s.columns s.remembered) _ ∙ remember_fault (nat_lt (length s.remembered) 64) (StateDepth place) (s.columns ∷ s.remembered) ∙ ap (λ (x : ℕ). cond (nat_lt x 64) None (Some (StateDepth place))) len
run_faults k place Recall s n full before h counted =
    fault_behind (with_recalled place s.remembered) _ ∙ ap (λ (rows : List Columns). fault_of (with_recalled place rows)) h.remembered ∙ recall_faults k.arch place before full.remembered counted

run_then : (k : FunctionContext) (s : State) (m : ℕ) (behind : UnwindState) (given : Result (State × Option DwRow) MachineFault) (next : State → Result (List DwRow) MachineFault) (here later : Option MachineFault) → fault_of given ≡ here → StepsAgree k s given m behind → ((t : State) → Agrees k t m behind → here ≡ None → fault_of (next t) ≡ later)
    → fault_of (given >>= λ x. (next x.0 >>= λ rows. Ok (with_ended x.1 rows))) ≡ or_later here later
run_then k s m behind (Ok (t, row)) next here later e step go = fault_behind (next t) (with_ended row) ∙ go t step.agrees (sym e) ∙ ap (λ (x : Option MachineFault). or_later x later) e
run_then k s m behind (Err f) next here later e step go = ap (λ (x : Option MachineFault). or_later x later) e

rows_fault : (k : FunctionContext) (initial : FullRow) (f : ℤ) (s : State) (n : ℕ) (full : UnwindState) (before items : List Item) → k.initial ≡ columns_of k.arch initial → Agrees k s n full → IsCounted before full.remembered
    → fault_of (rows_from k f s items) ≡ function_fault k.arch f initial full before items
unfolding rows_from function_fault
rows_fault k initial f s n full before [] init h counted = refl
rows_fault k initial f s n full before (Err e ∷ items) init h counted = refl
rows_fault k initial f s n full before (Ok (place, i) ∷ items) init h counted =
    let effect = effect_by f i in
    let m = offset_behind k.code_alignment_factor effect n in
    let behind = after_instruction initial effect full in
    run_then k s m behind (step k place effect s) (λ t. rows_from k f t items) _ _ (run_faults k place effect s n full before h counted) (step_agrees k initial place effect s n full init h)
    (λ t agrees none. rows_fault k initial f t m behind (before ++ Ok (place, i) ∷ []) items init agrees (stays_counted k.arch f initial place i full before counted none))

-- ---- both
from_none : (arch : Arch) (f : ℤ) (cie : List Item) → fault_of (initial_columns arch f no_columns cie) ≡ initial_fault arch f no_row cie
from_none arch f cie = subst (λ (c : Columns). fault_of (initial_columns arch f c cie) ≡ initial_fault arch f no_row cie) (no_columns_there arch) (initial_faults arch f no_row cie)

changes_none : (arch : Arch) (f : ℤ) (cie : List Item) → ChangesTo arch (initial_columns arch f no_columns cie) (initial_by f no_row cie)
changes_none arch f cie = subst (λ (c : Columns). ChangesTo arch (initial_columns arch f c cie) (initial_by f no_row cie)) (no_columns_there arch) (initial_agrees arch f no_row cie)

both_then : (arch : Arch) (given : Result Columns MachineFault) (row : FullRow) (next : Columns → Result (List DwRow) MachineFault) (here later : Option MachineFault) → fault_of given ≡ here → ChangesTo arch given row → ((c : Columns) → c ≡ columns_of arch row → fault_of (next c) ≡ later) → fault_of (given >>= next) ≡ or_later here later
both_then arch (Ok c) row next here later e change go = go c change ∙ ap (λ (x : Option MachineFault). or_later x later) e
both_then arch (Err f) row next here later e change go = ap (λ (x : Option MachineFault). or_later x later) e

pub rows_by-fault : (arch : Arch) (code : ℕ) (f : ℤ) (size : ℕ) (cie fde : List Item) → fault_of (rows_by arch code f size cie fde) ≡ first_fault arch f cie fde
rows_by-fault arch code f size cie fde = both_then arch (initial_columns arch f no_columns cie) (initial_by f no_row cie) _ _ _ (from_none arch f cie) (changes_none arch f cie) (λ initial e.
    rows_fault (record { arch = arch; code_alignment_factor = code; size = size; initial = initial }) (initial_by f no_row cie) f (record { columns = initial; remembered = []; offset = 0 }) 0 (record { row = initial_by f no_row cie; remembered = [] }) [] fde e (record { columns = e; remembered = refl; offset = refl }) refl)

pub answers_fault : {X Y : Type 0} (view : X → Y) (answer : Result X MachineFault) (given : Result Y MachineFault) (fault : Option MachineFault) → Gives view answer given → fault_of given ≡ fault → FailsBy answer fault
answers_fault view (Ok x) given fault g e = sym e ∙ ap (λ (r : _). fault_of r) g
answers_fault view (Err (CieInstruction p)) given fault g e = sym e ∙ ap (λ (r : _). fault_of r) g
answers_fault view (Err (StateEmpty p)) given fault g e = sym e ∙ ap (λ (r : _). fault_of r) g
answers_fault view (Err (StateDepth p)) given fault g e = sym e ∙ ap (λ (r : _). fault_of r) g
answers_fault view (Err (NoCfaRegister p)) given fault g e = sym e ∙ ap (λ (r : _). fault_of r) g
answers_fault view (Err (Insn p)) given fault g e = sym e ∙ ap (λ (r : _). fault_of r) g
answers_fault view (Err NoMemory) given fault g e = tt
