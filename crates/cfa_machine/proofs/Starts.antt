-- Rows start where the offset arrives.
use Rattle.std.specs.Prelude.{nat_lt}
use Rattle.std.proofs.Common.{◌≡◌, ℕ, ℤ, ◌-◌, ◌^◌, ◌<◌, ◌≤◌, ◌==◌, min, Bool, true, false, cond, ◌&&◌, ◌||◌, List, [], ◌∷◌, Option, Some, None, Result, Ok, Err, IfOk, Vec, Global, refl, sym, ap, subst, ◌∙◌, arith}
use Rattle.std.proofs.lemmas.Bool.{ltb-true, ltb-false, eqb-true, eq-eqb, ne_eqb}
use Rattle.sf_model.specs.declared.machine.Arch.{Arch}
use Rattle.cfa_insn.specs.Listing.{Item}
use Rattle.cfa_machine.specs.declared.effect.Effect.{Effect}
use Rattle.cfa_machine.specs.declared.effect.Effect.TheVariants.{Row, Advance, Restore, Remember, Recall}
use Rattle.cfa_machine.specs.declared.fault.MachineFault.{MachineFault}
use Rattle.cfa_machine.specs.declared.columns.Columns.{Columns}
use Rattle.cfa_machine.specs.declared.machine.FunctionContext.{FunctionContext}
use Rattle.cfa_machine.specs.declared.row.DwRow.{DwRow}
use Rattle.cfa_machine.specs.Columns.{no_columns, row_from}
use Rattle.cfa_machine.specs.Effects.{effect_by}
use Rattle.cfa_machine.specs.Pass.{◌>>=◌, State, initial_columns, step, with_ended, rows_from, rows_by, Gives}
use Rattle.cfa_machine.specs.FullRow.{FullRow, no_row, columns_of}
use Rattle.cfa_machine.specs.RowAtOffset.{UnwindState, after_instruction, offset_behind, initial_by, reaches, has_start, StartWhereReached}
use Rattle.cfa_machine.proofs.Agrees.{ChangesTo, initial_agrees}
use Rattle.cfa_machine.proofs.RowsMatch.{Agrees, StepsAgree, step_agrees, no_columns_there}

not_equal : (n o : ℕ) → o < n → (n == o) ≡ false
not_equal n o lt = ne_eqb n o (λ e. omega arith)

same_equal : (n : ℕ) → (n == n) ≡ true
same_equal n = eq-eqb n n refl

reaches_here : (code : ℕ) (f : ℤ) (o : ℕ) (items : List Item) → reaches code f o o items ≡ true
unfolding reaches
reaches_here code f o [] = same_equal o
reaches_here code f o (Err e ∷ items) = same_equal o
reaches_here code f o (Ok x ∷ items) = rw (same_equal o) refl

behind_on : (code : ℕ) (effect : Effect) (n : ℕ) → n ≤ offset_behind code effect n
behind_on code (Advance delta) n = omega arith
behind_on code (Row change) n = omega arith
behind_on code (Restore r) n = omega arith
behind_on code Remember n = omega arith
behind_on code Recall n = omega arith

-- a row or none, by the tests of its start
start_there : (o offset n size : ℕ) (c : Columns) (inside : Bool) → nat_lt offset size ≡ inside → offset ≡ min n (2 ^ 64 - 1) → o < size → size < 2 ^ 64 → has_start o (with_ended (cond inside (Some (row_from offset c)) None) []) ≡ (n == o)
start_there o offset n size c true test e lt small =
    let below : offset < size = ltb-true offset size test in
    let same : offset ≡ n = omega arith in
    ap (λ (x : ℕ). (x == o) || false) same ∙ or_false (n == o)
  where
    or_false : (b : Bool) → (b || false) ≡ b
    or_false true = refl
    or_false false = refl
start_there o offset n size c false test e lt small =
    let past : size ≤ offset = ltb-false offset size test in
    sym (not_equal n o (omega arith))

start_front : (o offset next n m size : ℕ) (c : Columns) (rows : List DwRow) (reached : Bool) (later inside : Bool) → nat_lt offset next ≡ later → nat_lt offset size ≡ inside → offset ≡ min n (2 ^ 64 - 1) → next ≡ min m (2 ^ 64 - 1) → n ≤ m → o < size → size < 2 ^ 64
    → (m ≡ o → reached ≡ true) → has_start o rows ≡ reached → has_start o (with_ended (cond (later && inside) (Some (row_from offset c)) None) rows) ≡ ((n == o) || reached)
start_front o offset next n m size c rows reached true true test inner e to le lt small here h =
    let below : offset < size = ltb-true offset size inner in
    let same : offset ≡ n = omega arith in
    ap (λ (x : ℕ). (x == o) || has_start o rows) same ∙ ap (λ (b : Bool). (n == o) || b) h
start_front o offset next n m size c rows reached true false test inner e to le lt small here h =
    let past : size ≤ offset = ltb-false offset size inner in
    h ∙ sym (ap (λ (b : Bool). b || reached) (not_equal n o (omega arith)))
start_front o offset next n m size c rows reached false inside test inner e to le lt small here h = h ∙ at_test (n == o) refl
  where
    at_test : (b : Bool) → (n == o) ≡ b → reached ≡ (b || reached)
    at_test false q = refl
    at_test true q =
        let same : n ≡ o = eqb-true n o q in
        let stays : next ≤ offset = ltb-false offset next test in
        here (omega arith)

-- ---- the pass
abbrev StartsAre : ℕ → Bool → Result (List DwRow) MachineFault → Type 0
StartsAre o reached (Ok rows) = has_start o rows ≡ reached
StartsAre o reached (Err e) = Unit {0}

starts_then : (k : FunctionContext) (o : ℕ) (s : State) (n m : ℕ) (full behind : UnwindState) (reached : Bool) (given : Result (State × Option DwRow) MachineFault) (next : State → Result (List DwRow) MachineFault) → Agrees k s n full → n ≤ m → o < k.size → k.size < 2 ^ 64 → (m ≡ o → reached ≡ true) → StepsAgree k s given m behind
    → ((t : State) → Agrees k t m behind → StartsAre o reached (next t)) → StartsAre o ((n == o) || reached) (given >>= λ x. (next x.0 >>= λ rows. Ok (with_ended x.1 rows)))
starts_then k o s n m full behind reached (Ok (t, row)) next h le lt small here step go = at_rest (next t) (go t step.agrees)
  where
    at_rest : (rest : Result (List DwRow) MachineFault) → StartsAre o reached rest → StartsAre o ((n == o) || reached) (rest >>= λ rows. Ok (with_ended row rows))
    at_rest (Err e) g = tt
    at_rest (Ok rows) g =
        ap (λ (r : Option DwRow). has_start o (with_ended r rows)) step.row_is ∙ start_front o s.offset t.offset n m k.size s.columns rows reached (nat_lt s.offset t.offset) (nat_lt s.offset k.size) refl refl h.offset step.agrees.offset le lt small here g
starts_then k o s n m full behind reached (Err e) next h le lt small here step go = tt

starts_are : (k : FunctionContext) (initial : FullRow) (f : ℤ) (o : ℕ) (s : State) (n : ℕ) (full : UnwindState) (items : List Item) → k.initial ≡ columns_of k.arch initial → Agrees k s n full → o < k.size → k.size < 2 ^ 64 → StartsAre o (reaches k.code_alignment_factor f o n items) (rows_from k f s items)
unfolding rows_from reaches
starts_are k initial f o s n full [] init h lt small = start_there o s.offset n k.size s.columns (nat_lt s.offset k.size) refl h.offset lt small
starts_are k initial f o s n full (Err e ∷ items) init h lt small = tt
starts_are k initial f o s n full (Ok (place, i) ∷ items) init h lt small =
    let effect = effect_by f i in
    let m = offset_behind k.code_alignment_factor effect n in
    let behind = after_instruction initial effect full in
    starts_then k o s n m full behind (reaches k.code_alignment_factor f o m items) (step k place effect s) (λ t. rows_from k f t items) h (behind_on k.code_alignment_factor effect n) lt small (λ e. subst (λ (x : ℕ). reaches k.code_alignment_factor f o x items ≡ true) (sym e) (reaches_here k.code_alignment_factor f o items)) (step_agrees k initial place effect s n full init h)
    (λ t agrees. starts_are k initial f o t m behind items init agrees lt small)

-- ---- a whole function
changes_none : (arch : Arch) (f : ℤ) (cie : List Item) → ChangesTo arch (initial_columns arch f no_columns cie) (initial_by f no_row cie)
changes_none arch f cie = subst (λ (c : Columns). ChangesTo arch (initial_columns arch f c cie) (initial_by f no_row cie)) (no_columns_there arch) (initial_agrees arch f no_row cie)

both_start : (arch : Arch) (o : ℕ) (reached : Bool) (given : Result Columns MachineFault) (row : FullRow) (next : Columns → Result (List DwRow) MachineFault) → ChangesTo arch given row → ((c : Columns) → c ≡ columns_of arch row → StartsAre o reached (next c)) → StartsAre o reached (given >>= next)
both_start arch o reached (Ok c) row next change go = go c change
both_start arch o reached (Err e) row next change go = tt

all_start : (arch : Arch) (code : ℕ) (f : ℤ) (size : ℕ) (cie fde : List Item) (o : ℕ) → o < size → size < 2 ^ 64 → StartsAre o (reaches code f o 0 fde) (rows_by arch code f size cie fde)
all_start arch code f size cie fde o lt small = both_start arch o _ (initial_columns arch f no_columns cie) (initial_by f no_row cie) _ (changes_none arch f cie) (λ initial e.
    starts_are (record { arch = arch; code_alignment_factor = code; size = size; initial = initial }) (initial_by f no_row cie) f o (record { columns = initial; remembered = []; offset = 0 }) 0 (record { row = initial_by f no_row cie; remembered = [] }) fde e (record { columns = e; remembered = refl; offset = refl }) lt small)

pub answers_start : (arch : Arch) (code : ℕ) (f : ℤ) (size : ℕ) (cie fde : List Item) (answer : Result (Vec DwRow Global) MachineFault) → size < 2 ^ 64 → Gives (λ (v : Vec DwRow Global). v.items) answer (rows_by arch code f size cie fde) → IfOk answer (λ v. StartWhereReached code f size fde v.items)
answers_start arch code f size cie fde (Ok v) small g = λ o lt. subst (StartsAre o (reaches code f o 0 fde)) g (all_start arch code f size cie fde o lt small)
answers_start arch code f size cie fde (Err e) small g = tt
