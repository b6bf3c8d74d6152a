-- At each offset below the size the rows of the one pass have the columns of the full row there.
use Rattle.std.specs.Prelude.{nat_lt, nat_le, map}
use Rattle.std.proofs.Common.{◌≡◌, ℕ, ℤ, ◌+◌, ◌*◌, ◌-◌, ◌^◌, ◌<◌, ◌≤◌, min, Bool, true, false, cond, List, [], ◌∷◌, length, Option, Some, None, Result, Ok, Err, IfOk, Vec, Global, refl, sym, ap, subst, ◌∙◌, arith}
use Rattle.std.proofs.lemmas.List.Elements.{All-nil}
use Rattle.std.proofs.lemmas.Bool.{ltb-true, ltb-false, lt-ltb, le-ltb, lt-leb, le-leb}
use Rattle.sf_model.specs.declared.machine.Arch.{Arch}
use Rattle.sf_model.specs.declared.machine.Arch.TheVariants.{Amd64, Aarch64}
use Rattle.cfa_insn.specs.Listing.{Item}
use Rattle.cfa_machine.specs.declared.effect.Effect.{Effect}
use Rattle.cfa_machine.specs.declared.effect.Effect.TheVariants.{Row, Advance, Restore, Remember, Recall}
use Rattle.cfa_machine.specs.declared.fault.MachineFault.{MachineFault}
use Rattle.cfa_machine.specs.declared.fault.MachineFault.TheVariants.{StateDepth}
use Rattle.cfa_machine.specs.declared.columns.Columns.{Columns}
use Rattle.cfa_machine.specs.declared.machine.FunctionContext.{FunctionContext}
use Rattle.cfa_machine.specs.declared.row.DwRow.{DwRow}
use Rattle.cfa_machine.specs.Columns.{no_columns, restored, changed, row_from}
use Rattle.cfa_machine.specs.Effects.{effect_by}
use Rattle.cfa_machine.specs.Pass.{◌>>=◌, State, initial_columns, advanced, row_before, with_recalled, step, last_row, with_ended, rows_from, rows_by, Gives}
use Rattle.cfa_machine.specs.RowList.{RiseFrom}
use Rattle.cfa_machine.specs.FullRow.{FullRow, no_row, restored_rule, with_register_rule, row_after, columns_of}
use Rattle.cfa_machine.specs.RowAtOffset.{UnwindState, recalled, after_instruction, offset_behind, state_before, initial_by, row_at_offset, latest_at, HasColumns, MatchInstructions}
use Rattle.cfa_machine.proofs.GoodRows.{SignFits, SignsFit, StateFits, GoesOn, IsRest, item_step_goes, rows_from_rest, initial_columns_sign, no_sign}
use Rattle.cfa_machine.proofs.Agrees.{ChangesTo, change_agrees, restore_agrees, initial_agrees}

-- ---- the state of the pass and the full state at an offset
pub record Agrees (k : FunctionContext) (s : State) (n : ℕ) (full : UnwindState) : Type 0 where
  pub columns : s.columns ≡ columns_of k.arch full.row
  pub remembered : s.remembered ≡ map (columns_of k.arch) full.remembered
  pub offset : s.offset ≡ min n (2 ^ 64 - 1)

pub record StepAgrees (k : FunctionContext) (s t : State) (row : Option DwRow) (m : ℕ) (full : UnwindState) : Type 0 where
  pub agrees : Agrees k t m full
  pub row_is : row ≡ row_before k.size t.offset s.offset s.columns

abbrev pub StepsAgree : FunctionContext → State → Result (State × Option DwRow) MachineFault → ℕ → UnwindState → Type 0
StepsAgree k s (Ok o) m full = StepAgrees k s o.0 o.1 m full
StepsAgree k s (Err e) m full = Unit {0}

no_row_here : (size offset : ℕ) (c : Columns) → None ≡ row_before size offset offset c
no_row_here size offset c = rw (le-ltb offset offset (omega arith)) refl

change_steps : (k : FunctionContext) (s : State) (n : ℕ) (full : UnwindState) (given : Result Columns MachineFault) (row : FullRow) → Agrees k s n full → ChangesTo k.arch given row
    → StepsAgree k s (given >>= λ c. Ok (record s { columns = c }, None)) n (record { row = row; remembered = full.remembered })
change_steps k s n full (Ok c) row h e = record { agrees = record { columns = e; remembered = h.remembered; offset = h.offset }; row_is = no_row_here k.size s.offset s.columns }
change_steps k s n full (Err e) row h g = tt

remember_steps : (k : FunctionContext) (s : State) (n : ℕ) (full : UnwindState) (room : Bool) (e : MachineFault) → Agrees k s n full
    → StepsAgree k s (cond {A = Result (List Columns) MachineFault} room (Ok (s.columns ∷ s.remembered)) (Err e) >>= λ rows. Ok (record s { remembered = rows }, None)) n (record { row = full.row; remembered = full.row ∷ full.remembered })
remember_steps k s n full true e h = record { agrees = record { columns = h.columns; remembered = rw (h.columns, h.remembered) refl; offset = h.offset }; row_is = no_row_here k.size s.offset s.columns }
remember_steps k s n full false e h = tt

recall_steps : (k : FunctionContext) (place : ℕ) (s : State) (n : ℕ) (full : UnwindState) (rows : List FullRow) → Agrees k s n full
    → StepsAgree k s (with_recalled place (map (columns_of k.arch) rows) >>= λ x. Ok (record s { columns = x.0; remembered = x.1 }, None)) n (recalled rows full)
recall_steps k place s n full [] h = tt
recall_steps k place s n full (row ∷ rows) h = record { agrees = record { columns = refl; remembered = refl; offset = h.offset }; row_is = no_row_here k.size s.offset s.columns }

advance_caps : (code delta offset n : ℕ) → offset ≡ min n (2 ^ 64 - 1) → advanced code delta offset ≡ min (n + code * delta) (2 ^ 64 - 1)
advance_caps code delta offset n e = rw e (plain (code * delta) n)
  where
    plain : (by n : ℕ) → min (min n (2 ^ 64 - 1) + min by (2 ^ 64 - 1)) (2 ^ 64 - 1) ≡ min (n + by) (2 ^ 64 - 1)
    plain by n = omega arith

pub step_agrees : (k : FunctionContext) (initial : FullRow) (place : ℕ) (effect : Effect) (s : State) (n : ℕ) (full : UnwindState) → k.initial ≡ columns_of k.arch initial → Agrees k s n full
    → StepsAgree k s (step k place effect s) (offset_behind k.code_alignment_factor effect n) (after_instruction initial effect full)
step_agrees k initial place (Row change) s n full init h =
    change_steps k s n full (changed k.arch place change s.columns) (row_after change full.row) h (subst (λ (c : Columns). ChangesTo k.arch (changed k.arch place change c) (row_after change full.row)) (sym h.columns) (change_agrees k.arch place change full.row))
step_agrees k initial place (Advance delta) s n full init h = record {
  agrees = record { columns = h.columns; remembered = h.remembered; offset = advance_caps k.code_alignment_factor delta s.offset n h.offset };
  row_is = refl;
}
step_agrees k initial place (Restore r) s n full init h =
    let e : restored k.arch r k.initial s.columns ≡ columns_of k.arch (with_register_rule r (restored_rule r initial.rules) full.row) = rw (init, h.columns) (restore_agrees k.arch r initial full.row) in
    record { agrees = record { columns = e; remembered = h.remembered; offset = h.offset }; row_is = no_row_here k.size s.offset s.columns }
step_agrees k initial place Remember s n full init h = remember_steps k s n full (nat_lt (length s.remembered) 64) (StateDepth place) h
step_agrees k initial place Recall s n full init h =
    subst (λ (rows : List Columns). StepsAgree k s (with_recalled place rows >>= λ x. Ok (record s { columns = x.0; remembered = x.1 }, None)) n (recalled full.remembered full)) (sym h.remembered) (recall_steps k place s n full full.remembered h)

-- ---- the row found at an offset
abbrev Says : Arch → ℕ → FullRow → Result (List DwRow) MachineFault → Type 0
Says arch o row (Ok rows) = (found : Option DwRow) → HasColumns arch row (latest_at o found rows)
Says arch o row (Err e) = Unit {0}

latest_past : (o least : ℕ) (found : Option DwRow) (rows : List DwRow) → o < least → RiseFrom least rows → latest_at o found rows ≡ found
latest_past o least found [] lt h = refl
latest_past o least found (r ∷ rows) lt h =
    let first : least ≤ r.start = h.0 in
    let above : o < r.start = omega arith in
    let test : nat_le r.start o ≡ false = lt-leb r.start o above in
    rw test (latest_past o (r.start + 1) found rows (omega arith) h.1)

latest_front : (arch : Arch) (o : ℕ) (row : FullRow) (r : Option DwRow) (rows : List DwRow) → ((found : Option DwRow) → HasColumns arch row (latest_at o found rows)) → (found : Option DwRow) → HasColumns arch row (latest_at o found (with_ended r rows))
latest_front arch o row None rows h found = h found
latest_front arch o row (Some r) rows h found = h (cond (nat_le r.start o) (Some r) found)

found_here : (arch : Arch) (o offset next : ℕ) (c : Columns) (full : FullRow) (row : Option DwRow) (rows : List DwRow) (found : Option DwRow) → c ≡ columns_of arch full → row ≡ Some (row_from offset c) → offset ≤ o → o < next → RiseFrom next rows → HasColumns arch full (latest_at o found (with_ended row rows))
found_here arch o offset next c full row rows found e row_is le lt rise =
    let front : latest_at o found (with_ended row rows) ≡ latest_at o found (row_from offset c ∷ rows) = ap (λ (x : Option DwRow). latest_at o found (with_ended x rows)) row_is in
    let taken : latest_at o found (row_from offset c ∷ rows) ≡ latest_at o (Some (row_from offset c)) rows = ap (λ (b : Bool). latest_at o (cond b (Some (row_from offset c)) found) rows) (le-leb offset o le) in
    record { start = offset; is = front ∙ taken ∙ latest_past o next (Some (row_from offset c)) rows lt rise ∙ ap (λ (x : Columns). Some (row_from offset x)) e }

row_there : (size next offset : ℕ) (c : Columns) → offset < next → offset < size → row_before size next offset c ≡ Some (row_from offset c)
row_there size next offset c later inside = rw (lt-ltb offset next later, lt-ltb offset size inside) refl

step_says : (k : FunctionContext) (o : ℕ) (s t : State) (n m : ℕ) (full later : UnwindState) (b : Bool) (row : Option DwRow) (given : Result (List DwRow) MachineFault) → nat_lt o m ≡ b → Agrees k s n full → t.offset ≡ min m (2 ^ 64 - 1) → row ≡ row_before k.size t.offset s.offset s.columns
    → n ≤ o → o < k.size → k.size < 2 ^ 64 → IsRest k t.offset given → (m ≤ o → Says k.arch o later.row given) → Says k.arch o (cond b full later).row (given >>= λ rows. Ok (with_ended row rows))
step_says k o s t n m full later b row (Err e) test h to row_is le inside small rest go = tt
step_says k o s t n m full later false row (Ok rows) test h to row_is le inside small rest go = latest_front k.arch o later.row row rows (go (ltb-false o m test))
step_says k o s t n m full later true row (Ok rows) test h to row_is le inside small rest go = λ found.
    let past : o < m = ltb-true o m test in
    let from : s.offset ≡ min n (2 ^ 64 - 1) = h.offset in
    let here : s.offset ≤ o = omega arith in
    let above : o < t.offset = omega arith in
    let there : row ≡ Some (row_from s.offset s.columns) = row_is ∙ row_there k.size t.offset s.offset s.columns (omega arith) (omega arith) in
    found_here k.arch o s.offset t.offset s.columns full.row row rows found h.columns there here above rest.rise

last_says : (k : FunctionContext) (o : ℕ) (s : State) (n : ℕ) (full : UnwindState) → Agrees k s n full → n ≤ o → o < k.size → k.size < 2 ^ 64 → Says k.arch o full.row (Ok (with_ended (last_row k.size s) []))
last_says k o s n full h le inside small = λ found.
    let from : s.offset ≡ min n (2 ^ 64 - 1) = h.offset in
    let below : s.offset < k.size = omega arith in
    let there : last_row k.size s ≡ Some (row_from s.offset s.columns) = rw (lt-ltb s.offset k.size below) refl in
    found_here k.arch o s.offset (o + 1) s.columns full.row (last_row k.size s) [] found h.columns there (omega arith) (omega arith) tt

record Follows (k : FunctionContext) (o m : ℕ) (later : UnwindState) (t : State) (given : Result (List DwRow) MachineFault) : Type 0 where
  rest : IsRest k t.offset given
  says : m ≤ o → Says k.arch o later.row given

then_says : (k : FunctionContext) (o : ℕ) (s : State) (n m : ℕ) (full behind later : UnwindState) (given : Result (State × Option DwRow) MachineFault) (next : State → Result (List DwRow) MachineFault) → Agrees k s n full → n ≤ o → o < k.size → k.size < 2 ^ 64 → StepsAgree k s given m behind → GoesOn k s given
    → ((t : State) → Agrees k t m behind → StateFits k t → Follows k o m later t (next t)) → Says k.arch o (cond (nat_lt o m) full later).row (given >>= λ x. (next x.0 >>= λ rows. Ok (with_ended x.1 rows)))
then_says k o s n m full behind later (Ok (t, row)) next h le inside small step goes go =
    let f = go t step.agrees goes.fits in
    step_says k o s t n m full later (nat_lt o m) row (next t) refl h step.agrees.offset step.row_is le inside small f.rest f.says
then_says k o s n m full behind later (Err e) next h le inside small step goes go = tt

rows_say : (k : FunctionContext) (initial : FullRow) (f : ℤ) (o : ℕ) (s : State) (n : ℕ) (full : UnwindState) (items : List Item) → k.initial ≡ columns_of k.arch initial → Agrees k s n full → StateFits k s → n ≤ o → o < k.size → k.size < 2 ^ 64
    → Says k.arch o (state_before initial k.code_alignment_factor f o n full items).row (rows_from k f s items)
unfolding rows_from state_before
rows_say k initial f o s n full [] init h fits le inside small = last_says k o s n full h le inside small
rows_say k initial f o s n full (Err e ∷ items) init h fits le inside small = tt
rows_say k initial f o s n full (Ok (place, i) ∷ items) init h fits le inside small =
    let effect = effect_by f i in
    let m = offset_behind k.code_alignment_factor effect n in
    let behind = after_instruction initial effect full in
    then_says k o s n m full behind (state_before initial k.code_alignment_factor f o m behind items) (step k place effect s) (λ t. rows_from k f t items) h le inside small (step_agrees k initial place effect s n full init h) (item_step_goes k f (Ok (place, i)) s fits)
    (λ t agrees t_fits. record { rest = rows_from_rest k f t items t_fits; says = λ on. rows_say k initial f o t m behind items init agrees t_fits on inside small })

-- ---- a whole function
pub no_columns_there : (arch : Arch) → columns_of arch no_row ≡ no_columns
no_columns_there Amd64 = refl
no_columns_there Aarch64 = refl

abbrev pub MatchIfOk : Arch → (code : ℕ) (f : ℤ) (size : ℕ) (cie fde : List Item) → Result (List DwRow) MachineFault → Type 0
MatchIfOk arch code f size cie fde (Ok rows) = MatchInstructions arch code f size cie fde rows
MatchIfOk arch code f size cie fde (Err e) = Unit {0}

all_say : (arch : Arch) (code : ℕ) (f : ℤ) (size : ℕ) (cie fde : List Item) (given : Result (List DwRow) MachineFault) → ((o : ℕ) → o < size → Says arch o (row_at_offset code f cie fde o) given) → MatchIfOk arch code f size cie fde given
all_say arch code f size cie fde (Ok rows) h = λ o lt. h o lt None
all_say arch code f size cie fde (Err e) h = tt

rows_from-say : (arch : Arch) (code : ℕ) (f : ℤ) (size : ℕ) (initial : Columns) (cie fde : List Item) → size < 2 ^ 64 → Ok initial ≡ initial_columns arch f no_columns cie
    → MatchIfOk arch code f size cie fde (rows_from (record { arch = arch; code_alignment_factor = code; size = size; initial = initial }) f (record { columns = initial; remembered = []; offset = 0 }) fde)
rows_from-say arch code f size initial cie fde small e =
    let k : FunctionContext = record { arch = arch; code_alignment_factor = code; size = size; initial = initial } in
    let s : State = record { columns = initial; remembered = []; offset = 0 } in
    let row : FullRow = initial_by f no_row cie in
    let sign : SignFits arch initial = subst (SignsFit arch) (sym e) (initial_columns_sign arch f no_columns cie (no_sign arch)) in
    let from_none : ChangesTo arch (initial_columns arch f no_columns cie) row = subst (λ (c : Columns). ChangesTo arch (initial_columns arch f c cie) row) (no_columns_there arch) (initial_agrees arch f no_row cie) in
    let init : initial ≡ columns_of arch row = subst (λ (d : Result Columns MachineFault). ChangesTo arch d row) (sym e) from_none in
    all_say arch code f size cie fde (rows_from k f s fde) (λ o lt. rows_say k row f o s 0 (record { row = row; remembered = [] }) fde init (record { columns = init; remembered = refl; offset = refl }) (record { sign = sign; remembered = All-nil (SignFits arch); capped = omega arith }) (omega arith) lt small)

then_say : (arch : Arch) (code : ℕ) (f : ℤ) (size : ℕ) (cie fde : List Item) (initial : Result Columns MachineFault) (next : Columns → Result (List DwRow) MachineFault) → ((c : Columns) → initial ≡ Ok c → MatchIfOk arch code f size cie fde (next c)) → MatchIfOk arch code f size cie fde (initial >>= next)
then_say arch code f size cie fde (Ok c) next go = go c refl
then_say arch code f size cie fde (Err e) next go = tt

pub rows_by-say : (arch : Arch) (code : ℕ) (f : ℤ) (size : ℕ) (cie fde : List Item) → size < 2 ^ 64 → MatchIfOk arch code f size cie fde (rows_by arch code f size cie fde)
rows_by-say arch code f size cie fde small = then_say arch code f size cie fde (initial_columns arch f no_columns cie) _ (λ initial e. rows_from-say arch code f size initial cie fde small (sym e))

pub answers_say : (arch : Arch) (code : ℕ) (f : ℤ) (size : ℕ) (cie fde : List Item) (answer : Result (Vec DwRow Global) MachineFault) (given : Result (List DwRow) MachineFault) → Gives (λ (v : Vec DwRow Global). v.items) answer given → MatchIfOk arch code f size cie fde given
    → IfOk answer (λ v. MatchInstructions arch code f size cie fde v.items)
answers_say arch code f size cie fde (Ok v) given e h = subst (MatchIfOk arch code f size cie fde) e h
answers_say arch code f size cie fde (Err e) given g h = tt
