-- What one pass gives is by rising start from the present offset on, below the size, and unsigned on AMD64.
use Rattle.std.specs.Prelude.{nat_lt, IsTrue}
use Rattle.std.proofs.Common.{◌≡◌, ℕ, ℤ, ◌+◌, ◌^◌, ◌<◌, ◌≤◌, Bool, true, false, cond, ◌&&◌, ◌⊎◌, inl, inr, List, [], ◌∷◌, length, Option, Some, None, Result, Ok, Err, refl, sym, ap, subst, arith, Vec, Global, IfOk}
use Rattle.std.specs.List.{All}
use Rattle.std.proofs.lemmas.List.Elements.{All-cons, All-tail, All-nil}
use Rattle.std.proofs.lemmas.Bool.{ltb-true, ltb-false}
use Rattle.sf_model.specs.declared.machine.Arch.{Arch}
use Rattle.sf_model.specs.declared.machine.Arch.TheVariants.{Amd64, Aarch64}
use Rattle.cfa_insn.specs.Listing.{Item}
use Rattle.cfa_machine.specs.declared.rule.CfaRule.{CfaRule}
use Rattle.cfa_machine.specs.declared.rule.CfaRule.TheVariants as cfa
use Rattle.cfa_machine.specs.declared.effect.RowEffect.{RowEffect}
use Rattle.cfa_machine.specs.declared.effect.RowEffect.TheVariants.{Nothing, SetRule, SetCfa, SetCfaRegister, SetCfaOffset, NegateSign}
use Rattle.cfa_machine.specs.declared.effect.Effect.{Effect}
use Rattle.cfa_machine.specs.declared.effect.Effect.TheVariants.{Row, Advance, Restore, Remember, Recall}
use Rattle.cfa_machine.specs.declared.fault.MachineFault.{MachineFault}
use Rattle.cfa_machine.specs.declared.fault.MachineFault.TheVariants.{StateDepth}
use Rattle.cfa_machine.specs.declared.columns.Columns.{Columns}
use Rattle.cfa_machine.specs.declared.machine.FunctionContext.{FunctionContext}
use Rattle.cfa_machine.specs.declared.row.DwRow.{DwRow}
use Rattle.cfa_machine.specs.Columns.{no_columns, changed, with_cfa_register, with_cfa_offset, row_from}
use Rattle.cfa_machine.specs.Effects.{effect_by}
use Rattle.cfa_machine.specs.Pass.{◌>>=◌, State, cie_step, cie_item_step, initial_columns, advanced, with_recalled, step, item_step, with_ended, rows_from, rows_by, Gives}
use Rattle.cfa_machine.specs.RowList.{RiseFrom, BeginAtZero, sign_fits, AreRows}

-- ---- the sign
pub record SignFits (arch : Arch) (c : Columns) : Type 0 where
  pub fits : IsTrue (sign_fits arch c.signed)

abbrev pub SignsFit : Arch → Result Columns MachineFault → Type 0
SignsFit arch (Ok c) = SignFits arch c
SignsFit arch (Err e) = Unit {0}

register_sign : (arch : Arch) (place r : ℕ) (rule : CfaRule) (c : Columns) → SignFits arch c → SignsFit arch (with_cfa_register place r rule c)
register_sign arch place r (cfa.Reg q n) c h = record { fits = h.fits }
register_sign arch place r cfa.Missing c h = tt
register_sign arch place r cfa.Expression c h = tt

offset_sign : (arch : Arch) (place : ℕ) (n : ℤ) (rule : CfaRule) (c : Columns) → SignFits arch c → SignsFit arch (with_cfa_offset place n rule c)
offset_sign arch place n (cfa.Reg r m) c h = record { fits = h.fits }
offset_sign arch place n cfa.Missing c h = tt
offset_sign arch place n cfa.Expression c h = tt

changed_sign : (arch : Arch) (place : ℕ) (change : RowEffect) (c : Columns) → SignFits arch c → SignsFit arch (changed arch place change c)
changed_sign arch place Nothing c h = h
changed_sign arch place (SetRule r new) c h = record { fits = h.fits }
changed_sign arch place (SetCfa new) c h = record { fits = h.fits }
changed_sign arch place (SetCfaRegister r) c h = register_sign arch place r c.cfa c h
changed_sign arch place (SetCfaOffset n) c h = offset_sign arch place n c.cfa c h
changed_sign Amd64 place NegateSign c h = tt
changed_sign Aarch64 place NegateSign c h = record { fits = refl }

-- ---- the common information entry
cie_step_sign : (arch : Arch) (place : ℕ) (effect : Effect) (c : Columns) → SignFits arch c → SignsFit arch (cie_step arch place effect c)
cie_step_sign arch place (Row change) c h = changed_sign arch place change c h
cie_step_sign arch place (Advance n) c h = tt
cie_step_sign arch place (Restore r) c h = tt
cie_step_sign arch place Remember c h = tt
cie_step_sign arch place Recall c h = tt

cie_item_step_sign : (arch : Arch) (f : ℤ) (x : Item) (c : Columns) → SignFits arch c → SignsFit arch (cie_item_step arch f x c)
cie_item_step_sign arch f (Ok (place, i)) c h = cie_step_sign arch place (effect_by f i) c h
cie_item_step_sign arch f (Err e) c h = tt

then_sign : (arch : Arch) (d : Result Columns MachineFault) (next : Columns → Result Columns MachineFault) → SignsFit arch d → ((c : Columns) → SignFits arch c → SignsFit arch (next c)) → SignsFit arch (d >>= next)
then_sign arch (Ok c) next h go = go c h
then_sign arch (Err e) next h go = tt

pub initial_columns_sign : (arch : Arch) (f : ℤ) (c : Columns) (items : List Item) → SignFits arch c → SignsFit arch (initial_columns arch f c items)
unfolding initial_columns
initial_columns_sign arch f c [] h = h
initial_columns_sign arch f c (x ∷ items) h = then_sign arch (cie_item_step arch f x c) _ (cie_item_step_sign arch f x c h) (λ d g. initial_columns_sign arch f d items g)

-- ---- the function's states
pub record StateFits (k : FunctionContext) (s : State) : Type 0 where
  pub sign : SignFits k.arch s.columns
  pub remembered : All (SignFits k.arch) s.remembered
  pub capped : s.offset < 2 ^ 64

-- where an instruction goes: on with no row, or to a later offset after a row
abbrev pub Moves : FunctionContext → State → State → Option DwRow → Type 0
Moves k s t None = (t.offset ≡ s.offset) ⊎ ((k.size ≤ s.offset) × (s.offset ≤ t.offset))
Moves k s t (Some row) = (row ≡ row_from s.offset s.columns) × (s.offset < t.offset) × (s.offset < k.size)

pub record Goes (k : FunctionContext) (s t : State) (row : Option DwRow) : Type 0 where
  pub fits : StateFits k t
  pub moves : Moves k s t row

abbrev pub GoesOn : FunctionContext → State → Result (State × Option DwRow) MachineFault → Type 0
GoesOn k s (Ok o) = Goes k s o.0 o.1
GoesOn k s (Err e) = Unit {0}

change_goes : (k : FunctionContext) (s : State) (given : Result Columns MachineFault) → StateFits k s → SignsFit k.arch given → GoesOn k s (given >>= λ c. Ok (record s { columns = c }, None))
change_goes k s (Ok c) h g = record { fits = record { sign = g; remembered = h.remembered; capped = h.capped }; moves = inl refl }
change_goes k s (Err e) h g = tt

advance_moves : (k : FunctionContext) (s t : State) (later inside : Bool) → s.offset ≤ t.offset → nat_lt s.offset t.offset ≡ later → nat_lt s.offset k.size ≡ inside → Moves k s t (cond (later && inside) (Some (row_from s.offset s.columns)) None)
advance_moves k s t true true le p q = (refl, ltb-true s.offset t.offset p, ltb-true s.offset k.size q)
advance_moves k s t true false le p q = inr (ltb-false s.offset k.size q, le)
advance_moves k s t false inside le p q = let ge : t.offset ≤ s.offset = ltb-false s.offset t.offset p in inl (omega arith)

remember_goes : (k : FunctionContext) (place : ℕ) (s : State) (room : Bool) (e : MachineFault) → StateFits k s → GoesOn k s (cond {A = Result (List Columns) MachineFault} room (Ok (s.columns ∷ s.remembered)) (Err e) >>= λ rows. Ok (record s { remembered = rows }, None))
remember_goes k place s true e h = record { fits = record { sign = h.sign; remembered = All-cons (SignFits k.arch) s.columns s.remembered h.sign h.remembered; capped = h.capped }; moves = inl refl }
remember_goes k place s false e h = tt

recall_goes : (k : FunctionContext) (place : ℕ) (s : State) (rows : List Columns) → StateFits k s → All (SignFits k.arch) rows → GoesOn k s (with_recalled place rows >>= λ x. Ok (record s { columns = x.0; remembered = x.1 }, None))
recall_goes k place s [] h all = tt
recall_goes k place s (c ∷ rows) h all = record { fits = record { sign = all 0 c (omega arith); remembered = All-tail (SignFits k.arch) c rows all; capped = h.capped }; moves = inl refl }

step_goes : (k : FunctionContext) (place : ℕ) (effect : Effect) (s : State) → StateFits k s → GoesOn k s (step k place effect s)
step_goes k place (Row change) s h = change_goes k s (changed k.arch place change s.columns) h (changed_sign k.arch place change s.columns h.sign)
step_goes k place (Advance n) s h =
    let next : ℕ = advanced k.code_alignment_factor n s.offset in
    let small : s.offset < 2 ^ 64 = h.capped in
    let le : s.offset ≤ next = omega arith in
    let capped : next < 2 ^ 64 = omega arith in
    record { fits = record { sign = h.sign; remembered = h.remembered; capped = capped }; moves = advance_moves k s (record s { offset = next }) (nat_lt s.offset next) (nat_lt s.offset k.size) le refl refl }
step_goes k place (Restore r) s h = record { fits = record { sign = record { fits = h.sign.fits }; remembered = h.remembered; capped = h.capped }; moves = inl refl }
step_goes k place Remember s h = remember_goes k place s (nat_lt (length s.remembered) 64) (StateDepth place) h
step_goes k place Recall s h = recall_goes k place s s.remembered h h.remembered

pub item_step_goes : (k : FunctionContext) (f : ℤ) (x : Item) (s : State) → StateFits k s → GoesOn k s (item_step k f x s)
item_step_goes k f (Ok (place, i)) s h = step_goes k place (effect_by f i) s h
item_step_goes k f (Err e) s h = tt

-- ---- the rows
abbrev pub StartsAt : ℕ → List DwRow → Type 0
StartsAt n [] = ⊥
StartsAt n (r ∷ rows) = r.start ≡ n

pub record AreRest (arch : Arch) (size offset : ℕ) (rows : List DwRow) : Type 0 where
  pub begins : offset < size → StartsAt offset rows
  pub rise : RiseFrom offset rows
  pub below : All (λ (r : DwRow). r.start < size) rows
  pub signs : All (λ (r : DwRow). IsTrue (sign_fits arch r.signed)) rows

abbrev pub IsRest : FunctionContext → ℕ → Result (List DwRow) MachineFault → Type 0
IsRest k offset (Ok rows) = AreRest k.arch k.size offset rows
IsRest k offset (Err e) = Unit {0}

rise_lower : (low high : ℕ) (rows : List DwRow) → low ≤ high → RiseFrom high rows → RiseFrom low rows
rise_lower low high [] le h = tt
rise_lower low high (r ∷ rows) le h = let first : high ≤ r.start = h.0 in (omega arith, h.1)

rest_with : (k : FunctionContext) (s : State) (row : DwRow) (offset : ℕ) (rows : List DwRow) → SignFits k.arch s.columns → row ≡ row_from s.offset s.columns → s.offset < offset → s.offset < k.size → RiseFrom offset rows → All (λ (r : DwRow). r.start < k.size) rows → All (λ (r : DwRow). IsTrue (sign_fits k.arch r.signed)) rows → AreRest k.arch k.size s.offset (row ∷ rows)
rest_with k s row offset rows sign is later inside rise below signs =
    let start : row.start ≡ s.offset = ap (λ (r : DwRow). r.start) is in
    let signed : row.signed ≡ s.columns.signed = ap (λ (r : DwRow). r.signed) is in
    record {
      begins = λ _. start;
      rise = (omega arith, rise_lower (row.start + 1) offset rows (omega arith) rise);
      below = All-cons (λ (r : DwRow). r.start < k.size) row rows (omega arith) below;
      signs = All-cons (λ (r : DwRow). IsTrue (sign_fits k.arch r.signed)) row rows (rw signed sign.fits) signs;
    }

rest_without : (k : FunctionContext) (s t : State) (rows : List DwRow) → (t.offset ≡ s.offset) ⊎ ((k.size ≤ s.offset) × (s.offset ≤ t.offset)) → AreRest k.arch k.size t.offset rows → AreRest k.arch k.size s.offset rows
rest_without k s t rows (inl same) h = subst (λ (n : ℕ). AreRest k.arch k.size n rows) same h
rest_without k s t rows (inr (past, le)) h = record { begins = λ lt. absurd (omega arith); rise = rise_lower s.offset t.offset rows le h.rise; below = h.below; signs = h.signs }

rest_in_front : (k : FunctionContext) (s t : State) (row : Option DwRow) (given : Result (List DwRow) MachineFault) → StateFits k s → Moves k s t row → IsRest k t.offset given → IsRest k s.offset (given >>= λ rows. Ok (with_ended row rows))
rest_in_front k s t None (Ok rows) fits moves h = rest_without k s t rows moves h
rest_in_front k s t (Some row) (Ok rows) fits moves h = rest_with k s row t.offset rows fits.sign moves.0 moves.1 moves.2 h.rise h.below h.signs
rest_in_front k s t row (Err e) fits moves h = tt

rest_then : (k : FunctionContext) (s : State) (given : Result (State × Option DwRow) MachineFault) (next : State → Result (List DwRow) MachineFault) → StateFits k s → GoesOn k s given → ((t : State) → StateFits k t → IsRest k t.offset (next t))
    → IsRest k s.offset (given >>= λ o. (next o.0 >>= λ rows. Ok (with_ended o.1 rows)))
rest_then k s (Ok (t, row)) next fits goes go = rest_in_front k s t row (next t) fits goes.moves (go t goes.fits)
rest_then k s (Err e) next fits goes go = tt

last_rest : (k : FunctionContext) (s : State) (inside : Bool) → StateFits k s → nat_lt s.offset k.size ≡ inside → AreRest k.arch k.size s.offset (with_ended (cond inside (Some (row_from s.offset s.columns)) None) [])
last_rest k s true fits e =
    let inside : s.offset < k.size = ltb-true s.offset k.size e in
    rest_with k s (row_from s.offset s.columns) (s.offset + 1) [] fits.sign refl (omega arith) inside tt (All-nil (λ (r : DwRow). r.start < k.size)) (All-nil (λ (r : DwRow). IsTrue (sign_fits k.arch r.signed)))
last_rest k s false fits e =
    let past : k.size ≤ s.offset = ltb-false s.offset k.size e in
    record { begins = λ lt. absurd (omega arith); rise = tt; below = All-nil (λ (r : DwRow). r.start < k.size); signs = All-nil (λ (r : DwRow). IsTrue (sign_fits k.arch r.signed)) }

pub rows_from_rest : (k : FunctionContext) (f : ℤ) (s : State) (items : List Item) → StateFits k s → IsRest k s.offset (rows_from k f s items)
unfolding rows_from
rows_from_rest k f s [] fits = last_rest k s (nat_lt s.offset k.size) fits refl
rows_from_rest k f s (x ∷ items) fits = rest_then k s (item_step k f x s) (λ t. rows_from k f t items) fits (item_step_goes k f x s fits) (λ t h. rows_from_rest k f t items h)

-- ---- a whole function
abbrev pub AreRowsIfOk : Arch → ℕ → Result (List DwRow) MachineFault → Type 0
AreRowsIfOk arch size (Ok rows) = AreRows arch size rows
AreRowsIfOk arch size (Err e) = Unit {0}

some_rows : (n : ℕ) (rows : List DwRow) → StartsAt n rows → 0 < length rows
some_rows n [] h = absurd h
some_rows n (r ∷ rows) h = omega arith

begin_at_zero : (size : ℕ) (rows : List DwRow) → (0 < size → StartsAt 0 rows) → All (λ (r : DwRow). r.start < size) rows → BeginAtZero rows
begin_at_zero size [] begins below = tt
begin_at_zero size (r ∷ rows) begins below =
    let first : r.start < size = below 0 r (omega arith) in
    begins (omega arith)

whole : (k : FunctionContext) (given : Result (List DwRow) MachineFault) → IsRest k 0 given → AreRowsIfOk k.arch k.size given
whole k (Ok rows) h = record {
  some = λ lt. some_rows 0 rows (h.begins lt);
  first = begin_at_zero k.size rows h.begins h.below;
  rise = h.rise;
  below = h.below;
  signs = h.signs;
}
whole k (Err e) h = tt

pub no_sign : (arch : Arch) → SignFits arch no_columns
no_sign Amd64 = record { fits = refl }
no_sign Aarch64 = record { fits = refl }

rows_from-are_rows : (arch : Arch) (code : ℕ) (f : ℤ) (size : ℕ) (initial : Columns) (cie fde : List Item) → Ok initial ≡ initial_columns arch f no_columns cie
    → AreRowsIfOk arch size (rows_from (record { arch = arch; code_alignment_factor = code; size = size; initial = initial }) f (record { columns = initial; remembered = []; offset = 0 }) fde)
rows_from-are_rows arch code f size initial cie fde e =
    let k : FunctionContext = record { arch = arch; code_alignment_factor = code; size = size; initial = initial } in
    let s : State = record { columns = initial; remembered = []; offset = 0 } in
    let sign : SignFits arch initial = subst (SignsFit arch) (sym e) (initial_columns_sign arch f no_columns cie (no_sign arch)) in
    whole k (rows_from k f s fde) (rows_from_rest k f s fde (record { sign = sign; remembered = All-nil (SignFits arch); capped = omega arith }))

then_rows : (arch : Arch) (size : ℕ) (initial : Result Columns MachineFault) (next : Columns → Result (List DwRow) MachineFault) → ((c : Columns) → initial ≡ Ok c → AreRowsIfOk arch size (next c)) → AreRowsIfOk arch size (initial >>= next)
then_rows arch size (Ok c) next go = go c refl
then_rows arch size (Err e) next go = tt

pub rows_by-are_rows : (arch : Arch) (code : ℕ) (f : ℤ) (size : ℕ) (cie fde : List Item) → AreRowsIfOk arch size (rows_by arch code f size cie fde)
rows_by-are_rows arch code f size cie fde = then_rows arch size (initial_columns arch f no_columns cie) _ (λ initial e. rows_from-are_rows arch code f size initial cie fde (sym e))

pub answers_are_rows : (arch : Arch) (size : ℕ) (answer : Result (Vec DwRow Global) MachineFault) (given : Result (List DwRow) MachineFault) → Gives (λ (v : Vec DwRow Global). v.items) answer given → AreRowsIfOk arch size given → IfOk answer (λ v. AreRows arch size v.items)
answers_are_rows arch size (Ok v) given e h = subst (AreRowsIfOk arch size) e h
answers_are_rows arch size (Err e) given f h = tt
