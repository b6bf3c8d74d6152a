-- The latest rules that instructions give are those of the row that they give.
use Rattle.std.specs.Prelude.{◌==◌, ⊤}
use Rattle.std.specs.Option.{option_or}
use Rattle.std.proofs.Common.{◌≡◌, ◌⊎◌, inl, inr, ℕ, ℤ, Bool, true, false, cond, List, [], ◌∷◌, ◌++◌, Option, Some, None, Ok, Err, refl, sym, ap, subst, ◌∙◌, nat_lt, arith}
use Rattle.std.proofs.lemmas.Bool.{eq-eqb, eqb-true, false_from_ne_true, le-ltb}
use Rattle.sf_model.specs.declared.facts.FdeFacts.{FdeFacts}
use Rattle.sf_model.specs.declared.machine.Arch.{Arch}
use Rattle.sf_model.specs.declared.machine.Arch.TheVariants.{Amd64}
use Rattle.cfa_insn.specs.Instruction.{Instruction, advance_loc, offset, restore, nop, advance_loc_n, offset_extended, restore_extended, undefined, same_value, in_register, remember_state, restore_state, def_cfa, def_cfa_register, def_cfa_offset, def_cfa_expression, expression, offset_extended_sf, def_cfa_sf, def_cfa_offset_sf, val_offset, val_offset_sf, val_expression, negate_ra_state, args_size}
use Rattle.cfa_insn.specs.Listing.{Item}
use Rattle.cfa_machine.specs.declared.effect.Effect.{Effect}
use Rattle.cfa_machine.specs.declared.effect.Effect.TheVariants.{Row}
use Rattle.cfa_machine.specs.declared.effect.RowEffect.{RowEffect}
use Rattle.cfa_machine.specs.declared.effect.RowEffect.TheVariants as change
use Rattle.cfa_machine.specs.declared.rule.CfaRule.TheVariants as cfa
use Rattle.cfa_machine.specs.declared.rule.Rule.{Rule as RegisterRule}
use Rattle.cfa_machine.specs.declared.rule.Rule.TheVariants as rule
use Rattle.cfa_machine.specs.Effects.{effect_by}
use Rattle.cfa_machine.specs.FullRow.{FullRow, no_row, row_after, rule_of}
use Rattle.cfa_machine.specs.Registers.{frame_pointer, return_address, stack_pointer}
use Rattle.cfa_machine.specs.RowAtOffset.{UnwindState, after_instruction, initial_by, offset_behind, row_at_offset, row_defined, state_before}
use Rattle.signal_frames.specs.declared.change.Column.TheVariants.{Cfa, Register}
use Rattle.signal_frames.specs.declared.frame.SignalFrame.{SignalFrame}
use Rattle.signal_frames.specs.Row.{HasExpressions}
use Rattle.signal_frames.specs.Rules.{AnotherRow, Change, Expression, Gives, HaveOneRow, Nothing, Other, Rule, change_by, given_to, keeps_row, latest}
use Rattle.signal_frames.specs.SignalFrame.{AreRead, IsFrameAddress, IsSavedAt, IsSignalFrame, IsValueAt}

-- ---- one instruction
-- the effect leaves the rules of registers
abbrev KeepsRules : RowEffect → Type 0
KeepsRules new = (r : FullRow) → (row_after new r).rules ≡ r.rules

-- what a change of a rule does to a row
abbrev Does : Change → Effect → Type 0
Does Nothing e = e ≡ Row change.Nothing
Does (Gives Cfa (Expression bytes)) e = e ≡ Row (change.SetCfa cfa.Expression)
Does (Gives Cfa Other) e = (new : RowEffect) × KeepsRules new × (e ≡ Row new)
Does (Gives (Register r) (Expression bytes)) e = e ≡ Row (change.SetRule r rule.Expression)
Does (Gives (Register r) Other) e = (new : RegisterRule) × (e ≡ Row (change.SetRule r new))
Does AnotherRow e = ⊤

does : (f : ℤ) (i : Instruction) → Does (change_by i) (effect_by f i)
unfolding change_by effect_by
does f (advance_loc n) = tt
does f (advance_loc_n n) = tt
does f (def_cfa r n) = (_, (λ x. refl), refl)
does f (def_cfa_sf r z) = (_, (λ x. refl), refl)
does f (def_cfa_register r) = (_, (λ x. refl), refl)
does f (def_cfa_offset n) = (_, (λ x. refl), refl)
does f (def_cfa_offset_sf z) = (_, (λ x. refl), refl)
does f (def_cfa_expression bytes) = refl
does f (undefined r) = (_, refl)
does f (same_value r) = (_, refl)
does f (offset r n) = (_, refl)
does f (offset_extended r n) = (_, refl)
does f (offset_extended_sf r z) = (_, refl)
does f (val_offset r n) = (_, refl)
does f (val_offset_sf r z) = (_, refl)
does f (in_register r q) = (_, refl)
does f (expression r bytes) = refl
does f (val_expression r bytes) = (_, refl)
does f (restore r) = tt
does f (restore_extended r) = tt
does f remember_state = tt
does f restore_state = tt
does f negate_ra_state = tt
does f nop = refl
does f (args_size n) = refl

-- a change that leaves the row the only one changes the row
on_row : (c : Change) (e : Effect) → Does c e → keeps_row c ≡ true → (new : RowEffect) × (e ≡ Row new)
on_row Nothing e d k = (_, d)
on_row (Gives Cfa (Expression bytes)) e d k = (_, d)
on_row (Gives Cfa Other) e d k = (d.0, d.2)
on_row (Gives (Register r) (Expression bytes)) e d k = (_, d)
on_row (Gives (Register r) Other) e d k = (_, d.1)
on_row AnotherRow e d k = absurd (let no : false ≡ true = k in cc)

-- ---- the row of a function with one row
-- the row after instructions
abbrev after : ℤ → FullRow → List (ℕ × Instruction) → FullRow
after f r [] = r
after f r (x ∷ is) = after f (row_defined (effect_by f x.1) r) is

none_below : (o : ℕ) → nat_lt o 0 ≡ false
none_below o = le-ltb o 0 (omega arith)

one_step : (initial : FullRow) (code : ℕ) (f : ℤ) (o : ℕ) (s : UnwindState) (items : List Item) (e : Effect) (new : RowEffect) → e ≡ Row new
    → cond (nat_lt o (offset_behind code e 0)) s (state_before initial code f o (offset_behind code e 0) (after_instruction initial e s) items)
    ≡ state_before initial code f o 0 (record { row = row_defined e s.row; remembered = s.remembered }) items
one_step initial code f o s items e new is =
    subst (λ (x : Effect). cond (nat_lt o (offset_behind code x 0)) s (state_before initial code f o (offset_behind code x 0) (after_instruction initial x s) items)
    ≡ state_before initial code f o 0 (record { row = row_defined x s.row; remembered = s.remembered }) items) (sym is)
    (ap (λ (b : Bool). cond b s (state_before initial code f o 0 (record { row = row_after new s.row; remembered = s.remembered }) items)) (none_below o))

own_is : (initial : FullRow) (code : ℕ) (f : ℤ) (o : ℕ) (s : UnwindState) (items : List Item) (is : List (ℕ × Instruction)) → AreRead items is → HaveOneRow is → (state_before initial code f o 0 s items).row ≡ after f s.row is
unfolding state_before
own_is initial code f o s [] [] are one = refl
own_is initial code f o s [] (x ∷ is) are one = absurd are
own_is initial code f o s (item ∷ items) [] are one = absurd are
own_is initial code f o s (Err e ∷ items) (x ∷ is) are one = absurd (let no : Err e ≡ Ok x = are.0 in cc)
own_is initial code f o s (Ok (place, i) ∷ items) (x ∷ is) are one =
    let read = are.0 in
    let same : (place, i) ≡ x = cc in
    let keeps : keeps_row (change_by i) ≡ true = subst (λ (y : ℕ × Instruction). keeps_row (change_by y.1) ≡ true) (sym same) one.0 in
    let new = on_row (change_by i) (effect_by f i) (does f i) keeps in
    ap (λ (t : UnwindState). t.row) (one_step initial code f o s items (effect_by f i) new.0 new.1)
    ∙ own_is initial code f o (record { row = row_defined (effect_by f i) s.row; remembered = s.remembered }) items is are.1 one.1
    ∙ ap (λ (y : ℕ × Instruction). after f (row_defined (effect_by f y.1) s.row) is) same

row_is : (code : ℕ) (f : ℤ) (o : ℕ) (r : FullRow) (initial own : List Item) (is : List (ℕ × Instruction)) → AreRead (initial ++ own) is → HaveOneRow is
    → (state_before (initial_by f r initial) code f o 0 (record { row = initial_by f r initial; remembered = [] }) own).row ≡ after f r is
unfolding initial_by
row_is code f o r [] own is are one = own_is r code f o (record { row = r; remembered = [] }) own is are one
row_is code f o r (item ∷ initial) own [] are one = absurd are
row_is code f o r (Err e ∷ initial) own (x ∷ is) are one = absurd (let no : Err e ≡ Ok x = are.0 in cc)
row_is code f o r (Ok (place, i) ∷ initial) own (x ∷ is) are one =
    let read = are.0 in
    let same : (place, i) ≡ x = cc in
    row_is code f o (row_defined (effect_by f i) r) initial own is are.1 one.1 ∙ ap (λ (y : ℕ × Instruction). after f (row_defined (effect_by f y.1) r) is) same

-- ---- the rules of the row
-- what a latest rule says of a rule of the row, which was another one before
abbrev Says : {X : Type 0} → (by_expression : X) → Option Rule → (before now : X) → Type 0
Says by_expression None before now = now ≡ before
Says by_expression (Some (Expression bytes)) before now = now ≡ by_expression
Says by_expression (Some Other) before now = ⊤

both_say : {X : Type 0} (x : X) (later first : Option Rule) (before between now : X) → Says x first before between → Says x later between now → Says x (option_or later first) before now
both_say x None None before between now h k = k ∙ h
both_say x None (Some (Expression bytes)) before between now h k = k ∙ h
both_say x None (Some Other) before between now h k = tt
both_say x (Some (Expression bytes)) first before between now h k = k
both_say x (Some Other) first before between now h k = tt

-- of the canonical frame address
cfa_by : (r : FullRow) (c : Change) (e : Effect) → Does c e → keeps_row c ≡ true → Says cfa.Expression (given_to Cfa c) r.cfa (row_defined e r).cfa
cfa_by r Nothing e d k = ap (λ (x : Effect). (row_defined x r).cfa) d
cfa_by r (Gives Cfa (Expression bytes)) e d k = ap (λ (x : Effect). (row_defined x r).cfa) d
cfa_by r (Gives Cfa Other) e d k = tt
cfa_by r (Gives (Register q) (Expression bytes)) e d k = ap (λ (x : Effect). (row_defined x r).cfa) d
cfa_by r (Gives (Register q) Other) e d k = ap (λ (x : Effect). (row_defined x r).cfa) d.1
cfa_by r AnotherRow e d k = absurd (let no : false ≡ true = k in cc)

cfa_says : (f : ℤ) (r : FullRow) (is : List (ℕ × Instruction)) → HaveOneRow is → Says cfa.Expression (latest Cfa is) r.cfa (after f r is).cfa
cfa_says f r [] one = refl
cfa_says f r (x ∷ is) one =
    let next = row_defined (effect_by f x.1) r in
    both_say cfa.Expression (latest Cfa is) (given_to Cfa (change_by x.1)) r.cfa next.cfa (after f next is).cfa
    (cfa_by r (change_by x.1) (effect_by f x.1) (does f x.1) one.0) (cfa_says f next is one.1)

-- of a register
same_number : (q r : ℕ) (b : Bool) → (q == r) ≡ b → (r == q) ≡ b
same_number q r true e = eq-eqb r q (sym (eqb-true q r e))
same_number q r false e = false_from_ne_true (r == q) (λ h. let same = eqb-true r q h in let no : false ≡ true = sym e ∙ eq-eqb q r (sym same) in cc)

set_says : (q r : ℕ) (given : Rule) (new before : RegisterRule) → Says rule.Expression (Some given) before new
    → Says rule.Expression (cond (q == r) (Some given) None) before (cond (r == q) new before)
set_says q r given new before h = at_test (q == r) refl
  where
    by_test : (b : Bool) → Says rule.Expression (cond b (Some given) None) before (cond b new before)
    by_test true = h
    by_test false = refl

    at_test : (b : Bool) → (q == r) ≡ b → Says rule.Expression (cond (q == r) (Some given) None) before (cond (r == q) new before)
    at_test b e =
        subst (λ (t : Bool). Says rule.Expression (cond t (Some given) None) before (cond (r == q) new before)) (sym e)
        (subst (λ (t : Bool). Says rule.Expression (cond b (Some given) None) before (cond t new before)) (sym (same_number q r b e)) (by_test b))

rule_by : (q : ℕ) (r : FullRow) (c : Change) (e : Effect) → Does c e → keeps_row c ≡ true → Says rule.Expression (given_to (Register q) c) (rule_of q r.rules) (rule_of q (row_defined e r).rules)
rule_by q r Nothing e d k = ap (λ (x : Effect). rule_of q (row_defined x r).rules) d
rule_by q r (Gives Cfa (Expression bytes)) e d k = ap (λ (x : Effect). rule_of q (row_defined x r).rules) d
rule_by q r (Gives Cfa Other) e d k = ap (λ (x : Effect). rule_of q (row_defined x r).rules) d.2 ∙ ap (rule_of q) (d.1 r)
rule_by q r (Gives (Register n) (Expression bytes)) e d k =
    subst (λ (x : Effect). Says rule.Expression (given_to (Register q) (Gives (Register n) (Expression bytes))) (rule_of q r.rules) (rule_of q (row_defined x r).rules)) (sym d)
    (set_says q n (Expression bytes) rule.Expression (rule_of q r.rules) refl)
rule_by q r (Gives (Register n) Other) e d k =
    subst (λ (x : Effect). Says rule.Expression (given_to (Register q) (Gives (Register n) Other)) (rule_of q r.rules) (rule_of q (row_defined x r).rules)) (sym d.1)
    (set_says q n Other d.0 (rule_of q r.rules) tt)
rule_by q r AnotherRow e d k = absurd (let no : false ≡ true = k in cc)

rule_says : (q : ℕ) (f : ℤ) (r : FullRow) (is : List (ℕ × Instruction)) → HaveOneRow is → Says rule.Expression (latest (Register q) is) (rule_of q r.rules) (rule_of q (after f r is).rules)
rule_says q f r [] one = refl
rule_says q f r (x ∷ is) one =
    let next = row_defined (effect_by f x.1) r in
    both_say rule.Expression (latest (Register q) is) (given_to (Register q) (change_by x.1)) (rule_of q r.rules) (rule_of q next.rules) (rule_of q (after f next is).rules)
    (rule_by q r (change_by x.1) (effect_by f x.1) (does f x.1) one.0) (rule_says q f next is one.1)

-- ---- the rules of a signal frame
of_value : {X : Type 0} (x : X) (constant : ℤ) (o : Option Rule) (before now : X) → IsValueAt constant o → Says x o before now → now ≡ x
of_value x constant (Some (Expression bytes)) before now h s = s
of_value x constant (Some Other) before now h s = absurd h
of_value x constant None before now h s = absurd h

of_saved : {X : Type 0} (x : X) (constant : ℤ) (o : Option Rule) (before now : X) → IsSavedAt constant o → Says x o before now → now ≡ x
of_saved x constant (Some (Expression bytes)) before now h s = s
of_saved x constant (Some Other) before now h s = absurd h
of_saved x constant None before now h s = absurd h

of_frame : {X : Type 0} (x : X) (constant : ℤ) (o : Option Rule) (before now : X) → IsFrameAddress constant o → Says x o before now → (now ≡ before) ⊎ (now ≡ x)
of_frame x constant None before now h s = inl s
of_frame x constant (Some given) before now h s = inr (of_saved x constant (Some given) before now h s)

pub has_expressions : (arch : Arch) (facts : FdeFacts) (initial own : List Item) (f : SignalFrame) → IsSignalFrame arch facts initial own f → (code : ℕ) (factor : ℤ) (o : ℕ) → HasExpressions (row_at_offset code factor initial own o)
has_expressions arch facts initial own f h code factor o =
    let is = h.instructions in
    let now = after factor no_row is in
    let one = h.one_row in
    let same : row_at_offset code factor initial own o ≡ now = row_is code factor o no_row initial own is h.are one in
    let constants = h.constants in
    subst HasExpressions (sym same)
    (record {
      cfa = of_value cfa.Expression f.frame_address (latest Cfa is) cfa.Missing now.cfa constants.frame_address (cfa_says factor no_row is one);
      return_address = of_saved rule.Expression f.return_address (latest (Register (return_address Amd64)) is) rule.Missing (rule_of (return_address Amd64) now.rules) constants.return_address (rule_says (return_address Amd64) factor no_row is one);
      frame_pointer = of_saved rule.Expression f.frame_pointer (latest (Register (frame_pointer Amd64)) is) rule.Missing (rule_of (frame_pointer Amd64) now.rules) constants.frame_pointer (rule_says (frame_pointer Amd64) factor no_row is one);
      stack_pointer = of_frame rule.Expression f.frame_address (latest (Register (stack_pointer Amd64)) is) rule.Missing (rule_of (stack_pointer Amd64) now.rules) constants.stack_pointer (rule_says (stack_pointer Amd64) factor no_row is one);
    })
