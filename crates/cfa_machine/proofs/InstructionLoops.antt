-- The loops over the instructions: what was given so far, and what the rest gives.
use Rattle.std.proofs.Common.{◌≡◌, ℕ, ℤ, pos, ◌*ℤ◌, List, [], ◌∷◌, ◌++◌, Option, Some, None, Result, Ok, Err, refl, ap, subst, sym, ◌∙◌}
use Rattle.std.specs.Option.{option_map}
use Rattle.sf_model.specs.declared.machine.Arch.{Arch}
use Rattle.cfa_insn.specs.declared.insns.Insns.{Insns}
use Rattle.cfa_insn.specs.Instruction.{advance_loc, def_cfa_offset, nop, offset}
use Rattle.cfa_insn.specs.Listing.{Item}
use Rattle.cfa_insn.specs.Remaining.{items_left}
use Rattle.cfa_machine.specs.declared.effect.Effect.TheVariants.{Row, Advance}
use Rattle.cfa_machine.specs.declared.effect.RowEffect.TheVariants.{SetRule, SetCfaOffset}
use Rattle.cfa_machine.specs.declared.rule.Rule.TheVariants as rule
use Rattle.cfa_machine.specs.declared.fault.MachineFault.{MachineFault}
use Rattle.cfa_machine.specs.declared.fault.MachineFault.TheVariants.{CieInstruction, StateEmpty, StateDepth, NoCfaRegister, Insn, NoMemory}
use Rattle.cfa_machine.specs.declared.columns.Columns.{Columns}
use Rattle.cfa_machine.specs.declared.machine.FunctionContext.{FunctionContext}
use Rattle.cfa_machine.specs.declared.machine.Machine.{Machine}
use Rattle.cfa_machine.specs.declared.row.DwRow.{DwRow}
use Rattle.cfa_machine.specs.Effects.{effect_by}
use Rattle.cfa_machine.specs.Left.{Follows, RunsNext, behind_row}
use Rattle.cfa_machine.specs.Pass.{◌>>=◌, State, MachineSteps, cie_item_step, initial_columns, ended, state, step, item_step, rows_from, with_ended, last_row, Fails}

-- ---- the common information entry
pub cie_goes_on : (arch : Arch) (f : ℤ) (c : Columns) (x : Item) (d : Columns) (items rest : List Item) (whole : Result Columns MachineFault) → items ≡ x ∷ rest → Ok d ≡ cie_item_step arch f x c
    → initial_columns arch f c items ≡ whole → initial_columns arch f d rest ≡ whole
unfolding initial_columns
cie_goes_on arch f c x d items rest whole next one so_far =
    let here : initial_columns arch f c items ≡ initial_columns arch f d rest = rw (next, ← one) refl in
    sym here ∙ so_far

pub cie_ends : (arch : Arch) (f : ℤ) (c : Columns) (x : Item) (e : MachineFault) (items rest : List Item) (whole : Result Columns MachineFault) → items ≡ x ∷ rest → Err e ≡ cie_item_step arch f x c
    → initial_columns arch f c items ≡ whole → Err e ≡ whole
unfolding initial_columns
cie_ends arch f c x e items rest whole next one so_far =
    let here : initial_columns arch f c items ≡ Err e = rw (next, ← one) refl in
    sym here ∙ so_far

pub cie_done : (arch : Arch) (f : ℤ) (c : Columns) (items : List Item) (whole : Result Columns MachineFault) → items ≡ [] → initial_columns arch f c items ≡ whole → Ok c ≡ whole
unfolding initial_columns
cie_done arch f c items whole none so_far =
    let here : initial_columns arch f c items ≡ Ok c = rw none refl in
    sym here ∙ so_far

-- ---- one row after another
nothing_in_front : (given : Result (List DwRow) MachineFault) → (given >>= λ rows. Ok (with_ended None rows)) ≡ given
nothing_in_front (Ok rows) = refl
nothing_in_front (Err e) = refl

pub row_comes : (k : FunctionContext) (f : ℤ) (s : State) (x : Item) (t : State) (start : ℕ) (c : Columns) (found : Option ℕ) (items rest : List Item) (whole : Result (List DwRow) MachineFault) → items ≡ x ∷ rest → item_step k f x s ≡ Ok (t, ended c found) → found ≡ Some start
    → rows_from k f s items ≡ whole → whole ≡ behind_row start c (rows_from k f t rest)
unfolding rows_from
row_comes k f s x t start c found items rest whole next one there so_far =
    let here : rows_from k f s items ≡ behind_row start c (rows_from k f t rest) = rw (next, one, there) refl in
    sym so_far ∙ here

pub no_row_comes : (k : FunctionContext) (f : ℤ) (s : State) (x : Item) (t : State) (c : Columns) (found : Option ℕ) (items rest : List Item) (whole : Result (List DwRow) MachineFault) → items ≡ x ∷ rest → item_step k f x s ≡ Ok (t, ended c found) → found ≡ None
    → rows_from k f s items ≡ whole → rows_from k f t rest ≡ whole
unfolding rows_from
no_row_comes k f s x t c found items rest whole next one there so_far =
    let here : rows_from k f s items ≡ rows_from k f t rest = rw (next, one, there) (nothing_in_front (rows_from k f t rest)) in
    sym here ∙ so_far

pub fault_comes : (k : FunctionContext) (f : ℤ) (s : State) (x : Item) (e : MachineFault) (items rest : List Item) (whole : Result (List DwRow) MachineFault) → items ≡ x ∷ rest → item_step k f x s ≡ Err e
    → rows_from k f s items ≡ whole → whole ≡ Err e
unfolding rows_from
fault_comes k f s x e items rest whole next one so_far =
    let here : rows_from k f s items ≡ Err e = rw (next, one) refl in
    sym so_far ∙ here

-- ---- the instructions that are taken straight from their bytes
pub advance_row_comes : (k : FunctionContext) (f : ℤ) (s t : State) (place n m start : ℕ) (c : Columns) (found : Option ℕ) (items rest : List Item) (whole : Result (List DwRow) MachineFault) → items ≡ Ok (place, advance_loc n) ∷ rest → m ≡ n → step k place (Advance m) s ≡ Ok (t, ended c found) → found ≡ Some start
    → rows_from k f s items ≡ whole → whole ≡ behind_row start c (rows_from k f t rest)
unfolding effect_by
advance_row_comes k f s t place n m start c found items rest whole next same one there so_far =
    row_comes k f s (Ok (place, advance_loc n)) t start c found items rest whole next (subst (λ (d : ℕ). step k place (Advance d) s ≡ Ok (t, ended c found)) same one) there so_far

pub advance_no_row_comes : (k : FunctionContext) (f : ℤ) (s t : State) (place n m : ℕ) (c : Columns) (found : Option ℕ) (items rest : List Item) (whole : Result (List DwRow) MachineFault) → items ≡ Ok (place, advance_loc n) ∷ rest → m ≡ n → step k place (Advance m) s ≡ Ok (t, ended c found) → found ≡ None
    → rows_from k f s items ≡ whole → rows_from k f t rest ≡ whole
unfolding effect_by
advance_no_row_comes k f s t place n m c found items rest whole next same one there so_far =
    no_row_comes k f s (Ok (place, advance_loc n)) t c found items rest whole next (subst (λ (d : ℕ). step k place (Advance d) s ≡ Ok (t, ended c found)) same one) there so_far

pub cfa_moves : (k : FunctionContext) (f : ℤ) (s t : State) (place given n : ℕ) (items rest : List Item) (whole : Result (List DwRow) MachineFault) → items ≡ Ok (place, def_cfa_offset n) ∷ rest → given ≡ place → step k given (Row (SetCfaOffset (pos n))) s ≡ Ok (t, None)
    → rows_from k f s items ≡ whole → rows_from k f t rest ≡ whole
unfolding effect_by
cfa_moves k f s t place given n items rest whole next same one so_far =
    no_row_comes k f s (Ok (place, def_cfa_offset n)) t t.columns None items rest whole next (subst (λ (p : ℕ). step k p (Row (SetCfaOffset (pos n))) s ≡ Ok (t, None)) same one) refl so_far

pub cfa_fault_comes : (k : FunctionContext) (f : ℤ) (s : State) (place given n : ℕ) (e : MachineFault) (items rest : List Item) (whole : Result (List DwRow) MachineFault) → items ≡ Ok (place, def_cfa_offset n) ∷ rest → given ≡ place → step k given (Row (SetCfaOffset (pos n))) s ≡ Err e
    → rows_from k f s items ≡ whole → whole ≡ Err e
unfolding effect_by
cfa_fault_comes k f s place given n e items rest whole next same one so_far =
    fault_comes k f s (Ok (place, def_cfa_offset n)) e items rest whole next (subst (λ (p : ℕ). step k p (Row (SetCfaOffset (pos n))) s ≡ Err e) same one) so_far

pub register_saved : (k : FunctionContext) (f : ℤ) (s t : State) (place r n : ℕ) (items rest : List Item) (whole : Result (List DwRow) MachineFault) → items ≡ Ok (place, offset r n) ∷ rest → step k place (Row (SetRule r (rule.Offset (pos n *ℤ f)))) s ≡ Ok (t, None)
    → rows_from k f s items ≡ whole → rows_from k f t rest ≡ whole
unfolding effect_by
register_saved k f s t place r n items rest whole next one so_far = no_row_comes k f s (Ok (place, offset r n)) t t.columns None items rest whole next one refl so_far

pub nothing_done : (k : FunctionContext) (f : ℤ) (s : State) (place : ℕ) (items rest : List Item) (whole : Result (List DwRow) MachineFault) → items ≡ Ok (place, nop) ∷ rest
    → rows_from k f s items ≡ whole → rows_from k f s rest ≡ whole
unfolding effect_by
nothing_done k f s place items rest whole next so_far = no_row_comes k f s (Ok (place, nop)) s s.columns None items rest whole next refl refl so_far

-- the place that was given is that of the instruction
abbrev place_or : ℕ → Option (ℕ × ℕ) → ℕ
place_or place None = place
place_or place (Some x) = x.0

pub place_given : (place other n : ℕ) (front : Option ℕ) → ◌≡◌ {A = Option (ℕ × ℕ)} (Some (other, n)) (option_map (λ m. (place, m)) front) → other ≡ place
place_given place other n None e = absurd cc
place_given place other n (Some m) e = ap (place_or place) e

-- where it wasn't next, nothing was taken
pub same_left : (a b : Insns) → b ≡ a → items_left a ≡ items_left b
same_left a b p = ap items_left (sym p)

pub none_taken : (a b c d e : Insns) → b ≡ a → c ≡ b → d ≡ c → e ≡ d → items_left a ≡ items_left e
none_taken a b c d e p q r s = same_left a e (s ∙ r ∙ q ∙ p)

pub end_comes : (k : FunctionContext) (f : ℤ) (s : State) (items : List Item) (whole : Result (List DwRow) MachineFault) → items ≡ []
    → rows_from k f s items ≡ whole → whole ≡ Ok (with_ended (last_row k.size s) [])
unfolding rows_from
end_comes k f s items whole none so_far =
    let here : rows_from k f s items ≡ Ok (with_ended (last_row k.size s) []) = rw none refl in
    sym so_far ∙ here

-- ---- any next instruction
pub next_row_comes : (k : FunctionContext) (f : ℤ) (old new : Machine) (answer : Result (Option ℕ) MachineFault) (found : Option ℕ) (start : ℕ) (items before after : List Item) (whole : Result (List DwRow) MachineFault) → items ≡ before → RunsNext k f old new (Some answer) before after → answer ≡ Ok found → found ≡ Some start
    → rows_from k f (state old) items ≡ whole → whole ≡ behind_row start new.columns (rows_from k f (state new) after)
next_row_comes k f old new answer found start items before after whole same h is there so_far =
    let ran = subst (λ r. MachineSteps new r (item_step k f h.0 (state old))) is h.2 in
    row_comes k f (state old) h.0 (state new) start new.columns found items after whole (same ∙ h.1) ran there so_far

pub next_gives_no_row : (k : FunctionContext) (f : ℤ) (old new : Machine) (answer : Result (Option ℕ) MachineFault) (found : Option ℕ) (items before after : List Item) (whole : Result (List DwRow) MachineFault) → items ≡ before → RunsNext k f old new (Some answer) before after → answer ≡ Ok found → found ≡ None
    → rows_from k f (state old) items ≡ whole → rows_from k f (state new) after ≡ whole
next_gives_no_row k f old new answer found items before after whole same h is there so_far =
    let ran = subst (λ r. MachineSteps new r (item_step k f h.0 (state old))) is h.2 in
    no_row_comes k f (state old) h.0 (state new) new.columns found items after whole (same ∙ h.1) ran there so_far

pub next_fault_comes : (k : FunctionContext) (f : ℤ) (old new : Machine) (answer : Result (Option ℕ) MachineFault) (e : MachineFault) (items before after : List Item) (whole : Result (List DwRow) MachineFault) → items ≡ before → RunsNext k f old new (Some answer) before after → answer ≡ Err e
    → rows_from k f (state old) items ≡ whole → whole ≡ Err e
next_fault_comes k f old new answer e items before after whole same h is so_far =
    let ran = subst (λ r. MachineSteps new r (item_step k f h.0 (state old))) is h.2 in
    fault_comes k f (state old) h.0 e items after whole (same ∙ h.1) ran so_far

pub none_is_next : (k : FunctionContext) (f : ℤ) (old new : Machine) (items before after : List Item) (whole : Result (List DwRow) MachineFault) → items ≡ before → RunsNext k f old new None before after
    → rows_from k f (state old) items ≡ whole → whole ≡ Ok (with_ended (last_row k.size (state new)) [])
none_is_next k f old new items before after whole same h so_far = rw h.2 (end_comes k f (state old) items whole (same ∙ h.0) so_far)

-- what a call for the next row returned
pub row_follows : (c : Columns) (found : Option ℕ) (start : ℕ) (left after : Result (List DwRow) MachineFault) → found ≡ Some start → Follows c (Ok found) left after → left ≡ behind_row start c after
row_follows c found start left after there h = subst (λ (x : Option ℕ). Follows c (Ok x) left after) there h

pub none_follows : (c : Columns) (found : Option ℕ) (left after : Result (List DwRow) MachineFault) → found ≡ None → Follows c (Ok found) left after → left ≡ Ok []
none_follows c found left after there h = subst (λ (x : Option ℕ). Follows c (Ok x) left after) there h

-- ---- the list of all rows
-- rows that were given before the others
abbrev pub after_rows : List DwRow → Result (List DwRow) MachineFault → Result (List DwRow) MachineFault
after_rows before given = given >>= λ rows. Ok (before ++ rows)

-- a fault is the definition's, or memory was wanting
pub fails : {Y : Type 0} (e : MachineFault) (given : Result Y MachineFault) → given ≡ Err e → Fails e given
fails (CieInstruction p) given h = h
fails (StateEmpty p) given h = h
fails (StateDepth p) given h = h
fails (NoCfaRegister p) given h = h
fails (Insn p) given h = h
fails NoMemory given h = tt
