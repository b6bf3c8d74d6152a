-- The rules of a function that has one row (DWARF 5, section 6.4.2). The latest rule that was given counts.
use Rattle.std.specs.Prelude.{◌≡◌, ℕ, ◌==◌, Bool, true, false, List, [], ◌∷◌, Option, Some, None, if◌then◌else◌, ⊤}
use Rattle.std.specs.Option.{option_map, option_or}
use Rattle.cfa_insn.specs.Instruction.{Instruction, advance_loc, offset, restore, nop, advance_loc_n, offset_extended, restore_extended, undefined, same_value, in_register, remember_state, restore_state, def_cfa, def_cfa_register, def_cfa_offset, def_cfa_expression, expression, offset_extended_sf, def_cfa_sf, def_cfa_offset_sf, val_offset, val_offset_sf, val_expression, negate_ra_state, args_size}
use Rattle.signal_frames.specs.declared.change.Column.{Column}
use Rattle.signal_frames.specs.declared.change.Column.TheVariants.{Cfa, Register}
use Rattle.signal_frames.specs.declared.change.Rule.{Rule as LentRule}
use Rattle.signal_frames.specs.declared.change.Rule.TheVariants as lent_rule
use Rattle.signal_frames.specs.declared.change.Change.{Change as LentChange}
use Rattle.signal_frames.specs.declared.change.Change.TheVariants as lent_change
use Rattle.signal_frames.specs.declared.rules.Rules.{Rules}

-- a rule: that of DW_CFA_def_cfa_expression or DW_CFA_expression, with the expression's bytes, or any other
pub data Rule : Type 0 where
  Expression : (bytes : List ℕ) → Rule
  Other : Rule

-- what an instruction does: nothing to the rules; it gives the canonical frame address or a register a rule; or the function has another
-- row, since one begins there, or since rules of another row come back
pub data Change : Type 0 where
  Nothing : Change
  Gives : Column → Rule → Change
  AnotherRow : Change

-- what each instruction does
unfoldable pub change_by : Instruction → Change
-- section 6.4.2.1, row creation: DW_CFA_advance_loc, DW_CFA_advance_loc1, DW_CFA_advance_loc2, DW_CFA_advance_loc4
change_by (advance_loc n) = AnotherRow
change_by (advance_loc_n n) = AnotherRow
-- section 6.4.2.2, the canonical frame address
change_by (def_cfa r n) = Gives Cfa Other
change_by (def_cfa_sf r z) = Gives Cfa Other
change_by (def_cfa_register r) = Gives Cfa Other
change_by (def_cfa_offset n) = Gives Cfa Other
change_by (def_cfa_offset_sf z) = Gives Cfa Other
change_by (def_cfa_expression bytes) = Gives Cfa (Expression bytes)
-- section 6.4.2.3, register rules
change_by (undefined r) = Gives (Register r) Other
change_by (same_value r) = Gives (Register r) Other
change_by (offset r n) = Gives (Register r) Other
change_by (offset_extended r n) = Gives (Register r) Other
change_by (offset_extended_sf r z) = Gives (Register r) Other
change_by (val_offset r n) = Gives (Register r) Other
change_by (val_offset_sf r z) = Gives (Register r) Other
change_by (in_register r q) = Gives (Register r) Other
change_by (expression r bytes) = Gives (Register r) (Expression bytes)
change_by (val_expression r bytes) = Gives (Register r) Other
change_by (restore r) = AnotherRow
change_by (restore_extended r) = AnotherRow
-- section 6.4.2.4, row state, and the sign state of AArch64
change_by remember_state = AnotherRow
change_by restore_state = AnotherRow
change_by negate_ra_state = AnotherRow
-- section 6.4.2.5, padding, and DW_CFA_GNU_args_size
change_by nop = Nothing
change_by (args_size n) = Nothing

-- the function's row stays the only one
abbrev pub keeps_row : Change → Bool
keeps_row Nothing = true
keeps_row (Gives column rule) = true
keeps_row AnotherRow = false

-- two columns are the same
abbrev pub is_column : Column → Column → Bool
is_column Cfa Cfa = true
is_column Cfa (Register r) = false
is_column (Register q) Cfa = false
is_column (Register q) (Register r) = q == r

-- the rule that a change gives a column
abbrev pub given_to : Column → Change → Option Rule
given_to column Nothing = None
given_to column (Gives other rule) = if is_column column other then Some rule else None
given_to column AnotherRow = None

-- the latest rule that instructions with their places give a column
abbrev pub latest : Column → List (ℕ × Instruction) → Option Rule
latest column [] = None
latest column (x ∷ later) = option_or (latest column later) (given_to column (change_by x.1))

-- the function's row stays the only one after all of the instructions
abbrev pub HaveOneRow : List (ℕ × Instruction) → Type 0
HaveOneRow [] = ⊤
HaveOneRow (x ∷ later) = (keeps_row (change_by x.1) ≡ true) × HaveOneRow later

-- ---- as the code has them
-- a lent rule, apart from where its bytes are in memory
abbrev pub rule_view : LentRule → Rule
rule_view (lent_rule.Expression bytes) = Expression bytes.now
rule_view lent_rule.Other = Other

-- the same of a lent change
abbrev pub change_view : LentChange → Change
change_view lent_change.Nothing = Nothing
change_view (lent_change.Gives column rule) = Gives column (rule_view rule)
change_view lent_change.AnotherRow = AnotherRow

-- the rules of the four columns that a signal frame needs
pub record RulesView : Type 0 where
  pub cfa : Option Rule
  pub return_address : Option Rule
  pub frame_pointer : Option Rule
  pub stack_pointer : Option Rule

-- lent rules, apart from where their bytes are in memory
abbrev pub rules_view : Rules → RulesView
rules_view rules = record {
  cfa = option_map rule_view rules.cfa;
  return_address = option_map rule_view rules.return_address;
  frame_pointer = option_map rule_view rules.frame_pointer;
  stack_pointer = option_map rule_view rules.stack_pointer;
}
