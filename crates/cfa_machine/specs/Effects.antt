-- What call frame instructions do (DWARF 5, section 6.4.2). `f` is the data alignment factor; products are
-- plain integers.
use Rattle.std.specs.Prelude.{ℤ, pos, ◌*ℤ◌}
use Rattle.cfa_insn.specs.Instruction.{Instruction, advance_loc, offset, restore, nop, advance_loc_n, offset_extended, restore_extended, undefined, same_value, in_register, remember_state, restore_state, def_cfa, def_cfa_register, def_cfa_offset, def_cfa_expression, expression, offset_extended_sf, def_cfa_sf, def_cfa_offset_sf, val_offset, val_offset_sf, val_expression, negate_ra_state, args_size}
use Rattle.cfa_machine.specs.declared.rule.CfaRule.TheVariants as cfa
use Rattle.cfa_machine.specs.declared.rule.Rule.TheVariants as rule
use Rattle.cfa_machine.specs.declared.effect.RowEffect.TheVariants.{Nothing, SetRule, SetCfa, SetCfaRegister, SetCfaOffset, NegateSign}
use Rattle.cfa_machine.specs.declared.effect.Effect.{Effect}
use Rattle.cfa_machine.specs.declared.effect.Effect.TheVariants.{Row, Advance, Restore, Remember, Recall}

-- the effect of an instruction
unfoldable pub effect_by : ℤ → Instruction → Effect
-- DW_CFA_advance_loc
effect_by f (advance_loc n) = Advance n
-- DW_CFA_offset
effect_by f (offset r n) = Row (SetRule r (rule.Offset (pos n *ℤ f)))
-- DW_CFA_restore
effect_by f (restore r) = Restore r
-- DW_CFA_nop
effect_by f nop = Row Nothing
-- DW_CFA_advance_loc1, DW_CFA_advance_loc2, DW_CFA_advance_loc4
effect_by f (advance_loc_n n) = Advance n
-- DW_CFA_offset_extended
effect_by f (offset_extended r n) = Row (SetRule r (rule.Offset (pos n *ℤ f)))
-- DW_CFA_restore_extended
effect_by f (restore_extended r) = Restore r
-- DW_CFA_undefined
effect_by f (undefined r) = Row (SetRule r rule.Undefined)
-- DW_CFA_same_value
effect_by f (same_value r) = Row (SetRule r rule.Same)
-- DW_CFA_register
effect_by f (in_register r q) = Row (SetRule r (rule.Register q))
-- DW_CFA_remember_state
effect_by f remember_state = Remember
-- DW_CFA_restore_state
effect_by f restore_state = Recall
-- DW_CFA_def_cfa
effect_by f (def_cfa r n) = Row (SetCfa (cfa.Reg r (pos n)))
-- DW_CFA_def_cfa_register
effect_by f (def_cfa_register r) = Row (SetCfaRegister r)
-- DW_CFA_def_cfa_offset
effect_by f (def_cfa_offset n) = Row (SetCfaOffset (pos n))
-- DW_CFA_def_cfa_expression
effect_by f (def_cfa_expression b) = Row (SetCfa cfa.Expression)
-- DW_CFA_expression
effect_by f (expression r b) = Row (SetRule r rule.Expression)
-- DW_CFA_offset_extended_sf
effect_by f (offset_extended_sf r z) = Row (SetRule r (rule.Offset (z *ℤ f)))
-- DW_CFA_def_cfa_sf
effect_by f (def_cfa_sf r z) = Row (SetCfa (cfa.Reg r (z *ℤ f)))
-- DW_CFA_def_cfa_offset_sf
effect_by f (def_cfa_offset_sf z) = Row (SetCfaOffset (z *ℤ f))
-- DW_CFA_val_offset
effect_by f (val_offset r n) = Row (SetRule r (rule.ValOffset (pos n *ℤ f)))
-- DW_CFA_val_offset_sf
effect_by f (val_offset_sf r z) = Row (SetRule r (rule.ValOffset (z *ℤ f)))
-- DW_CFA_val_expression
effect_by f (val_expression r b) = Row (SetRule r rule.ValExpression)
-- DW_CFA_AARCH64_negate_ra_state
effect_by f negate_ra_state = Row NegateSign
-- DW_CFA_GNU_args_size
effect_by f (args_size n) = Row Nothing
