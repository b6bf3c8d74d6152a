-- The plain lazy procedure linkage table of AMD64: the functions that are one, and what is recovered in them (DWARF 5, section 6.4).
-- The text of its instructions is this project's own choice; no claim is made about the linkers that write it.
use Rattle.std.specs.Prelude.{◌+◌, ◌-◌, ◌%◌, ◌==◌, ◌&&◌, ℕ, Bool, true, false, is_none, not, nat_lt, bytes_eq, List, [], ◌∷◌, Option, Some, None, Result, Ok, Err}
use Rattle.std.specs.List.{filter}
use Rattle.sf_model.specs.declared.content.Content.{Content}
use Rattle.sf_model.specs.declared.machine.Arch.{Arch}
use Rattle.sf_model.specs.declared.machine.Arch.TheVariants.{Amd64, Aarch64}
use Rattle.sf_model.specs.declared.machine.Base.TheVariants.{Sp}
use Rattle.sf_model.specs.declared.omission.Reason.{Reason}
use Rattle.sf_model.specs.declared.recovery.Regs.{Regs}
use Rattle.sf_model.specs.Memory.{Region}
use Rattle.cfa_insn.specs.Instruction.{advance_loc, nop, def_cfa_offset, def_cfa_expression}
use Rattle.cfa_insn.specs.Listing.{Item}
use Rattle.cfa_machine.specs.declared.fault.MachineFault.{MachineFault}
use Rattle.cfa_machine.specs.declared.rule.CfaRule.{CfaRule}
use Rattle.cfa_machine.specs.declared.rule.CfaRule.TheVariants as cfa
use Rattle.cfa_machine.specs.RowAtOffset.{row_at_offset}
use Rattle.cfa_machine.specs.Columns.{row_from}
use Rattle.cfa_machine.specs.FirstFault.{first_fault}
use Rattle.cfa_machine.specs.FullRow.{columns_of}
use Rattle.cfa_machine.specs.Recovery.{RuleRecovery, frame_address_by, recovery_from}
use Rattle.sf_express.specs.Expressed.{reason_of, same_base}
use Rattle.sf_express.specs.Rules.{content_of}
use Rattle.frame_functions.specs.Functions.{Function}
use Rattle.frame_functions.specs.Kept.{facts_of, full_row, omitted_functions}
use Rattle.sf_plt.specs.Expression.{expression_value, plt_expression}

-- ---- the functions
-- the machine is AMD64
abbrev pub is_amd64 : Arch → Bool
is_amd64 Amd64 = true
is_amd64 Aarch64 = false

-- the item is DW_CFA_nop
abbrev pub is_nop : Item → Bool
is_nop (Ok (place, nop)) = true
is_nop (Ok (place, other)) = false
is_nop (Err fault) = false

-- the instructions without DW_CFA_nop
abbrev pub without_nops : List Item → List Item
without_nops items = filter (λ (x : Item). not (is_nop x)) items

-- the instructions are DW_CFA_def_cfa_offset 16, DW_CFA_advance_loc 6, DW_CFA_def_cfa_offset 24, DW_CFA_advance_loc 10, and
-- DW_CFA_def_cfa_expression with the one expression
abbrev pub is_plt_text : List Item → Bool
is_plt_text (Ok (p, def_cfa_offset a) ∷ Ok (q, advance_loc b) ∷ Ok (r, def_cfa_offset c) ∷ Ok (s, advance_loc d) ∷ Ok (t, def_cfa_expression e) ∷ []) =
    (a == 16) && (b == 6) && (c == 24) && (d == 10) && bytes_eq e plt_expression
is_plt_text others = false

-- the content, unless there is a fault or a reason against it
abbrev pub content_unless : Option MachineFault → Result Content Reason → Option Content
content_unless None (Ok content) = Some content
content_unless None (Err reason) = None
content_unless (Some fault) content = None

-- the content of the row before a function's own instructions, if those of its common information entry can be run and SFrame can
-- express it
unfoldable pub initial_content : Function → Option Content
initial_content f =
    content_unless (first_fault f.arch f.factor f.initial [])
    (content_of f.arch (row_from 0 (columns_of f.arch (row_at_offset f.code f.factor f.initial [] 0))))

-- there is a content, and its canonical frame address counts from the stack pointer
abbrev pub counts_from_stack : Option Content → Bool
counts_from_stack None = false
counts_from_stack (Some content) = same_base content.base Sp

-- The function is a plain lazy procedure linkage table: of AMD64, without a reason against it as a whole, from a multiple of 16 on and of
-- more than 16 bytes, with advances in bytes, with that row before its own instructions, and with these instructions.
unfoldable pub is_plt : Function → Bool
is_plt f =
    is_amd64 f.arch && is_none (reason_of f.arch (facts_of f)) && (f.start % 16 == 0) && nat_lt 16 f.size && (f.code == 1)
    && is_plt_text (without_nops f.own) && counts_from_stack (initial_content f)

-- the procedure linkage tables among functions that SFrame can't express
abbrev pub plt_functions : List Function → List Function
plt_functions functions = filter is_plt (omitted_functions functions)

-- ---- what is recovered there
-- the canonical frame address by the rule at an offset, with the value of the expression
abbrev pub plt_frame_address : Function → (offset : ℕ) → Regs → CfaRule → Option ℕ
plt_frame_address f offset regs cfa.Expression = expression_value regs.sp (f.start + offset)
plt_frame_address f offset regs cfa.Missing = frame_address_by f.arch cfa.Missing regs
plt_frame_address f offset regs (cfa.Reg register distance) = frame_address_by f.arch (cfa.Reg register distance) regs

-- the rules of the row at an address of the function recover this
unfoldable pub recovered_in_plt : List Region → (address : ℕ) → Regs → Function → RuleRecovery
recovered_in_plt memory address regs f =
    let offset = address - f.start in
    let row = full_row f offset in
    recovery_from f.arch f.column row f.key regs memory (plt_frame_address f offset regs row.cfa)
