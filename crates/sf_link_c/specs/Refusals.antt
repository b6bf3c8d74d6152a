-- Why nothing is made, as C has it: what the line of a refusal prints.
use Rattle.std.specs.Prelude.{ℕ, List, [], ◌∷◌, None, is_some, unwrap_or, slice_index_or, if◌then◌else◌}
use Rattle.sf_model.specs.declared.notice.Group.{Group}
use Rattle.sf_model.specs.declared.notice.Group.TheVariants as group
use Rattle.sf_model.specs.FaultShown.{FaultShown}
use Rattle.sf_asm.specs.declared.fault.LinkFault.{LinkFault}
use Rattle.sf_asm.specs.declared.fault.LinkFault.TheVariants as link
use Rattle.sf_asm.specs.declared.fault.GatherFault.TheVariants as gather
use Rattle.sf_asm.specs.Fault.{is_link_refusal}
use Rattle.sf_asm.specs.FaultShown.{shown_of_linking}
use Rattle.sf_link_c.specs.declared.refusals.KiblawenRefusal.{KiblawenRefusal}
use Rattle.sf_link_c.specs.Omissions.{flag}

-- the header's number of a group of faults
abbrev pub group_number : Group → ℕ
group_number group.Elf = 1
group_number group.Place = 2
group_number group.Reloc = 3
group_number group.Record = 4
group_number group.Insn = 5
group_number group.Machine = 6
group_number group.Section = 7
group_number group.Core = 8
group_number group.Module = 9
group_number group.Link = 10

-- a value of the line, or 0 if the line has fewer
abbrev pub value_at : List ℕ → (i : ℕ) → ℕ
value_at values i = slice_index_or values i 0

-- what a line prints, as C has it
abbrev pub refusal_shown : FaultShown → KiblawenRefusal
refusal_shown shown = record {
  group = group_number shown.fault.group;
  number = shown.fault.number;
  has_input = flag (is_some shown.item);
  input = unwrap_or shown.item 0;
  values = value_at shown.fault.values 0 ∷ value_at shown.fault.values 1 ∷ value_at shown.fault.values 2 ∷ value_at shown.fault.values 3 ∷ [];
}

-- no fault
abbrev pub no_refusal : KiblawenRefusal
no_refusal = record { group = 0; number = 0; has_input = 0; input = 0; values = 0 ∷ 0 ∷ 0 ∷ 0 ∷ [] }

-- a fault of linking, as C has it; a limit and out of memory have no line
abbrev pub refusal_of : LinkFault → KiblawenRefusal
refusal_of fault = if is_link_refusal fault then refusal_shown (shown_of_linking None fault) else no_refusal

-- the header's number of the answer to a fault of linking
abbrev pub fault_answer : LinkFault → ℕ
fault_answer link.NoMemory = 5
fault_answer (link.Gather gather.NoMemory) = 5
fault_answer (link.Gather gather.TooManyFunctions) = 3
fault_answer (link.Gather gather.TooManyRows) = 4
fault_answer fault = 2
