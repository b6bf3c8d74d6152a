use Rattle.std.proofs.Common.{◌≡◌, drop}
use Rattle.std.specs.List.{find}
use Rattle.frame_functions.specs.Functions.{holds_address}
use Rattle.sf_asm.proofs.list_forms.omitted_at.Given as goal

-- what is found among all is found among those that are left
abbrev pub invariant-loop-number : goal.invariant-loop-number
invariant-loop-number l = find (holds_address l.pc) l.descriptions.functions ≡ find (holds_address l.pc) (drop l.number l.descriptions.functions)
