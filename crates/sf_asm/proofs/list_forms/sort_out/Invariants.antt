use Rattle.std.proofs.Common.{take}
use Rattle.sf_asm.proofs.KeptByInput.{AreSortedOut}
use Rattle.sf_asm.proofs.list_forms.sort_out.Given as goal

-- the functions so far are sorted out
abbrev pub invariant-loop-number : goal.invariant-loop-number
invariant-loop-number l = AreSortedOut l.fn.arch l.first l.count l.gathered (take l.number l.entries)
