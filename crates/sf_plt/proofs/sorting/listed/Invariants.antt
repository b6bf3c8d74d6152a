use Rattle.std.proofs.Common.{◌≡◌, take}
use Rattle.sf_plt.proofs.sorting.listed.Given as goal

abbrev pub invariant-loop-number : goal.invariant-loop-number
invariant-loop-number l = l.functions.items ≡ take l.number l.fn.kept
