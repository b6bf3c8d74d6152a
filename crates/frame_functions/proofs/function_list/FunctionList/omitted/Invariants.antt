use Rattle.std.proofs.Common.{◌≡◌, take}
use Rattle.frame_functions.specs.ListedFunctions.{left_of}
use Rattle.frame_functions.proofs.function_list.FunctionList.omitted.Given as goal

abbrev pub invariant-loop-head : goal.invariant-loop-head
invariant-loop-head l = l.omitted.items ≡ left_of (take l.head-index l.head-items)
